-- The bytes of rows in the log and in the tail: a row is put behind the others, the first rows are read off, and the first rows are left out. Assumes nothing.
use Prim.Native.Nat.{ℕ, zero, suc, ◌+◌, ◌*◌, ◌-◌, ◌≤◌}
use native.Mathlib.Omega.{arith}
use native.Mathlib.Nat.{add-zero}
use mathlib.Core.Path.{◌≡◌, ap, sym, ◌∙◌}
use mathlib.Core.List.{List, [], ◌∷◌, ◌++◌, append_assoc, append-nil}
use lib.ListN.{length, drop, length-append, length-replicate, replicate-append-replicate}
use lib.Seq.{take_at, drop_at, drop-drop}
use Rattle.book.specs.Lists.{pad_to}
use Rattle.book.specs.Rows.{Row}
use Rattle.book.specs.RowBytes.{row_bytes}
use Rattle.book.specs.LogBytes.{rows_bytes, log_bytes}
use Rattle.book.proofs.RowBytes.{row-long}
use Rattle.book.proofs.LogBytes.{blank, blank-same, rows_long}
use Rattle.journal.specs.Writes.{put_at, put_row}
use Rattle.journal.specs.Force.{chunks, shifted}

-- ── A row behind the others ───────────────────────────────────────────────────────────────────────────────────────────

pub snoc-length : (w : List Row) (r : Row) → length (w ++ (r ∷ [])) ≡ suc (length w)
snoc-length w r = length-append w (r ∷ []) ∙ omega arith

pub snoc-bytes : (n : ℕ) (w : List Row) (r : Row) → rows_bytes n (w ++ (r ∷ [])) ≡ rows_bytes n w ++ row_bytes (n + length w) r
snoc-bytes n [] r = rw (add-zero n) (append-nil (row_bytes n r))
snoc-bytes n (q ∷ w) r =
    let e : n + suc (length w) ≡ suc n + length w = omega arith in
    rw e (ap (λ (x : List ℕ). row_bytes n q ++ x) (snoc-bytes (suc n) w r) ∙ sym (append_assoc (row_bytes n q) (rows_bytes (suc n) w) (row_bytes (suc n + length w) r)))

drop-blank : (k n : ℕ) → drop k (blank (k + n)) ≡ blank n
drop-blank zero n = blank-same (zero + n) n (omega arith)
drop-blank (suc k) n = let e : suc k + n ≡ suc (k + n) = omega arith in rw e (drop-blank k n)

-- the row's bytes go to the place behind the others
pub put_next : (size n : ℕ) (w : List Row) (r : Row) → 16 * suc (length w) ≤ size
    → put_at 16 (pad_to size 0 (rows_bytes n w)) (16 * length w) (row_bytes (n + length w) r) ≡ pad_to size 0 (rows_bytes n (w ++ (r ∷ [])))
put_next size n w r h =
    let a = rows_long n w in
    let b = rows_long n (w ++ (r ∷ [])) in
    let k = snoc-length w r in
    let old = size - length (rows_bytes n w) in
    let rest = size - length (rows_bytes n (w ++ (r ∷ []))) in
    let e : drop 16 (blank old) ≡ blank rest = ap (drop 16) (blank-same old (16 + rest) (omega arith)) ∙ drop-blank 16 rest in
    rw (take_at (rows_bytes n w) (blank old) (16 * length w) a, drop_at (rows_bytes n w) (blank old) (16 * length w) a, e)
    (sym (append_assoc (rows_bytes n w) (row_bytes (n + length w) r) (blank rest)) ∙ ap (λ (x : List ℕ). x ++ blank rest) (sym (snoc-bytes n w r)))

pub log-next : (s : List Row) (r : Row) → length s + 1 ≤ 4096 → put_row (log_bytes s) (length s) (row_bytes (suc (length s)) r) ≡ log_bytes (s ++ (r ∷ []))
unfolding log_bytes
log-next s r h = let e : suc (length s) ≡ 1 + length s = omega arith in rw e (put_next 65536 1 s r (omega arith))

-- ── The first rows ────────────────────────────────────────────────────────────────────────────────────────────────────

pub first_chunk : (m n : ℕ) (r : Row) (w : List Row) (z : List ℕ)
    → chunks (suc m) (rows_bytes n (r ∷ w) ++ z) ≡ row_bytes n r ∷ chunks m (rows_bytes (suc n) w ++ z)
unfolding chunks
first_chunk m n r w z =
    let rest = rows_bytes (suc n) w ++ z in
    rw (append_assoc (row_bytes n r) (rows_bytes (suc n) w) z, take_at (row_bytes n r) rest 16 (row-long n r), drop_at (row_bytes n r) rest 16 (row-long n r))

-- the rows behind the first m
pub drop-rows : (m n : ℕ) (w : List Row) (z : List ℕ) → m ≤ length w → drop (16 * m) (rows_bytes n w ++ z) ≡ rows_bytes (n + m) (drop m w) ++ z
drop-rows zero n w z h = rw (add-zero n)
drop-rows (suc m) n [] z h = absurd (omega arith)
drop-rows (suc m) n (r ∷ w) z h =
    let rest = rows_bytes (suc n) w ++ z in
    let a : 16 * suc m ≡ 16 + 16 * m = omega arith in
    let b : n + suc m ≡ suc n + m = omega arith in
    rw (a, b, append_assoc (row_bytes n r) (rows_bytes (suc n) w) z, ← (drop-drop (16 * m) 16 (row_bytes n r ++ rest)), drop_at (row_bytes n r) rest 16 (row-long n r))
    (drop-rows m (suc n) w z (omega arith))

rows_left : (m : ℕ) (w : List Row) → m ≤ length w → length (drop m w) + m ≡ length w
rows_left zero w h = omega arith
rows_left (suc m) [] h = absurd (omega arith)
rows_left (suc m) (r ∷ w) h = let k = rows_left m w (omega arith) in omega arith

pub left-rows : (m : ℕ) (w : List Row) → m ≤ length w → length (drop m w) ≡ length w - m
left-rows m w h = let k = rows_left m w h in omega arith

-- a tail without the first m of its rows is the tail of the other rows
pub shift-rows : (m n : ℕ) (w : List Row) → m ≤ length w → length w ≤ 64
    → shifted m (length w) (pad_to 1024 0 (rows_bytes n w)) ≡ pad_to 1024 0 (rows_bytes (n + m) (drop m w))
shift-rows m n w h few =
    let k = rows_left m w h in
    let a = rows_long n w in
    let b = rows_long (n + m) (drop m w) in
    let z = 1024 - length (rows_bytes n w) in
    let y = 1024 - length (rows_bytes (n + m) (drop m w)) in
    let e : blank (16 * m) ++ blank z ≡ blank y = replicate-append-replicate (16 * m) z 0 ∙ blank-same (16 * m + z) y (omega arith) in
    rw (
      drop-rows m n w (blank z) h,
      take_at (rows_bytes (n + m) (drop m w)) (blank z) (16 * (length w - m)) (omega arith),
      drop_at (rows_bytes n w) (blank z) (16 * length w) a,
      e,
    )

-- 01: the tail has 1,024 bytes
pub tail-long : (n : ℕ) (w : List Row) → length w ≤ 64 → length (pad_to 1024 0 (rows_bytes n w)) ≡ 1024
tail-long n w few =
    let z = 1024 - length (rows_bytes n w) in
    let a = length-append (rows_bytes n w) (blank z) in
    let b = length-replicate {A = ℕ} z 0 in
    let k = rows_long n w in omega arith
