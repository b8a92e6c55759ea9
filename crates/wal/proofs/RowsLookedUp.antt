-- A row looked up in the journal of a book is the book's row of that number.
use Prim.Native.Nat.{ℕ, zero, suc, ◌+◌, ◌-◌, ◌*◌, ◌≤◌, ◌<◌}
use native.Mathlib.Omega.{arith}
use mathlib.Core.Path.{◌≡◌, refl, ap, sym, ◌∙◌}
use mathlib.Core.Bool.{Bool, true, false, cond, ◌&&◌}
use mathlib.Core.List.{List, [], ◌∷◌, ◌++◌, append_assoc}
use lib.ListN.{length, get_or, take, drop, replicate, length-append, get_or-append}
use lib.Seq.{take_at, drop_at, drop-drop, get_or-append-add}
use lib.Dec.{leb}
use borrow.Author.Tests.{le-leb, leb-true, leb-false}
use Rattle.book.specs.Rows.{Row, fits}
use Rattle.book.specs.Ledger.{Ledger, empty, after}
use Rattle.book.specs.Rules.{allowed, all_allowed}
use Rattle.book.specs.RowBytes.{row_bytes, row_of}
use Rattle.book.specs.LogBytes.{rows_bytes, log_bytes}
use Rattle.book.specs.Power.{Book, rows_of}
use Rattle.book.specs.Pages.{row_at}
use Rattle.book.proofs.Lists.{and_i, and_l, and_r}
use Rattle.book.proofs.RowBytes.{row-long, row_back}
use Rattle.book.proofs.LogBytes.{allowed-fits}
use Rattle.tables_model.proofs.Previous.{Looks}
use Rattle.journal.specs.Meaning.{control_of, journal_of}
use Rattle.wal.specs.Writing.{row_count}
use Rattle.wal.specs.Looking.{row_bytes_at, bytes_of, look_up}
use Rattle.wal.proofs.Steady.{Steady}

-- ── Rows and their bytes ──────────────────────────────────────────────────────────────────────────────────────────────

-- row k of the bytes of these rows, counted from 0, whatever follows
pub row-bytes-at : (rs : List Row) (n k : ℕ) (t : List ℕ) (d : Row) → k < length rs → row_bytes_at (rows_bytes n rs ++ t) k ≡ row_bytes (n + k) (get_or rs k d)
row-bytes-at [] n k t d h = absurd (omega arith)
row-bytes-at (r ∷ rs) n zero t d h =
    let own : n ≡ n + 0 = omega arith in
    ap (take 16) (append_assoc (row_bytes n r) (rows_bytes (suc n) rs) t) ∙ take_at (row_bytes n r) _ 16 (row-long n r) ∙ ap (λ (m : ℕ). row_bytes m r) own
row-bytes-at (r ∷ rs) n (suc k) t d h =
    let split : drop (16 * suc k) (rows_bytes n (r ∷ rs) ++ t) ≡ drop (16 * k) (rows_bytes (suc n) rs ++ t) =
    ap (λ (m : ℕ). drop m (rows_bytes n (r ∷ rs) ++ t)) steps ∙ sym (drop-drop (16 * k) 16 (rows_bytes n (r ∷ rs) ++ t)) ∙
    ap (drop (16 * k)) (ap (drop 16) (append_assoc (row_bytes n r) (rows_bytes (suc n) rs) t) ∙ drop_at (row_bytes n r) _ 16 (row-long n r)) in
    ap (take 16) split ∙ row-bytes-at rs (suc n) k t d (omega arith) ∙ ap (λ (m : ℕ). row_bytes m (get_or rs k d)) next
  where
    steps : 16 * suc k ≡ 16 + 16 * k
    steps = omega arith

    next : suc n + k ≡ n + suc k
    next = omega arith

-- the fields of allowed rows fit
pub fits-at : (l : Ledger) (rs : List Row) (k : ℕ) (d : Row) → all_allowed l rs ≡ true → k < length rs → fits (get_or rs k d) ≡ true
fits-at l [] k d e h = absurd (omega arith)
fits-at l (r ∷ rs) zero d e h = allowed-fits l r (and_l (allowed l r) _ e)
fits-at l (r ∷ rs) (suc k) d e h = fits-at (after l r) rs k d (and_r (allowed l r) _ e) (omega arith)

-- ── In log and tail ───────────────────────────────────────────────────────────────────────────────────────────────────

pub count-rows : (b : Book) → row_count (journal_of b) ≡ length (rows_of b)
unfolding journal_of control_of
count-rows b = sym (length-append b.stored b.waiting)

module _ (b : Book) where
  bytes-at : (n : ℕ) → 1 ≤ n → n ≤ length (rows_of b) → bytes_of (journal_of b) n ≡ row_bytes n (row_at (rows_of b) n)
  unfolding journal_of control_of log_bytes
  bytes-at n lo hi = go (leb n (length b.stored)) refl
    where
      tail : List ℕ
      tail = replicate (1024 - length (rows_bytes (suc (length b.stored)) b.waiting)) 0

      go : (t : Bool) → leb n (length b.stored) ≡ t
          → cond t (row_bytes_at (log_bytes b.stored) (n - 1)) (row_bytes_at (rows_bytes (suc (length b.stored)) b.waiting ++ tail) (n - 1 - length b.stored))
          ≡ row_bytes n (row_at (rows_of b) n)
      go true e =
          let le = leb-true n (length b.stored) e in
          let own : 1 + (n - 1) ≡ n = omega arith in
          row-bytes-at b.stored 1 (n - 1) _ (Row.begin 0) (omega arith) ∙
          ap (λ (m : ℕ). row_bytes m (get_or b.stored (n - 1) (Row.begin 0))) own ∙
          ap (row_bytes n) (sym (get_or-append b.stored b.waiting (Row.begin 0) (n - 1) (omega arith)))
      go false e =
          let lt = leb-false n (length b.stored) e in
          let long = length-append b.stored b.waiting in
          let own : suc (length b.stored) + (n - 1 - length b.stored) ≡ n = omega arith in
          let place : length b.stored + (n - 1 - length b.stored) ≡ n - 1 = omega arith in
          row-bytes-at b.waiting (suc (length b.stored)) (n - 1 - length b.stored) tail (Row.begin 0) (omega arith) ∙
          ap (λ (m : ℕ). row_bytes m (get_or b.waiting (n - 1 - length b.stored) (Row.begin 0))) own ∙
          ap (row_bytes n)
          (sym (get_or-append-add b.stored b.waiting (n - 1 - length b.stored) (Row.begin 0)) ∙
          ap (λ (m : ℕ). get_or (rows_of b) m (Row.begin 0)) place)

  pub looked-up : Steady b → Looks (look_up (journal_of b)) (rows_of b)
  unfolding look_up
  looked-up s n lo hi =
      let within : (leb 1 n && leb n (row_count (journal_of b))) ≡ true =
      and_i _ _ (le-leb 1 n lo) (ap (leb n) (count-rows b) ∙ le-leb n (length (rows_of b)) hi) in
      ap (λ (t : Bool). cond t (row_of (bytes_of (journal_of b) n)) (Row.begin 0)) within ∙
      ap row_of (bytes-at n lo hi) ∙
      row_back n (row_at (rows_of b) n) (fits-at empty (rows_of b) (n - 1) (Row.begin 0) s.allowed (omega arith))
