-- Two parts of a list that are replaced one after the other, a turn of the loop that moves the tail's rows to the front, and that without a row to
-- store nothing moves. Assumes nothing.
use mathlib.Core.Path.{◌≡◌, ap, sym, ◌∙◌}
use mathlib.Core.List.{List, ◌++◌, append_assoc}
use Prim.Native.Nat.{ℕ, suc, ◌+◌, ◌-◌, ◌*◌, ◌≤◌, ◌<◌}
use native.Mathlib.Omega.{arith}
use native.Mathlib.Nat.{sub-zero}
use native.Mathlib.Numerals.{add-one}
use lib.ListN.{length, take, drop, get_or, set, length-drop, take-append-drop}
use lib.Seq.{take-take, take-append-le, drop-drop, length-take-le, take-suc, drop-cons, get_or-drop, get_or-append-add, set_at, drop_at, append_snoc}
use Rattle.journal.specs.Writes.{put_at}
use Rattle.journal.specs.Force.{chunks, runs}
use Rattle.journal.specs.Journal.{Journal, forced_up_to}

-- n numbers replaced from place a on after the m behind them: all of them replaced at once
pub put_both : (l x y : List ℕ) (a n m : ℕ) → length x ≡ n → length y ≡ m → a + n ≤ length l
    → put_at n (put_at m l (a + n) y) a x ≡ put_at (n + m) l a (x ++ y)
put_both l x y a n m hx hy h =
    let t = take (a + n) l in
    let k = length-take-le (a + n) l h in
    let r = y ++ drop m (drop (a + n) l) in
    let e : a + n + m ≡ a + (n + m) = omega arith in
    rw (
      take-append-le a t r (omega arith),
      take-take a (a + n) l (omega arith),
      drop-drop n a (t ++ r),
      drop_at t r (a + n) k,
      append_assoc x y (drop (n + m) (drop a l)),
      drop-drop (n + m) a l,
      drop-drop m (a + n) l,
      e,
    )

-- the tail after i turns: i bytes are moved to the front by g
abbrev pub moved : ℕ → ℕ → List ℕ → List ℕ
moved g i t = take i (drop g t) ++ drop i t

front : (g i : ℕ) (t : List ℕ) → i + g ≤ length t → length (take i (drop g t)) ≡ i
front g i t h = length-take-le i (drop g t) (simp length-drop (omega arith))

-- the byte that the next turn reads
pub moved-read : (g i : ℕ) (t : List ℕ) → i + g < length t → get_or (moved g i t) (i + g) 0 ≡ get_or t (i + g) 0
moved-read g i t h =
    let k = front g i t (omega arith) in
    ap (λ (n : ℕ). get_or (moved g i t) (n + g) 0) (sym k) ∙ get_or-append-add (take i (drop g t)) (drop i t) g 0 ∙ get_or-drop i t g 0

pub moved_more : (g i : ℕ) (t : List ℕ) → i + g < length t → set (moved g i t) i (get_or (moved g i t) (i + g) 0) ≡ moved g (i + 1) t
moved_more g i t h =
    let k = front g i t (omega arith) in
    let x = get_or t (i + g) 0 in
    let s : length (drop g t) ≡ length t - g = length-drop g t in
    let c : i + g ≡ g + i = omega arith in
    let y : get_or (drop g t) i 0 ≡ x = get_or-drop g t i 0 ∙ ap (λ (n : ℕ). get_or t n 0) (sym c) in
    rw (moved-read g i t h, drop-cons t i 0 (omega arith), add-one i, take-suc (drop g t) i 0 (omega arith), y)
    (set_at (take i (drop g t)) (get_or t i 0) (drop (suc i) t) x i k ∙ sym (append_snoc (take i (drop g t)) x (drop (suc i) t)))

-- no row, no write
pub none-forced : (j : Journal) → forced_up_to 0 j ≡ j
unfolding forced_up_to runs chunks
none-forced j = rw (sub-zero j.control.waiting, take-append-drop (16 * j.control.waiting) j.tail)
