-- 02, L6: what an opening costs (specs/OpeningCost). Each allowed row adds at most one row to what an opening has to write, and one that is neither a begin
-- nor a change adds none.
use Prim.Native.Nat.{ℕ, suc, ◌+◌, ◌-◌, ◌≤◌}
use native.Mathlib.Omega.{arith}
use mathlib.Core.Path.{◌≡◌, refl, ap, sym, ◌∙◌}
use mathlib.Core.Bool.{Bool, true, false, cond, not, ◌||◌}
use mathlib.Core.Logic.{◌≢◌}
use mathlib.Core.List.Memᴰ
use mathlib.Core.List.{List, [], ◌∷◌, ◌++◌}
use lib.ListN.{length, length-append}
use lib.IntN.{pos}
use lib.Dec.{eqb}
use borrow.Author.Tests.{eqb-true, ne_eqb}
use Rattle.book.specs.Lists.{keep, foldl}
use Rattle.book.specs.Limits.{row_limit, cost_limit}
use Rattle.book.specs.Rows.{Row, begin, change, hand_over, undo, commit, abort, hand_over_all}
use Rattle.book.specs.Ledger.{Ledger, empty, only, every, after, ledger}
use Rattle.book.specs.Rules.{is_active, is_undone, is_open_change, open_changes, reserve, free, lawful, within_limits, allowed, all_allowed, allowed_log}
use Rattle.book.specs.Power.{Book, Fuse, none, left, PowerHolds}
use Rattle.book.specs.Book.{closing, Answer, reopened, reopen}
use Rattle.book.specs.Writes.{no_writes, opening_writes}
use Rattle.book.specs.OpeningCost.{is_begin_or_change, BeginsAndChanges, Cost}
use Rattle.book.proofs.Lists.{and_l, and_r, and_i, not-or-r, here, there, in-cons, keep_same, length-keep, length_without}
use Rattle.book.proofs.Invariant.{Inv, fresh}
use Rattle.book.proofs.InvariantKept.{handed-open, ends-less, inv-after, inv-empty, rows-length, free-reserve, few-rows}
use Rattle.book.proofs.Steps.{extends-open}
use Rattle.book.proofs.Sound.{ended-book}
use Rattle.book.proofs.Openings.{closing-long, ended-open, ended-done, reopened-stored}

-- ── The reserve, row by row ───────────────────────────────────────────────────────────────────────────────────────────

-- 1 for a row that is neither a begin nor a change
abbrev other : Row → ℕ
other r = cond (is_begin_or_change r) 0 1

-- how many of the rows are neither
abbrev others : List Row → ℕ
others [] = 0
others (r ∷ rs) = other r + others rs

-- what one row adds to the reserve
record ReserveAfter (l : Ledger) (r : Row) : Type 0 where
  most : reserve (after l r) + other r ≤ suc (reserve l)
  one : other r ≡ 0 → reserve (after l r) ≡ suc (reserve l)

reserve-after : (l : Ledger) (r : Row) → allowed l r ≡ true → Inv l → ReserveAfter l r
unfolding after allowed lawful within_limits reserve
reserve-after l (begin v) e i =
    let is : eqb v (suc l.begun) ≡ true = search (and_l, and_r) in
    let new = eqb-true v (suc l.begun) is in
    let same : keep (is_open_change (after l (begin v))) l.changes ≡ open_changes l =
    keep_same _ _ l.changes (λ x m. rw (ne_eqb x.holder v (λ q. let d = (i.good x m).held in omega arith))) in
    let n = ap length same in record { most = omega arith; one = λ z. omega arith }
reserve-after l (change v c a) e i =
    let act : is_active l v ≡ true = search (and_l, and_r) in
    record { most = rw (act, fresh l i) (omega arith); one = λ z. rw (act, fresh l i) (omega arith) }
reserve-after l (hand_over g r c) e i =
    let actg : is_active l g ≡ true = search (and_l, and_r) depth 8 in
    let actr : is_active l r ≡ true = search (and_l, and_r) depth 8 in
    let same = handed-open l g r (only c) actg actr in
    record { most = omega arith; one = λ z. absurd (omega arith) }
reserve-after l (undo h c n a) e i =
    let less = length-keep (is_open_change (after l (undo h c n a))) (is_open_change l) l.changes (λ x m q.
    let act = and_l (is_active l x.holder) (not (eqb x.row n || is_undone l x)) q in
    let no = and_r (is_active l x.holder) (not (eqb x.row n || is_undone l x)) q in
    and_i _ _ act (not-or-r (eqb x.row n) (is_undone l x) no)) in
    record { most = omega arith; one = λ z. absurd (omega arith) }
reserve-after l (commit v) e i =
    let act : is_active l v ≡ true = search (and_l, and_r) in
    let k = length_without v l.active act in let less = ends-less l v in record { most = omega arith; one = λ z. absurd (omega arith) }
reserve-after l (abort v) e i =
    let act : is_active l v ≡ true = search (and_l, and_r) in
    let k = length_without v l.active act in let less = ends-less l v in record { most = omega arith; one = λ z. absurd (omega arith) }
reserve-after l (hand_over_all g r) e i =
    let actg : is_active l g ≡ true = search (and_l, and_r) depth 8 in
    let actr : is_active l r ≡ true = search (and_l, and_r) depth 8 in
    let same = handed-open l g r every actg actr in
    record { most = omega arith; one = λ z. absurd (omega arith) }

reserve-after-all : (l : Ledger) (rs : List Row) → all_allowed l rs ≡ true → Inv l
    → (reserve (foldl after l rs) + others rs ≤ reserve l + length rs) × (others rs ≡ 0 → reserve (foldl after l rs) ≡ reserve l + length rs)
reserve-after-all l [] e i = (omega arith, λ z. omega arith)
reserve-after-all l (r ∷ rs) e i =
    let al = and_l (allowed l r) _ e in
    let k = reserve-after l r al i in
    let m = k.most in
    let p = reserve-after-all (after l r) rs (and_r (allowed l r) _ e) (inv-after l r al i) in
    let q = p.0 in
    (omega arith, λ z. let a = k.one (omega arith) in let b = p.1 (omega arith) in omega arith)

others-none : (rs : List Row) → BeginsAndChanges rs → others rs ≡ 0
others-none [] h = refl
others-none (r ∷ rs) h = let k = others-none rs (λ x m. h x (there m)) in rw (h r here) (omega arith)

none-others : (rs : List Row) → others rs ≡ 0 → BeginsAndChanges rs
none-others [] h = λ x m. absurd (Memᴰ.not-nil m)
none-others (r ∷ rs) h = in-cons (this (is_begin_or_change r) refl h) (none-others rs (omega arith))
  where
    this : (t : Bool) → is_begin_or_change r ≡ t → cond t 0 1 + others rs ≡ 0 → is_begin_or_change r ≡ true
    this true e z = e
    this false e z = absurd (omega arith)

-- ── The rows that an opening names ────────────────────────────────────────────────────────────────────────────────────

nothing-open : reserve empty ≡ 0
unfolding reserve
nothing-open = refl

-- power that holds for n writes holds for fewer
pub holds-fewer : (f : Fuse) (m n : ℕ) → m ≤ n → PowerHolds f n → PowerHolds f m
holds-fewer none m n h p = tt
holds-fewer (left k) m n h p = omega arith

module _ (rs : List Row) (al : allowed_log rs ≡ true) where
  names-most : length (closing (ledger rs)) + others rs ≤ length rs
  names-most = let k = (reserve-after-all empty rs al inv-empty).0 in let z = nothing-open in let c = closing-long (ledger rs) in omega arith

  names-free : length (closing (ledger rs)) ≤ row_limit - length rs
  names-free = let k = free-reserve rs al in let c = closing-long (ledger rs) in let n = rows-length rs in omega arith

  names-all : BeginsAndChanges rs → length (closing (ledger rs)) ≡ length rs
  names-all h =
      let k = (reserve-after-all empty rs al inv-empty).1 (others-none rs h) in let z = nothing-open in let c = closing-long (ledger rs) in omega arith

  -- n is a bound, and so are 4,096 - n and 2,048
  pub names-few : let m = length (closing (ledger rs)) in (m ≤ length rs) × (m ≤ row_limit - length rs) × (m ≤ cost_limit)
  names-few = let m = names-most in let k = names-free in (omega arith, k, omega arith)

  -- a log of begins and changes alone has at most 2,048 rows
  pub reaching-few : BeginsAndChanges rs → length rs ≤ cost_limit
  reaching-few h = let e = names-all h in let k = names-free in omega arith

-- ── An opening by the book ────────────────────────────────────────────────────────────────────────────────────────────

module _ (f : Fuse) (rs : List Row) where
  -- cut or not, it stores no more than the rows that it names
  stores-most : (opening_writes rs (reopen f rs)).rows ≤ length (closing (ledger rs))
  unfolding reopen
  stores-most =
      let cs = closing (ledger rs) in
      let part = (extends-open f rs).part in
      let e = ap length part.1 in
      let a = length-append (rs ++ []) cs in
      let b = length-append rs [] in
      let c = length-append (reopened f rs).stored part.0 in
      let d = ap (λ (x : Book). length x.stored) (ended-book (pos (length cs)) (reopened f rs)) in omega arith

  -- ready, it stores all of them and answers how many
  stores-all : (reopen f rs).answer.number ≡ 0
      → ((opening_writes rs (reopen f rs)).rows ≡ length (closing (ledger rs))) × ((reopen f rs).answer.value ≡ pos (length (closing (ledger rs))))
  unfolding reopen
  stores-all z =
      let cs = closing (ledger rs) in
      let o = ended-open (pos (length cs)) (reopened f rs) z in
      let e = ap length (reopened-stored f rs o) in
      let a = length-append rs cs in
      let d = ap (λ (x : Book). length x.stored) (ended-book (pos (length cs)) (reopened f rs)) in
      (omega arith, ap (λ (x : Answer). x.value) (ended-done (pos (length cs)) (reopened f rs) o))

pub reopen-cost : (f : Fuse) (rs : List Row) → allowed_log rs ≡ true → Cost rs (reopen f rs).answer (opening_writes rs (reopen f rs))
reopen-cost f rs al =
    let m = stores-most f rs in
    let k = names-most rs al in
    let n = names-free rs al in
    let reaching : (opening_writes rs (reopen f rs)).rows ≡ length rs → BeginsAndChanges rs = λ e. none-others rs (omega arith) in
    record {
      most = omega arith;
      free = omega arith;
      worst = omega arith;
      pages = refl;
      reaches = λ z. (reaching, λ h. (stores-all f rs z).0 ∙ names-all rs al h);
      only = reaching;
      reports = λ z. let s = stores-all f rs z in s.1 ∙ ap pos (sym s.0);
    }

-- ── A refused opening ─────────────────────────────────────────────────────────────────────────────────────────────────

-- a refused opening writes nothing
pub refused-cost : (rs : List Row) (a : Answer) → a.number ≢ 0 → Cost rs a no_writes
refused-cost rs a fails = record {
  most = omega arith;
  free = omega arith;
  worst = omega arith;
  pages = refl;
  reaches = λ z. absurd (fails z);
  only = no_rows rs;
  reports = λ z. absurd (fails z);
}
  where
    no_rows : (rs : List Row) → 0 ≡ length rs → BeginsAndChanges rs
    no_rows [] e = λ r m. absurd (Memᴰ.not-nil m)
    no_rows (r ∷ rs) e = absurd (omega arith)
