-- The changes of the ledger are the change rows of the log: same row numbers, makers, cells and amounts.
use Prim.Native.Nat.{ℕ, suc, ◌+◌, ◌-◌, ◌≤◌, ◌<◌}
use native.Mathlib.Omega.{arith}
use mathlib.Core.Path.{◌≡◌, refl, ap, sym, ◌∙◌, subst}
use mathlib.Core.Bool.{Bool, true, false}
use mathlib.Core.Logic.{◌⊎◌, inl, inr}
use mathlib.Core.List.Memᴰ
use mathlib.Core.List.{List, [], ◌∷◌, ◌++◌, map, append_assoc, append-nil}
use lib.ListN.{length, get_or, length-append, get_or-append}
use lib.Seq.{get_or-append_seam}
use lib.IntN.{ℤ}
use lib.Dec.{ltb}
use borrow.Author.Tests.{ltb-true, ltb-false}
use Rattle.book.specs.Lists.{In, foldl}
use Rattle.book.specs.Rows.{Row, begin, change, hand_over, undo, commit, abort, hand_over_all}
use Rattle.book.specs.Ledger.{Change, Ledger, empty, new_change, pass, only, every, after, ledger}
use Rattle.book.specs.Pages.{row_at}
use Rattle.book.proofs.Lists.{here, there}
use Rattle.book.proofs.Invariant.{pass-cases}

-- two states of one logged change
pub record SameChange (x y : Change) : Type 0 where
  pub row : x.row ≡ y.row
  pub maker : x.maker ≡ y.maker
  pub cell : x.cell ≡ y.cell
  pub amount : x.amount ≡ y.amount

same_refl : (x : Change) → SameChange x x
same_refl x = record { row = refl; maker = refl; cell = refl; amount = refl }

same-pass : (g r : ℕ) (cs : ℕ → Bool) (x : Change) → SameChange x (pass g r cs x)
same-pass g r cs x =
    pass-cases (λ (y : Change). SameChange x y) g r cs x (λ e. record { row = refl; maker = refl; cell = refl; amount = refl }) (same_refl x)

-- ── One row more ──────────────────────────────────────────────────────────────────────────────────────────────────────

-- where a change after the row comes from
data From (l : Ledger) (r : Row) (y : Change) : Type 0 where
  old : (x : Change) → In x l.changes → SameChange x y → From l r y
  new : (v c : ℕ) (a : ℤ) → r ≡ change v c a → y ≡ new_change l v c a → From l r y

passed-from : (l : Ledger) (row : Row) (g r : ℕ) (cs : ℕ → Bool) (y : Change) → In y (map (pass g r cs) l.changes) → From l row y
passed-from l row g r cs y m =
    let k = Memᴰ.of_map (pass g r cs) l.changes m in
    old k.0 k.1 (subst (λ (z : Change). SameChange k.0 z) k.2 (same-pass g r cs k.0))

from : (l : Ledger) (r : Row) (y : Change) → In y (after l r).changes → From l r y
unfolding after
from l (begin v) y m = old y m (same_refl y)
from l (change v c a) y m = go (Memᴰ.cases_cons m)
  where
    go : (y ≡ new_change l v c a) ⊎ In y l.changes → From l (change v c a) y
    go (inl e) = new v c a refl e
    go (inr n) = old y n (same_refl y)
from l (hand_over g r c) y m = passed-from l (hand_over g r c) g r (only c) y m
from l (undo h c n a) y m = old y m (same_refl y)
from l (commit v) y m = old y m (same_refl y)
from l (abort v) y m = old y m (same_refl y)
from l (hand_over_all g r) y m = passed-from l (hand_over_all g r) g r every y m

-- what becomes of a change
to : (l : Ledger) (r : Row) (x : Change) → In x l.changes → (y : Change) × In y (after l r).changes × SameChange x y
unfolding after
to l (begin v) x m = (x, m, same_refl x)
to l (change v c a) x m = (x, there m, same_refl x)
to l (hand_over g r c) x m = (pass g r (only c) x, Memᴰ.map (pass g r (only c)) m, same-pass g r (only c) x)
to l (undo h c n a) x m = (x, m, same_refl x)
to l (commit v) x m = (x, m, same_refl x)
to l (abort v) x m = (x, m, same_refl x)
to l (hand_over_all g r) x m = (pass g r every x, Memᴰ.map (pass g r every) m, same-pass g r every x)

-- ── Every log ─────────────────────────────────────────────────────────────────────────────────────────────────────────

-- the row of a change
record Written (rs : List Row) (x : Change) : Type 0 where
  at : ℕ
  row : x.row ≡ suc at
  within : at < length rs
  is : get_or rs at (begin 0) ≡ change x.maker x.cell x.amount

-- the change of a row
pub record Read (l : Ledger) (n v c : ℕ) : Type 0 where
  pub x : Change
  pub mem : In x l.changes
  pub row : x.row ≡ n
  pub maker : x.maker ≡ v
  pub cell : x.cell ≡ c

record Recorded (rs : List Row) (l : Ledger) : Type 0 where
  count : l.rows ≡ length rs
  writes : (x : Change) → In x l.changes → Written rs x
  reads : (at v c : ℕ) (a : ℤ) → at < length rs → get_or rs at (begin 0) ≡ change v c a → Read l (suc at) v c

module _ (rs : List Row) (l : Ledger) (R : Recorded rs l) (r : Row) where
  written : (y : Change) → From l r y → Written (rs ++ (r ∷ [])) y
  written y (old x m s) =
      let w = R.writes x m in
      let lt = w.within in
      record {
        at = w.at;
        row = sym s.row ∙ w.row;
        within = rw length-append (omega arith);
        is = get_or-append rs (r ∷ []) (begin 0) w.at w.within ∙ w.is ∙ cc (s.maker, s.cell, s.amount);
      }
  written y (new v c a e q) = record {
    at = length rs;
    row = ap (λ (z : Change). z.row) q ∙ ap suc R.count;
    within = rw length-append (omega arith);
    is = get_or-append_seam rs r [] (begin 0) ∙ e ∙ cc (ap (λ (z : Change). z.maker) q, ap (λ (z : Change). z.cell) q, ap (λ (z : Change). z.amount) q);
  }

  read : (at v c : ℕ) (a : ℤ) → at < length (rs ++ (r ∷ [])) → get_or (rs ++ (r ∷ [])) at (begin 0) ≡ change v c a → Read (after l r) (suc at) v c
  unfolding after
  read at v c a lt e = go (ltb at (length rs)) refl
    where
      go : (b : Bool) → ltb at (length rs) ≡ b → Read (after l r) (suc at) v c
      go true q =
          let k = ltb-true at (length rs) q in
          let o = R.reads at v c a k (sym (get_or-append rs (r ∷ []) (begin 0) at k) ∙ e) in
          let y = to l r o.x o.mem in
          record {
            x = y.0;
            mem = y.1;
            row = sym y.2.row ∙ o.row;
            maker = sym y.2.maker ∙ o.maker;
            cell = sym y.2.cell ∙ o.cell;
          }
      go false q =
          let ge = ltb-false at (length rs) q in
          let le : at < length rs + 1 = rw length-append at lt in
          let is : at ≡ length rs = omega arith in
          last (sym (get_or-append_seam rs r [] (begin 0)) ∙ ap (λ (n : ℕ). get_or (rs ++ (r ∷ [])) n (begin 0)) (sym is) ∙ e) is
        where
          last : r ≡ change v c a → at ≡ length rs → Read (after l r) (suc at) v c
          last f is = subst (λ (z : Row). Read (after l z) (suc at) v c) (sym f)
              (record { x = new_change l v c a; mem = here; row = ap suc (R.count ∙ sym is); maker = refl; cell = refl })

  recorded-after : Recorded (rs ++ (r ∷ [])) (after l r)
  unfolding after
  recorded-after = record {
    count = rw length-append (omega (arith, R.count));
    writes = λ y m. written y (from l r y m);
    reads = read;
  }

recorded-all : (done rs : List Row) (l : Ledger) → Recorded done l → Recorded (done ++ rs) (foldl after l rs)
recorded-all done [] l R = rw (append-nil done) R
recorded-all done (r ∷ rs) l R =
    subst (λ (xs : List Row). Recorded xs (foldl after (after l r) rs)) (append_assoc done (r ∷ []) rs)
    (recorded-all (done ++ (r ∷ [])) rs (after l r) (recorded-after done l R r))

recorded : (rs : List Row) → Recorded rs (ledger rs)
recorded rs = recorded-all [] rs empty
    (record { count = refl; writes = λ x m. absurd (Memᴰ.not-nil m); reads = λ at v c a lt. absurd (omega arith) })

-- a change of the ledger stands in the log
pub row_of : (rs : List Row) (x : Change) → In x (ledger rs).changes → row_at rs x.row ≡ change x.maker x.cell x.amount
row_of rs x m =
    let w = (recorded rs).writes x m in
    let e : x.row - 1 ≡ w.at = omega (arith, w.row) in ap (λ (n : ℕ). get_or rs n (begin 0)) e ∙ w.is

-- a change row of the log is a change of the ledger
pub change-of : (rs : List Row) (n v c : ℕ) (a : ℤ) → 1 ≤ n → n ≤ length rs → row_at rs n ≡ change v c a → Read (ledger rs) n v c
change-of rs n v c a lo hi e =
    let k = (recorded rs).reads (n - 1) v c a (omega arith) e in
    let is : suc (n - 1) ≡ n = omega arith in subst (λ (j : ℕ). Read (ledger rs) j v c) is k
