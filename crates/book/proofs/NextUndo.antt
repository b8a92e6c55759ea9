-- A take-back undo by undo: the next undo row is allowed, and then the rest is left to undo.
use Prim.Native.Nat.{ℕ}
use native.Mathlib.Omega.{arith}
use mathlib.Core.Path.{◌≡◌, refl, ap, sym, ◌∙◌, subst}
use mathlib.Core.Bool.{Bool, true, false, not, ◌&&◌, ◌||◌}
use mathlib.Core.List.{List, ◌∷◌, ◌++◌, map}
use lib.Dec.{eqb}
use borrow.Author.Tests.{eq-eqb, ne_eqb}
use Rattle.book.specs.Lists.{keep}
use Rattle.book.specs.Rows.{Row}
use Rattle.book.specs.Ledger.{Change, Ledger, after}
use Rattle.book.specs.Rules.{is_active, is_undone, is_open_change, open_changes, open_held, allowed, all_allowed}
use Rattle.book.specs.Book.{undo_of, take_back}
use Rattle.book.proofs.Lists.{and_l, keep_same, keep_all, keep-keep, keep-swap}
use Rattle.book.proofs.Invariant.{Inv, Falling, falling-keep}
use Rattle.book.proofs.TakeBack.{take_back_lem}

module _ (who : ℕ → Bool) (l : Ledger) (x : Change) (xs : List Change) (i : Inv l) (e : open_held who l ≡ x ∷ xs) where
  pub undo-allowed : allowed l (undo_of x) ≡ true
  unfolding take_back
  undo-allowed =
      and_l (allowed l (undo_of x)) _
      (subst (λ (ys : List Change). all_allowed l (map undo_of ys ++ map Row.abort (keep who l.active)) ≡ true) e (take_back_lem who l i).good)

  -- the undo row leaves the other open changes
  pub undo-next : open_held who (after l (undo_of x)) ≡ xs
  unfolding after
  undo-next =
      ap (keep (λ y. who y.holder)) (keep_same _ _ l.changes (λ y m. bools (is_active l y.holder) (eqb y.row x.row) (is_undone l y)) ∙
      sym (keep-keep (λ y. not (eqb y.row x.row)) (is_open_change l) l.changes)) ∙
      keep-swap (λ y. who y.holder) (λ y. not (eqb y.row x.row)) (open_changes l) ∙
      ap (keep (λ y. not (eqb y.row x.row))) e ∙
      rest (subst (λ (ys : List Change). Falling ys) e
      (falling-keep (λ z. who z.holder) (open_changes l) (falling-keep (is_open_change l) l.changes i.falling)))
    where
      bools : (a r u : Bool) → (a && not (r || u)) ≡ (a && not u && not r)
      bools true true true = refl
      bools true true false = refl
      bools true false true = refl
      bools true false false = refl
      bools false r u = refl

      rest : Falling (x ∷ xs) → keep (λ y. not (eqb y.row x.row)) (x ∷ xs) ≡ xs
      rest f =
          rw (eq-eqb x.row x.row refl)
          (keep_all (λ y. not (eqb y.row x.row)) xs (λ y m. ap not (ne_eqb y.row x.row (λ q. let k = f.0 y m in omega arith))))
