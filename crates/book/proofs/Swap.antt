-- Two hand-overs of different cells come to the same ledger in either order.
use Prim.Native.Nat.{ℕ, suc}
use mathlib.Core.Bool.{Bool, true, false, cond}
use mathlib.Core.Path.{◌≡◌, refl, sym, ap, ap₂, ◌∙◌}
use mathlib.Core.Logic.{◌≢◌}
use mathlib.Core.List.{List, [], ◌∷◌, map}
use lib.Dec.{eqb}
use borrow.Author.Tests.{eqb-true, ne_eqb}
use Rattle.book.specs.Rows.{hand_over}
use Rattle.book.specs.Ledger.{Change, Ledger, only, holds, given, pass, after}
use Rattle.book.proofs.Lists.{clash, and_r}
use Rattle.book.proofs.Invariant.{pass-cases}

-- a hand-over passes on no change of another cell
pub pass-other : (g r c : ℕ) (y : Change) → eqb y.cell c ≡ false → pass g r (only c) y ≡ y
pass-other g r c y e = go (holds g (only c) y) refl
  where
    go : (t : Bool) → holds g (only c) y ≡ t → cond t (given r y) y ≡ y
    go true h = clash _ (and_r (eqb y.holder g) _ h) e
    go false h = refl

pub pass-cell : (g r : ℕ) (cs : ℕ → Bool) (x : Change) → (pass g r cs x).cell ≡ x.cell
pass-cell g r cs x = pass-cases (λ (y : Change). y.cell ≡ x.cell) g r cs x (λ e. refl) refl

pass-swap : (g r g' r' c d : ℕ) (x : Change) → c ≢ d → pass g' r' (only d) (pass g r (only c) x) ≡ pass g r (only c) (pass g' r' (only d) x)
pass-swap g r g' r' c d x ne = go (eqb x.cell c) refl
  where
    go : (s : Bool) → eqb x.cell c ≡ s → pass g' r' (only d) (pass g r (only c) x) ≡ pass g r (only c) (pass g' r' (only d) x)
    go true p =
        let is = eqb-true x.cell c p in
        let q : eqb x.cell d ≡ false = ne_eqb x.cell d (λ e. ne (sym is ∙ e)) in
        pass-other g' r' d (pass g r (only c) x) (ap (λ (k : ℕ). eqb k d) (pass-cell g r (only c) x) ∙ q) ∙
        sym (ap (pass g r (only c)) (pass-other g' r' d x q))
    go false p =
        ap (pass g' r' (only d)) (pass-other g r c x p) ∙
        sym (pass-other g r c (pass g' r' (only d) x) (ap (λ (k : ℕ). eqb k c) (pass-cell g' r' (only d) x) ∙ p))

pass-swap-all : (g r g' r' c d : ℕ) (xs : List Change) → c ≢ d
    → map (pass g' r' (only d)) (map (pass g r (only c)) xs) ≡ map (pass g r (only c)) (map (pass g' r' (only d)) xs)
pass-swap-all g r g' r' c d [] ne = refl
pass-swap-all g r g' r' c d (x ∷ xs) ne = ap₂ ◌∷◌ (pass-swap g r g' r' c d x ne) (pass-swap-all g r g' r' c d xs ne)

pub hand-overs-swap : (l : Ledger) (g r g' r' c d : ℕ) → c ≢ d
    → after (after l (hand_over g r c)) (hand_over g' r' d) ≡ after (after l (hand_over g' r' d)) (hand_over g r c)
unfolding after
hand-overs-swap l g r g' r' c d ne = ap (λ (xs : List Change). record {
  rows = suc (suc l.rows);
  begun = l.begun;
  active = l.active;
  committed = l.committed;
  undoing = l.undoing;
  undone = l.undone;
  changes = xs;
}) (pass-swap-all g r g' r' c d l.changes ne)
