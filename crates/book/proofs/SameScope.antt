-- The changes of a scope have one maker, cell and holder, and were handed over together.
use Prim.Native.Nat.{ℕ}
use mathlib.Core.Path.{◌≡◌, ap, sym, ◌∙◌}
use mathlib.Core.Bool.{true, false, not}
use mathlib.Core.List.{List}
use borrow.Author.Tests.{eq-eqb}
use Rattle.book.specs.Lists.{In}
use Rattle.book.specs.Ledger.{Change, continues}
use Rattle.book.proofs.Lists.{and_i}
use Rattle.book.proofs.Invariant.{Falling, same_row}
use Rattle.book.proofs.Scoped.{Alike, Started, Scoped}

-- the change that starts the scope
pub alike-start : (xs : List Change) (x : Change) (d : Started xs x) → Alike d.s x
alike-start xs x d = record { maker = d.maker; cell = d.cell; holder = d.holder; handed = d.handed }

pub same-scope : (xs : List Change) (x y : Change) → Falling xs → Scoped xs → In x xs → In y xs → x.scope ≡ y.scope → Alike x y
same-scope xs x y f S m n e =
    let p = S.started x m in
    let q = S.started y n in
    let is = same_row xs p.s q.s f p.mem q.mem (p.row ∙ e ∙ sym q.row) in
    record {
      maker = sym p.maker ∙ ap (λ (z : Change). z.maker) is ∙ q.maker;
      cell = sym p.cell ∙ ap (λ (z : Change). z.cell) is ∙ q.cell;
      holder = sym p.holder ∙ ap (λ (z : Change). z.holder) is ∙ q.holder;
      handed = sym p.handed ∙ ap (λ (z : Change). z.handed) is ∙ q.handed;
    }

-- v may continue a change of its own that it has not handed over
pub continues-if : (v c : ℕ) (x : Change) → x.maker ≡ v → x.cell ≡ c → x.handed ≡ false → continues v c x ≡ true
continues-if v c x p q r = and_i _ _ (and_i _ _ (eq-eqb x.maker v p) (eq-eqb x.cell c q)) (ap not r)
