-- `calls::accept::accept_read` meets its contract. Assumes nothing.
use mir.Syntax.{w32}
use mir.Facts.{to_z-of_z}
use mathlib.Core.Path.{◌≡◌, refl, ◌∙◌}
use mathlib.Core.Logic.{inl}
use borrow.Author.Rules.{rules}
use Rattle.book.specs.Calls.{Call}
use Rattle.calls_model.specs.Acts.{core}
use Rattle.calls.proofs.CallSteps.{reads}
use Rattle.calls.proofs.Leaving.{accepted-by, nothing-done}
use Rattle.calls.proofs.accept.accept_read.Goals as goal

pub returns : goal.returns
returns c =
    let a = c.args in
    let none : c.default.result ≡ record { rows = 0; pages = 0 } = search rules in
    let grams = to_z-of_z {w = w32} (record { sfits = c.read_cell.type_inv }) ∙ c.read_cell.ensures in
    rw none (
      (λ charts. let x = core a.c a.t a.visits.now a.log.now charts a.copy.now a.tail.now a.scopes.now in
          accepted-by _ _ _ _ charts _ _ _ (Call.read _) c.requires _ _ _ _ _ _ _ _ (reads x _) _ grams refl _ _ _ _ _
          (inl (nothing-done _ _ _ _ _ _ _ c.requires.running))),
      refl,
      refl,
      refl,
    )
