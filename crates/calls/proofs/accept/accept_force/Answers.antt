-- `calls::accept::accept_force` meets its contract. Assumes nothing.
use mathlib.Core.Path.{refl}
use Rattle.book.specs.Calls.{Call}
use Rattle.calls_model.specs.Acts.{core}
use Rattle.calls.proofs.CallSteps.{forces}
use Rattle.calls.proofs.Leaving.{accepted-by}
use Rattle.calls.proofs.accept.accept_force.Goals as goal

pub returns : goal.returns
returns c charts =
    let a = c.args in
    let x = core a.c a.t a.visits.now a.log.now charts a.copy.now a.tail.now a.scopes.now in
    accepted-by _ _ _ _ charts _ _ _ Call.force c.requires _ _ _ _ _ _ _ _ (forces x _ c.force.ensures) _ refl refl _ _ _ _ _ c.settle.ensures
