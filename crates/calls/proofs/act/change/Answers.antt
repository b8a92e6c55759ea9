-- `calls::act::change` meets its contract. Assumes nothing.
use mir.Facts.{to_z-of_z}
use Prim.Native.Nat.{◌+◌}
use native.Mathlib.Numerals.{add-one}
use Rattle.calls_model.specs.Acts.{core}
use Rattle.calls.proofs.CallSteps.{changes}
use Rattle.calls.proofs.act.change.Goals as goal

pub returns : goal.returns
returns c charts visits =
    let a = c.args in
    let x = core a.c a.t visits a.log.now charts a.copy.now a.tail.now a.scopes.now in
    changes x _ _ _ _ _ (rw (to_z-of_z c.ranges.a) at c.write.ensures) (rw (add-one (a.c.stored + a.c.waiting)) at (c.after_change-counts.ensures visits))
