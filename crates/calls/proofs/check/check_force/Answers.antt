-- `calls::check::check_force` meets its contract. Assumes nothing.
use Rattle.book.specs.Calls.{Call}
use Rattle.calls_model.specs.Refusals.{refusal_by}
use Rattle.calls.proofs.Performing.{when-ready}
use Rattle.calls.proofs.check.check_force.Goals as goal

pub returns : goal.returns
unfolding refusal_by
returns c vs scopes =
    let x = c.args in when-ready x.c x.t _ c.is_ready.ensures c.if-not-is_ready.false vs scopes Call.force
