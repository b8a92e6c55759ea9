-- `calls::check::check_flush` meets its contract. Assumes nothing.
use mathlib.Core.Path.{◌∙◌}
use Rattle.book.specs.Calls.{Call}
use Rattle.calls_model.specs.Refusals.{refusal_by}
use Rattle.calls.proofs.Performing.{when-ready}
use Rattle.calls.proofs.check.check_flush.Goals as goal

pub returns : goal.returns
unfolding refusal_by
returns c vs scopes =
    let x = c.args in c.refuse_flush.ensures ∙ when-ready x.c x.t _ c.is_ready.ensures c.if-not-is_ready.false vs scopes (Call.flush _)
