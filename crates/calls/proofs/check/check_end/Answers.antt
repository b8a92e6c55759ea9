-- `calls::check::check_end` meets its contract. Assumes nothing.
use mathlib.Core.Path.{◌∙◌}
use Rattle.book.specs.Calls.{Call}
use Rattle.calls_model.specs.Refusals.{refusal_by}
use Rattle.calls.proofs.Performing.{ready, when-ready}
use Rattle.calls.proofs.check.check_end.Goals as goal

pub refuse_end-requires : goal.refuse_end-requires
refuse_end-requires c =
    record { long = c.requires; within = (ready c.args.c c.args.t _ c.is_ready.ensures c.if-not-is_ready.false).range.count }

pub returns : goal.returns
unfolding refusal_by
returns c scopes =
    let x = c.args in
    let passed = λ (k : Call). when-ready x.c x.t _ c.is_ready.ensures c.if-not-is_ready.false x.visits.now scopes k in
    (c.refuse_end.ensures ∙ passed (Call.commit _), c.refuse_end.ensures ∙ passed (Call.abort _))
