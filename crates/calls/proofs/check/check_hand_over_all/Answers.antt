-- `calls::check::check_hand_over_all` meets its contract. Assumes nothing.
use mathlib.Core.Path.{◌∙◌}
use native.Mathlib.Omega.{arith}
use Rattle.tables_model.specs.Layout.{entries}
use Rattle.book.specs.Calls.{Call}
use Rattle.calls_model.specs.Refusals.{refusal_by}
use Rattle.calls.proofs.Performing.{ready, ready-tables, when-ready}
use Rattle.calls.proofs.check.check_hand_over_all.Goals as goal

pub overflow_add-c : goal.overflow_add-c
overflow_add-c c = omega (arith, (ready c.args.c c.args.t _ c.is_ready.ensures c.if-not-is_ready.false).room)

pub refuse_hand_over-requires : goal.refuse_hand_over-requires
refuse_hand_over-requires c =
    ready-tables c.args.c c.args.t _ c.is_ready.ensures c.if-not-is_ready.false _ _ c.requires

pub returns : goal.returns
unfolding refusal_by
returns c =
    let x = c.args in c.refuse_hand_over.ensures ∙ when-ready x.c x.t _ c.is_ready.ensures c.if-not-is_ready.false x.visits.now (entries x.scopes.now) (Call.hand_over_all _ _)
