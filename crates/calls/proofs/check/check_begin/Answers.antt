-- `calls::check::check_begin` meets its contract. Assumes nothing.
use mathlib.Core.Path.{◌∙◌}
use native.Mathlib.Omega.{arith}
use Rattle.tables_model.specs.Layout.{entries}
use Rattle.book.specs.Calls.{Call}
use Rattle.calls_model.specs.Refusals.{refusal_by}
use Rattle.calls.proofs.Performing.{ready, when-ready}
use Rattle.calls.proofs.check.check_begin.Goals as goal

pub overflow_add-c : goal.overflow_add-c
overflow_add-c c = omega (arith, (ready c.args.c c.args.t _ c.is_ready.ensures c.if-not-is_ready.false).room)

pub refuse_begin-requires : goal.refuse_begin-requires
refuse_begin-requires c =
    record { range = (ready c.args.c c.args.t _ c.is_ready.ensures c.if-not-is_ready.false).range; long = c.requires }

pub returns : goal.returns
unfolding refusal_by
returns c vs =
    let x = c.args in c.refuse_begin.ensures vs ∙ when-ready x.c x.t _ c.is_ready.ensures c.if-not-is_ready.false vs (entries x.scopes.now) Call.begin
