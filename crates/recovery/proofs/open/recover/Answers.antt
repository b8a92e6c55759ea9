-- `recovery::open::recover` meets its contract. Assumes nothing.
use Rattle.std.proofs.Common.{◌∙◌}
use Rattle.tables_model.specs.Rows.{index}
use Rattle.recovery.proofs.BackwardSteps.{counters-backward}
use Rattle.recovery.proofs.Settling.{zeros}
use Rattle.recovery.proofs.open.recover.Goals as goal

pub backward-c-requires-clause-tail_value : goal.backward-c-requires-clause-tail_value
backward-c-requires-clause-tail_value c = c.fill.ensures.after (λ y e. e) ∙ zeros _ 1024 search

pub settle-requires : goal.settle-requires
settle-requires c =
    let a = c.args in
    let n = rw (← c.backward-c.ensures) at
    (counters-backward a.fuse a.s.rows (index a.s.counts a.visits.now a.scopes.now) a.log.now c.redo.new.copy a.s.few) in (n.few, n.room)
