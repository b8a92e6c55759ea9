-- `costliest::log::write_log` meets its contract. The loop's invariant: the log is that of the first k rows. Assumes nothing.
use native.Mathlib.Omega.{arith}
use native.Mathlib.Numerals.{add-one}
use mathlib.Core.Path.{◌∙◌}
use Rattle.costliest.proofs.NextRow.{row-behind, no_row}
use Rattle.costliest.proofs.log.write_log.Goals as goal

pub loop-k-init : goal.loop-k-init
loop-k-init c = (omega arith, c.fill.ensures.after (λ y e. e) ∙ rw c.if-log-ne-LOG_LENGTH.false no_row)

pub loop-k-preserved : goal.loop-k-preserved
loop-k-preserved c =
    let l = c.loop-k in
    let row = c.next_row.ensures in
    (l.invariant.0, c.put_row.ensures ∙ rw (row, l.invariant.1, add-one l.k) (row-behind l.k (omega arith)))
