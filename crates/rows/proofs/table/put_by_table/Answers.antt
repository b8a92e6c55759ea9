-- `rows::table::put_by_table` meets its contract: what is left of the loop gives what the whole does. Assumes nothing.
use Rattle.std.proofs.Common.{sym, ◌∙◌, arith}
use Rattle.rows.proofs.Loops.{fill_step, fill_end}
use Rattle.rows.proofs.table.put_by_table.Goals as goal

pub loop-i-preserved : goal.loop-i-preserved
loop-i-preserved c =
    let put = rw c.line_of-line.ensures at c.byte_or_zero.ensures in
    c.loop-i.invariant ∙ fill_step c.loop-i.i 16 _ _ _ (omega arith) ∙ rw (← put)

pub returns : goal.returns
returns c = sym (c.loop-i.invariant ∙ fill_end c.loop-i.i 16 _ _ _ (omega arith))
