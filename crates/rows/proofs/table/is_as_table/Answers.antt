-- `rows::table::is_as_table` meets its contract: no byte so far is wrong, and none of the rest, exactly if the whole is as the table says. Assumes nothing.
use Rattle.std.proofs.Common.{sym, ◌∙◌, arith}
use Rattle.rows.proofs.Loops.{tested, all_tested}
use Rattle.rows.proofs.table.is_as_table.Goals as goal

pub loop-i-preserved : goal.loop-i-preserved
loop-i-preserved c =
    let l = c.loop-i in
    let more = rw c.line_of-line.ensures at c.gather_wrong-wrong.ensures in
    l.invariant ∙ tested l.i 16 _ l.wrong _ c.args.b.now (omega arith) more

pub returns : goal.returns
returns c = let l = c.loop-i in sym (l.invariant ∙ all_tested l.i 16 _ l.wrong c.args.b.now (omega arith))
