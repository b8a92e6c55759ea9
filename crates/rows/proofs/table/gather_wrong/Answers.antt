-- `rows::table::gather_wrong` meets its contract. Assumes nothing.
use Rattle.rows.proofs.Loops.{gathered}
use Rattle.rows.proofs.table.gather_wrong.Goals as goal

pub returns-then-m-eq0 : goal.returns-then-m-eq0
returns-then-m-eq0 c = let a = c.args in gathered a.wrong a.m a.x c.if-m-eq0.true
