-- `charts::charts::read_cell` meets its contract. Beyond the last page what is read is 0. Assumes nothing.
use Rattle.std.proofs.Common.{arith}
use Rattle.charts.proofs.Parts.{cell-beyond}
use Rattle.charts.proofs.charts.read_cell.Goals as goal

pub returns-then-c-ge-CELL_LIMIT : goal.returns-then-c-ge-CELL_LIMIT
returns-then-c-ge-CELL_LIMIT c = cell-beyond c.args.charts.now c.requires c.args.cell.0 (omega arith)
