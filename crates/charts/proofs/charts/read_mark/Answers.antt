-- `charts::charts::read_mark` meets its contract. Beyond the last page what is read is 0. Assumes nothing.
use Rattle.std.proofs.Common.{arith}
use Rattle.charts.proofs.Parts.{mark-beyond}
use Rattle.charts.proofs.charts.read_mark.Goals as goal

pub returns-then-p-ge-PAGE_LIMIT : goal.returns-then-p-ge-PAGE_LIMIT
returns-then-p-ge-PAGE_LIMIT c = mark-beyond c.args.charts.now c.requires c.args.p (omega arith)
