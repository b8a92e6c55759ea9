-- `recovery::format::build_charts` meets its contract. The loop's invariant: the first `p` pages are built, the others are as they were. Assumes nothing.
use Rattle.recovery.proofs.FormatPages.{page_of_cells}
use Rattle.recovery.proofs.Laying.{Laid}
use Rattle.recovery.proofs.format.build_charts.Given as goal

abbrev pub invariant-loop-p : goal.invariant-loop-p
invariant-loop-p l = Laid (page_of_cells l.cells) l.p l.initial.charts l.charts
