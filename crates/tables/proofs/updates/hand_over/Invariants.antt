-- `tables::updates::hand_over` meets its contract. The loop's invariant: the entries passed are handed on, the others are as they were. Assumes nothing.
use Rattle.std.proofs.Common.{◌≡◌}
use Rattle.tables_model.specs.Table.{among, handed_on}
use Rattle.tables_model.specs.Layout.{entries}
use Rattle.tables.proofs.Loops.{mapped}
use Rattle.tables.proofs.updates.hand_over.Given as goal

abbrev pub invariant-loop-i : goal.invariant-loop-i
invariant-loop-i l = entries l.t ≡ mapped (handed_on l.fn.g.0 l.fn.r.0 (among l.fn.cs)) l.i (entries l.initial.t)
