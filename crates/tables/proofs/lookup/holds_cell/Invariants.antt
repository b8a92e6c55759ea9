-- `tables::lookup::holds_cell` meets its contract. The loop's invariant: an entry is among all in use if it is among those left. Assumes nothing.
use Rattle.std.proofs.Common.{◌≡◌, take}
use Rattle.book.specs.Lists.{any}
use Rattle.tables_model.specs.Layout.{entries}
use Rattle.tables_model.specs.Table.{among, is_held}
use Rattle.tables.proofs.Loops.{left}
use Rattle.tables.proofs.lookup.holds_cell.Given as goal

abbrev pub invariant-loop-i : goal.invariant-loop-i
invariant-loop-i l = let p = is_held l.v.0 (among l.cs) in any p (take l.used (entries l.t)) ≡ any p (left l.used l.i (entries l.t))
