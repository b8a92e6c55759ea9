-- `tables::lookup::find_growing` meets its contract. The loop's invariant: the search of all entries in use gives what the search of those left gives. Assumes nothing.
use Rattle.std.proofs.Common.{◌≡◌, take}
use Rattle.tables_model.specs.Layout.{entries}
use Rattle.tables_model.specs.Table.{find_from, grows}
use Rattle.tables.proofs.Loops.{left}
use Rattle.tables.proofs.lookup.find_growing.Given as goal

abbrev pub invariant-loop-i : goal.invariant-loop-i
invariant-loop-i l = let p = grows l.v.0 l.c.0 in find_from p 0 (take l.used (entries l.t)) ≡ find_from p l.i (left l.used l.i (entries l.t))
