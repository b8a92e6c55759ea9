-- `tables::lookup::highest` meets its contract. The loop's invariant: the search of all entries in use gives what the search of those left gives, from the best one so far. Assumes nothing.
use Rattle.std.proofs.Common.{◌≡◌, take, None}
use Rattle.tables_model.specs.Table.{highest_from}
use Rattle.tables_model.specs.Layout.{entries}
use Rattle.tables.proofs.Loops.{left}
use Rattle.tables.proofs.Searches.{found_at}
use Rattle.tables.proofs.lookup.highest.Given as goal

abbrev pub invariant-loop-i : goal.invariant-loop-i
invariant-loop-i l = let ss = entries l.t in highest_from l.w 0 0 None (take l.used ss) ≡ highest_from l.w l.i l.last (found_at l.last l.found) (left l.used l.i ss)
