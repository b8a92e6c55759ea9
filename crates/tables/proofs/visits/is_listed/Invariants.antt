-- `tables::visits::is_listed` meets its contract. The loop's invariant: the visit is among all places in use if it is among those left. Assumes nothing.
use Rattle.std.proofs.Common.{◌≡◌, take}
use Rattle.book.specs.Lists.{any}
use Rattle.tables_model.specs.Visits.{is_of}
use Rattle.tables_model.specs.Layout.{actives}
use Rattle.tables.proofs.Loops.{left}
use Rattle.tables.proofs.visits.is_listed.Given as goal

abbrev pub invariant-loop-i : goal.invariant-loop-i
invariant-loop-i l = let p = is_of l.v.0 in
    let count = l.fn.t.count in
    any p (take count (actives l.visits)) ≡ any p (left count l.i (actives l.visits))
