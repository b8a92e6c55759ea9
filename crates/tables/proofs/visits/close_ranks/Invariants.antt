-- `tables::visits::close_ranks` meets its contract. The loop's invariant: the places kept, and those left without the visit, are all places without the visit. Assumes nothing.
use Rattle.std.proofs.Common.{◌≡◌, ◌≤◌, take}
use Rattle.book.specs.Lists.{keep}
use Rattle.tables_model.specs.Layout.{actives}
use Rattle.tables.proofs.Ending.{stays}
use Rattle.tables.proofs.Loops.{ranks}
use Rattle.tables.proofs.visits.close_ranks.Given as goal

abbrev pub invariant-loop-i : goal.invariant-loop-i
invariant-loop-i l = let p = stays l.v.0 in
    let count = l.fn.t.count in
    (l.kept ≤ l.i) × (ranks p count l.kept l.i (actives l.visits) ≡ keep p (take count (actives l.initial.visits)))
