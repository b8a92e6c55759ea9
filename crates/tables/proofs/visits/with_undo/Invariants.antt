-- `tables::visits::with_undo` meets its contract. The loop's invariant: the places passed are marked, the others are places they were. Assumes nothing.
use Rattle.std.proofs.Common.{◌≡◌}
use Rattle.tables_model.specs.Visits.{marked}
use Rattle.tables_model.specs.Layout.{actives}
use Rattle.tables.proofs.Loops.{mapped}
use Rattle.tables.proofs.visits.with_undo.Given as goal

abbrev pub invariant-loop-i : goal.invariant-loop-i
invariant-loop-i l = actives l.visits ≡ mapped (marked l.v.0) l.i (actives l.initial.visits)
