-- `tables::updates::close_ranks` meets its contract. The loop's invariant: the entries kept, and those left that another visit holds, are all that another visit holds. Assumes nothing.
use Rattle.std.proofs.Common.{◌≡◌, ◌≤◌}
use Rattle.tables_model.specs.Table.{held_by_others}
use Rattle.tables_model.specs.Layout.{entries}
use Rattle.tables.proofs.Ending.{held_by_other}
use Rattle.tables.proofs.Loops.{ranks}
use Rattle.tables.proofs.updates.close_ranks.Given as goal

abbrev pub invariant-loop-i : goal.invariant-loop-i
invariant-loop-i l = (l.kept ≤ l.i) × (ranks (held_by_other l.v.0) l.used l.kept l.i (entries l.t) ≡ held_by_others l.used l.v.0 (entries l.initial.t))
