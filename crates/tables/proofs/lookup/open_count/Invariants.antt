-- `tables::lookup::open_count` meets its contract. The loop's invariant: the sum so far and the counts of the entries left are all counts, and each was of 16 bits. Assumes nothing.
use Rattle.std.proofs.Common.{◌≡◌, ◌+◌, ◌*◌, ◌≤◌, take}
use Rattle.tables_model.specs.Layout.{entries}
use Rattle.tables_model.specs.Table.{count_all}
use Rattle.tables.proofs.Loops.{left}
use Rattle.tables.proofs.lookup.open_count.Given as goal

abbrev pub invariant-loop-i : goal.invariant-loop-i
invariant-loop-i l = (l.sum ≤ 65535 * l.i) × (count_all (take l.used (entries l.t)) ≡ l.sum + count_all (left l.used l.i (entries l.t)))
