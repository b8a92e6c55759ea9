-- `recovery::scan::first_set` meets its contract. The loop's invariant: the rows from `i` on give what all rows from `k` on give. Assumes nothing.
use Rattle.std.proofs.Common.{◌≡◌, ◌-◌}
use Rattle.recovery_model.specs.Scan.{first_set}
use Rattle.recovery.proofs.scan.first_set.Given as goal

abbrev pub invariant-loop-i : goal.invariant-loop-i
invariant-loop-i l = first_set (4096 - l.k) l.k l.log ≡ first_set (4096 - l.i) l.i l.log
