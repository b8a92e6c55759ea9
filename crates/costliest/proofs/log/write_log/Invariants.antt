-- `costliest::log::write_log` meets its contract. The loop's invariant: the log is that of the first k rows. Assumes nothing.
use Prim.Native.Nat.{◌≤◌}
use mathlib.Core.Path.{◌≡◌}
use Rattle.book.specs.Limits.{cost_limit}
use Rattle.book.specs.LogBytes.{log_bytes}
use Rattle.book.specs.OpeningCost.{costliest}
use Rattle.costliest.proofs.log.write_log.Given as goal

abbrev pub invariant-loop-k : goal.invariant-loop-k
invariant-loop-k l = (l.n ≤ cost_limit) × (l.log ≡ log_bytes (costliest l.k))
