use mathlib.Core.Path.{◌≡◌}
use Rattle.journal.proofs.Shifts.{moved}
use Rattle.journal.proofs.force.shift.Given as goal

abbrev pub invariant-loop-i : goal.invariant-loop-i
invariant-loop-i l = l.tail ≡ moved l.gap l.i l.initial.tail
