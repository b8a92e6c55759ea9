-- `cores::crossing::flat_into` meets its contract. Assumes nothing.
use mathlib.Core.Path.{◌≡◌}
use mathlib.Core.List.{map}
use lib.ListN.{length, take}
use Rattle.tables_model.specs.Entries.{scope_in}
use Rattle.tables_model.specs.Layout.{entries}
use Rattle.cores.proofs.crossing.flat_into.Given as goal

abbrev pub invariant-loop-i : goal.invariant-loop-i
invariant-loop-i l = (length l.f ≡ length l.initial.f) × (take l.i (entries l.f) ≡ map scope_in (take l.i l.t))
