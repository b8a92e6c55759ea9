-- `cores::crossing::visits_into` meets its contract. Assumes nothing.
use mathlib.Core.Path.{◌≡◌}
use mathlib.Core.List.{map}
use lib.ListN.{length, take}
use Rattle.tables_model.specs.Layout.{actives}
use Rattle.cores.proofs.crossing.visits_into.Given as goal

abbrev pub invariant-loop-i : goal.invariant-loop-i
invariant-loop-i l = (length l.f ≡ length l.initial.f) × (take l.i (actives l.f) ≡ map (λ a. a) (take l.i l.active))
