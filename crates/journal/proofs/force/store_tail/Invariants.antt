use mathlib.Core.Path.{◌≡◌}
use Prim.Native.Nat.{◌+◌, ◌-◌, ◌*◌}
use lib.ListN.{drop}
use Rattle.journal.specs.Force.{runs, chunks}
use Rattle.journal.proofs.force.store_tail.Given as goal

abbrev pub invariant-loop-j : goal.invariant-loop-j
invariant-loop-j l =
    runs l.initial.fuse l.stored l.initial.log (chunks l.m l.tail) ≡ runs l.fuse (l.stored + l.j) l.log (chunks (l.m - l.j) (drop (16 * l.j) l.tail))
