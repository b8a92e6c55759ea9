-- `wal::take_back::take_back` meets its contract. Assumes nothing.
use Prim.Native.Nat.{◌-◌}
use mathlib.Core.Path.{◌≡◌}
use lib.ListN.{length}
use Rattle.wal.specs.Writing.{Fits}
use Rattle.wal.specs.TakeBack.{taking, fall_all}
use Rattle.wal.proofs.take_back.take_back.Given as goal

abbrev pub invariant-loop : goal.invariant-loop
invariant-loop l = Fits l.d (length l.log) (length l.tail) (length l.copy)
    × (fall_all l.most l.w l.used (taking l.initial.d l.initial.log l.initial.tail l.initial.copy l.initial.scopes) ≡ fall_all (l.most - l.counter) l.w l.used (taking l.d l.log l.tail l.copy l.scopes))
