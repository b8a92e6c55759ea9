-- `recovery::backward::abort_all` meets its contract.
use Rattle.std.proofs.Common.{◌≡◌, length}
use Rattle.tables_model.specs.Layout.{actives}
use Rattle.wal.specs.Writing.{ram, Fits}
use Rattle.recovery_model.specs.Backward.{abort_all}
use Rattle.recovery.proofs.backward.abort_all.Given as goal

abbrev pub invariant-loop-n : goal.invariant-loop-n
invariant-loop-n l = Fits l.d (length l.log) (length l.tail) (length l.copy)
    × (abort_all l.count (actives l.visits) (ram l.initial.d l.initial.log l.initial.tail l.initial.copy) ≡ abort_all l.n (actives l.visits) (ram l.d l.log l.tail l.copy))
