-- A force, of all waiting rows or of the first ones, keeps the journal's counters within their limits: what is stored was waiting. Assumes nothing.
use Prim.Native.Nat.{ℕ, ◌+◌, ◌-◌, ◌≤◌}
use native.Mathlib.Omega.{arith}
use Rattle.std.specs.Prelude.{Option, Some, None}
use Rattle.state.specs.declared.ram.Fuse.{Fuse}
use Rattle.journal.specs.declared.Control.{Control}
use Rattle.journal.specs.declared.force.Run.{Run}
use Rattle.journal.specs.Force.{chunks, runs, control_by, control_after}
use Rattle.journal.specs.Journal.{Journal, forced, forced_up_to}
use Rattle.journal.proofs.Room.{run-bound, chunks-count}
use Rattle.wal.proofs.Counters.{Counters}

-- a run that stores at most m rows, and leaves so many waiting
after_run : (c : Control) (w m : ℕ) (run : Run) → run.stored ≤ c.stored + m → w + m ≤ c.waiting → Counters c → Counters (control_after c w run)
after_run c w m run h k n = go run.fuse
  where
    go : (left : Option Fuse) → Counters (control_by left c run.stored w)
    go (Some f) = record { few = omega (arith, n.few); room = omega (arith, n.room) }
    go None = record { few = omega arith; room = omega (arith, n.room) }

module _ (j : Journal) (n : Counters j.control) where
  abbrev run : ℕ → Run
  run m = (runs j.control.fuse j.control.stored j.log (chunks m j.tail)).run

  ran : (m : ℕ) → (run m).stored ≤ j.control.stored + m
  ran m = rw (chunks-count m j.tail) at (run-bound j.control.fuse j.control.stored j.log (chunks m j.tail))

  pub counters-forced : Counters (forced j).control
  unfolding forced
  counters-forced = after_run j.control 0 j.control.waiting (run j.control.waiting) (ran j.control.waiting) (omega arith) n

  pub counters-forced_up_to : (m : ℕ) → m ≤ j.control.waiting → Counters (forced_up_to m j).control
  unfolding forced_up_to
  counters-forced_up_to m h = after_run j.control (j.control.waiting - m) m (run m) (ran m) (omega arith) n
