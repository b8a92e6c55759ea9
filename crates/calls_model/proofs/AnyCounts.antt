-- The counts of a call, whatever it was handed: the rows that the state counts more than before, never more than the log has, and a page where a flush is done.
use Prim.Native.Nat.{ℕ, zero, suc, ◌+◌, ◌-◌, ◌≤◌}
use native.Mathlib.Omega.{arith}
use mathlib.Core.Path.{◌≡◌, refl, sym}
use mathlib.Core.Bool.{Bool, true, false, cond}
use lib.IntN.{pos}
use lib.Dec.{leb}
use borrow.Author.Tests.{leb-true}
use Rattle.book.specs.Limits.{row_limit, tail_limit}
use Rattle.book.specs.Calls.{Call, ending}
use Rattle.book.specs.Writes.{Writes, pages_of}
use Rattle.book.proofs.Lists.{and_l, and_r}
use Rattle.book.proofs.Writes.{no-page}
use Rattle.state.specs.World.{World, works, cleared}
use Rattle.state.specs.CallContracts.{Answered, answered_with}
use Rattle.wal.specs.Writing.{is_running}
use Rattle.wal.proofs.Counters.{Counters}
use Rattle.calls_model.specs.Acts.{Core, acted, value_by}
use Rattle.calls_model.specs.Perform.{control_in, core_of, world_of_core, settled, writes_by, decided, number_of, performed}
use Rattle.calls_model.proofs.AnyWorld.{zero-works}
use Rattle.calls_model.proofs.CountersAfter.{counters-acted}

-- the counts of an answer to this call
pub record AnyCounts (w : World) (k : Call) (x : Answered) : Type 0 where
  pub rows : x.answer.number ≡ 0 → x.writes.rows ≡ x.world.state.stored - w.state.stored
  pub few : x.writes.rows ≤ row_limit
  pub pages : x.writes.pages ≡ pages_of (ending k) x.answer.number

-- a state that calls work on has the counters of a journal
working : (w : World) → works w.state ≡ true → Counters (control_in w.state)
working w e =
    let s = w.state in
    let waiting : leb s.waiting tail_limit ≡ true = search (and_l, and_r) in
    let stored : leb (s.stored + s.waiting) row_limit ≡ true = search (and_l, and_r) in
    record { few = leb-true _ _ waiting; room = leb-true _ _ stored }

module _ (w : World) (k : Call) where
  -- no check refuses
  accepted-counts : works w.state ≡ true → AnyCounts w k (decided w k 0)
  unfolding settled writes_by world_of_core core_of
  accepted-counts e = go (is_running y.ram.journal)
    where
      x : Core
      x = core_of w

      y : Core
      y = acted x k

      stored : y.ram.journal.control.stored ≤ row_limit
      stored = let n = counters-acted x k (working w e) in omega (arith, n.room)

      u : Bool → Writes
      u t = record { rows = y.ram.journal.control.stored - w.state.stored; pages = pages_of (ending k) (cond t 0 5) }

      go : (t : Bool) → AnyCounts w k (cond t (answered_with 0 (value_by x y k) (world_of_core y) (u t)) (answered_with 5 (pos 0) (cleared y.ram.journal.log y.charts) (u t)))
      go true = record { rows = λ h. refl; few = omega (arith, stored); pages = refl }
      go false = record { rows = λ h. absurd (omega arith); few = omega (arith, stored); pages = refl }

  pub any-counts : AnyCounts w k (performed w k)
  unfolding performed
  any-counts = go (number_of w k) refl
    where
      go : (n : ℕ) → number_of w k ≡ n → AnyCounts w k (decided w k n)
      go zero e = accepted-counts (zero-works w k e)
      go (suc n) e = record { rows = λ h. absurd (omega arith); few = omega arith; pages = sym (no-page (ending k) n) }
