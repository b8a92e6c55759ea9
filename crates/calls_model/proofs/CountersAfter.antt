-- The journal's counters after an accepted call: at most 64 rows wait, and there are at most 4,096. Assumes nothing.
use Prim.Native.Nat.{ℕ, suc, ◌≤◌}
use native.Mathlib.Omega.{arith}
use mathlib.Core.Path.{◌≡◌, refl}
use mathlib.Core.Bool.{Bool, true, false, cond}
use mathlib.Core.List.{List}
use lib.Dec.{leb}
use borrow.Author.Tests.{leb-true}
use Rattle.book.specs.Calls.{Call}
use Rattle.book.specs.Rows.{Row}
use Rattle.tables_model.specs.declared.Whom.TheVariants.{One}
use Rattle.state.specs.declared.ram.Phase.{Phase}
use Rattle.state.specs.declared.ram.Phase.TheVariants.{Open, Closed}
use Rattle.journal.specs.declared.Control.{Control}
use Rattle.std.specs.Prelude.{Option, Some, None}
use Rattle.state.specs.declared.ram.Fuse.{Fuse}
use Rattle.journal.specs.Writes.{spend_of}
use Rattle.journal.specs.Journal.{spent, paged_if, paged}
use Rattle.wal.specs.Writing.{row_count}
use Rattle.wal.proofs.Counters.{Counters, counters-written, counters-fall_all}
use Rattle.wal.proofs.CountersForced.{counters-forced, counters-forced_up_to}
use Rattle.calls_model.specs.Acts.{Core, acted, fell, up_to_mark, flush_count}

-- ── A page ────────────────────────────────────────────────────────────────────────────────────────────────────────────

counters-paged : (c : Control) (charts : List ℕ) (p : ℕ) (page : List ℕ) → Counters c → Counters (paged c charts p page).control
unfolding paged
counters-paged c charts p page n = go c.phase
  where
    write : (s : Option Fuse) → Counters (spent c s)
    write (Some f) = record { few = n.few; room = n.room }
    write None = record { few = omega arith; room = omega (arith, n.room) }

    go : (q : Phase) → Counters (paged_if q c charts p page).control
    go Closed = n
    go Open = write (spend_of c.fuse)

-- ── A call ────────────────────────────────────────────────────────────────────────────────────────────────────────────

up_to : (m w : ℕ) → cond (leb m w) m 0 ≤ w
up_to m w = go (leb m w) refl
  where
    go : (t : Bool) → leb m w ≡ t → cond t m 0 ≤ w
    go true e = leb-true m w e
    go false e = omega arith

pub counters-acted : (x : Core) (k : Call) → Counters x.ram.journal.control → Counters (acted x k).ram.journal.control
unfolding acted
counters-acted x Call.begin n = counters-forced _ (counters-written x.ram (Row.begin (suc x.tables.begun)) n)
counters-acted x (Call.change v c a) n = counters-written x.ram _ n
counters-acted x (Call.hand_over g r c) n = counters-written x.ram _ n
counters-acted x (Call.commit v) n = counters-forced _ (counters-written x.ram (Row.commit v) n)
counters-acted x (Call.abort v) n =
    counters-written (fell x v).ram (Row.abort v)
    (counters-fall_all (row_count x.ram.journal) (One (record { 0 = v })) x.tables.used (record { ram = x.ram; scopes = x.scopes }) n)
counters-acted x Call.force n = counters-forced x.ram.journal n
counters-acted x (Call.flush p) n =
    counters-paged _ x.charts p _
    (counters-forced_up_to x.ram.journal n (flush_count x p) (up_to (up_to_mark x p) x.ram.journal.control.waiting))
counters-acted x (Call.read c) n = n
counters-acted x (Call.hand_over_all g r) n = counters-written x.ram _ n
