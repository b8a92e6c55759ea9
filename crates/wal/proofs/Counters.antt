-- The journal's counters stay within their limits: at most 64 rows wait, and there are at most 4,096. Assumes nothing.
use Prim.Native.Nat.{ℕ, zero, suc, ◌+◌, ◌≤◌, ◌<◌}
use native.Mathlib.Omega.{arith}
use mathlib.Core.Path.{◌≡◌, refl, ◌∙◌}
use mathlib.Core.Bool.{Bool, true, false, cond}
use lib.Dec.{ltb}
use borrow.Author.Tests.{ltb-true}
use Rattle.std.specs.Prelude.{Option, Some, None}
use Rattle.book.specs.Rows.{Row}
use Rattle.tables_model.specs.declared.Whom.{Whom}
use Rattle.state.specs.declared.ram.Phase.{Phase}
use Rattle.state.specs.declared.ram.Phase.TheVariants.{Open, Closed}
use Rattle.journal.specs.declared.Control.{Control}
use Rattle.journal.specs.Journal.{Journal, with_room, joined, closed_journal, joined_if, appended}
use Rattle.journal.proofs.Room.{roomy}
use Rattle.wal.specs.Writing.{Ram, Fits, written}
use Rattle.wal.specs.TakeBack.{Taking, fallen, next_to_fall, fall_next, fall_all}

pub record Counters (c : Control) : Type 0 where
  pub few : c.waiting ≤ 64
  pub room : c.stored + c.waiting ≤ 4096

pub counters : {c : Control} {log tail copy : ℕ} → Fits c log tail copy → Counters c
counters f = record { few = f.sizes.few; room = f.sizes.room }

-- the buffers keep their lengths
pub fits-again : {c d : Control} {log tail copy log' tail' copy' : ℕ} → Fits c log tail copy → Counters d → log' ≡ log → tail' ≡ tail → copy' ≡ copy
    → Fits d log' tail' copy'
fits-again f n p q r = record {
  sizes = record { log-long = p ∙ f.sizes.log-long; tail-long = q ∙ f.sizes.tail-long; few = n.few; room = n.room };
  copy-long = r ∙ f.copy-long;
}

joining : (p : Phase) (j : Journal) (r : Row) → j.control.waiting < 64 → j.control.stored + j.control.waiting ≤ 4096 → Counters (joined_if p j r).control
joining Closed j r few room = record { few = omega arith; room = room }
joining Open j r few room = go (ltb (j.control.stored + j.control.waiting) 4096) refl
  where
    go : (t : Bool) → ltb (j.control.stored + j.control.waiting) 4096 ≡ t → Counters (cond t (joined j r) (closed_journal j)).control
    go true e = let h = ltb-true (j.control.stored + j.control.waiting) 4096 e in record { few = few; room = omega arith }
    go false e = record { few = omega arith; room = omega arith }

pub counters-appended : (j : Journal) (r : Row) → Counters j.control → Counters (appended j r).control
unfolding appended
counters-appended j r h =
    let k = roomy j in joining (with_room j).control.phase (with_room j) r k.few (omega (arith, k.rows, h.room))

pub counters-written : (m : Ram) (r : Row) → Counters m.journal.control → Counters (written m r).journal.control
unfolding written
counters-written m r h = counters-appended m.journal r h

pub counters-fallen : (i : ℕ) (t : Taking) → Counters t.ram.journal.control → Counters (fallen i t).ram.journal.control
unfolding fallen
counters-fallen i t h = counters-written t.ram _ h

pub counters-fall_all : (m : ℕ) (w : Whom) (used : ℕ) (t : Taking) → Counters t.ram.journal.control → Counters (fall_all m w used t).ram.journal.control
unfolding fall_all
counters-fall_all zero w used t h = h
counters-fall_all (suc m) w used t h = go (next_to_fall w used t) (λ i. counters-fall_all m w used (fallen i t) (counters-fallen i t h))
  where
    go : (f : Option ℕ) → ((i : ℕ) → Counters (fall_all m w used (fallen i t)).ram.journal.control) → Counters (fall_next f t (fall_all m w used)).ram.journal.control
    go (Some i) k = k i
    go None k = h
