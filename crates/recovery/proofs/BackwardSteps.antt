-- The backward part of an opening: the turns of the loop that ends each active visit, the journal's counters, and its three steps. Assumes nothing.
use Rattle.std.proofs.Common.{◌≡◌, ℕ, zero, suc, ◌+◌, ◌-◌, ◌<◌, ◌≤◌, List, get_or, refl, ap, ◌∙◌, arith}
use Rattle.book.specs.Limits.{log_length, charts_length}
use Rattle.book.specs.Rows.{Row}
use Rattle.state.specs.declared.ram.Fuse.{Fuse}
use Rattle.state.specs.declared.ram.Phase.TheVariants.{Open}
use Rattle.state.specs.World.{tail_length}
use Rattle.tables_model.specs.declared.Active.{Active}
use Rattle.tables_model.specs.Meaning.{vacant}
use Rattle.tables_model.specs.declared.Whom.TheVariants.{All}
use Rattle.tables_model.specs.Rows.{Index}
use Rattle.journal.specs.declared.Control.{Control}
use Rattle.journal.specs.Journal.{Journal, forced}
use Rattle.wal.specs.Writing.{Ram, Fits, written}
use Rattle.wal.specs.TakeBack.{Taking, taking, fall_all}
use Rattle.wal.proofs.Counters.{Counters, counters-written, counters-fall_all}
use Rattle.wal.proofs.CountersForced.{counters-forced}
use Rattle.recovery_model.specs.Backward.{abort_all, starting_by, backward}

module _ (active : List Active) (m : Ram) where
  turn : (n : ℕ) → abort_all (suc n) active m ≡ abort_all n active (written m (Row.abort (get_or active n vacant).visit.0))
  unfolding abort_all
  turn n = refl

  pub abort-turn : (n : ℕ) → 0 < n → abort_all n active m ≡ abort_all (n - 1) active (written m (Row.abort (get_or active (n - 1) vacant).visit.0))
  abort-turn n h = let e : n ≡ suc (n - 1) = omega arith in ap (λ (k : ℕ). abort_all k active m) e ∙ turn (n - 1)

  pub abort-end : (n : ℕ) → n ≤ 0 → abort_all n active m ≡ m
  unfolding abort_all
  abort-end n h = let e : n ≡ 0 = omega arith in rw e

pub counters-aborted : (n : ℕ) (active : List Active) (m : Ram) → Counters m.journal.control → Counters (abort_all n active m).journal.control
unfolding abort_all
counters-aborted zero active m h = h
counters-aborted (suc n) active m h =
    let r = Row.abort (get_or active n vacant).visit.0 in counters-aborted n active (written m r) (counters-written m r h)

-- ── Where it begins ───────────────────────────────────────────────────────────────────────────────────────────────────

-- the book is open, and nothing waits
abbrev pub starting : Fuse → ℕ → Control
starting f rows = record { phase = Open; fuse = f; stored = rows; waiting = 0 }

module _ (f : Fuse) (rows : ℕ) (few : rows ≤ 4096) where
  pub fits-start : (log tail copy : ℕ) → log ≡ log_length → tail ≡ tail_length → copy ≡ charts_length → Fits (starting f rows) log tail copy
  fits-start log tail copy l t c = record {
    sizes = record { log-long = l; tail-long = t; few = omega arith; room = omega arith };
    copy-long = c;
  }

  -- after the open changes fell
  pub counters-fallen : (used : ℕ) (log tail copy scopes : List ℕ) (t : Taking) → t ≡ fall_all (rows + 0) All used (taking (starting f rows) log tail copy scopes)
      → Counters t.ram.journal.control
  counters-fallen used log tail copy scopes t e =
      rw e (counters-fall_all (rows + 0) All used (taking (starting f rows) log tail copy scopes) (record { few = omega arith; room = omega arith }))

-- ── The three steps ───────────────────────────────────────────────────────────────────────────────────────────────────

module _ (f : Fuse) (rows : ℕ) (x : Index) (log copy : List ℕ) where
  pub counters-backward : rows ≤ 4096 → Counters (backward f rows x log copy).journal.control
  unfolding backward
  counters-backward h =
      counters-forced _
      (counters-aborted x.tables.count x.tables.active _
      (counters-fall_all rows All x.tables.used (record { ram = starting_by f rows log copy; scopes = x.scopes }) (record { few = omega arith; room = omega arith })))

  pub three-steps : (t : Taking) (m : Ram) (j : Journal) → t ≡ fall_all rows All x.tables.used (record { ram = starting_by f rows log copy; scopes = x.scopes })
      → m ≡ abort_all x.tables.count x.tables.active t.ram → j ≡ forced m.journal → record { journal = j; copy = m.copy } ≡ backward f rows x log copy
  unfolding backward
  three-steps t m j d e g = rw (g, e, d)
