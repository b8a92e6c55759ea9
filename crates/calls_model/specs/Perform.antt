-- A call from its checks to what it gives back and leaves, for whatever it is handed.
use Rattle.std.specs.Prelude.{ℕ, zero, suc, ◌+◌, ◌-◌, ◌≡◌, Bool, cond, not, Ok, Err, List, [], map, ℤ, pos, ⊤}
use Rattle.book.specs.Limits.{log_length, charts_length}
use Rattle.book.specs.Scopes.{Scope as Entry}
use Rattle.book.specs.Calls.{Call, ending, returns}
use Rattle.book.specs.Writes.{Writes, Few, pages_of}
use Rattle.book.specs.Book.{◌else◌}
use Rattle.tables_model.specs.declared.Counts.{Counts}
use Rattle.tables_model.specs.declared.Tables.{Tables}
use Rattle.tables_model.specs.Entries.{scope_in}
use Rattle.tables_model.specs.Layout.{flat_length, visits_length}
use Rattle.tables_model.specs.Meaning.{scope_of}
use Rattle.state.specs.declared.ram.State.{State}
use Rattle.state.specs.declared.answers.Done.{Done}
use Rattle.state.specs.declared.answers.Refusal.TheVariants as Refusal
use Rattle.state.specs.declared.ram.Phase.TheVariants.{Open, Closed}
use Rattle.state.specs.Answers.{rows_and_pages, refusal, case_of, done_case, HasCase}
use Rattle.state.specs.World.{World, right_lengths, is_open_phase, in_limits, cleared}
use Rattle.state.specs.CallContracts.{Answered, answered, answered_with}
use Rattle.journal.specs.declared.Control.{Control}
use Rattle.journal.specs.declared.Outcome.{Outcome}
use Rattle.journal.specs.Outcomes.{state_after, outcome, Bounded, Zeroed}
use Rattle.wal.specs.Writing.{is_running}
use Rattle.calls_model.specs.Refusals.{refusal_by}
use Rattle.calls_model.specs.Acts.{Core, acted, value_by}

-- the counters are within their limits: what a state of the host's making may break
unfoldable pub is_coherent : Control → Tables → Bool
is_coherent c t = in_limits (state_after c t [])

abbrev pub control_in : State → Control
control_in s = record { phase = s.phase; fuse = s.fuse; stored = s.stored; waiting = s.waiting }

-- what a call works on
unfoldable pub core_of : World → Core
core_of w = record {
  ram = record { journal = record { control = control_in w.state; log = w.log; tail = w.state.tail }; copy = w.copy };
  charts = w.charts;
  tables = w.state.tables;
  scopes = map scope_in w.scopes;
}

-- and what it leaves
unfoldable pub world_of_core : Core → World
world_of_core x = record {
  state = record {
    phase = x.ram.journal.control.phase;
    fuse = x.ram.journal.control.fuse;
    stored = x.ram.journal.control.stored;
    waiting = x.ram.journal.control.waiting;
    tables = x.tables;
    tail = x.ram.journal.tail;
  };
  log = x.ram.journal.log;
  charts = x.charts;
  copy = x.ram.copy;
  scopes = map scope_of x.scopes;
}

-- 01, "Power": an accepted call that closed the journal answers 5, and RAM is cleared
unfoldable pub settled : Core → ℤ → Writes → Answered
settled x v u = cond (is_running x.ram.journal) (answered_with 0 v (world_of_core x) u) (answered_with 5 (pos 0) (cleared x.ram.journal.log x.charts) u)

-- the stored writes of an accepted call, by what it was given and what it left: rows that landed stay counted where the journal closed
unfoldable pub writes_by : Core → Core → Call → Writes
writes_by x y k = record {
  rows = y.ram.journal.control.stored - x.ram.journal.control.stored;
  pages = pages_of (ending k) (cond (is_running y.ram.journal) 0 5);
}

-- a call that no check refuses
abbrev pub accepted_by : Core → Call → Answered
accepted_by x k = let y : Core = acted x k in settled y (value_by x y k) (writes_by x y k)

abbrev pub decided : World → Call → ℕ → Answered
decided w k zero = accepted_by (core_of w) k
decided w k (suc n) = answered (suc n) (pos 0) w

-- every check but that of the lengths, in 01's order
abbrev pub number_by : Control → Tables → List Entry → Call → ℕ
number_by c t scopes k =
    (5, not (is_open_phase c.phase)) else (5, not (is_coherent c t)) else refusal_by (record { tables = t; scopes = scopes }) (c.stored + c.waiting) k

-- every check
unfoldable pub number_of : World → Call → ℕ
number_of w k = (1, not (right_lengths w)) else number_by (control_in w.state) w.state.tables (map scope_in w.scopes) k

unfoldable pub performed : World → Call → Answered
performed w k = decided w k (number_of w k)

-- ── What the functions ask and leave ──────────────────────────────────────────────────────────────────────────────────

-- what such a call comes to on the lent arrays
pub record Accepted (x : Core) (k : Call) (r : Outcome) (log charts copy tail visits flat : List ℕ) : Type 0 where
  pub is : outcome r log charts copy tail visits flat ≡ accepted_by x k
  pub case : HasCase (done_case (returns k)) r.answer
  -- the power failed: every number of RAM is 0
  pub zero : case_of r.answer ≡ refusal → Zeroed r copy tail visits flat
  pub bounded : Bounded r.control r.counts
  pub few : Few (rows_and_pages r.writes)

-- the lent bytes have their lengths
pub record LentLengths (log charts copy : ℕ) : Type 0 where
  pub log-long : log ≡ log_length
  pub charts-long : charts ≡ charts_length
  pub copy-long : copy ≡ charts_length

-- the flat tables have theirs
pub record Flat (visits scopes : ℕ) : Type 0 where
  pub visits-long : visits ≡ visits_length
  pub scopes_long : scopes ≡ flat_length

-- the power held in an accepted call: it leaves what its work left
pub record Held (c : Control) (t : Counts) (d : Done) (rows pages : ℕ) (copy tail visits flat : List ℕ) (r : Outcome) (copy' tail' visits' flat' : List ℕ) : Type 0 where
  pub running : c.phase ≡ Open
  pub is : r ≡ record { answer = Ok d; control = c; counts = t; writes = record { rows = rows; pages = pages } }
  pub copy-same : copy' ≡ copy
  pub tail-same : tail' ≡ tail
  pub visits-same : visits' ≡ visits
  pub flat-same : flat' ≡ flat

-- it failed: every number of RAM is 0
pub record Failed (c : Control) (rows : ℕ) (r : Outcome) (copy tail visits flat : List ℕ) : Type 0 where
  pub stopped : c.phase ≡ Closed
  pub answer : r.answer ≡ Err Refusal.Closed
  pub writes : r.writes ≡ record { rows = rows; pages = 0 }
  pub zero : Zeroed r copy tail visits flat

-- a read changes nothing
pub record Unchanged (c : Control) (t : Counts) (log charts copy tail visits flat : List ℕ) (c' : Control) (t' : Counts) (log' charts' copy' tail' visits' flat' : List ℕ) : Type 0 where
  pub control-same : c' ≡ c
  pub counts-same : t' ≡ t
  pub log-same : log' ≡ log
  pub charts-same : charts' ≡ charts
  pub copy-same : copy' ≡ copy
  pub tail-same : tail' ≡ tail
  pub visits-same : visits' ≡ visits
  pub flat-same : flat' ≡ flat

abbrev pub IfRead : Call → Type 0 → Type 0
IfRead (Call.read c) P = P
IfRead k P = ⊤
