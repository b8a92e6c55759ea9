-- What a call comes to on lent arrays: tail and copy, the flat visits and the flat scope table (crate `tables_model`), the stored log and charts.
use Rattle.std.specs.Prelude.{ℕ, ◌≤◌, ◌≡◌, List, map, replicate}
use Rattle.book.specs.Limits.{charts_length, row_limit, tail_limit, active_limit, scope_limit}
use Rattle.tables_model.specs.declared.Counts.{Counts}
use Rattle.tables_model.specs.declared.Tables.{Tables}
use Rattle.tables_model.specs.Layout.{entries, flat_length, visits_length}
use Rattle.tables_model.specs.Meaning.{scope_of}
use Rattle.tables_model.specs.Visits.{tables_in}
use Rattle.state.specs.declared.ram.Fuse.TheVariants.{Unlimited}
use Rattle.state.specs.declared.ram.Phase.TheVariants.{Closed}
use Rattle.state.specs.declared.ram.State.{State}
use Rattle.state.specs.Answers.{number_and_value, rows_and_pages}
use Rattle.state.specs.World.{world, tail_length}
use Rattle.state.specs.CallContracts.{Answered}
use Rattle.journal.specs.declared.Control.{Control}
use Rattle.journal.specs.declared.Outcome.{Outcome}

-- the state by where the journal stands, the tables and the tail
abbrev pub state_after : Control → Tables → List ℕ → State
state_after c t tail = record { phase = c.phase; fuse = c.fuse; stored = c.stored; waiting = c.waiting; tables = t; tail = tail }

-- the answer as 01 has it, the world that the arrays are, and the counts
abbrev pub outcome : Outcome → List ℕ → List ℕ → List ℕ → List ℕ → List ℕ → List ℕ → Answered
outcome r log charts copy tail visits flat = record {
  answer = number_and_value r.answer;
  world = world (state_after r.control (tables_in r.counts visits) tail) log charts copy (map scope_of (entries flat));
  writes = rows_and_pages r.writes;
}

abbrev pub closed_control : Control
closed_control = record { phase = Closed; fuse = Unlimited; stored = 0; waiting = 0 }

abbrev pub no_counts : Counts
no_counts = record { begun = 0; count = 0; used = 0 }

-- the counters are within their limits
pub record Bounded (c : Control) (t : Counts) : Type 0 where
  pub stored : c.stored ≤ row_limit
  pub waiting : c.waiting ≤ tail_limit
  pub count : t.count ≤ active_limit
  pub used : t.used ≤ scope_limit

-- 01, "Power": what a power failure and a rejected store leave of RAM: the store is closed, and every number is 0
pub record Zeroed (r : Outcome) (copy tail visits flat : List ℕ) : Type 0 where
  pub control : r.control ≡ closed_control
  pub counts : r.counts ≡ no_counts
  pub copy-zero : copy ≡ replicate charts_length 0
  pub tail-zero : tail ≡ replicate tail_length 0
  pub visits-zero : visits ≡ replicate visits_length 0
  pub flat-zero : flat ≡ replicate flat_length 0
