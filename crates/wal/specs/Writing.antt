-- A row is appended to the journal, and applied to the copy (document 01, "Append").
use Rattle.std.specs.Prelude.{ℕ, ◌+◌, ◌≡◌, Bool, cond, List}
use Rattle.book.specs.Limits.{charts_length}
use Rattle.book.specs.Rows.{Row, effect}
use Rattle.charts.specs.Moves.{charts_moved}
use Rattle.state.specs.World.{is_open_phase}
use Rattle.journal.specs.declared.Control.{Control}
use Rattle.journal.specs.Force.{Sizes}
use Rattle.journal.specs.Journal.{Journal, journal, appended}

-- the journal, and the copy of the charts
pub record Ram : Type 0 where
  pub journal : Journal
  pub copy : List ℕ

abbrev pub ram : Control → List ℕ → List ℕ → List ℕ → Ram
ram c log tail copy = record { journal = journal c log tail; copy = copy }

-- the lengths of 01, and counters within them
pub record Fits (c : Control) (log tail copy : ℕ) : Type 0 where
  pub sizes : Sizes c log tail
  pub copy-long : copy ≡ charts_length

-- the rows of log and tail
abbrev pub row_count : Journal → ℕ
row_count j = j.control.stored + j.control.waiting

abbrev pub is_running : Journal → Bool
is_running j = is_open_phase j.control.phase

-- 01: a change or undo is applied to the copy when appended; a journal that closed has taken no row
unfoldable pub written : Ram → Row → Ram
written m r =
    let j : Journal = appended m.journal r in
    record { journal = j; copy = cond (is_running j) (charts_moved m.copy (effect r) (row_count j)) m.copy }
