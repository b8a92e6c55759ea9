-- An opening from its checks to what it gives back and leaves, for whatever it is handed.
use Rattle.std.specs.Prelude.{ℕ, ◌-◌, cond, Option, Some, None, List, replicate, pos, ltb}
use Rattle.tables_model.specs.Meaning.{scope_of, no_tables, vacant}
use Rattle.book.specs.Limits.{active_limit, scope_limit, page_limit}
use Rattle.book.specs.Scopes.{unused}
use Rattle.state.specs.declared.ram.Fuse.{Fuse}
use Rattle.state.specs.World.{World, right_lengths, cleared}
use Rattle.state.specs.CallContracts.{Answered, answered, answered_with}
use Rattle.tables_model.specs.declared.Tables.{Tables}
use Rattle.book.specs.Writes.{Writes}
use Rattle.tables_model.specs.Rows.{Index}
use Rattle.journal.specs.Journal.{Journal}
use Rattle.wal.specs.Writing.{Ram, row_count, is_running}
use Rattle.recovery_model.specs.declared.BadRow.{BadRow}
use Rattle.recovery_model.specs.Scan.{number_of_reason, Scanned, scanned}
use Rattle.recovery_model.specs.Charts.{bad_page_by, redo_charts}
use Rattle.recovery_model.specs.Backward.{backward}

-- nobody active, no scope in use
abbrev pub no_index : Index
no_index = record { tables = no_tables; scopes = replicate scope_limit unused }

-- nobody active after so many begin rows
abbrev pub none_active : ℕ → Tables
none_active begun = record { begun = begun; active = replicate active_limit vacant; count = 0; used = 0 }

-- 01, "Power": an opening that closed the journal answers 5, and RAM is cleared. A ready one answers the rows that it wrote.
unfoldable pub settled_opening : ℕ → ℕ → Ram → List ℕ → Answered
settled_opening rows begun m charts =
    let j : Journal = m.journal in
    let u : Writes = record { rows = j.control.stored - rows; pages = 0 } in
    cond (is_running j)
    (answered_with 0 (pos (row_count j - rows)) (record {
      state = record {
        phase = j.control.phase;
        fuse = j.control.fuse;
        stored = j.control.stored;
        waiting = j.control.waiting;
        tables = none_active begun;
        tail = j.tail;
      };
      log = j.log;
      charts = charts;
      copy = m.copy;
      scopes = replicate scope_limit (scope_of unused);
    }) u)
    (answered_with 5 (pos 0) (cleared j.log charts) u)

-- of a log that passed, from this copy on
abbrev pub backward_from : Fuse → List ℕ → List ℕ → Scanned → List ℕ → Answered
backward_from f log charts s copy = settled_opening s.rows s.index.tables.begun (backward f s.rows s.index log copy) charts

-- of a log that passed and charts that passed
abbrev pub recovered_by : Fuse → List ℕ → List ℕ → Scanned → Answered
recovered_by f log charts s = backward_from f log charts s (redo_charts log s.rows charts)

-- a bad row refuses the log, and the world is this then
abbrev pub unless_bad : Option BadRow → World → Answered → Answered
unless_bad (Some b) w passed = answered (number_of_reason b.reason) (pos b.row.0) w
unless_bad None w passed = passed

abbrev pub checked_by : Fuse → List ℕ → List ℕ → Scanned → Answered
checked_by f log charts s =
    let p : ℕ = bad_page_by log s.rows charts in
    let ok : Answered = recovered_by f log charts s in
    unless_bad s.bad (cleared log charts) (cond (ltb p page_limit) (answered 4 (pos p) (cleared log charts)) ok)

unfoldable pub opens_by : Fuse → World → Answered
opens_by f w = cond (right_lengths w) (checked_by f w.log w.charts (scanned w.log no_index)) (answered 1 (pos 0) w)
