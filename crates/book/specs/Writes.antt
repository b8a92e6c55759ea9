-- The stored writes that an opening or a call lands, rows and pages as two counts (document 02, L1), by the book.
use Rattle.std.specs.Prelude.{ℕ, ◌-◌, ◌≤◌, cond, List, length, eqb}
use Rattle.book.specs.Limits.{row_limit}
use Rattle.book.specs.Rows.{Row}
use Rattle.book.specs.Calls.{Call, Ending, waits, forces, flushes, ending}
use Rattle.book.specs.Power.{Book}
use Rattle.book.specs.Book.{Outcome}

-- 02, L1: rows and pages as two counts
pub record Writes : Type 0 where
  pub rows : ℕ
  pub pages : ℕ

abbrev pub no_writes : Writes
no_writes = record { rows = 0; pages = 0 }

-- rows: by how many the stored log grew
abbrev pub rows_between : List Row → List Row → ℕ
rows_between old new = length new - length old

-- pages: the page is the last write of a flush, so it landed exactly where the flush is done
abbrev pub pages_of : Ending → ℕ → ℕ
pages_of waits n = 0
pages_of forces n = 0
pages_of (flushes p) n = cond (eqb n 0) 1 0

-- of a call, from the book before it and what it comes to
abbrev pub call_writes : Book → Call → Outcome → Writes
call_writes b k o = record { rows = rows_between b.stored o.book.stored; pages = pages_of (ending k) o.answer.number }

-- of an opening of these stored rows
abbrev pub opening_writes : List Row → Outcome → Writes
opening_writes rs o = record { rows = rows_between rs o.book.stored; pages = 0 }

-- no more rows than the log has, and one page at most
abbrev pub Few : Writes → Type 0
Few w = (w.rows ≤ row_limit) × (w.pages ≤ 1)
