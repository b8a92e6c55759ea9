-- A row is looked up where it stands, in the log or in the tail.
use Rattle.std.specs.Prelude.{ℕ, ◌+◌, ◌-◌, ◌*◌, ◌≤◌, cond, ◌&&◌, List, take, drop, leb, Option, Some, None}
use Rattle.book.specs.Limits.{row_limit, row_length}
use Rattle.book.specs.Rows.{Row}
use Rattle.book.specs.RowBytes.{row_of}
use Rattle.rows.specs.declared.Lsn.{Lsn}
use Rattle.journal.specs.Journal.{Journal}
use Rattle.wal.specs.Writing.{row_count}

-- row k of these bytes, counted from 0
abbrev pub row_bytes_at : List ℕ → ℕ → List ℕ
row_bytes_at bs k = take row_length (drop (row_length * k) bs)

-- the bytes of row n, counted from 1
abbrev pub bytes_of : Journal → ℕ → List ℕ
bytes_of j n = cond (leb n j.control.stored) (row_bytes_at j.log (n - 1)) (row_bytes_at j.tail (n - 1 - j.control.stored))

-- row n as its bytes say; of no such row any will do
unfoldable pub look_up : Journal → ℕ → Row
look_up j n = cond (leb 1 n && leb n (row_count j)) (row_of (bytes_of j n)) (Row.begin 0)

-- ── A part of the journal ─────────────────────────────────────────────────────────────────────────────────────────────

-- row n of a part, whose bytes hold so many rows from row base + 1 on; of no such row any will do
abbrev pub row_of_part : List ℕ → ℕ → ℕ → ℕ → Row
row_of_part bs base rows n = cond (leb 1 (n - base) && leb (n - base) rows) (row_of (row_bytes_at bs (n - base - 1))) (Row.begin 0)

-- the bytes hold the rows, whose numbers are within the limit
pub record Part (size base rows : ℕ) : Type 0 where
  pub long : row_length * rows ≤ size
  pub few : base + rows ≤ row_limit

-- the number of the row that was found, 0 for none
abbrev pub row_or_0 : Option Lsn → ℕ
row_or_0 (Some n) = n.0
row_or_0 None = 0
