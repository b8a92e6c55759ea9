-- The check of a log, row by row: each row is decoded once, judged by the tables, and applied to them.
use Rattle.std.specs.Option.{option_or}
use Rattle.std.specs.Prelude.{ℕ, zero, suc, ◌-◌, cond, ◌&&◌, Option, Some, None, Result, Ok, Err, List, leb}
use Rattle.book.specs.Limits.{row_limit}
use Rattle.book.specs.Rows as book
use Rattle.book.specs.RowBytes.{row_of}
use Rattle.rows.specs.declared.Read.{Read}
use Rattle.rows.specs.declared.Read.TheVariants.{Valid, Blank, Malformed, OutOfRange}
use Rattle.rows.specs.Meaning.{meant}
use Rattle.rows.specs.Reading.{read_of, is_blank}
use Rattle.tables_model.specs.declared.Breach.{Breach}
use Rattle.tables_model.specs.declared.Breach.TheVariants as breach
use Rattle.tables_model.specs.Rows.{Index, judge_by, step_by}
use Rattle.tables_model.specs.Lookup.{before_undone}
use Rattle.wal.specs.Looking.{row_bytes_at}
use Rattle.recovery_model.specs.declared.Reason.{Reason}
use Rattle.recovery_model.specs.declared.Reason.TheVariants.{Bytes, Rule, Limit}
use Rattle.recovery_model.specs.declared.BadRow.{BadRow}

-- row n of the log, counted from 1, as its bytes say, if it is one of the first k; of no such row any will do
abbrev pub row_in : List ℕ → ℕ → ℕ → book.Row
row_in log k n = cond (leb 1 n && leb n k) (row_of (row_bytes_at log (n - 1))) (book.Row.begin 0)

-- 02, L8: the refusal number of a bad row
abbrev pub number_of_reason : Reason → ℕ
number_of_reason Bytes = 3
number_of_reason Rule = 16
number_of_reason Limit = 17

-- what one row comes to: it is taken, it is blank and ends the log, or it is not allowed
pub data Judged : Type 0 where
  Taken : Judged
  Ends : Judged
  Bad : (why : Reason) → Judged

-- that, and the tables after the row
pub record Judgement : Type 0 where
  pub judged : Judged
  pub index : Index

-- the reason of a row whose bytes are well formed
abbrev pub reason_of : Breach → Reason
reason_of breach.Rule = Rule
reason_of breach.Limit = Limit

abbrev pub ruled : List ℕ → ℕ → Index → book.Row → Result (Unit {0}) Breach → Judgement
ruled log k x r (Ok u) = record { judged = Taken; index = step_by x (suc k) (before_undone (row_in log k) x r) r }
ruled log k x r (Err b) = record { judged = Bad (reason_of b); index = x }

abbrev pub judged_read : List ℕ → ℕ → Index → Read → Judgement
judged_read log k x Blank = record { judged = Ends; index = x }
judged_read log k x Malformed = record { judged = Bad Bytes; index = x }
judged_read log k x OutOfRange = record { judged = Bad Rule; index = x }
judged_read log k x (Valid row) = let r : book.Row = meant row in ruled log k x r (judge_by x k (row_in log k (book.undone_by r)) r)

-- row k + 1 of the log, after k rows
unfoldable pub judge_row : List ℕ → ℕ → Index → Judgement
judge_row log k x = judged_read log k x (read_of (suc k) (row_bytes_at log k))

-- what the check of a log found: so many rows, the tables after them, and the first bad row, if there is one
pub record Scanned : Type 0 where
  pub rows : ℕ
  pub bad : Option BadRow
  pub index : Index

abbrev pub bad_at : ℕ → Reason → BadRow
bad_at n why = record { row = record { 0 = n }; reason = why }

abbrev pub scan_on : Judged → ℕ → Index → (Index → Scanned) → Scanned
scan_on Taken k x go = go x
scan_on Ends k x go = record { rows = k; bad = None; index = x }
scan_on (Bad why) k x go = record { rows = k; bad = Some (bad_at (suc k) why); index = x }

-- m rows more, after k rows
unfoldable pub scan_from : ℕ → ℕ → List ℕ → Index → Scanned
scan_from zero k log x = record { rows = k; bad = None; index = x }
scan_from (suc m) k log x = let j : Judgement = judge_row log k x in scan_on j.judged k j.index (scan_from m (suc k) log)

-- the first of m rows from place k on with a byte that is not zero: behind the log's end such bytes are no row's
unfoldable pub first_set : ℕ → ℕ → List ℕ → Option BadRow
first_set zero k log = None
first_set (suc m) k log = let rest = first_set m (suc k) log in cond (is_blank (row_bytes_at log k)) rest (Some (bad_at (suc k) Bytes))

-- 01: all rows, then zero bytes to the end
unfoldable pub scanned : List ℕ → Index → Scanned
scanned log x =
    let s : Scanned = scan_from row_limit 0 log x in
    record { rows = s.rows; bad = option_or s.bad (first_set (row_limit - s.rows) s.rows log); index = s.index }
