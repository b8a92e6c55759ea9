-- What the functions that check a log and recover ask, and what the check gives back.
use Rattle.std.specs.Prelude.{ℕ, ◌≤◌, ◌<◌, ◌≡◌, Option, Some, None, Result, Ok, Err, List}
use Rattle.book.specs.Limits.{row_limit, log_length}
use Rattle.tables_model.specs.declared.Counts.{Counts}
use Rattle.tables_model.specs.Rows.{index}
use Rattle.recovery_model.specs.declared.LogScan.{LogScan}
use Rattle.recovery_model.specs.declared.Reason.{Reason}
use Rattle.recovery_model.specs.Scan.{Judgement, Taken, Ends, Bad, Scanned}

-- a log of its length, of which the first k rows are looked at
pub record Rows (size k : ℕ) : Type 0 where
  pub long : size ≡ log_length
  pub within : k ≤ row_limit

-- a log of its length with a row k, counted from 0
pub record Next (size k : ℕ) : Type 0 where
  pub long : size ≡ log_length
  pub below : k < row_limit

-- what a row came to after these counters, with the flat tables after it: the counters change where it was taken
abbrev pub judgement : Counts → Result (Option Counts) Reason → List ℕ → List ℕ → Judgement
judgement t (Ok (Some next)) visits scopes = record { judged = Taken; index = index next visits scopes }
judgement t (Ok None) visits scopes = record { judged = Ends; index = index t visits scopes }
judgement t (Err why) visits scopes = record { judged = Bad why; index = index t visits scopes }

-- what the check of a log found, with the flat tables after it
abbrev pub found : LogScan → List ℕ → List ℕ → Scanned
found s visits scopes = record { rows = s.rows; bad = s.bad; index = index s.counts visits scopes }
