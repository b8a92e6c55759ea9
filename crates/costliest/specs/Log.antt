-- What `write_log` leaves (document 02, L6): for each n up to 2,048 the bytes of a log of n rows whose opening writes n rows.
use Rattle.std.specs.Prelude.{ℕ, Bool, cond, ◌&&◌, List, length, eqb, leb}
use Rattle.book.specs.Limits.{log_length, cost_limit}
use Rattle.book.specs.LogBytes.{log_bytes}
use Rattle.book.specs.OpeningCost.{costliest}

-- the log has its length, and n is at most 2,048
abbrev pub is_written : ℕ → List ℕ → Bool
is_written n log = eqb (length log) log_length && leb n cost_limit

-- then the log of n rows is written, and else the log is as it was
abbrev pub log_after : ℕ → List ℕ → List ℕ
log_after n log = cond (is_written n log) (log_bytes (costliest n)) log
