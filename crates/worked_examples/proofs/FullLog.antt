-- A log of exactly 4,096 rows is read (specs/LogBytes), all its 65,536 bytes computed.
use mathlib.Core.Path.{◌≡◌, refl}
use Rattle.book.specs.LogBytes.{log_bytes, good, read_log}
use Rattle.book.proofs.WorkedExamples.{computes}
use Rattle.book.proofs.FullLogs.{to_and_fro, filled, rows4091, rows4092, rows4093, rows4096}

full-log-read : read_log (log_bytes rows4096) ≡ good rows4096
unfolding computes rows4096 rows4093 rows4092 rows4091 filled to_and_fro
full-log-read = refl
