-- What C gets: an answer, and the stored writes that the call landed, in one number.
use Rattle.std.specs.Prelude.{ℕ, ◌/◌, ◌%◌}
use Rattle.book.specs.Book.{Answer, answer}
use Rattle.book.specs.Numbers.{signed}
use Rattle.book.specs.Writes.{Writes}

-- bits 32 to 39 are the refusal number, the 32 bits below the value, signed
unfoldable pub answer_in : ℕ → Answer
answer_in r = answer (r / 4294967296 % 256) (signed 32 (r % 4294967296))

-- 02, L1: bits 40 to 55 are the rows that were stored, bits 56 and up the pages
unfoldable pub writes_in : ℕ → Writes
writes_in r = record { rows = r / 1099511627776 % 65536; pages = r / 72057594037927936 }
