-- The number that an argument of the program asks for: in base ten, up to 2,048, without a sign and without a 0 before another digit.
use Rattle.std.specs.Prelude.{ℕ, ◌+◌, ◌-◌, ◌*◌, Bool, false, cond, not, ◌&&◌, List, eqb, leb, Option, Some, None, Result, Ok, Err}
use Rattle.book.specs.Lists.{foldl}
use Rattle.book.specs.Limits.{cost_limit}
use Rattle.costliest.specs.declared.argument.NoNumber.{NoNumber}
use Rattle.costliest.specs.Log.{is_written, log_after}

abbrev pub no_number : NoNumber
no_number = record {}

-- what the bytes so far ask for: none of them read yet, a number up to 2,048, or no such number
abbrev pub Asked : Type 0
Asked = Result (Option ℕ) NoNumber

-- a character of 0 to 9
abbrev pub is_digit : ℕ → Bool
is_digit b = leb 48 b && leb b 57

abbrev pub up_to_limit : ℕ → Result ℕ NoNumber
up_to_limit n = cond (leb n cost_limit) (Ok n) (Err no_number)

-- the number after one more byte
abbrev pub further : Option ℕ → ℕ → Result ℕ NoNumber
further None b = cond (is_digit b) (Ok (b - 48)) (Err no_number)
further (Some n) b = cond (is_digit b && not (eqb n 0)) (up_to_limit (10 * n + (b - 48))) (Err no_number)

abbrev pub number : Result ℕ NoNumber → Asked
number (Ok n) = Ok (Some n)
number (Err e) = Err e

-- a byte more
abbrev pub next : Asked → ℕ → Asked
next (Ok n) b = number (further n b)
next (Err e) b = Err e

-- what the bytes of an argument ask for
unfoldable pub asked : List ℕ → Asked
asked text = foldl next (Ok None) text

-- whether the log that is asked for is written, and what the log is then
abbrev pub is_written_for : Asked → List ℕ → Bool
is_written_for (Ok (Some n)) log = is_written n log
is_written_for (Ok None) log = false
is_written_for (Err e) log = false

abbrev pub log_for : Asked → List ℕ → List ℕ
log_for (Ok (Some n)) log = log_after n log
log_for (Ok None) log = log
log_for (Err e) log = log
