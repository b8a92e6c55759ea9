-- The refusal number and the value of each case of an answer, by document 01, and by 02, L8 for 16 and 17. Values not named are 0.
use Rattle.std.specs.Prelude.{◌≡◌, ◌⊎◌, Result, Ok, Err, ℤ, pos}
use Rattle.book.specs.Book as book
use Rattle.book.specs.Book.{done, refused_by}
use Rattle.book.specs.Writes.{Writes}
use Rattle.book.specs.Calls.{Return, the_visit, the_row, the_cell, zero_value}
use Rattle.state.specs.declared.answers.Done.{Done}
use Rattle.state.specs.declared.answers.Done.TheVariants.{Nothing, Visit, Row, Grams, Wrote}
use Rattle.state.specs.declared.answers.Refusal.{Refusal}
use Rattle.state.specs.declared.answers.Refusal.TheVariants.{WrongLength, CellOutOfRange, WrongBytes, BreaksRule, OverLimit, BadPage, Closed, VisitsUsedUp, TooManyActive, NoRoom, NotActive, NoSuchCell, ScopesUsedUp, SameVisit, HoldsNone, NoSuchPage}
use Rattle.state.specs.declared.answers.Writes.{Writes as TheWrites}

-- the value of a call that was done
abbrev pub done_value : Done → ℤ
done_value Nothing = pos 0
done_value (Visit v) = pos v.0
done_value (Row n) = pos n.0
done_value (Grams z) = z
done_value (Wrote n) = pos n

-- the number of a refusal, and its value
abbrev pub refusal_answer : Refusal → book.Answer
refusal_answer WrongLength = refused_by 1
refusal_answer (CellOutOfRange c) = book.answer 2 (pos c.0)
refusal_answer (WrongBytes n) = book.answer 3 (pos n.0)
refusal_answer (BreaksRule n) = book.answer 16 (pos n.0)
refusal_answer (OverLimit n) = book.answer 17 (pos n.0)
refusal_answer (BadPage p) = book.answer 4 (pos p)
refusal_answer Closed = refused_by 5
refusal_answer VisitsUsedUp = refused_by 6
refusal_answer TooManyActive = refused_by 7
refusal_answer NoRoom = refused_by 8
refusal_answer NotActive = refused_by 9
refusal_answer NoSuchCell = refused_by 10
refusal_answer ScopesUsedUp = refused_by 11
refusal_answer SameVisit = refused_by 12
refusal_answer HoldsNone = refused_by 13
refusal_answer NoSuchPage = refused_by 14

abbrev pub number_and_value : Result Done Refusal → book.Answer
number_and_value (Ok d) = done (done_value d)
number_and_value (Err r) = refusal_answer r

-- of a check, which gives nothing where the call may go on
abbrev pub checked : Result Unit Refusal → book.Answer
checked (Ok u) = done (pos 0)
checked (Err r) = refusal_answer r

-- 02's counts of the stored writes
abbrev pub rows_and_pages : TheWrites → Writes
rows_and_pages w = record { rows = w.rows; pages = w.pages }

-- ── Cases ─────────────────────────────────────────────────────────────────────────────────────────────────────────────

-- what a done call answers with, or that it is refused
pub data Case : Type 0 where
  nothing : Case
  visit : Case
  row : Case
  grams : Case
  written : Case
  refusal : Case

abbrev pub done_with : Done → Case
done_with Nothing = nothing
done_with (Visit v) = visit
done_with (Row n) = row
done_with (Grams z) = grams
done_with (Wrote n) = written

abbrev pub case_of : Result Done Refusal → Case
case_of (Ok d) = done_with d
case_of (Err r) = refusal

-- 01: begin returns the visit; change, hand over, commit and abort their row's number; read a cell
abbrev pub done_case : Return → Case
done_case the_visit = visit
done_case the_row = row
done_case (the_cell c) = grams
done_case zero_value = nothing

-- done with this, or refused
abbrev pub HasCase : Case → Result Done Refusal → Type 0
HasCase c a = (case_of a ≡ c) ⊎ (case_of a ≡ refusal)
