-- The calls of an open store with their arguments (document 01, "Calls"), and in one place for each what it does after its rows and what it returns.
use Rattle.std.specs.Prelude.{ℕ, ℤ, T}
use Rattle.book.specs.Rows.{is_amount}

-- 01: begin, change, hand over, commit, abort, force, flush page, read; 02, L2: hand over a whole visit
pub data Call : Type 0 where
  begin : Call
  change : (visit cell : ℕ) (amount : ℤ) → Call
  hand_over : (giver receiver cell : ℕ) → Call
  commit : (visit : ℕ) → Call
  abort : (visit : ℕ) → Call
  force : Call
  flush : (page : ℕ) → Call
  read : (cell : ℕ) → Call
  hand_over_all : (giver receiver : ℕ) → Call

-- what an accepted call does once its rows are added
pub data Ending : Type 0 where
  waits : Ending
  forces : Ending
  flushes : (page : ℕ) → Ending

-- 01: commit forces, abort doesn't; 02, L4: "Begin shall force the log before it returns."
abbrev pub ending : Call → Ending
ending Call.begin = forces
ending (Call.change v c a) = waits
ending (Call.hand_over g r c) = waits
ending (Call.commit v) = forces
ending (Call.abort v) = waits
ending Call.force = forces
ending (Call.flush p) = flushes p
ending (Call.read c) = waits
ending (Call.hand_over_all g r) = waits

-- what an accepted call returns
pub data Return : Type 0 where
  the_visit : Return
  the_row : Return
  the_cell : (cell : ℕ) → Return
  zero_value : Return

-- 01: begin returns the visit; change, hand over, commit and abort their row's number; read a cell of the copy.
-- 02, L2: the hand-over of a whole visit "returns its row number".
abbrev pub returns : Call → Return
returns Call.begin = the_visit
returns (Call.change v c a) = the_row
returns (Call.hand_over g r c) = the_row
returns (Call.commit v) = the_row
returns (Call.abort v) = the_row
returns Call.force = zero_value
returns (Call.flush p) = zero_value
returns (Call.read c) = the_cell c
returns (Call.hand_over_all g r) = the_row

-- the amount is a signed 16-bit number, as the type of the function's argument has it; the other numbers are any at all
abbrev pub Typed : Call → Type 0
Typed Call.begin = Unit {0}
Typed (Call.change v c a) = T (is_amount a)
Typed (Call.hand_over g r c) = Unit {0}
Typed (Call.commit v) = Unit {0}
Typed (Call.abort v) = Unit {0}
Typed Call.force = Unit {0}
Typed (Call.flush p) = Unit {0}
Typed (Call.read c) = Unit {0}
Typed (Call.hand_over_all g r) = Unit {0}
