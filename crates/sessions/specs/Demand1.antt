-- Demand 1 (document 00): "The answer of every call, for every input, is either its result or a refusal from the table in document 01; no call traps or
-- runs on, and a refusal changes no byte, except that a power failure or a rejected store leaves what 01 says." Whatever state, buffers and arguments a
-- call is handed. (That none traps or runs on is proved of every function, whatever its contract says.)
use Rattle.std.specs.Prelude.{ℕ, true, false, ◌≡◌, ◌≢◌, List, [], ◌∷◌, ℤ, pos}
use Rattle.book.specs.Lists.{member}
use Rattle.book.specs.Calls.{Call}
use Rattle.book.specs.Power.{Fuse}
use Rattle.state.specs.World.{World, works, cleared}
use Rattle.state.specs.CallContracts.{Answered, answered, failed_after, numbers, FormatPost, OpenPost, CallPost}

-- 01, "Refusals by place", and 02, L8: the numbers of format and of open; `numbers` has those of the other calls
abbrev pub format_numbers : List ℕ
format_numbers = 0 ∷ 1 ∷ 2 ∷ []

abbrev pub open_numbers : List ℕ
open_numbers = 0 ∷ 1 ∷ 3 ∷ 16 ∷ 17 ∷ 4 ∷ 5 ∷ []

-- what is said of a format
pub record FormatAnswers (given : World) (x : Answered) : Type 0 where
  pub number : member x.answer.number format_numbers ≡ true
  -- a refusal changes no byte
  pub refused : x.answer.number ≢ 0 → x ≡ answered x.answer.number x.answer.value given
  -- 01: copy, tail and scopes end as after a power failure, and the store is closed
  pub done : x.answer.number ≡ 0 → x ≡ answered 0 (pos 0) (cleared x.world.log x.world.charts)

-- of an opening
pub record OpenAnswers (given : World) (x : Answered) : Type 0 where
  pub number : member x.answer.number open_numbers ≡ true
  -- a refusal changes no byte
  pub refused : x.answer.number ≡ 1 → x ≡ answered 1 (pos 0) given
  -- every refusal but 1 and 5 rejects the store. 01: "After 3 or 4 log and charts are unchanged, while copy, tail and scopes end as after a power failure and the
  -- store is closed." 02, L8: "16 and 17 leave everything as 3 does."
  pub rejected : x.answer.number ≢ 0 → x.answer.number ≢ 1 → x.answer.number ≢ 5 →
      x ≡ answered x.answer.number x.answer.value (cleared given.log given.charts)
  -- 01, "Power": copy, tail and scopes are cleared and the store is closed; the charts are as they were, and demand 2 says which rows the log has
  pub failed : x.answer.number ≡ 5 → x ≡ failed_after x.writes.rows (cleared x.world.log given.charts)

-- of any other call
pub record CallAnswers (k : Call) (given : World) (x : Answered) : Type 0 where
  pub number : member x.answer.number (numbers k) ≡ true
  -- a refusal changes no byte
  pub refused : x.answer.number ≢ 0 → x.answer.number ≢ 5 → x ≡ answered x.answer.number (pos 0) given
  -- 5: the store was closed, or its counters (of the host's making) were beyond their limits, and it is as it was
  pub shut : x.answer.number ≡ 5 → works given.state ≡ false → x ≡ answered 5 (pos 0) given
  -- or else the power failed, which leaves what 01 says under Power
  pub failed : x.answer.number ≡ 5 → works given.state ≡ true → x ≡ failed_after x.writes.rows (cleared x.world.log given.charts)

-- format, open and the calls of an open store, whatever functions meet the contracts
pub record Demand1 : Type 0 where
  pub formats : (values : List ℤ) (given : World) (x : Answered) → FormatPost values given x → FormatAnswers given x
  pub opens : (f : Fuse) (given : World) (x : Answered) → OpenPost f given x → OpenAnswers given x
  pub calls : (k : Call) (given : World) (x : Answered) → CallPost k given x → CallAnswers k given x
