-- Each number that `numbers` lists (specs/CallContracts) is answered in some sessions, but for 6, which is answered in none; `CallPost` says that a call answers
-- with no other.
use Rattle.std.specs.Prelude.{ℕ, Bool, true, ◌≡◌, ◌≢◌, List, ◌∷◌}
use Rattle.book.specs.Lists.{member}
use Rattle.book.specs.Calls.{Call}
use Rattle.book.specs.Power.{Book, Fuse, formatted}
use Rattle.book.specs.Book.{call}
use Rattle.book.specs.Events.{Event, opens, book_after}
use Rattle.book.specs.Logs.{Sound}
use Rattle.book.specs.Cells.{zeros}
use Rattle.state.specs.CallContracts.{numbers}

-- 01, "The run file", and 02, L2: the code of a call
abbrev pub code_of : Call → ℕ
code_of Call.begin = 1
code_of (Call.change v c a) = 2
code_of (Call.hand_over g r c) = 3
code_of (Call.commit v) = 4
code_of (Call.abort v) = 5
code_of (Call.flush p) = 6
code_of Call.force = 7
code_of (Call.read c) = 8
code_of (Call.hand_over_all g r) = 9

-- the book of a store formatted at zeros after an opening and then these openings and calls
abbrev pub reached : Fuse → List Event → Book
reached f es = book_after zeros formatted (opens true f ∷ es)

-- in some sessions the book gives this number to a call of this code
pub record Occurs (code n : ℕ) : Type 0 where
  pub fuse : Fuse
  pub before : List Event
  pub sound : Sound (reached fuse before)
  pub lengths : Bool
  pub asked : Call
  pub kind : code_of asked ≡ code
  pub number : (call zeros (reached fuse before) lengths asked).answer.number ≡ n

unfoldable pub NumbersOccur : Type 0
NumbersOccur = (k : Call) (n : ℕ) → member n (numbers k) ≡ true → n ≢ 6 → Occurs (code_of k) n

-- 02, L7: "refusal 6 never occurs any more in 01's sessions". It stays listed for a begin, since a state of the host's making may count 65,535 visits.
unfoldable pub SixNeverOccurs : Type 0
SixNeverOccurs = (code : ℕ) → Occurs code 6 → ⊥
