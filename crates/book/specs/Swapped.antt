-- Document 02, L5, "Hand-overs in another order": two single hand-overs that follow one another, in either order, by the book. `sessions/specs/Swapped`
-- has the same of 01's sessions.
use Rattle.std.specs.Prelude.{ℕ, true, ◌≡◌, ◌≢◌, ◌⊎◌, List, ◌∷◌, ℤ}
use Rattle.book.specs.Cells.{kept_sum}
use Rattle.book.specs.Calls.{Call}
use Rattle.book.specs.Power.{Book, Fuse}
use Rattle.book.specs.Book.{opening}
use Rattle.book.specs.Events.{Event, calls, happens, answers, book_after}
use Rattle.book.specs.SessionWrites.{writes}

-- 02: a single hand-over (kind 3)
pub record Single : Type 0 where
  pub giver : ℕ
  pub receiver : ℕ
  pub cell : ℕ

-- the call that asks for it, and the event: its buffers have 01's lengths
abbrev pub call_for : Single → Call
call_for h = Call.hand_over h.giver h.receiver h.cell

abbrev pub event_for : Single → Event
event_for h = calls true (call_for h)

-- the number of a call of an open book that no check refuses
abbrev pub DoneOrCut : ℕ → Type 0
DoneOrCut n = (n ≡ 0) ⊎ (n ≡ 5)

-- 02: "two single hand-overs (kind 3) of different cells that follow one another and are both accepted": no check refuses them. The first is answered 0, since a
-- power failure in it would close the book, and the second be refused. The second is answered 0, or 5 where the power fails while it stores a full tail.
pub record BothAccepted (cells : ℕ → ℤ) (b : Book) (h k : Single) : Type 0 where
  pub apart : h.cell ≢ k.cell
  pub first : (happens cells b (event_for h)).answer.number ≡ 0
  pub second : DoneOrCut (happens cells (happens cells b (event_for h)).book (event_for k)).answer.number

-- the one, then the other, then what comes later
abbrev pub one_then_other : Single → Single → List Event → List Event
one_then_other h k es = event_for h ∷ event_for k ∷ es

-- 02: "the swapped order is accepted too", and the list `es` of later calls and openings "gives the same results and cells". 02 leaves out a cut that keeps
-- just one of the two rows; it is not left out here.
pub record EitherOrder (cells : ℕ → ℤ) (b : Book) (h k : Single) (es : List Event) : Type 0 where
  pub accepted : BothAccepted cells b k h
  -- refusal numbers and values, and the counts of stored writes, place by place, those of the two hand-overs too
  pub answers : answers cells b (one_then_other k h es) ≡ answers cells b (one_then_other h k es)
  pub counts : writes cells b (one_then_other k h es) ≡ writes cells b (one_then_other h k es)
  -- an opening that comes then and ends ready leaves the same sum in each cell
  pub sums : (f : Fuse) → (opening (book_after cells b (one_then_other h k es)) true f).answer.number ≡ 0 → (c : ℕ) →
      kept_sum cells (opening (book_after cells b (one_then_other k h es)) true f).book.stored c ≡
      kept_sum cells (opening (book_after cells b (one_then_other h k es)) true f).book.stored c
  -- where the power fails in the second of them neither row is kept, and the books are one
  pub cut : (happens cells (happens cells b (event_for h)).book (event_for k)).answer.number ≡ 5 →
      book_after cells b (one_then_other k h es) ≡ book_after cells b (one_then_other h k es)
