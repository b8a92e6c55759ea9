-- Openings and calls in the order in which they come, by the book (document 01, "Sessions and the book").
use Rattle.std.specs.Prelude.{ℕ, Bool, List, [], ◌∷◌, ℤ}
use Rattle.book.specs.Calls.{Call}
use Rattle.book.specs.Power.{Book, Fuse}
use Rattle.book.specs.Book.{Answer, Outcome, call, opening}

-- An opening with its fuse, or a call. `lengths` says that the lent buffers have 01's lengths.
pub data Event : Type 0 where
  opens : (lengths : Bool) (fuse : Fuse) → Event
  calls : (lengths : Bool) (k : Call) → Event

-- what the book makes of an event
abbrev pub happens : (ℕ → ℤ) → Book → Event → Outcome
happens cells b (opens lengths f) = opening b lengths f
happens cells b (calls lengths k) = call cells b lengths k

-- the book's answers to a list of events
abbrev pub answers : (ℕ → ℤ) → Book → List Event → List Answer
answers cells b [] = []
answers cells b (e ∷ es) = let o = happens cells b e in o.answer ∷ answers cells o.book es

-- the book after them
abbrev pub book_after : (ℕ → ℤ) → Book → List Event → Book
book_after cells b [] = b
book_after cells b (e ∷ es) = book_after cells (happens cells b e).book es
