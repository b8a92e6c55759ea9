-- The cases of document 01 that are marked *, as one conjunction over the definitions.
use Rattle.std.specs.Prelude.{ℕ, true, ◌≡◌, List, [], ◌∷◌, map, replicate, ℤ, pos, negsuc}
use Rattle.book.specs.Lists.{keep}
use Rattle.book.specs.Rows.{Row, is_undo}
use Rattle.book.specs.Calls.{Call}
use Rattle.book.specs.Power.{none, left, formatted}
use Rattle.book.specs.Cells.{zeros}
use Rattle.book.specs.Book.{Answer, done, refused_by}
use Rattle.book.specs.Events.{Event, opens, calls, happens, answers, book_after}
use Rattle.book.specs.LogBytes.{log_bytes}
use Rattle.book.specs.Pages.{chart_bytes, page_after, cell_of}
use Rattle.book.specs.Opening.{Opened, open_bytes}

-- formatted with 5 in each cell
abbrev pub fives : ℕ → ℤ
fives c = pos 5

-- an opening with no fuse, then these calls
abbrev pub session : List Call → List Event
session ks = opens true none ∷ map (calls true) ks

-- a formatted store gives these answers to these events, the openings among them
abbrev pub Gives : (ℕ → ℤ) → List Event → List Answer → Type 0
Gives cells es given = answers cells formatted es ≡ given

-- the answer to one more call
abbrev pub then : List Event → Call → Answer
then es k = (happens zeros (book_after zeros formatted es) (calls true k)).answer

-- An empty store opens with fuse 0: ready, 0 rows.
abbrev pub EmptyOpens : Type 0
EmptyOpens = Gives zeros (opens true (left 0) ∷ []) (done (pos 0) ∷ [])

-- 1 adds 300, 2 adds -200 to one cell; 2 commits, 1 aborts: -200.
abbrev pub TwoVisits : Type 0
TwoVisits = Gives zeros
    (session (Call.begin ∷ Call.begin ∷ Call.change 1 0 (pos 300) ∷ Call.change 2 0 (negsuc 199) ∷ Call.commit 2 ∷ Call.abort 1 ∷ Call.read 0 ∷ []))
    (done (pos 0) ∷ done (pos 1) ∷ done (pos 2) ∷ done (pos 3) ∷ done (pos 4) ∷ done (pos 5) ∷ done (pos 7) ∷ done (negsuc 199) ∷ [])

-- 1 changes, 2 begins, 1 hands to 2, 1 aborts, 2 commits: kept.
abbrev pub HandedSurvives : Type 0
HandedSurvives = Gives zeros
    (session (Call.begin ∷ Call.change 1 0 (pos 70) ∷ Call.begin ∷ Call.hand_over 1 2 0 ∷ Call.abort 1 ∷ Call.commit 2 ∷ Call.read 0 ∷ []))
    (done (pos 0) ∷ done (pos 1) ∷ done (pos 2) ∷ done (pos 2) ∷ done (pos 4) ∷ done (pos 5) ∷ done (pos 6) ∷ done (pos 70) ∷ [])

-- 1 adds 10, hands to 2, adds 5; 1 commits, 2 aborts: 5.
abbrev pub LaterChangeStays : Type 0
LaterChangeStays = Gives zeros
    (session (Call.begin ∷ Call.begin ∷ Call.change 1 0 (pos 10) ∷ Call.hand_over 1 2 0 ∷ Call.change 1 0 (pos 5) ∷
    Call.commit 1 ∷ Call.abort 2 ∷ Call.read 0 ∷ []))
    (done (pos 0) ∷ done (pos 1) ∷ done (pos 2) ∷ done (pos 3) ∷ done (pos 4) ∷ done (pos 5) ∷ done (pos 6) ∷ done (pos 8) ∷ done (pos 5) ∷ [])

-- As before, 2 hands back first, 1 commits: 15.
abbrev pub HandedBack : Type 0
HandedBack = Gives zeros
    (session (Call.begin ∷ Call.begin ∷ Call.change 1 0 (pos 10) ∷ Call.hand_over 1 2 0 ∷ Call.change 1 0 (pos 5) ∷ Call.hand_over 2 1 0 ∷
    Call.commit 1 ∷ Call.abort 2 ∷ Call.read 0 ∷ []))
    (done (pos 0) ∷ done (pos 1) ∷ done (pos 2) ∷ done (pos 3) ∷ done (pos 4) ∷ done (pos 5) ∷ done (pos 6) ∷ done (pos 7) ∷ done (pos 8) ∷ done (pos 15) ∷ [])

-- 5 formatted, -32,768 added and undone: 5.
abbrev pub LowestUndone : Type 0
LowestUndone = Gives fives
    (session (Call.begin ∷ Call.change 1 0 (negsuc 32767) ∷ Call.abort 1 ∷ Call.read 0 ∷ []))
    (done (pos 0) ∷ done (pos 1) ∷ done (pos 2) ∷ done (pos 4) ∷ done (pos 5) ∷ [])

-- Cell 223 accepted, 224 gives 10.
abbrev pub LastCell : Type 0
LastCell = Gives zeros
    (session (Call.begin ∷ Call.change 1 223 (pos 1) ∷ Call.change 1 224 (pos 1) ∷ []))
    (done (pos 0) ∷ done (pos 1) ∷ done (pos 2) ∷ refused_by 10 ∷ [])

-- Hand-over to oneself gives 12.
abbrev pub ToOneself : Type 0
ToOneself = Gives zeros
    (session (Call.begin ∷ Call.change 1 0 (pos 1) ∷ Call.hand_over 1 1 0 ∷ []))
    (done (pos 0) ∷ done (pos 1) ∷ done (pos 2) ∷ refused_by 12 ∷ [])

-- Hand-over of an untouched cell gives 13.
abbrev pub Untouched : Type 0
Untouched = Gives zeros
    (session (Call.begin ∷ Call.begin ∷ Call.change 1 0 (pos 1) ∷ Call.hand_over 1 2 1 ∷ []))
    (done (pos 0) ∷ done (pos 1) ∷ done (pos 2) ∷ done (pos 3) ∷ refused_by 13 ∷ [])

-- one visit, n changes of one cell
abbrev pub changes_of : ℕ → List Event
changes_of n = session (Call.begin ∷ replicate n (Call.change 1 0 (pos 1)))

-- One visit: the 2,047th change accepted, the 2,048th gives 8.
abbrev pub OneVisitFills : Type 0
OneVisitFills = (then (changes_of 2046) (Call.change 1 0 (pos 1)) ≡ done (pos 2048)) × (then (changes_of 2047) (Call.change 1 0 (pos 1)) ≡ refused_by 8)

-- Sixteen active: the next begin gives 7.
abbrev pub SixteenActive : Type 0
SixteenActive = then (session (replicate 16 Call.begin)) Call.begin ≡ refused_by 7

-- Change, flush, cut, open: undone once; opened again, 0 rows. The fuse lets the two rows and the page land; the force after the second change is cut.
abbrev pub cut_after_flush : List Event
cut_after_flush =
    opens true (left 3) ∷ calls true Call.begin ∷ calls true (Call.change 1 0 (pos 9)) ∷ calls true (Call.flush 0) ∷
    calls true (Call.change 1 1 (pos 4)) ∷ calls true Call.force ∷ opens true none ∷ calls true (Call.read 0) ∷ opens true none ∷
    calls true (Call.read 0) ∷ []

abbrev pub UndoneOnce : Type 0
UndoneOnce = Gives zeros cut_after_flush
    (done (pos 0) ∷ done (pos 1) ∷ done (pos 2) ∷ done (pos 0) ∷ done (pos 3) ∷ refused_by 5 ∷ done (pos 2) ∷ done (pos 0) ∷ done (pos 0) ∷ done (pos 0) ∷ []) ×
    (keep is_undo (book_after zeros formatted cut_after_flush).stored ≡ Row.undo 1 0 2 (pos 9) ∷ [])

-- The same over the stored bytes, since the book has no pages: the log of the two rows, and charts whose page was flushed after the change.
abbrev pub flushed_rows : List Row
flushed_rows = Row.begin 1 ∷ Row.change 1 0 (pos 9) ∷ []

unfoldable pub first_opening : Opened
first_opening = open_bytes none (log_bytes flushed_rows) (chart_bytes (page_after zeros flushed_rows))

unfoldable pub second_opening : Opened
second_opening = open_bytes none first_opening.log (chart_bytes (page_after zeros flushed_rows))

pub record UndoneOnceInBytes : Type 0 where
  pub first : first_opening.answer ≡ done (pos 2)
  pub cell : cell_of first_opening.copy 0 ≡ pos 0
  pub second : second_opening.answer ≡ done (pos 0)
  pub again : cell_of second_opening.copy 0 ≡ pos 0

-- the twelve as one conjunction
abbrev pub Cases : Type 0
Cases =
    EmptyOpens × TwoVisits × HandedSurvives × LaterChangeStays × HandedBack × LowestUndone × LastCell × ToOneself × Untouched × OneVisitFills ×
    SixteenActive × (UndoneOnce × UndoneOnceInBytes)
