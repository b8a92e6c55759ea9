-- Stored writes and the fuse (document 01, "Power" and "Calls"): which rows a force, a flush and an opening store, how many writes they take, and which
-- write is the first that does not land. All hold by computing.
use mathlib.Core.Path.{◌≡◌, refl}
use mathlib.Core.Bool.{true}
use mathlib.Core.List.{List, [], ◌∷◌, ◌++◌, map}
use lib.ListN.{replicate, take}
use lib.IntN.{pos}
use Rattle.book.specs.Rows.{Row}
use Rattle.book.specs.Calls.{Call}
use Rattle.book.specs.Power.{Book, Fuse, none, left, formatted, closed}
use Rattle.book.specs.Book.{refused, opening, done, refused_by}
use Rattle.book.specs.Events.{Event, opens, calls, book_after}
use Rattle.book.specs.Cases.{Gives}
use Rattle.book.specs.Cells.{zeros}
use Rattle.book.proofs.WorkedExamples.{computes, visits}

-- an opening with this fuse, then these calls
abbrev session_with : Fuse → List Call → List Event
session_with f ks = opens true f ∷ map (calls true) ks

-- the book after them, from a formatted one on
abbrev after_session : Fuse → List Call → Book
after_session f ks = book_after zeros formatted (session_with f ks)

-- an open book with these rows stored, these waiting, and this fuse
abbrev open_book : List Row → List Row → Fuse → Book
open_book st wa f = record { stored = st; waiting = wa; fuse = f; is_open = true }

-- ── Force ─────────────────────────────────────────────────────────────────────────────────────────────────────────────

-- the force has two rows to store; that of the begin is stored before
abbrev two_changes : List Call
two_changes = Call.begin ∷ Call.change 1 0 (pos 5) ∷ Call.change 1 1 (pos 6) ∷ Call.force ∷ []

abbrev three_rows : List Row
three_rows = Row.begin 1 ∷ Row.change 1 0 (pos 5) ∷ Row.change 1 1 (pos 6) ∷ []

-- 01: "the number of stored writes that still land"
pub both-writes-land : after_session (left 4) two_changes ≡ open_book three_rows [] (left 1)
unfolding computes
both-writes-land = refl

-- the last write that lands leaves the book open
pub last-write-lands : after_session (left 3) two_changes ≡ open_book three_rows [] (left 0)
unfolding computes
last-write-lands = refl

-- 01: "the write after the last one doesn't land"
pub no-write-lands : after_session (left 0) two_changes ≡ closed []
unfolding computes
no-write-lands = refl

pub first-write-fails : after_session (left 1) two_changes ≡ closed (take 1 three_rows)
unfolding computes
first-write-fails = refl

pub second-write-fails : after_session (left 2) two_changes ≡ closed (take 2 three_rows)
unfolding computes
second-write-fails = refl

pub second-write-refused : Gives zeros (session_with (left 2) two_changes) (done (pos 0) ∷ done (pos 1) ∷ done (pos 2) ∷ done (pos 3) ∷ refused_by 5 ∷ [])
unfolding computes
second-write-refused = refl

-- with no write left the store is open until one is tried
pub open-with-none-left : Gives zeros (session_with (left 3) (two_changes ++ (Call.change 1 0 (pos 1) ∷ Call.read 0 ∷ Call.force ∷ Call.read 0 ∷ [])))
    (done (pos 0) ∷ done (pos 1) ∷ done (pos 2) ∷ done (pos 3) ∷ done (pos 0) ∷ done (pos 4) ∷ done (pos 6) ∷ refused_by 5 ∷ refused_by 5 ∷ [])
unfolding computes
open-with-none-left = refl

-- 01: "commit appends its row, forces"
pub commit-forces : after_session (left 5) (Call.begin ∷ Call.commit 1 ∷ []) ≡ open_book (Row.begin 1 ∷ Row.commit 1 ∷ []) [] (left 3)
unfolding computes
commit-forces = refl

-- 01: abort "doesn't force"
pub abort-waits : after_session (left 5) (Call.begin ∷ Call.abort 1 ∷ []) ≡ open_book (Row.begin 1 ∷ []) (Row.abort 1 ∷ []) (left 4)
unfolding computes
abort-waits = refl

-- 02, L2: the row of a whole visit waits, as that of a single hand-over does
abbrev two_cells : List Call
two_cells = Call.begin ∷ Call.begin ∷ Call.change 1 0 (pos 1) ∷ Call.change 1 7 (pos 1) ∷ []

pub hand-over-waits : after_session (left 5) (two_cells ++ (Call.hand_over 1 2 0 ∷ [])) ≡
    open_book (visits 2) (Row.change 1 0 (pos 1) ∷ Row.change 1 7 (pos 1) ∷ Row.hand_over 1 2 0 ∷ []) (left 3)
unfolding computes
hand-over-waits = refl

pub whole-visit-waits : after_session (left 5) (two_cells ++ (Call.hand_over_all 1 2 ∷ [])) ≡
    open_book (visits 2) (Row.change 1 0 (pos 1) ∷ Row.change 1 7 (pos 1) ∷ Row.hand_over_all 1 2 ∷ []) (left 3)
unfolding computes
whole-visit-waits = refl

-- ── Begin ─────────────────────────────────────────────────────────────────────────────────────────────────────────────

-- a visit with a change, and a second visit
abbrev begin_twice : List Call
begin_twice = Call.begin ∷ Call.change 1 0 (pos 5) ∷ Call.begin ∷ []

abbrev begin_twice_rows : List Row
begin_twice_rows = Row.begin 1 ∷ Row.change 1 0 (pos 5) ∷ Row.begin 2 ∷ []

-- 02, L4: "Begin shall force the log before it returns": its row where nothing waits, and else what waits and its row
pub begin-forces : after_session (left 2) (Call.begin ∷ []) ≡ open_book (visits 1) [] (left 1)
unfolding computes
begin-forces = refl

pub begin-forces-tail : after_session (left 3) begin_twice ≡ open_book begin_twice_rows [] (left 0)
unfolding computes
begin-forces-tail = refl

-- power fails at its row, which is then in no log
pub begin-cut : after_session (left 2) begin_twice ≡ closed (take 2 begin_twice_rows)
unfolding computes
begin-cut = refl

-- power fails at the row that waits
pub begin-cut-before : after_session (left 1) begin_twice ≡ closed (take 1 begin_twice_rows)
unfolding computes
begin-cut-before = refl

-- It answers 5 and has no number: the next begin that is done gets the number 2. The opening between wrote an undo row and an abort row.
pub number-of-cut-begin : Gives zeros (session_with (left 2) begin_twice ++ session_with none (Call.begin ∷ []))
    (done (pos 0) ∷ done (pos 1) ∷ done (pos 2) ∷ refused_by 5 ∷ done (pos 2) ∷ done (pos 2) ∷ [])
unfolding computes
number-of-cut-begin = refl

-- 02, L4: a number that was given is not given again, though nothing was forced after the begin and the visit is aborted by the opening
pub number-not-again : Gives zeros (session_with none (Call.begin ∷ []) ++ session_with none (Call.begin ∷ [])) (done (pos 0) ∷ done (pos 1) ∷ done (pos 1) ∷ done (pos 2) ∷ [])
unfolding computes
number-not-again = refl

-- a begin that is refused forces nothing: sixteen visits are active, no write is left, and the change goes on waiting
pub refused-begin-waits : after_session (left 16) (replicate 16 Call.begin ++ (Call.change 1 0 (pos 5) ∷ Call.begin ∷ [])) ≡
    open_book (visits 16) (Row.change 1 0 (pos 5) ∷ []) (left 0)
unfolding computes
refused-begin-waits = refl

-- ── Flush ─────────────────────────────────────────────────────────────────────────────────────────────────────────────

-- a change of the last cell of page 0, then one of the first of page 1
abbrev two_pages : List Call
two_pages = Call.begin ∷ Call.change 1 6 (pos 1) ∷ Call.change 1 7 (pos 1) ∷ []

-- 01: "forces the tail up to the page's mark": the change of page 1 waits
pub flush-up-to-mark : after_session none (two_pages ++ (Call.flush 0 ∷ [])) ≡
    open_book (Row.begin 1 ∷ Row.change 1 6 (pos 1) ∷ []) (Row.change 1 7 (pos 1) ∷ []) none
unfolding computes
flush-up-to-mark = refl

-- the change of page 0 stands before that of page 1
pub flush-rows-before : after_session none (two_pages ++ (Call.flush 1 ∷ [])) ≡ open_book (Row.begin 1 ∷ Row.change 1 6 (pos 1) ∷ Row.change 1 7 (pos 1) ∷ []) [] none
unfolding computes
flush-rows-before = refl

-- 01: "then writes the page, also if unchanged": a row and the page, then the page alone
pub flush-again : after_session (left 9) (two_pages ++ (Call.flush 0 ∷ Call.flush 0 ∷ [])) ≡
    open_book (Row.begin 1 ∷ Row.change 1 6 (pos 1) ∷ []) (Row.change 1 7 (pos 1) ∷ []) (left 5)
unfolding computes
flush-again = refl

pub flush-untouched : after_session (left 9) (two_pages ++ (Call.flush 2 ∷ [])) ≡
    open_book (Row.begin 1 ∷ []) (Row.change 1 6 (pos 1) ∷ Row.change 1 7 (pos 1) ∷ []) (left 7)
unfolding computes
flush-untouched = refl

-- the page's last row is an undo row; the abort row after it waits
pub flush-undo-row : after_session (left 9) (Call.begin ∷ Call.change 1 0 (pos 1) ∷ Call.abort 1 ∷ Call.flush 0 ∷ []) ≡
    open_book (Row.begin 1 ∷ Row.change 1 0 (pos 1) ∷ Row.undo 1 0 2 (pos 1) ∷ []) (Row.abort 1 ∷ []) (left 5)
unfolding computes
flush-undo-row = refl

-- the page's write is the one that does not land
pub flush-page-fails : after_session (left 2) (two_pages ++ (Call.flush 0 ∷ [])) ≡ closed (Row.begin 1 ∷ Row.change 1 6 (pos 1) ∷ [])
unfolding computes
flush-page-fails = refl

pub flush-with-none-left : Gives zeros (session_with (left 0) (Call.flush 0 ∷ [])) (done (pos 0) ∷ refused_by 5 ∷ [])
unfolding computes
flush-with-none-left = refl

-- ── Open ──────────────────────────────────────────────────────────────────────────────────────────────────────────────

-- two visits, and a change by each
abbrev open_rows : List Row
open_rows = Row.begin 1 ∷ Row.begin 2 ∷ Row.change 1 0 (pos 5) ∷ Row.change 2 1 (pos 6) ∷ []

-- 01: "open changes fall in descending row number over all visits, each by an undo row. Then an abort row for each active visit, highest number first"
abbrev closing_rows : List Row
closing_rows = Row.undo 2 1 4 (pos 6) ∷ Row.undo 1 0 3 (pos 5) ∷ Row.abort 2 ∷ Row.abort 1 ∷ []

pub opening-takes-back : opening (closed open_rows) true (left 4) ≡
    record { answer = done (pos 4); book = open_book (open_rows ++ closing_rows) [] (left 0) }
unfolding computes
opening-takes-back = refl

pub opening-cut : opening (closed open_rows) true (left 3) ≡ refused 5 (closed (open_rows ++ take 3 closing_rows))
unfolding computes
opening-cut = refl
