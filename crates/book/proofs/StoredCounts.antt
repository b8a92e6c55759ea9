-- The stored writes of openings and calls (document 02, L1), rows and pages: which of them count for which call, and where power fails. All hold by computing.
use Prim.Native.Nat.{ℕ}
use mathlib.Core.Path.{◌≡◌, refl}
use mathlib.Core.Bool.{true, false}
use mathlib.Core.List.{List, [], ◌∷◌, ◌++◌, map}
use lib.ListN.{replicate}
use lib.IntN.{pos}
use Rattle.book.specs.Lists.{tabulate}
use Rattle.book.specs.Rows.{Row}
use Rattle.book.specs.Calls.{Call}
use Rattle.book.specs.Power.{Fuse, none, left, formatted, closed}
use Rattle.book.specs.Events.{Event, opens, calls, book_after}
use Rattle.book.specs.Writes.{Writes, no_writes}
use Rattle.book.specs.SessionWrites.{event_writes, writes}
use Rattle.book.specs.Cells.{zeros}
use Rattle.book.proofs.WorkedExamples.{computes}

abbrev counts : ℕ → ℕ → Writes
counts rows pages = record { rows = rows; pages = pages }

-- an opening of a formatted store with this fuse, then these calls
abbrev session_with : Fuse → List Call → List Event
session_with f ks = opens true f ∷ map (calls true) ks

-- the counts of a call that comes after these
abbrev last_counts : Fuse → List Call → Call → Writes
last_counts f ks k = event_writes zeros (book_after zeros formatted (session_with f ks)) (calls true k)

-- ── Commit and force ──────────────────────────────────────────────────────────────────────────────────────────────────

-- rows count for the call that stores them, not for those that made them
pub commit-counts : writes zeros formatted (session_with none (Call.begin ∷ Call.change 1 0 (pos 5) ∷ Call.commit 1 ∷ [])) ≡
    no_writes ∷ counts 1 0 ∷ no_writes ∷ counts 2 0 ∷ []
unfolding computes
commit-counts = refl

-- power fails in the middle of a commit: one of its two rows landed. The store is closed then, and further calls land nothing.
pub cut-commit-counts : writes zeros formatted (session_with (left 2) (Call.begin ∷ Call.change 1 0 (pos 5) ∷ Call.commit 1 ∷ Call.force ∷ Call.flush 0 ∷ [])) ≡
    no_writes ∷ counts 1 0 ∷ no_writes ∷ counts 1 0 ∷ no_writes ∷ no_writes ∷ []
unfolding computes
cut-commit-counts = refl

-- a begin, and a change of each of two cells
abbrev two_changes : List Call
two_changes = Call.begin ∷ Call.change 1 0 (pos 5) ∷ Call.change 1 1 (pos 6) ∷ []

pub cut-force-counts : last_counts (left 2) two_changes Call.force ≡ counts 1 0
unfolding computes
cut-force-counts = refl

-- a force stores what waits; a second one nothing
pub force-counts : writes zeros formatted (session_with none (two_changes ++ (Call.force ∷ Call.force ∷ []))) ≡
    no_writes ∷ counts 1 0 ∷ no_writes ∷ no_writes ∷ counts 2 0 ∷ no_writes ∷ []
unfolding computes
force-counts = refl

-- ── Begin ─────────────────────────────────────────────────────────────────────────────────────────────────────────────

-- 02, L4: a begin counts its row, and those that waited
pub begin-counts : writes zeros formatted (session_with none (Call.begin ∷ Call.begin ∷ Call.change 1 0 (pos 5) ∷ Call.begin ∷ [])) ≡
    no_writes ∷ counts 1 0 ∷ counts 1 0 ∷ no_writes ∷ counts 2 0 ∷ []
unfolding computes
begin-counts = refl

-- power fails at the row of the begin, at the first of the rows that waited, and where nothing waited
pub cut-begin-counts : last_counts (left 3) two_changes Call.begin ≡ counts 2 0
unfolding computes
cut-begin-counts = refl

pub cut-tail-of-begin-counts : last_counts (left 1) two_changes Call.begin ≡ no_writes
unfolding computes
cut-tail-of-begin-counts = refl

pub cut-first-begin-counts : writes zeros formatted (session_with (left 0) (Call.begin ∷ Call.begin ∷ [])) ≡ no_writes ∷ no_writes ∷ no_writes ∷ []
unfolding computes
cut-first-begin-counts = refl

-- a begin that is refused counts nothing, though a row waits
pub refused-begin-counts : last_counts none (replicate 16 Call.begin ++ (Call.change 1 0 (pos 5) ∷ [])) Call.begin ≡ no_writes
unfolding computes
refused-begin-counts = refl

-- ── Flush ─────────────────────────────────────────────────────────────────────────────────────────────────────────────

-- a change of the last cell of page 0, then one of the first of page 1
abbrev two_pages : List Call
two_pages = Call.begin ∷ Call.change 1 6 (pos 1) ∷ Call.change 1 7 (pos 1) ∷ []

-- the rows up to the page's mark, and the page
pub flush-counts : last_counts (left 3) two_pages (Call.flush 0) ≡ counts 1 1
unfolding computes
flush-counts = refl

-- no row of the page waits
pub flush-untouched-counts : last_counts (left 2) two_pages (Call.flush 2) ≡ counts 0 1
unfolding computes
flush-untouched-counts = refl

-- the rows of a cut flush count, its page does not
pub flush-page-fails-counts : last_counts (left 2) two_pages (Call.flush 0) ≡ counts 1 0
unfolding computes
flush-page-fails-counts = refl

pub flush-row-fails-counts : last_counts (left 2) two_pages (Call.flush 1) ≡ counts 1 0
unfolding computes
flush-row-fails-counts = refl

-- ── A full tail ───────────────────────────────────────────────────────────────────────────────────────────────────────

-- a begin and n changes: the begin row is stored, and the others wait, 64 at most
abbrev changes : ℕ → List Call
changes n = Call.begin ∷ tabulate n 0 (λ c. Call.change 1 0 (pos 1))

-- 64 rows wait; the change that comes next stores them first, and waits itself
pub full-tail-counts : last_counts (left 65) (changes 64) (Call.change 1 0 (pos 1)) ≡ counts 64 0
unfolding computes
full-tail-counts = refl

-- one row less waits, and nothing is stored
pub almost-full-tail-counts : last_counts (left 65) (changes 63) (Call.change 1 0 (pos 1)) ≡ no_writes
unfolding computes
almost-full-tail-counts = refl

pub cut-full-tail-counts : last_counts (left 64) (changes 64) (Call.change 1 0 (pos 1)) ≡ counts 63 0
unfolding computes
cut-full-tail-counts = refl

-- 02, L2: 64 changes wait; the hand-over of the whole visit stores them first, and waits itself
pub whole-visit-full-tail-counts : last_counts (left 66) (Call.begin ∷ changes 64) (Call.hand_over_all 1 2) ≡ counts 64 0
unfolding computes
whole-visit-full-tail-counts = refl

-- 02, L4: with 64 rows waiting a begin stores them, then its own: 65. With one less waiting all 64 go in one force.
pub full-tail-begin-counts : last_counts (left 66) (changes 64) Call.begin ≡ counts 65 0
unfolding computes
full-tail-begin-counts = refl

pub almost-full-tail-begin-counts : last_counts (left 65) (changes 63) Call.begin ≡ counts 64 0
unfolding computes
almost-full-tail-begin-counts = refl

-- cut before its own row, and at the last of the 64
pub cut-full-tail-begin-counts : last_counts (left 65) (changes 64) Call.begin ≡ counts 64 0
unfolding computes
cut-full-tail-begin-counts = refl

pub cut-in-full-tail-begin-counts : last_counts (left 64) (changes 64) Call.begin ≡ counts 63 0
unfolding computes
cut-in-full-tail-begin-counts = refl

-- An abort of 64 changes makes 64 undo rows and an abort row. With 64 rows waiting, the tail is full before the first undo row and before the abort row: the
-- abort stores 128.
pub abort-counts : last_counts none (changes 64) (Call.abort 1) ≡ counts 128 0
unfolding computes
abort-counts = refl

-- and where 95 writes land in the session, 94 of them land in the abort
pub cut-abort-counts : last_counts (left 95) (changes 64) (Call.abort 1) ≡ counts 94 0
unfolding computes
cut-abort-counts = refl

-- ── Open ──────────────────────────────────────────────────────────────────────────────────────────────────────────────

-- two visits, and a change by each: the opening stores two undo rows and two abort rows
abbrev open_rows : List Row
open_rows = Row.begin 1 ∷ Row.begin 2 ∷ Row.change 1 0 (pos 5) ∷ Row.change 2 1 (pos 6) ∷ []

pub opening-counts : event_writes zeros (closed open_rows) (opens true (left 4)) ≡ counts 4 0
unfolding computes
opening-counts = refl

pub cut-opening-counts : event_writes zeros (closed open_rows) (opens true (left 3)) ≡ counts 3 0
unfolding computes
cut-opening-counts = refl

-- ── Refusals ──────────────────────────────────────────────────────────────────────────────────────────────────────────

-- an opening and a call that are refused by 1, a visit that is not active, a page that there is not: nothing lands, and the fuse of the first opening runs on
pub refusals-count-nothing : writes zeros formatted
    (opens true (left 2) ∷ calls true Call.begin ∷ opens false none ∷ calls false Call.force ∷ calls true (Call.commit 2) ∷ calls true (Call.flush 32) ∷
    calls true (Call.change 1 0 (pos 5)) ∷ calls true Call.begin ∷ []) ≡
    no_writes ∷ counts 1 0 ∷ no_writes ∷ no_writes ∷ no_writes ∷ no_writes ∷ no_writes ∷ counts 1 0 ∷ []
unfolding computes
refusals-count-nothing = refl
