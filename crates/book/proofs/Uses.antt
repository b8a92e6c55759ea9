-- What the statements of specs/ say of worked examples: each field, taken to a fact about rows, answers or numbers. A field that says less, or nothing, leaves
-- its fact unproved. So that computing does not prove the fact without the field, what is computed stands apart, and nothing is unfolded where a field is used.
use Prim.Native.Nat.{ℕ, ◌+◌, ◌≤◌, ◌<◌}
use native.Mathlib.Omega.{arith}
use mathlib.Core.Path.{◌≡◌, refl, ap, sym, ◌∙◌}
use mathlib.Core.Bool.{true, false, ◌&&◌}
use mathlib.Core.Logic.{◌≢◌}
use mathlib.Core.List.Memᴰ
use mathlib.Core.List.{List, [], ◌∷◌, ◌++◌, map}
use lib.ListN.{length, get_or, take, replicate}
use lib.IntN.{ℤ, pos, negsuc}
use Rattle.book.specs.Lists.{keep, member}
use Rattle.book.specs.Rows.{Row, is_cell, is_undo, fits}
use Rattle.book.specs.Ledger.{Ledger, only, after, ledger}
use Rattle.book.specs.Rules.{reserve, scope_fits, holds_any, lawful, within_limits, allowed, allowed_log}
use Rattle.book.specs.Scopes.{scopes_of}
use Rattle.book.specs.Calls.{Call}
use Rattle.book.specs.Power.{Book, Fuse, none, left, formatted}
use Rattle.book.specs.Cells.{zeros, kept_sum}
use Rattle.book.specs.Book.{Answer, answer, done, refused_by, refusal, starting, reopen, opening}
use Rattle.book.specs.Events.{Event, opens, calls, happens, answers, book_after}
use Rattle.book.specs.Writes.{Writes, opening_writes}
use Rattle.book.specs.SessionWrites.{writes, summed, together, Counted, flushes_done, SessionCounts}
use Rattle.book.specs.Swapped.{event_for, DoneOrCut, one_then_other, EitherOrder}
use Rattle.book.specs.OpeningCost.{BeginsAndChanges, Cost, costliest, Costliest}
use Rattle.book.specs.HandOverAll.{but_rows, HasHeld, held_cells, all_lawful, MeansSingles, number_after, renumbered_change, renumbered_scope, Renumbered, CountsAlike, AcceptedAlike, AllowedAlike}
use Rattle.book.specs.RowBytes.{row_bytes, row_of}
use Rattle.book.specs.Numbers.{AreBytes}
use Rattle.book.specs.LogBytes.{log_bytes, good, bad, read_log}
use Rattle.book.specs.Reading.{bytes_of_row, Reason, wrong_bytes, breaks_rule, over_limit, BadFor, ReadsExactly, Demand2Reading}
use Rattle.book.specs.Pages.{cell_of}
use Rattle.book.specs.Cases.{session, then, changes_of, cut_after_flush, first_opening, second_opening}
use Rattle.book.specs.OldLogs.{old_fits, old_allowed_log, old_row_bytes, old_log_bytes, OldRows, OldLog, OldLogs}
use Rattle.book.proofs.Lists.{clash, in-cons}
use Rattle.book.proofs.HandOverAll.{hand-over-all-accepted, hand-over-all-allowed}
use Rattle.book.proofs.HeldCells.{has-held, hand-over-all-means}
use Rattle.book.proofs.LaterRows.{hand-over-all-later, hand-over-all-counts}
use Rattle.book.proofs.InvariantKept.{inv-log}
use Rattle.book.proofs.OldLogs.{old-rows, old-logs}
use Rattle.book.proofs.Sound.{sound-formatted, sound-events}
use Rattle.book.proofs.SessionWrites.{session-counts}
use Rattle.book.proofs.Swapped.{either_order}
use Rattle.book.proofs.Reading.{demand-2-reading}
use Rattle.book.proofs.OpeningCost.{reopen-cost}
use Rattle.book.proofs.CostliestLogs.{costliest-log}
use Rattle.book.proofs.WorkedExamples.{computes}
use Rattle.book.proofs.Cases.{cases}
use Rattle.book.proofs.TwoOrders.{of_cell0, of_cell7, three_visits, accepted-in-order}

-- ── 01: the cases marked * ────────────────────────────────────────────────────────────────────────────────────────────

-- answer n of these, the opening's being answer 0
abbrev answer_at : List Answer → ℕ → Answer
answer_at xs n = get_or xs n (done (pos 0))

pub empty-opens : answers zeros formatted (opens true (left 0) ∷ []) ≡ done (pos 0) ∷ []
empty-opens = cases.0

pub two-visits : answer_at (answers zeros formatted
    (session (Call.begin ∷ Call.begin ∷ Call.change 1 0 (pos 300) ∷ Call.change 2 0 (negsuc 199) ∷ Call.commit 2 ∷ Call.abort 1 ∷ Call.read 0 ∷ []))) 7 ≡ done (negsuc 199)
two-visits = ap (λ (xs : List Answer). answer_at xs 7) cases.1

pub handed-is-kept : answer_at (answers zeros formatted
    (session (Call.begin ∷ Call.change 1 0 (pos 70) ∷ Call.begin ∷ Call.hand_over 1 2 0 ∷ Call.abort 1 ∷ Call.commit 2 ∷ Call.read 0 ∷ []))) 7 ≡ done (pos 70)
handed-is-kept = ap (λ (xs : List Answer). answer_at xs 7) cases.2

pub later-change-stays : answer_at (answers zeros formatted
    (session (Call.begin ∷ Call.begin ∷ Call.change 1 0 (pos 10) ∷ Call.hand_over 1 2 0 ∷ Call.change 1 0 (pos 5) ∷ Call.commit 1 ∷ Call.abort 2 ∷ Call.read 0 ∷ []))) 8 ≡ done (pos 5)
later-change-stays = ap (λ (xs : List Answer). answer_at xs 8) cases.3

pub handed-back : answer_at (answers zeros formatted
    (session (Call.begin ∷ Call.begin ∷ Call.change 1 0 (pos 10) ∷ Call.hand_over 1 2 0 ∷ Call.change 1 0 (pos 5) ∷ Call.hand_over 2 1 0 ∷ Call.commit 1 ∷ Call.abort 2 ∷ Call.read 0 ∷ []))) 9 ≡ done (pos 15)
handed-back = ap (λ (xs : List Answer). answer_at xs 9) cases.4

pub lowest-undone : answer_at (answers (λ c. pos 5) formatted (session (Call.begin ∷ Call.change 1 0 (negsuc 32767) ∷ Call.abort 1 ∷ Call.read 0 ∷ []))) 4 ≡ done (pos 5)
lowest-undone = ap (λ (xs : List Answer). answer_at xs 4) cases.5

pub last-cell : answers zeros formatted (session (Call.begin ∷ Call.change 1 223 (pos 1) ∷ Call.change 1 224 (pos 1) ∷ [])) ≡
    done (pos 0) ∷ done (pos 1) ∷ done (pos 2) ∷ refused_by 10 ∷ []
last-cell = cases.6

pub to-oneself : answer_at (answers zeros formatted (session (Call.begin ∷ Call.change 1 0 (pos 1) ∷ Call.hand_over 1 1 0 ∷ []))) 3 ≡ refused_by 12
to-oneself = ap (λ (xs : List Answer). answer_at xs 3) cases.7

pub untouched-cell : answer_at (answers zeros formatted (session (Call.begin ∷ Call.begin ∷ Call.change 1 0 (pos 1) ∷ Call.hand_over 1 2 1 ∷ []))) 4 ≡ refused_by 13
untouched-cell = ap (λ (xs : List Answer). answer_at xs 4) cases.8

pub one-visit-fills : (then (changes_of 2046) (Call.change 1 0 (pos 1)) ≡ done (pos 2048)) × (then (changes_of 2047) (Call.change 1 0 (pos 1)) ≡ refused_by 8)
one-visit-fills = (cases.9.0, cases.9.1)

pub next-begin-is-7 : then (session (replicate 16 Call.begin)) Call.begin ≡ refused_by 7
next-begin-is-7 = cases.10

-- the last, over rows and over bytes
pub undone-once-in-log : keep is_undo (book_after zeros formatted cut_after_flush).stored ≡ Row.undo 1 0 2 (pos 9) ∷ []
undone-once-in-log = cases.11.0.1

pub two-rows-written : first_opening.answer ≡ done (pos 2)
two-rows-written = cases.11.1.first

pub cell-of-first : cell_of first_opening.copy 0 ≡ pos 0
cell-of-first = cases.11.1.cell

pub none-written-again : second_opening.answer ≡ done (pos 0)
none-written-again = cases.11.1.second

pub cell-of-second : cell_of second_opening.copy 0 ≡ pos 0
cell-of-second = cases.11.1.again

-- ── 02, L2: a whole visit ─────────────────────────────────────────────────────────────────────────────────────────────

-- 1 changes the first cell and the last, 2 another one
abbrev two_cells : List Row
two_cells = Row.begin 1 ∷ Row.begin 2 ∷ Row.change 1 0 (pos 70) ∷ Row.change 1 223 (negsuc 19) ∷ Row.change 2 5 (pos 1) ∷ []

cells-allowed : allowed_log two_cells ≡ true
unfolding computes
cells-allowed = refl

two-lawful : lawful (ledger two_cells) (Row.hand_over_all 1 2) ≡ true
unfolding computes
two-lawful = refl

two-mean : MeansSingles (ledger two_cells) 1 2
two-mean = hand-over-all-means two_cells 1 2 cells-allowed two-lawful

two-held : held_cells (ledger two_cells) 1 ≡ 0 ∷ 223 ∷ []
unfolding computes
two-held = refl

-- that 1 holds a change of cell 223, none of cell 5, and none of cell 224, which is no cell
held-223 : (holds_any (ledger two_cells) 1 (only 223) && is_cell 223) ≡ true
unfolding computes
held-223 = refl

held-5 : (holds_any (ledger two_cells) 1 (only 5) && is_cell 5) ≡ false
unfolding computes
held-5 = refl

pub listed-223 : member 223 (held_cells (ledger two_cells) 1) ≡ true
listed-223 = two-mean.cells 223 ∙ held-223

pub not-listed-5 : member 5 (held_cells (ledger two_cells) 1) ≡ false
not-listed-5 = two-mean.cells 5 ∙ held-5

pub singles-follow : all_lawful (ledger two_cells) (Row.hand_over 1 2 0 ∷ Row.hand_over 1 2 223 ∷ []) ≡ true
singles-follow = rw two-held at two-mean.follow

pub same-as-singles : but_rows (after (ledger two_cells) (Row.hand_over_all 1 2)) ≡
    but_rows (after (after (ledger two_cells) (Row.hand_over 1 2 0)) (Row.hand_over 1 2 223))
same-as-singles = rw two-held at two-mean.same

-- the book with these rows stored
abbrev two_stored : Book
two_stored = starting none two_cells

two-alike : AcceptedAlike two_stored 1 2
unfolding computes
two-alike = hand-over-all-accepted two_stored 1 2 refl

whole-accepted : refusal two_stored (Call.hand_over_all 1 2) ≡ 0
unfolding computes
whole-accepted = refl

single-accepted : refusal two_stored (Call.hand_over 1 2 223) ≡ 0
unfolding computes
single-accepted = refl

pub some-single-accepted : (c : ℕ) × (refusal two_stored (Call.hand_over 1 2 c) ≡ 0)
some-single-accepted = two-alike.some whole-accepted

pub accepted-as-a-single : refusal two_stored (Call.hand_over_all 1 2) ≡ 0
accepted-as-a-single = two-alike.all 223 single-accepted

whole-allowed : allowed (ledger two_cells) (Row.hand_over_all 1 2) ≡ true
unfolding computes
whole-allowed = refl

single-allowed : allowed (ledger two_cells) (Row.hand_over 1 2 223) ≡ true
unfolding computes
single-allowed = refl

pub some-single-allowed : (c : ℕ) × (allowed (ledger two_cells) (Row.hand_over 1 2 c) ≡ true)
some-single-allowed = (hand-over-all-allowed two_cells 1 2 cells-allowed).some whole-allowed

pub allowed-as-a-single : allowed (ledger two_cells) (Row.hand_over_all 1 2) ≡ true
allowed-as-a-single = (hand-over-all-allowed two_cells 1 2 cells-allowed).all 223 single-allowed

-- a change by 2 follows: row 7, and row 8 after the two single hand-overs
abbrev whole_then_change : List Row
whole_then_change = two_cells ++ (Row.hand_over_all 1 2 ∷ Row.change 2 0 (pos 3) ∷ [])

abbrev singles_then_change : List Row
singles_then_change = two_cells ++ (Row.hand_over 1 2 0 ∷ Row.hand_over 1 2 223 ∷ Row.change 2 0 (pos 3) ∷ [])

two-apart : ◌≢◌ {A = ℕ} 1 2
two-apart e = omega arith

has_both : HasHeld (ledger two_cells) 1 (0 ∷ 223 ∷ [])
has_both = rw two-held at (has-held (ledger two_cells) 1 (inv-log two_cells cells-allowed))

later-alike : Renumbered (number_after 5 1) (ledger whole_then_change) (ledger singles_then_change)
later-alike = hand-over-all-later two_cells 1 2 0 (223 ∷ []) cells-allowed two-apart has_both (Row.change 2 0 (pos 3) ∷ [])

later-counts : CountsAlike (number_after 5 1) (ledger whole_then_change) (ledger singles_then_change)
later-counts = hand-over-all-counts two_cells 1 2 0 (223 ∷ []) cells-allowed two-apart has_both (Row.change 2 0 (pos 3) ∷ [])

-- what is computed of the one row
undo-of-7 : lawful (ledger whole_then_change) (Row.undo 2 0 7 (pos 3)) ≡ true
unfolding computes
undo-of-7 = refl

whole-of-two : ((ledger whole_then_change).begun ≡ 2) × ((ledger whole_then_change).active ≡ 2 ∷ 1 ∷ []) × ((ledger whole_then_change).committed ≡ []) ×
    ((ledger whole_then_change).undoing ≡ []) × ((ledger whole_then_change).undone ≡ []) ×
    (map (λ x. x.row) (map (renumbered_change (number_after 5 1)) (ledger whole_then_change).changes) ≡ 8 ∷ 5 ∷ 4 ∷ 3 ∷ [])
unfolding computes
whole-of-two = (refl, refl, refl, refl, refl, refl)

whole-counts : (scope_fits (ledger whole_then_change) 1 9 ≡ true) × (reserve (ledger whole_then_change) ≡ 6) ×
    (map (λ s. s.first) (map (renumbered_scope (number_after 5 1)) (scopes_of (ledger whole_then_change))) ≡ 8 ∷ 5 ∷ 4 ∷ 3 ∷ [])
unfolding computes scopes_of
whole-counts = (refl, refl, refl)

pub undo-of-8-lawful : lawful (ledger singles_then_change) (Row.undo 2 0 8 (pos 3)) ≡ true
undo-of-8-lawful = later-counts.rules (Row.undo 2 0 7 (pos 3)) ∙ undo-of-7

pub later-active : (ledger singles_then_change).active ≡ 2 ∷ 1 ∷ []
later-active = later-counts.active ∙ whole-of-two.1

pub later-scope-fits : scope_fits (ledger singles_then_change) 1 9 ≡ true
later-scope-fits = later-counts.fits 1 9 ∙ whole-counts.0

pub later-reserve : reserve (ledger singles_then_change) ≡ 6
later-reserve = later-counts.reserve ∙ whole-counts.1

pub later-scopes : map (λ s. s.first) (scopes_of (ledger singles_then_change)) ≡ 8 ∷ 5 ∷ 4 ∷ 3 ∷ []
later-scopes = ap (map (λ s. s.first)) later-counts.scopes ∙ whole-counts.2

pub later-ledger : ((ledger singles_then_change).begun ≡ 2) × ((ledger singles_then_change).active ≡ 2 ∷ 1 ∷ []) × ((ledger singles_then_change).committed ≡ []) ×
    ((ledger singles_then_change).undoing ≡ []) × ((ledger singles_then_change).undone ≡ []) × (map (λ x. x.row) (ledger singles_then_change).changes ≡ 8 ∷ 5 ∷ 4 ∷ 3 ∷ [])
later-ledger = (
  later-alike.begun ∙ whole-of-two.0,
  later-alike.active ∙ whole-of-two.1,
  later-alike.committed ∙ whole-of-two.2,
  later-alike.undoing ∙ whole-of-two.3,
  later-alike.undone ∙ ap (map (number_after 5 1)) whole-of-two.4,
  ap (map (λ x. x.row)) later-alike.changes ∙ whole-of-two.5,
)

-- ── 02, L7: old logs ──────────────────────────────────────────────────────────────────────────────────────────────────

old-hand-over : old_row_bytes 258 (Row.hand_over 255 254 9) ≡ 3 ∷ 255 ∷ 254 ∷ 9 ∷ 2 ∷ 1 ∷ 0 ∷ 0 ∷ 0 ∷ 0 ∷ 0 ∷ 0 ∷ 0 ∷ 0 ∷ 0 ∷ 0 ∷ []
unfolding old_row_bytes
old-hand-over = refl

hand-over-fits : old_fits (Row.hand_over 255 254 9) ≡ true
unfolding old_fits
hand-over-fits = refl

pub bytes-of-before : row_bytes 258 (Row.hand_over 255 254 9) ≡ 3 ∷ 255 ∷ 254 ∷ 9 ∷ 2 ∷ 1 ∷ 0 ∷ 0 ∷ 0 ∷ 0 ∷ 0 ∷ 0 ∷ 0 ∷ 0 ∷ 0 ∷ 0 ∷ []
unfolding OldRows
bytes-of-before = old-rows 258 (Row.hand_over 255 254 9) hand-over-fits ∙ old-hand-over

-- a log of two rows
abbrev old_log : List Row
old_log = Row.begin 1 ∷ Row.commit 1 ∷ []

two-rows-allowed : old_allowed_log old_log ≡ true
unfolding computes old_fits
two-rows-allowed = refl

two-old : OldLog old_log
unfolding OldLogs
two-old = old-logs old_log two-rows-allowed

two-rows-bytes : take 32 (old_log_bytes old_log) ≡
    1 ∷ 1 ∷ 0 ∷ 0 ∷ 1 ∷ 0 ∷ 0 ∷ 0 ∷ 0 ∷ 0 ∷ 0 ∷ 0 ∷ 0 ∷ 0 ∷ 0 ∷ 0 ∷ 5 ∷ 1 ∷ 0 ∷ 0 ∷ 2 ∷ 0 ∷ 0 ∷ 0 ∷ 0 ∷ 0 ∷ 0 ∷ 0 ∷ 0 ∷ 0 ∷ 0 ∷ 0 ∷ []
unfolding old_log_bytes old_row_bytes
two-rows-bytes = refl

pub old-log-allowed : allowed_log old_log ≡ true
old-log-allowed = two-old.allowed

pub old-log-bytes : take 32 (log_bytes old_log) ≡
    1 ∷ 1 ∷ 0 ∷ 0 ∷ 1 ∷ 0 ∷ 0 ∷ 0 ∷ 0 ∷ 0 ∷ 0 ∷ 0 ∷ 0 ∷ 0 ∷ 0 ∷ 0 ∷ 5 ∷ 1 ∷ 0 ∷ 0 ∷ 2 ∷ 0 ∷ 0 ∷ 0 ∷ 0 ∷ 0 ∷ 0 ∷ 0 ∷ 0 ∷ 0 ∷ 0 ∷ 0 ∷ []
old-log-bytes = ap (take 32) two-old.bytes ∙ two-rows-bytes

pub old-log-read : read_log (old_log_bytes old_log) ≡ good old_log
old-log-read = two-old.read

-- ── 02, L1: the counts of a session ───────────────────────────────────────────────────────────────────────────────────

-- a visit begins and changes cell 0, and the page of the cell is flushed: two rows and a page, three writes
abbrev flushing : List Event
flushing = map (calls true) (Call.begin ∷ Call.change 1 0 (pos 9) ∷ Call.flush 0 ∷ [])

abbrev flushed : Fuse → List Event
flushed f = opens true f ∷ flushing

-- what landed with this fuse
abbrev landed : Fuse → Writes
landed f = summed (writes zeros formatted (flushed f))

session-of-a-flush : (f : Fuse) → SessionCounts f [] (landed f) (flushes_done zeros formatted (flushed f)) (book_after zeros formatted (flushed f))
session-of-a-flush f = session-counts zeros formatted f flushing sound-formatted (tt, (tt, (tt, tt))) (refl, (refl, (refl, tt)))

rows-2 : 0 + (landed (left 3)).rows ≡ 2
unfolding computes
rows-2 = refl

one-flush : flushes_done zeros formatted (flushed (left 3)) ≡ 1
unfolding computes
one-flush = refl

still_open : (book_after zeros formatted (flushed (left 3))).is_open ≡ true
unfolding computes
still_open = refl

none_left : (book_after zeros formatted (flushed (left 3))).fuse ≡ left 0
unfolding computes
none_left = refl

burnt-out : (book_after zeros formatted (flushed (left 2))).is_open ≡ false
unfolding computes
burnt-out = refl

pub two-rows-stored : length (book_after zeros formatted (flushed (left 3))).stored ≡ 2
two-rows-stored = (session-of-a-flush (left 3)).rows ∙ rows-2

pub one-page-counted : (landed (left 3)).pages ≡ 1
one-page-counted = (session-of-a-flush (left 3)).pages ∙ one-flush

fuse-counted : (f : Fuse) → Counted f (landed f) (book_after zeros formatted (flushed f))
fuse-counted f = (session-of-a-flush f).fuse

left-number : (m n : ℕ) → left m ≡ left n → m ≡ n
left-number m n e = cc

-- with three writes the fuse holds, and three are counted; with two it burns, and two are
pub three-counted : together (landed (left 3)) + 0 ≡ 3
three-counted = sym (left-number 3 _ (rw none_left at ((fuse-counted (left 3)).held still_open)))

pub two-counted : together (landed (left 2)) ≡ 2
two-counted = sym (left-number 2 _ ((fuse-counted (left 2)).burnt burnt-out))

-- ── 02, L5: two hand-overs in either order ────────────────────────────────────────────────────────────────────────────

-- three writes land, those of the begin rows; an opening follows at once
abbrev three : Book
three = book_after zeros formatted (three_visits (left 3))

abbrev read_again : List Event
read_again = calls true (Call.read 0) ∷ opens true none ∷ calls true (Call.read 0) ∷ []

orders : EitherOrder zeros three of_cell0 of_cell7 read_again
orders = either_order zeros three of_cell0 of_cell7 read_again
    (sound-events zeros formatted (three_visits (left 3)) sound-formatted (tt, (tt, (tt, (tt, (tt, (tt, tt)))))))
    (tt, (tt, (tt, tt))) (accepted-in-order zeros 0)

-- what is computed of the one order
in-order-answers : answers zeros three (one_then_other of_cell0 of_cell7 read_again) ≡
    done (pos 6) ∷ done (pos 7) ∷ done (pos 70) ∷ done (pos 3) ∷ done (pos 0) ∷ []
unfolding computes
in-order-answers = refl

abbrev three_rows : List Writes
three_rows = record { rows = 0; pages = 0 } ∷ record { rows = 0; pages = 0 } ∷ record { rows = 0; pages = 0 } ∷ record { rows = 3; pages = 0 } ∷
    record { rows = 0; pages = 0 } ∷ []

in-order-counts : writes zeros three (one_then_other of_cell0 of_cell7 read_again) ≡ three_rows
unfolding computes
in-order-counts = refl

in-order-ready : (opening (book_after zeros three (one_then_other of_cell0 of_cell7 read_again)) true none).answer.number ≡ 0
unfolding computes
in-order-ready = refl

in-order-sum : kept_sum zeros (opening (book_after zeros three (one_then_other of_cell0 of_cell7 read_again)) true none).book.stored 7 ≡ pos 0
unfolding computes kept_sum
in-order-sum = refl

pub swapped-first-accepted : (happens zeros three (event_for of_cell7)).answer.number ≡ 0
swapped-first-accepted = orders.accepted.first

pub swapped-second-accepted : DoneOrCut (happens zeros (happens zeros three (event_for of_cell7)).book (event_for of_cell0)).answer.number
swapped-second-accepted = orders.accepted.second

pub swapped-answers : answers zeros three (one_then_other of_cell7 of_cell0 read_again) ≡
    done (pos 6) ∷ done (pos 7) ∷ done (pos 70) ∷ done (pos 3) ∷ done (pos 0) ∷ []
swapped-answers = orders.answers ∙ in-order-answers

pub swapped-counts : writes zeros three (one_then_other of_cell7 of_cell0 read_again) ≡ three_rows
swapped-counts = orders.counts ∙ in-order-counts

pub swapped-sum : kept_sum zeros (opening (book_after zeros three (one_then_other of_cell7 of_cell0 read_again)) true none).book.stored 7 ≡ pos 0
swapped-sum = orders.sums none in-order-ready 7 ∙ in-order-sum

-- ── 02, L6: the cost of an opening ────────────────────────────────────────────────────────────────────────────────────

-- a begin and a change: an opening writes two rows, the undo row and the abort row
abbrev two_rows : List Row
two_rows = Row.begin 1 ∷ Row.change 1 0 (pos 1) ∷ []

-- what an opening of these rows costs
abbrev Costs : List Row → Type 0
Costs rs = Cost rs (reopen none rs).answer (opening_writes rs (reopen none rs))

-- the rows that it writes
abbrev written : List Row → ℕ
written rs = (opening_writes rs (reopen none rs)).rows

rows-allowed : allowed_log two_rows ≡ true
unfolding computes
rows-allowed = refl

two-cost : Costs two_rows
two-cost = reopen-cost none two_rows rows-allowed

two_ready : (reopen none two_rows).answer.number ≡ 0
unfolding computes
two_ready = refl

two-each : BeginsAndChanges two_rows
two-each = in-cons refl (in-cons refl (λ r m. absurd (Memᴰ.not-nil m)))

pub at-most-2 : written two_rows ≤ 2
at-most-2 = two-cost.most

pub at-most-4094 : written two_rows ≤ 4094
at-most-4094 = two-cost.free

pub at-most-2048 : written two_rows ≤ 2048
at-most-2048 = two-cost.worst

-- whatever counts an opening of these rows gives
pub no-page-written : (w : Writes) → Cost two_rows (done (pos 2)) w → w.pages ≡ 0
no-page-written w c = c.pages

pub two-written : written two_rows ≡ 2
two-written = (two-cost.reaches two_ready).1 two-each

pub reported-as-written : (reopen none two_rows).answer.value ≡ pos (written two_rows)
reported-as-written = two-cost.reports two_ready

-- of a log with a commit row, which an opening has nothing to write for, ready or not
abbrev committed : List Row
committed = Row.begin 1 ∷ Row.commit 1 ∷ []

committed-cost : Costs committed
unfolding computes
committed-cost = reopen-cost none committed refl

committed-ready : (reopen none committed).answer.number ≡ 0
unfolding computes
committed-ready = refl

a-commit : BeginsAndChanges committed → ⊥
a-commit each = clash false (each (Row.commit 1) (Memᴰ.tail (Memᴰ.head refl))) refl

pub not-2-ready : written committed ≡ 2 → ⊥
not-2-ready e = a-commit ((committed-cost.reaches committed-ready).0 e)

pub not-2 : written committed ≡ 2 → ⊥
not-2 e = a-commit (committed-cost.only e)

-- the longest log of begins and changes alone
costliest-2048 : Costliest 2048 (costliest 2048)
costliest-2048 = costliest-log 2048 (omega arith)

pub length-2048 : length (costliest 2048) ≡ 2048
length-2048 = costliest-2048.long

pub allowed-2048 : allowed_log (costliest 2048) ≡ true
allowed-2048 = costliest-2048.allowed

pub each-of-2048 : BeginsAndChanges (costliest 2048)
each-of-2048 = costliest-2048.each

-- ── 00, demand 2: what is read, and why a log is refused (02, L8) ─────────────────────────────────────────────────────

-- the reason of each number
limit-of : {l : Ledger} {n : ℕ} {bs : List ℕ} {k : ℕ} → Reason l n bs k → k ≡ 17 → within_limits l (row_of bs) ≡ false
limit-of (wrong_bytes w) e = absurd (omega arith)
limit-of (breaks_rule b) e = absurd (omega arith)
limit-of (over_limit o) e = o.limit

rule-of : {l : Ledger} {n : ℕ} {bs : List ℕ} {k : ℕ} → Reason l n bs k → k ≡ 16 → (fits (row_of bs) && lawful l (row_of bs)) ≡ false
rule-of (wrong_bytes w) e = absurd (omega arith)
rule-of (breaks_rule b) e = b.rule
rule-of (over_limit o) e = absurd (omega arith)

-- not a log: a visit ends that has not begun
commit-alone : allowed_log (Row.commit 1 ∷ []) ≡ false
unfolding computes
commit-alone = refl

begin-and-commit : allowed_log old_log ≡ true
unfolding computes
begin-and-commit = refl

-- of any 65,536 numbers
module _ (bs : List ℕ) (long : length bs ≡ 65536) where
  reading : ReadsExactly bs
  unfolding Demand2Reading
  reading = demand-2-reading bs long

  pub read-as-two-rows : bs ≡ log_bytes old_log → read_log bs ≡ good old_log
  read-as-two-rows e =
      let is : (allowed_log old_log ≡ true) × (bs ≡ log_bytes old_log) = (begin-and-commit, e) in
      (reading.reads old_log).1 is

  pub bytes-of-two-rows : read_log bs ≡ good old_log → bs ≡ log_bytes old_log
  bytes-of-two-rows e = ((reading.reads old_log).0 e).1

  pub no-commit-alone : read_log bs ≡ good (Row.commit 1 ∷ []) → ⊥
  no-commit-alone e = clash _ ((reading.reads (Row.commit 1 ∷ [])).0 e).0 commit-alone

  -- no other number, no row before the first and none after the last
  pub not-by-4 : (n : ℕ) → read_log bs ≡ bad 4 n → ⊥
  not-by-4 n e = clash false (reading.refuses 4 n e).0 refl

  pub not-row-0 : read_log bs ≡ bad 3 0 → ⊥
  not-row-0 e = let h : 1 ≤ 0 = (reading.refuses 3 0 e).1.from in omega arith

  pub not-row-4097 : read_log bs ≡ bad 3 4097 → ⊥
  not-row-4097 e = let h : 4097 ≤ 4096 = (reading.refuses 3 4097 e).1.to in omega arith

  -- row 2 is the first bad one: an allowed log of at most one row has the 16 bytes before it, and no allowed log has its bytes too
  module _ (e : read_log bs ≡ bad 16 2) where
    pub row_before : (rs : List Row) × (allowed_log rs ≡ true) × (length rs < 2) × (take 16 (log_bytes rs) ≡ take 16 bs)
    row_before = let x = (reading.refuses 16 2 e).1 in (x.rows, x.before, x.few, x.agrees)

    pub no-log-has-both : (rs : List Row) → allowed_log rs ≡ true → take 32 (log_bytes rs) ≡ take 32 bs → ⊥
    no-log-has-both rs al same = (reading.refuses 16 2 e).1.none rs al same

  -- 16 says that a rule is broken, 17 that a limit is passed; each is answered where that is the reason
  module _ (bytes : AreBytes bs) where
    pub rule-broken : read_log bs ≡ bad 16 2 → (l : Ledger) × ((fits (row_of (bytes_of_row 2 bs)) && lawful l (row_of (bytes_of_row 2 bs))) ≡ false)
    rule-broken e = let x = (reading.reason bytes 16 2).0 e in (ledger x.0.rows, rule-of x.1 refl)

    pub limit-passed : read_log bs ≡ bad 17 2 → (l : Ledger) × (within_limits l (row_of (bytes_of_row 2 bs)) ≡ false)
    limit-passed e = let x = (reading.reason bytes 17 2).0 e in (ledger x.0.rows, limit-of x.1 refl)

    pub answered-by-17 : BadFor bs 17 2 → read_log bs ≡ bad 17 2
    answered-by-17 x = (reading.reason bytes 17 2).1 x
