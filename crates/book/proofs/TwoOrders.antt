-- Two hand-overs that follow one another, in either order (document 02, L5), with later calls and openings, and the power failing before, between and behind
-- their rows: of different cells they give the same, of one cell they do not. By computing.
use Prim.Native.Nat.{ℕ, suc}
use native.Mathlib.Omega.{arith}
use mathlib.Core.Path.{◌≡◌, refl}
use mathlib.Core.Bool.{true}
use mathlib.Core.Logic.{inl, inr}
use mathlib.Core.List.{List, [], ◌∷◌, ◌++◌, map}
use lib.ListN.{replicate}
use lib.IntN.{ℤ, pos, negsuc}
use Rattle.book.specs.Rows.{Row}
use Rattle.book.specs.Calls.{Call}
use Rattle.book.specs.Power.{Fuse, none, left, formatted}
use Rattle.book.specs.Cells.{zeros}
use Rattle.book.specs.Book.{Answer, done, refused_by}
use Rattle.book.specs.Events.{Event, opens, calls, answers, book_after}
use Rattle.book.specs.Writes.{Writes}
use Rattle.book.specs.SessionWrites.{writes}
use Rattle.book.specs.Cases.{Gives}
use Rattle.book.specs.Swapped.{Single, one_then_other, BothAccepted}
use Rattle.book.proofs.WorkedExamples.{computes}

-- 1 hands its change of cell 0 to 3, and 2 its change of cell 7 to 1
abbrev pub of_cell0 : Single
of_cell0 = record { giver = 1; receiver = 3; cell = 0 }

abbrev pub of_cell7 : Single
of_cell7 = record { giver = 2; receiver = 1; cell = 7 }

-- what comes before them: three visits, 1 adds 70 to cell 0, 2 takes 80 from cell 7
abbrev pub three_visits : Fuse → List Event
three_visits f = opens true f ∷ map (calls true) (Call.begin ∷ Call.begin ∷ Call.begin ∷ Call.change 1 0 (pos 70) ∷ Call.change 2 7 (negsuc 79) ∷ [])

-- both are accepted in this order with every fuse of three writes, those of the begin rows, or more; with none see `power-holds`. That they are in the other
-- order follows (Swapped), and is seen in the answers below.
pub accepted-in-order : (cells : ℕ → ℤ) (n : ℕ) → BothAccepted cells (book_after cells formatted (three_visits (left (suc (suc (suc n)))))) of_cell0 of_cell7
unfolding computes
accepted-in-order cells n = record { apart = λ e. omega arith; first = refl; second = inl refl }

-- the answers of what comes before
abbrev so_far : List Answer
so_far = done (pos 0) ∷ done (pos 1) ∷ done (pos 2) ∷ done (pos 3) ∷ done (pos 4) ∷ done (pos 5) ∷ []

-- what the two and the events `es` are answered in both orders
abbrev InBoth : Fuse → List Event → List Answer → Type 0
InBoth f es given =
    Gives zeros (three_visits f ++ one_then_other of_cell0 of_cell7 es) (so_far ++ given) × Gives zeros (three_visits f ++ one_then_other of_cell7 of_cell0 es) (so_far ++ given)

-- ── Both rows are kept ────────────────────────────────────────────────────────────────────────────────────────────────

-- 1 aborts, 3 and 2 commit; cells 0 and 7 are read, before an opening and after it
abbrev later : List Event
later =
    map (calls true) (Call.abort 1 ∷ Call.commit 3 ∷ Call.commit 2 ∷ Call.read 0 ∷ Call.read 7 ∷ []) ++
    (opens true none ∷ map (calls true) (Call.read 0 ∷ Call.read 7 ∷ []))

-- the power holds: what 3 was handed is kept, and what 1 was handed is undone
pub power-holds : InBoth none later
    (done (pos 6) ∷ done (pos 7) ∷ done (pos 9) ∷ done (pos 10) ∷ done (pos 11) ∷ done (pos 70) ∷ done (pos 0) ∷
    done (pos 0) ∷ done (pos 70) ∷ done (pos 0) ∷ [])
unfolding computes
power-holds = (refl, refl)

-- the first commit stores seven rows, its own the last, in either order
abbrev counted : List Writes
counted = rows 0 ∷ rows 1 ∷ rows 1 ∷ rows 1 ∷ replicate 5 (rows 0) ++ (rows 7 ∷ rows 1 ∷ replicate 5 (rows 0))
  where
    rows : ℕ → Writes
    rows n = record { rows = n; pages = 0 }

pub power-holds-counts : (writes zeros formatted (three_visits none ++ one_then_other of_cell0 of_cell7 later) ≡ counted) ×
    (writes zeros formatted (three_visits none ++ one_then_other of_cell7 of_cell0 later) ≡ counted)
unfolding computes
power-holds-counts = (refl, refl)

-- seven writes land, the two rows as the last; the commit is cut behind them
pub both-kept : InBoth (left 7) later
    (done (pos 6) ∷ done (pos 7) ∷ done (pos 9) ∷ refused_by 5 ∷ refused_by 5 ∷ refused_by 5 ∷ refused_by 5 ∷
    done (pos 5) ∷ done (pos 0) ∷ done (pos 0) ∷ [])
unfolding computes
both-kept = (refl, refl)

-- ── Just one of them is kept ──────────────────────────────────────────────────────────────────────────────────────────

-- a force, which is cut; after an opening visit 4 adds 5 to cell 0
abbrev pub forced : List Event
forced =
    map (calls true) (Call.force ∷ Call.read 0 ∷ []) ++
    (opens true none ∷ map (calls true) (Call.read 0 ∷ Call.read 7 ∷ Call.begin ∷ Call.change 4 0 (pos 5) ∷ Call.commit 4 ∷ Call.read 0 ∷ []))

-- six writes land, the row of the hand-over that came first as the last
pub one_kept : InBoth (left 6) forced
    (done (pos 6) ∷ done (pos 7) ∷ refused_by 5 ∷ refused_by 5 ∷
    done (pos 5) ∷ done (pos 0) ∷ done (pos 0) ∷ done (pos 4) ∷ done (pos 13) ∷ done (pos 14) ∷ done (pos 5) ∷ [])
unfolding computes
one_kept = (refl, refl)

-- the two logs differ in the hand-over that was kept, and in the holders that the undo rows name
abbrev rows_before : List Row
rows_before = Row.begin 1 ∷ Row.begin 2 ∷ Row.begin 3 ∷ Row.change 1 0 (pos 70) ∷ Row.change 2 7 (negsuc 79) ∷ []

abbrev rows_after : List Row
rows_after = Row.abort 3 ∷ Row.abort 2 ∷ Row.abort 1 ∷ Row.begin 4 ∷ Row.change 4 0 (pos 5) ∷ Row.commit 4 ∷ []

pub log-of-cell-0-first : (book_after zeros formatted (three_visits (left 6) ++ one_then_other of_cell0 of_cell7 forced)).stored ≡
    rows_before ++ (Row.hand_over 1 3 0 ∷ Row.undo 2 7 5 (negsuc 79) ∷ Row.undo 3 0 4 (pos 70) ∷ rows_after)
unfolding computes
log-of-cell-0-first = refl

pub log-of-cell-7-first : (book_after zeros formatted (three_visits (left 6) ++ one_then_other of_cell7 of_cell0 forced)).stored ≡
    rows_before ++ (Row.hand_over 2 1 7 ∷ Row.undo 1 7 5 (negsuc 79) ∷ Row.undo 1 0 4 (pos 70) ∷ rows_after)
unfolding computes
log-of-cell-7-first = refl

-- 63 rows wait before the two, so that the one that comes second stores a full tail, the other with it, and waits alone
abbrev pub many_before : Fuse → List Event
many_before f = three_visits f ++ replicate 61 (calls true (Call.change 1 0 (pos 1)))

pub later-one-waits : ((book_after zeros formatted (many_before none ++ one_then_other of_cell0 of_cell7 [])).waiting ≡ Row.hand_over 2 1 7 ∷ []) ×
    ((book_after zeros formatted (many_before none ++ one_then_other of_cell7 of_cell0 [])).waiting ≡ Row.hand_over 1 3 0 ∷ [])
unfolding computes
later-one-waits = (refl, refl)

-- an opening at once, and both cells read
abbrev pub opened_at_once : List Event
opened_at_once = opens true none ∷ map (calls true) (Call.read 0 ∷ Call.read 7 ∷ [])

-- no power fails, and the opening finds just one of them: 63 changes are undone, and three visits aborted
abbrev one_kept_answers : List Answer
one_kept_answers = done (pos 67) ∷ done (pos 68) ∷ done (pos 66) ∷ done (pos 0) ∷ done (pos 0) ∷ []

pub one-kept-by-opening : (answers zeros (book_after zeros formatted (many_before none)) (one_then_other of_cell0 of_cell7 opened_at_once) ≡ one_kept_answers) ×
    (answers zeros (book_after zeros formatted (many_before none)) (one_then_other of_cell7 of_cell0 opened_at_once) ≡ one_kept_answers)
unfolding computes
one-kept-by-opening = (refl, refl)

-- ── Neither is kept ───────────────────────────────────────────────────────────────────────────────────────────────────

-- five writes land, the second change as the last
pub none_kept : InBoth (left 5) forced
    (done (pos 6) ∷ done (pos 7) ∷ refused_by 5 ∷ refused_by 5 ∷
    done (pos 5) ∷ done (pos 0) ∷ done (pos 0) ∷ done (pos 4) ∷ done (pos 12) ∷ done (pos 13) ∷ done (pos 5) ∷ [])
unfolding computes
none_kept = (refl, refl)

-- the power fails in the second of them, which finds a full tail: after the begin rows 63 writes land, and the row of the first would have been the next
pub cut-in-second : (cells : ℕ → ℤ) → BothAccepted cells (book_after cells formatted (many_before (left 66))) of_cell0 of_cell7
unfolding computes
cut-in-second cells = record { apart = λ e. omega arith; first = refl; second = inr refl }

-- the opening finds the 63 changes and the three visits, in either order
pub cut-in-second-answers :
    (answers zeros (book_after zeros formatted (many_before (left 66))) (one_then_other of_cell0 of_cell7 opened_at_once) ≡
    done (pos 67) ∷ refused_by 5 ∷ done (pos 66) ∷ done (pos 0) ∷ done (pos 0) ∷ []) ×
    (answers zeros (book_after zeros formatted (many_before (left 66))) (one_then_other of_cell7 of_cell0 opened_at_once) ≡
    done (pos 67) ∷ refused_by 5 ∷ done (pos 66) ∷ done (pos 0) ∷ done (pos 0) ∷ [])
unfolding computes
cut-in-second-answers = (refl, refl)

-- an opening at once: the two rows, which wait, are lost with the changes
pub none-kept-by-opening : InBoth none opened_at_once (done (pos 6) ∷ done (pos 7) ∷ done (pos 3) ∷ done (pos 0) ∷ done (pos 0) ∷ [])
unfolding computes
none-kept-by-opening = (refl, refl)

-- ── One cell ──────────────────────────────────────────────────────────────────────────────────────────────────────────

-- 1 adds 70 and 2 adds 5 to cell 0. 1 hands the cell to 2, and 2 to 3; 2 aborts and 3 commits. Accepted in either order, but what 1 added goes on to 3 only
-- if it was handed to 2 before.
abbrev of_one_cell : List Call → List Event
of_one_cell ks = opens true none ∷ map (calls true)
    (Call.begin ∷ Call.begin ∷ Call.begin ∷ Call.change 1 0 (pos 70) ∷ Call.change 2 0 (pos 5) ∷ ks ++ (Call.abort 2 ∷ Call.commit 3 ∷ Call.read 0 ∷ []))

pub one_cell_lem : Gives zeros (of_one_cell (Call.hand_over 1 2 0 ∷ Call.hand_over 2 3 0 ∷ []))
    (so_far ++ (done (pos 6) ∷ done (pos 7) ∷ done (pos 8) ∷ done (pos 9) ∷ done (pos 75) ∷ []))
unfolding computes
one_cell_lem = refl

pub one-cell-swapped : Gives zeros (of_one_cell (Call.hand_over 2 3 0 ∷ Call.hand_over 1 2 0 ∷ []))
    (so_far ++ (done (pos 6) ∷ done (pos 7) ∷ done (pos 9) ∷ done (pos 10) ∷ done (pos 5) ∷ []))
unfolding computes
one-cell-swapped = refl
