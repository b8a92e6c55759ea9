-- A change that was handed over is its last holder's, wherever it stands in the log (document 01, "Row rules" and "Errors this trade has made");
-- and the hand-over of a whole visit (document 02, L2). By computing.
use mathlib.Core.Path.{◌≡◌, refl}
use mathlib.Core.Bool.{true, false}
use mathlib.Core.List.{List, [], ◌∷◌, map}
use lib.IntN.{pos}
use Rattle.book.specs.Rows.{Row}
use Rattle.book.specs.Ledger.{ledger}
use Rattle.book.specs.Rules.{allowed_log}
use Rattle.book.specs.Scopes.{scopes_of}
use Rattle.book.specs.Cells.{kept_sum, zeros}
use Rattle.book.specs.Calls.{Call}
use Rattle.book.specs.Cases.{session, Gives}
use Rattle.book.specs.Book.{done}
use Rattle.book.proofs.WorkedExamples.{computes}

-- 1 changes, 2 begins, 1 hands to 2, 2 aborts: what 1 did before 2 began is undone
pub undone-before-begin : Gives zeros
    (session (Call.begin ∷ Call.change 1 0 (pos 70) ∷ Call.begin ∷ Call.hand_over 1 2 0 ∷ Call.abort 2 ∷ Call.read 0 ∷ []))
    (done (pos 0) ∷ done (pos 1) ∷ done (pos 2) ∷ done (pos 2) ∷ done (pos 4) ∷ done (pos 6) ∷ done (pos 0) ∷ [])
unfolding computes
undone-before-begin = refl

-- 1 adds 10, hands to 2, adds 5; 1 commits, 2 aborts: of the logged changes the 5 alone has a last holder with a commit row
pub sum-by-last-holder : kept_sum zeros
    (Row.begin 1 ∷ Row.begin 2 ∷ Row.change 1 0 (pos 10) ∷ Row.hand_over 1 2 0 ∷ Row.change 1 0 (pos 5) ∷ Row.commit 1 ∷ Row.undo 2 0 3 (pos 10) ∷ Row.abort 2 ∷ [])
    0 ≡ pos 5
unfolding computes kept_sum
sum-by-last-holder = refl

-- ── A whole visit ─────────────────────────────────────────────────────────────────────────────────────────────────────

-- 1 changes three cells, hands all over to 2 by one row and aborts, 2 commits: all three are kept
pub whole-visit-survives : Gives zeros
    (session (Call.begin ∷ Call.begin ∷ Call.change 1 0 (pos 70) ∷ Call.change 1 7 (pos 80) ∷ Call.change 1 223 (pos 90) ∷ Call.hand_over_all 1 2 ∷
    Call.abort 1 ∷ Call.commit 2 ∷ Call.read 0 ∷ Call.read 7 ∷ Call.read 223 ∷ []))
    (done (pos 0) ∷ done (pos 1) ∷ done (pos 2) ∷ done (pos 3) ∷ done (pos 4) ∷ done (pos 5) ∷ done (pos 6) ∷ done (pos 7) ∷ done (pos 8) ∷
    done (pos 70) ∷ done (pos 80) ∷ done (pos 90) ∷ [])
unfolding computes
whole-visit-survives = refl

-- 2 begins after the changes of 1, and aborts: all three are undone
pub whole-visit-undone : Gives zeros
    (session (Call.begin ∷ Call.change 1 0 (pos 70) ∷ Call.change 1 7 (pos 80) ∷ Call.change 1 223 (pos 90) ∷ Call.begin ∷ Call.hand_over_all 1 2 ∷
    Call.commit 1 ∷ Call.abort 2 ∷ Call.read 0 ∷ Call.read 7 ∷ Call.read 223 ∷ []))
    (done (pos 0) ∷ done (pos 1) ∷ done (pos 2) ∷ done (pos 3) ∷ done (pos 4) ∷ done (pos 2) ∷ done (pos 6) ∷ done (pos 7) ∷ done (pos 11) ∷
    done (pos 0) ∷ done (pos 0) ∷ done (pos 0) ∷ [])
unfolding computes
whole-visit-undone = refl

-- 1 changes cells 0 and 1, 3 changes cell 1 and hands it to 1; then 1 hands all over to 2: what it made, and what it was handed. 1 changes cell 0 again.
abbrev whole_visit : List Row
whole_visit =
    Row.begin 1 ∷ Row.begin 2 ∷ Row.begin 3 ∷ Row.change 1 0 (pos 10) ∷ Row.change 1 1 (pos 20) ∷ Row.change 3 1 (pos 30) ∷ Row.hand_over 3 1 1 ∷
    Row.hand_over_all 1 2 ∷ Row.change 1 0 (pos 40) ∷ []

pub whole-visit-allowed : allowed_log whole_visit ≡ true
unfolding computes
whole-visit-allowed = refl

-- each of the three scopes has gone over, and the change after it has started another; newest first
pub whole-visit-scopes : scopes_of (ledger whole_visit) ≡
    record { maker = 1; holder = 1; cell = 0; first = 9; last = 9; handed = false; count = 1 } ∷
    record { maker = 3; holder = 2; cell = 1; first = 6; last = 6; handed = true; count = 1 } ∷
    record { maker = 1; holder = 2; cell = 1; first = 5; last = 5; handed = true; count = 1 } ∷
    record { maker = 1; holder = 2; cell = 0; first = 4; last = 4; handed = true; count = 1 } ∷
    []
unfolding computes scopes_of
whole-visit-scopes = refl

-- 1 changes two cells, hands all over to 2 and changes cell 0 again; 2 commits, 1 aborts: the two that were handed over have a last holder with a commit row
abbrev whole_visit_kept : List Row
whole_visit_kept =
    Row.begin 1 ∷ Row.begin 2 ∷ Row.change 1 0 (pos 10) ∷ Row.change 1 1 (pos 20) ∷ Row.hand_over_all 1 2 ∷ Row.change 1 0 (pos 40) ∷ Row.commit 2 ∷
    Row.undo 1 0 6 (pos 40) ∷ Row.abort 1 ∷ []

pub whole-visit-sums : map (kept_sum zeros whole_visit_kept) (0 ∷ 1 ∷ []) ≡ pos 10 ∷ pos 20 ∷ []
unfolding computes kept_sum
whole-visit-sums = refl
