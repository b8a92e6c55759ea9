-- Document 01, "Refusals by place, in checking order", with the lines of document 02, L2 and L8: for each two neighbours of a line of the table, something that both rule
-- out, and the number of the first; 6 and 7 of a begin are in VisitsUsedUp. All hold by computing, those over a full log from what its rows come to.
-- Commit, abort, flush and read have one number of their own. Two neighbours cannot be told apart: a giver and a receiver that are not active are both
-- refused by 9, and a receiver that is not active and is the giver too (12) is a giver that is not active. So the receiver's 9 is compared with the number after 12.
use Prim.Native.Nat.{ℕ, ◌+◌, ◌*◌}
use mathlib.Core.Path.{◌≡◌, refl}
use mathlib.Core.Bool.{true, false}
use mathlib.Core.List.{List, [], ◌∷◌, map, append-nil}
use lib.ListN.{replicate, set}
use lib.IntN.{pos}
use Rattle.book.specs.Rows.{Row}
use Rattle.book.specs.Calls.{Call}
use Rattle.book.specs.Power.{left, closed}
use Rattle.book.specs.Book.{answer, refused, opening, refused_by}
use Rattle.book.specs.Events.{calls, answers}
use Rattle.book.specs.Cells.{zeros}
use Rattle.book.specs.LogBytes.{log_bytes, good}
use Rattle.book.specs.Pages.{chart_bytes, page_after}
use Rattle.book.specs.Opening.{checked, open_bytes}
use Rattle.book.proofs.WorkedExamples.{computes, visits, scopes, refusal_after}
use Rattle.book.proofs.FullLogs.{filled, to_and_fro, rows4093, sixteen_visits, scopes_used_up, comes-4093, comes-sixteen}

-- ── Begin: 6, 7, 8 ────────────────────────────────────────────────────────────────────────────────────────────────────

-- 6 before 7 is in `VisitsUsedUp`, since no log has 65,535 begin rows.

-- 16 visits are active, and the 17 free rows are the reserve
pub begin-7-before-8 : refusal_after sixteen_visits Call.begin ≡ 7
unfolding computes
begin-7-before-8 = rw (append-nil sixteen_visits, comes-sixteen) refl

-- ── Change: 9, 10, 11, 8 ──────────────────────────────────────────────────────────────────────────────────────────────

pub change-9-before-10 : refusal_after [] (Call.change 1 224 (pos 1)) ≡ 9
unfolding computes
change-9-before-10 = refl

pub change-10-before-11 : refusal_after (scopes 64) (Call.change 1 224 (pos 1)) ≡ 10
unfolding computes
change-10-before-11 = refl

-- 64 scopes are in use, and the 66 free rows are the reserve
pub change-11-before-8 : refusal_after scopes_used_up (Call.change 1 64 (pos 1)) ≡ 11
unfolding computes scopes_used_up filled to_and_fro
change-11-before-8 = refl

-- ── Hand over: 9, 12, 10, 13, 8 ───────────────────────────────────────────────────────────────────────────────────────

pub hand-over-9-before-12 : refusal_after [] (Call.hand_over 1 1 0) ≡ 9
unfolding computes
hand-over-9-before-12 = refl

-- the receiver is not active, and there is no such cell
pub hand-over-9-before-10 : refusal_after (visits 1) (Call.hand_over 1 2 224) ≡ 9
unfolding computes
hand-over-9-before-10 = refl

pub hand-over-12-before-10 : refusal_after (visits 1) (Call.hand_over 1 1 224) ≡ 12
unfolding computes
hand-over-12-before-10 = refl

-- nobody holds a change of cell 224
pub hand-over-10-before-13 : refusal_after (visits 2) (Call.hand_over 1 2 224) ≡ 10
unfolding computes
hand-over-10-before-13 = refl

-- the giver holds no change of cell 1, and the 3 free rows are the reserve
pub hand-over-13-before-8 : refusal_after rows4093 (Call.hand_over 1 2 1) ≡ 13
unfolding computes
hand-over-13-before-8 = rw (append-nil rows4093, comes-4093) refl

-- ── Hand over a whole visit (02, L2): 9, 12, 13, 8 ────────────────────────────────────────────────────────────────────

pub whole-visit-9-before-12 : refusal_after [] (Call.hand_over_all 1 1) ≡ 9
unfolding computes
whole-visit-9-before-12 = refl

-- the receiver is not active, and the giver holds nothing
pub whole-visit-9-before-13 : refusal_after (visits 1) (Call.hand_over_all 1 2) ≡ 9
unfolding computes
whole-visit-9-before-13 = refl

-- the one visit holds nothing
pub whole-visit-12-before-13 : refusal_after (visits 1) (Call.hand_over_all 1 1) ≡ 12
unfolding computes
whole-visit-12-before-13 = refl

-- the giver holds nothing, and the 3 free rows are the reserve
pub whole-visit-13-before-8 : refusal_after rows4093 (Call.hand_over_all 2 1) ≡ 13
unfolding computes
whole-visit-13-before-8 = rw (append-nil rows4093, comes-4093) refl

-- ── Every call: 1, then 5 of those but format and open, then its own numbers ──────────────────────────────────────────

-- a call of each kind that its own line refuses after 16 visits
abbrev refused_anyway : List Call
refused_anyway =
    Call.begin ∷ Call.change 17 0 (pos 1) ∷ Call.hand_over 17 1 0 ∷ Call.commit 17 ∷ Call.abort 17 ∷ Call.flush 32 ∷ Call.read 224 ∷
    Call.hand_over_all 17 1 ∷ []

pub closed-1-before-5 : answers zeros (closed (visits 16)) (map (calls false) refused_anyway) ≡ replicate 8 (refused_by 1)
unfolding computes
closed-1-before-5 = refl

pub closed-5-first : answers zeros (closed (visits 16)) (map (calls true) refused_anyway) ≡ replicate 8 (refused_by 5)
unfolding computes
closed-5-first = refl

-- ── Open: 1, then 3, 16 or 17 (02, L8; their own order is in `RejectedRows`), 4, 5 ────────────────────────────────────

-- the opening would write an abort row, which the fuse does not let land
pub open-1-before-5 : opening (closed (visits 1)) false (left 0) ≡ refused 1 (closed (visits 1))
unfolding computes
open-1-before-5 = refl

-- bytes 2-3 of page 5 are not zero
abbrev bad_charts : List ℕ
bad_charts = set (chart_bytes (page_after zeros [])) (32 * 5 + 2) 1

-- row 1 is of no kind
pub open-3-before-4 : (open_bytes (left 0) (set (log_bytes []) 0 8) bad_charts).answer ≡ answer 3 (pos 1)
unfolding computes
open-3-before-4 = refl

-- row 1 begins visit 2
pub open-16-before-4 : (open_bytes (left 0) (log_bytes (Row.begin 2 ∷ [])) bad_charts).answer ≡ answer 16 (pos 1)
unfolding computes
open-16-before-4 = refl

-- row 17 begins a visit while sixteen are active
pub open-17-before-4 : (open_bytes (left 0) (log_bytes (visits 17)) bad_charts).answer ≡ answer 17 (pos 17)
unfolding computes
open-17-before-4 = refl

-- the log is read as a begin row
pub open-4-before-5 : (checked (left 0) (log_bytes (visits 1)) bad_charts (good (visits 1))).answer ≡ answer 4 (pos 5)
unfolding computes
open-4-before-5 = refl
