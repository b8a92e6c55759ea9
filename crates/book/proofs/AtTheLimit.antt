-- Calls at the limits of document 01: the last call that is accepted, and the number that the next one is refused by. All hold by computing, those over
-- a full log from what its rows come to. Cell 224 of a change, the 17th begin and one visit's 2,048th change are among the marked cases (Cases).
use mathlib.Core.Path.{◌≡◌, refl}
use mathlib.Core.Bool.{true, false}
use mathlib.Core.List.{List, [], ◌∷◌, ◌++◌, map, append-nil}
use lib.ListN.{replicate, take}
use lib.IntN.{pos}
use Rattle.book.specs.Lists.{tabulate}
use Rattle.book.specs.Rows.{Row}
use Rattle.book.specs.Rules.{allowed_log}
use Rattle.book.specs.OldLogs.{old_fits, old_allowed_log}
use Rattle.book.specs.Calls.{Call}
use Rattle.book.specs.Power.{Book, Fuse, left, formatted, closed}
use Rattle.book.specs.Book.{refused, done, refused_by}
use Rattle.book.specs.Events.{Event, opens, calls, happens, book_after}
use Rattle.book.specs.Cases.{session, Gives, then}
use Rattle.book.specs.Cells.{zeros}
use Rattle.book.proofs.WorkedExamples.{computes, committed_visits, scopes, asked, refusal_after}
use Rattle.book.proofs.FullLogs.{rows4091, rows4092, rows4093, comes-4091, comes-4092, comes-4093}

-- ── The tail ──────────────────────────────────────────────────────────────────────────────────────────────────────────

-- a visit, and 64 changes by it, in a session with this fuse: the begin row is stored, and 64 rows wait
abbrev rows64 : Fuse → List Event
rows64 f = opens true f ∷ calls true Call.begin ∷ replicate 64 (calls true (Call.change 1 0 (pos 1)))

-- the rows
abbrev visit_and64 : List Row
visit_and64 = Row.begin 1 ∷ replicate 64 (Row.change 1 0 (pos 1))

-- one change more
abbrev one_more : Event
one_more = calls true (Call.change 1 0 (pos 1))

-- 01: "a tail of at most 64 rows not yet stored". After that of the begin no write lands, and each of the calls is done.
pub tail-takes-64 : Gives zeros (rows64 (left 1)) (done (pos 0) ∷ done (pos 1) ∷ tabulate 64 2 (λ n. done (pos n)))
unfolding computes
tail-takes-64 = refl

-- 01: "if the tail holds 64 rows it is forced first". The first write fails, so nothing more is stored.
pub row-65-is-refused : happens zeros (book_after zeros formatted (rows64 (left 1))) one_more ≡ refused 5 (closed (Row.begin 1 ∷ []))
unfolding computes
row-65-is-refused = refl

-- The 64 writes land, and the row waits.
pub row-65-waits : book_after zeros formatted (rows64 (left 65) ++ (one_more ∷ [])) ≡
    record { stored = visit_and64; waiting = Row.change 1 0 (pos 1) ∷ []; fuse = left 0; is_open = true }
unfolding computes
row-65-waits = refl

-- 02, L4: "Begin shall force the log before it returns." The 64 rows and its own are stored, 65 writes.
pub begin-of-full-tail : happens zeros (book_after zeros formatted (rows64 (left 66))) (calls true Call.begin) ≡
    record { answer = done (pos 2); book = record { stored = visit_and64 ++ (Row.begin 2 ∷ []); waiting = []; fuse = left 0; is_open = true } }
unfolding computes
begin-of-full-tail = refl

-- With one write less the 64 rows are stored and its own is not.
pub begin-cut-at-its-row : happens zeros (book_after zeros formatted (rows64 (left 65))) (calls true Call.begin) ≡ refused 5 (closed visit_and64)
unfolding computes
begin-cut-at-its-row = refl

-- Power fails among the 64.
pub begin-cut-in-the-tail : happens zeros (book_after zeros formatted (rows64 (left 30))) (calls true Call.begin) ≡ refused 5 (closed (take 30 visit_and64))
unfolding computes
begin-cut-in-the-tail = refl

-- sixteen visits are active, 64 rows wait and no write is left
abbrev sixteen_and64 : Book
sixteen_and64 = record { stored = tabulate 16 1 Row.begin; waiting = replicate 64 (Row.change 1 0 (pos 1)); fuse = left 0; is_open = true }

-- The checks come before the force.
pub full-tail-begin-refused : happens zeros sixteen_and64 (calls true Call.begin) ≡ refused 7 sixteen_and64
unfolding computes
full-tail-begin-refused = refl

-- ── Visits ────────────────────────────────────────────────────────────────────────────────────────────────────────────

-- 01: "7: 16 active"
pub begin-16 : then (session (replicate 15 Call.begin)) Call.begin ≡ done (pos 16)
unfolding computes
begin-16 = refl

-- 02, L7: "Visits become 16-bit": the first visit whose number has no place in a byte
pub begin-256 : asked (committed_visits 255) Call.begin ≡ done (pos 256)
unfolding computes
begin-256 = refl

-- visit 1 has committed, visit 3 was aborted, and visit 2 is active; each of 1 and 2 has changed cell 0
abbrev some_ended : List Row
some_ended =
    Row.begin 1 ∷ Row.change 1 0 (pos 1) ∷ Row.commit 1 ∷ Row.begin 2 ∷ Row.change 2 0 (pos 1) ∷ Row.begin 3 ∷ Row.abort 3 ∷ []

-- 01: "9: visit not active", and of a hand-over "giver, then receiver"
pub ended-by-commit :
    map (refusal_after some_ended) (Call.change 1 0 (pos 1) ∷ Call.hand_over 1 2 0 ∷ Call.hand_over 2 1 0 ∷ Call.commit 1 ∷ Call.abort 1 ∷
    Call.hand_over_all 1 2 ∷ Call.hand_over_all 2 1 ∷ []) ≡ replicate 7 9
unfolding computes
ended-by-commit = refl

pub ended-by-abort :
    map (refusal_after some_ended) (Call.change 3 0 (pos 1) ∷ Call.hand_over 3 2 0 ∷ Call.hand_over 2 3 0 ∷ Call.commit 3 ∷ Call.abort 3 ∷
    Call.hand_over_all 3 2 ∷ Call.hand_over_all 2 3 ∷ []) ≡ replicate 7 9
unfolding computes
ended-by-abort = refl

-- ── Scopes ────────────────────────────────────────────────────────────────────────────────────────────────────────────

-- 01: "11: scopes used up", of 64
pub scope-64 : asked (scopes 63) (Call.change 1 63 (pos 1)) ≡ done (pos 66)
unfolding computes
scope-64 = refl

pub scope-65 : asked (scopes 64) (Call.change 1 64 (pos 1)) ≡ refused_by 11
unfolding computes
scope-65 = refl

-- 01: "starts a new scope, unless v changed c before and has not handed c over since"
pub scope-grows : asked (scopes 64) (Call.change 1 5 (pos 1)) ≡ done (pos 67)
unfolding computes
scope-grows = refl

abbrev handed_back : List Row
handed_back = scopes 64 ++ (Row.hand_over 1 2 5 ∷ Row.hand_over 2 1 5 ∷ [])

pub scope-handed-back : asked handed_back (Call.change 1 5 (pos 1)) ≡ refused_by 11
unfolding computes
scope-handed-back = refl

-- 02, L2: one row, whatever the number of cells; each cell is handed over, so a change of it starts a scope
pub whole-visit-of-64 : asked (scopes 64) (Call.hand_over_all 1 2) ≡ done (pos 67)
unfolding computes
whole-visit-of-64 = refl

pub scope-of-whole-visit : asked (scopes 64 ++ (Row.hand_over_all 1 2 ∷ [])) (Call.change 1 5 (pos 1)) ≡ refused_by 11
unfolding computes
scope-of-whole-visit = refl

-- 02, L2: 13 where the giver holds nothing at all
pub whole-visit-of-nothing : asked (scopes 64) (Call.hand_over_all 2 1) ≡ refused_by 13
unfolding computes
whole-visit-of-nothing = refl

-- 01: "a scope is in use while its changes' holder is active"
pub scopes-of-ended : asked (scopes 64 ++ (Row.commit 1 ∷ [])) (Call.change 2 0 (pos 1)) ≡ done (pos 68)
unfolding computes
scopes-of-ended = refl

-- ── Cells and pages ───────────────────────────────────────────────────────────────────────────────────────────────────

-- two visits, and a change of the last cell
abbrev last_cell : List Row
last_cell = Row.begin 1 ∷ Row.begin 2 ∷ Row.change 1 223 (pos 70) ∷ []

-- 01: "10: cell above 223"
pub hand-over-of-223 : asked last_cell (Call.hand_over 1 2 223) ≡ done (pos 4)
unfolding computes
hand-over-of-223 = refl

pub hand-over-of-224 : asked last_cell (Call.hand_over 1 2 224) ≡ refused_by 10
unfolding computes
hand-over-of-224 = refl

pub read-of-223 : asked last_cell (Call.read 223) ≡ done (pos 70)
unfolding computes
read-of-223 = refl

pub read-of-224 : asked last_cell (Call.read 224) ≡ refused_by 10
unfolding computes
read-of-224 = refl

-- 01: "14: page above 31"
pub flush-of-31 : asked [] (Call.flush 31) ≡ done (pos 0)
unfolding computes
flush-of-31 = refl

pub flush-of-32 : asked [] (Call.flush 32) ≡ refused_by 14
unfolding computes
flush-of-32 = refl

-- ── Free rows ─────────────────────────────────────────────────────────────────────────────────────────────────────────

-- 01: "8: free below need". After 4,091 rows 5 are free, and the reserve is 3: begin and change need 2 more, a hand-over 1, of a whole visit too.
pub begin-with-5-free : refusal_after rows4091 Call.begin ≡ 0
unfolding computes
begin-with-5-free = rw (append-nil rows4091, comes-4091) refl

pub begin-with-4-free : refusal_after rows4092 Call.begin ≡ 8
unfolding computes
begin-with-4-free = rw (append-nil rows4092, comes-4092) refl

pub change-with-5-free : refusal_after rows4091 (Call.change 1 0 (pos 1)) ≡ 0
unfolding computes
change-with-5-free = rw (append-nil rows4091, comes-4091) refl

pub change-with-4-free : refusal_after rows4092 (Call.change 1 0 (pos 1)) ≡ 8
unfolding computes
change-with-4-free = rw (append-nil rows4092, comes-4092) refl

pub hand-over-with-4-free : refusal_after rows4092 (Call.hand_over 2 1 0) ≡ 0
unfolding computes
hand-over-with-4-free = rw (append-nil rows4092, comes-4092) refl

pub hand-over-with-3-free : refusal_after rows4093 (Call.hand_over 1 2 0) ≡ 8
unfolding computes
hand-over-with-3-free = rw (append-nil rows4093, comes-4093) refl

pub whole-visit-with-4-free : refusal_after rows4092 (Call.hand_over_all 2 1) ≡ 0
unfolding computes
whole-visit-with-4-free = rw (append-nil rows4092, comes-4092) refl

pub whole-visit-with-3-free : refusal_after rows4093 (Call.hand_over_all 1 2) ≡ 8
unfolding computes
whole-visit-with-3-free = rw (append-nil rows4093, comes-4093) refl

-- 01: "they make commit, abort and opening never lack space"
pub commit-with-3-free : refusal_after rows4093 (Call.commit 1) ≡ 0
unfolding computes
commit-with-3-free = rw (append-nil rows4093, comes-4093) refl

pub abort-with-3-free : refusal_after rows4093 (Call.abort 1) ≡ 0
unfolding computes
abort-with-3-free = rw (append-nil rows4093, comes-4093) refl

-- ── The logs ──────────────────────────────────────────────────────────────────────────────────────────────────────────

-- those above are allowed, and so are the full ones (FullLogs)
pub logs-allowed : map allowed_log (committed_visits 255 ∷ some_ended ∷ handed_back ∷ last_cell ∷ []) ≡ replicate 4 true
unfolding computes
logs-allowed = refl

-- 02, L7: "Old logs mean the same." They were allowed before, with visits up to 255 and no further.
pub old-logs-allowed :
    map old_allowed_log (committed_visits 255 ∷ some_ended ∷ handed_back ∷ last_cell ∷ committed_visits 256 ∷ []) ≡ replicate 4 true ++ (false ∷ [])
unfolding computes old_fits
old-logs-allowed = refl
