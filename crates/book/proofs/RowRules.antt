-- Document 01, "Row rules", at their limits: rows that are allowed after the rows before them, and those next to them that are not. All hold by
-- computing, those after a full log from what its rows come to.
use mathlib.Core.Path.{◌≡◌, refl}
use mathlib.Core.Bool.{Bool, true, false}
use mathlib.Core.List.{List, [], ◌∷◌, ◌++◌, map}
use lib.IntN.{pos, negsuc}
use Rattle.book.specs.Rows.{Row, fits}
use Rattle.book.specs.Ledger.{ledger}
use Rattle.book.specs.Rules.{allowed, allowed_log}
use Rattle.book.proofs.WorkedExamples.{computes, visits, committed_visits, scopes}
use Rattle.book.proofs.FullLogs.{rows4091, rows4092, rows4093, comes-4091, comes-4092, comes-4093}

-- the row is allowed after these
abbrev allowed_after : List Row → Row → Bool
allowed_after rs r = allowed (ledger rs) r

-- ── Begin ─────────────────────────────────────────────────────────────────────────────────────────────────────────────

-- 01: "visit = begin rows so far + 1"
pub begin-next : allowed_after (visits 2) (Row.begin 3) ≡ true
unfolding computes
begin-next = refl

pub begin-same : allowed_after (visits 2) (Row.begin 2) ≡ false
unfolding computes
begin-same = refl

pub begin-next-but-one : allowed_after (visits 2) (Row.begin 4) ≡ false
unfolding computes
begin-next-but-one = refl

-- 01: "fewer than 16 are active"
pub begin-row-16 : allowed_after (visits 15) (Row.begin 16) ≡ true
unfolding computes
begin-row-16 = refl

pub begin-row-17 : allowed_after (visits 16) (Row.begin 17) ≡ false
unfolding computes
begin-row-17 = refl

-- 02, L7: "Visits become 16-bit"
pub begin-row-256 : allowed_after (committed_visits 255) (Row.begin 256) ≡ true
unfolding computes
begin-row-256 = refl

-- 02, L7: "The limit is 65,535 visits": no log has so many, so of the range alone
pub visit-range : map (λ v. fits (Row.begin v)) (0 ∷ 1 ∷ 65535 ∷ 65536 ∷ []) ≡ false ∷ true ∷ true ∷ false ∷ []
unfolding computes
visit-range = refl

-- ── Change ────────────────────────────────────────────────────────────────────────────────────────────────────────────

-- 01: "if it starts a scope, fewer than 64 are in use"
pub change-row-scope-64 : allowed_after (scopes 63) (Row.change 1 63 (pos 1)) ≡ true
unfolding computes
change-row-scope-64 = refl

pub change-row-scope-65 : allowed_after (scopes 64) (Row.change 1 64 (pos 1)) ≡ false
unfolding computes
change-row-scope-65 = refl

pub change-row-scope-grows : allowed_after (scopes 64) (Row.change 1 5 (pos 1)) ≡ true
unfolding computes
change-row-scope-grows = refl

-- 01: "cell, 0 to 223"
pub change-row-of-223 : allowed_after (visits 1) (Row.change 1 223 (pos 1)) ≡ true
unfolding computes
change-row-of-223 = refl

pub change-row-of-224 : allowed_after (visits 1) (Row.change 1 224 (pos 1)) ≡ false
unfolding computes
change-row-of-224 = refl

-- 01: "signed 16-bit change"
pub highest-change : allowed_after (visits 1) (Row.change 1 0 (pos 32767)) ≡ true
unfolding computes
highest-change = refl

pub too-high-change : allowed_after (visits 1) (Row.change 1 0 (pos 32768)) ≡ false
unfolding computes
too-high-change = refl

pub lowest-change : allowed_after (visits 1) (Row.change 1 0 (negsuc 32767)) ≡ true
unfolding computes
lowest-change = refl

pub too-low-change : allowed_after (visits 1) (Row.change 1 0 (negsuc 32768)) ≡ false
unfolding computes
too-low-change = refl

-- ── A whole visit ─────────────────────────────────────────────────────────────────────────────────────────────────────

-- 02, L2: "the giver holds something"; the two are active, and are two
pub whole-visit-row : allowed_after (scopes 1) (Row.hand_over_all 1 2) ≡ true
unfolding computes
whole-visit-row = refl

pub whole-visit-row-of-nothing : allowed_after (scopes 1) (Row.hand_over_all 2 1) ≡ false
unfolding computes
whole-visit-row-of-nothing = refl

pub whole-visit-row-to-oneself : allowed_after (scopes 1) (Row.hand_over_all 1 1) ≡ false
unfolding computes
whole-visit-row-to-oneself = refl

pub whole-visit-row-to-nobody : allowed_after (scopes 1) (Row.hand_over_all 1 3) ≡ false
unfolding computes
whole-visit-row-to-nobody = refl

-- ── Free rows ─────────────────────────────────────────────────────────────────────────────────────────────────────────

-- 01: "free is at least reserve + 2" of begin and change, "reserve + 1" of a hand-over; 02, L2: of a whole visit too. After 4,091 rows 5 are free, and the reserve is 3.
pub begin-row-with-5-free : allowed_after rows4091 (Row.begin 3) ≡ true
unfolding computes
begin-row-with-5-free = rw comes-4091 refl

pub begin-row-with-4-free : allowed_after rows4092 (Row.begin 3) ≡ false
unfolding computes
begin-row-with-4-free = rw comes-4092 refl

pub change-row-with-5-free : allowed_after rows4091 (Row.change 1 0 (pos 1)) ≡ true
unfolding computes
change-row-with-5-free = rw comes-4091 refl

pub change-row-with-4-free : allowed_after rows4092 (Row.change 1 0 (pos 1)) ≡ false
unfolding computes
change-row-with-4-free = rw comes-4092 refl

pub hand-over-row-with-4-free : allowed_after rows4092 (Row.hand_over 2 1 0) ≡ true
unfolding computes
hand-over-row-with-4-free = rw comes-4092 refl

pub hand-over-row-with-3-free : allowed_after rows4093 (Row.hand_over 1 2 0) ≡ false
unfolding computes
hand-over-row-with-3-free = rw comes-4093 refl

pub whole-visit-row-with-4-free : allowed_after rows4092 (Row.hand_over_all 2 1) ≡ true
unfolding computes
whole-visit-row-with-4-free = rw comes-4092 refl

pub whole-visit-row-with-3-free : allowed_after rows4093 (Row.hand_over_all 1 2) ≡ false
unfolding computes
whole-visit-row-with-3-free = rw comes-4093 refl

-- 01 asks no free row of undo, commit and abort
pub undo-row-with-3-free : allowed_after rows4093 (Row.undo 1 0 3 (pos 1)) ≡ true
unfolding computes
undo-row-with-3-free = rw comes-4093 refl

pub commit-row-with-3-free : allowed_after rows4093 (Row.commit 1) ≡ true
unfolding computes
commit-row-with-3-free = rw comes-4093 refl

pub abort-row-with-3-free : allowed_after rows4093 (Row.abort 2) ≡ true
unfolding computes
abort-row-with-3-free = rw comes-4093 refl

-- ── Undo rows ─────────────────────────────────────────────────────────────────────────────────────────────────────────

-- visit 1 has changed cell 0 twice, visit 2 cell 1 once
abbrev changed : List Row
changed = Row.begin 1 ∷ Row.begin 2 ∷ Row.change 1 0 (pos 7) ∷ Row.change 1 0 (pos 8) ∷ Row.change 2 1 (pos 9) ∷ []

-- the second change of visit 1 is undone; the first is, too
abbrev undone_one : List Row
undone_one = changed ++ (Row.undo 1 0 4 (pos 8) ∷ [])

abbrev undone_both : List Row
undone_both = undone_one ++ (Row.undo 1 0 3 (pos 7) ∷ [])

-- in this order, with the abort row after them
pub undone-allowed : allowed_log (undone_both ++ (Row.abort 1 ∷ [])) ≡ true
unfolding computes
undone-allowed = refl

-- 01: "the named row is the highest open change of that holder"
pub undo-lowest-first : allowed_after changed (Row.undo 1 0 3 (pos 7)) ≡ false
unfolding computes
undo-lowest-first = refl

pub undo-twice : allowed_after undone_one (Row.undo 1 0 4 (pos 8)) ≡ false
unfolding computes
undo-twice = refl

pub undo-of-another : allowed_after changed (Row.undo 2 0 4 (pos 8)) ≡ false
unfolding computes
undo-of-another = refl

-- 01: "cell and change equal that row's"
pub undo-other-cell : allowed_after changed (Row.undo 1 1 4 (pos 8)) ≡ false
unfolding computes
undo-other-cell = refl

pub undo-other-change : allowed_after changed (Row.undo 1 0 4 (pos 7)) ≡ false
unfolding computes
undo-other-change = refl

-- 01: of a change and of a commit, that no undo row bears the visit; of a hand-over, that neither visit has one
pub change-after-undo : allowed_after undone_one (Row.change 1 0 (pos 1)) ≡ false
unfolding computes
change-after-undo = refl

pub giver-after-undo : allowed_after undone_one (Row.hand_over 1 2 0) ≡ false
unfolding computes
giver-after-undo = refl

pub receiver-after-undo : allowed_after undone_one (Row.hand_over 2 1 1) ≡ false
unfolding computes
receiver-after-undo = refl

pub whole-visit-giver-after-undo : allowed_after undone_one (Row.hand_over_all 1 2) ≡ false
unfolding computes
whole-visit-giver-after-undo = refl

pub whole-visit-receiver-after-undo : allowed_after undone_one (Row.hand_over_all 2 1) ≡ false
unfolding computes
whole-visit-receiver-after-undo = refl

pub commit-after-undo : allowed_after undone_both (Row.commit 1) ≡ false
unfolding computes
commit-after-undo = refl

-- 01: of an abort, that the visit "holds no open change"
pub abort-too-early : allowed_after undone_one (Row.abort 1) ≡ false
unfolding computes
abort-too-early = refl

-- a change that was handed over is the receiver's: the giver may abort, and the receiver may not
pub abort-of-the-giver :
    map (allowed_after (Row.begin 1 ∷ Row.begin 2 ∷ Row.change 1 0 (pos 7) ∷ Row.hand_over 1 2 0 ∷ [])) (Row.abort 1 ∷ Row.abort 2 ∷ []) ≡ true ∷ false ∷ []
unfolding computes
abort-of-the-giver = refl
