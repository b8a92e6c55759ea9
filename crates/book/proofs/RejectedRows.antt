-- Document 02, L8, "Finer reasons for a rejected log": the number by which a row is refused, at each limit, and where two or three reasons come together. All hold
-- by computing, those after a full log from what its rows come to.
use Prim.Native.Nat.{ℕ, suc}
use mathlib.Core.Path.{◌≡◌, refl}
use mathlib.Core.List.{List, [], ◌∷◌, ◌++◌, map}
use lib.ListN.{length, replicate, set}
use lib.IntN.{pos}
use Rattle.book.specs.Lists.{tabulate}
use Rattle.book.specs.Rows.{Row}
use Rattle.book.specs.Ledger.{empty, ledger}
use Rattle.book.specs.RowBytes.{row_bytes}
use Rattle.book.specs.LogBytes.{rows_bytes, judge, Log, bad, read_rows}
use Rattle.book.proofs.WorkedExamples.{computes, visits, scopes}
use Rattle.book.proofs.FullLogs.{rows4091, rows4092, rows4093, sixteen_visits, comes-4091, comes-4092, comes-4093, comes-sixteen}

-- the number of the next row with these bytes after these rows, 0 where it is allowed
abbrev judged : List Row → List ℕ → ℕ
judged rs bs = judge (ledger rs) (suc (length rs)) bs

-- of a row, as it is, and with one byte set
abbrev judged_row : List Row → Row → ℕ
judged_row rs r = judged rs (row_bytes (suc (length rs)) r)

abbrev judged_with : List Row → Row → ℕ → ℕ → ℕ
judged_with rs r i b = judged rs (set (row_bytes (suc (length rs)) r) i b)

-- of row n where so many rows stand before it that they are not counted here
abbrev judged_at : List Row → ℕ → Row → ℕ
judged_at rs n r = judge (ledger rs) n (row_bytes n r)

-- what is read in the bytes of n rows
abbrev read : ℕ → List ℕ → Log
read n bs = read_rows n 1 empty bs

-- ── 3: "unknown kind, a byte that must be zero, a wrong own number, bytes after the end" ──────────────────────────────

-- each byte of a commit row set to 255: of its own bytes, the visit's two alone are a matter of rules
pub each-byte : tabulate 16 0 (λ i. judged_with (visits 1) (Row.commit 1) i 255) ≡
    3 ∷ 16 ∷ 3 ∷ 3 ∷ 3 ∷ 3 ∷ 3 ∷ 3 ∷ 3 ∷ 3 ∷ 16 ∷ 3 ∷ 3 ∷ 3 ∷ 3 ∷ 3 ∷ []
unfolding computes
each-byte = refl

-- of a row that hands cell 0 over and of one that undoes row 3: the bytes of visits, cell, row undone and change are a matter of rules, all others of bytes
pub each-byte-of-a-hand-over : tabulate 16 0 (λ i. judged_with (scopes 1) (Row.hand_over 1 2 0) i 255) ≡
    3 ∷ 16 ∷ 16 ∷ 16 ∷ 3 ∷ 3 ∷ 3 ∷ 3 ∷ 3 ∷ 3 ∷ 16 ∷ 16 ∷ 3 ∷ 3 ∷ 3 ∷ 3 ∷ []
unfolding computes
each-byte-of-a-hand-over = refl

pub each-byte-of-an-undo : tabulate 16 0 (λ i. judged_with (scopes 1) (Row.undo 1 0 3 (pos 1)) i 255) ≡
    3 ∷ 16 ∷ 3 ∷ 16 ∷ 3 ∷ 3 ∷ 16 ∷ 16 ∷ 16 ∷ 16 ∷ 16 ∷ 3 ∷ 3 ∷ 3 ∷ 3 ∷ 3 ∷ []
unfolding computes
each-byte-of-an-undo = refl

-- the last kind and the one after it; the row's own number, one less and one more
pub first-unknown-kind : map (judged_with (scopes 1) (Row.hand_over_all 1 2) 0) (7 ∷ 8 ∷ []) ≡ 0 ∷ 3 ∷ []
unfolding computes
first-unknown-kind = refl

pub own-number : map (judged_with (visits 1) (Row.commit 1) 4) (1 ∷ 2 ∷ 3 ∷ []) ≡ 3 ∷ 0 ∷ 3 ∷ []
unfolding computes
own-number = refl

-- kind 0, and another byte set: the log has ended, whatever the row would be
pub kind-0-with-a-byte : map (λ i. read 2 (rows_bytes 1 (visits 1) ++ set (replicate 16 0) i 2)) (1 ∷ 4 ∷ 15 ∷ []) ≡ bad 3 2 ∷ bad 3 2 ∷ bad 3 2 ∷ []
unfolding computes
kind-0-with-a-byte = refl

-- a row after the end, be it one that would be allowed or one that breaks a rule
pub row-after-end : map (λ r. read 3 (rows_bytes 1 (visits 1) ++ replicate 16 0 ++ row_bytes 3 r)) (Row.commit 1 ∷ Row.commit 2 ∷ []) ≡ bad 3 3 ∷ bad 3 3 ∷ []
unfolding computes
row-after-end = refl

-- ── 16: "a visit, cell, holder or undo rule" ──────────────────────────────────────────────────────────────────────────

-- ranges: visit 0, receiver 0, cell 224, row 0 and row 4,097 undone; after two visits and a change of cell 0 by the first, in row 3
pub out_of_range : map (judged_row (scopes 1))
    (Row.begin 0 ∷ Row.change 0 0 (pos 1) ∷ Row.change 1 224 (pos 1) ∷ Row.hand_over 0 2 0 ∷ Row.hand_over 1 0 0 ∷ Row.hand_over 1 2 224 ∷
    Row.undo 0 0 3 (pos 1) ∷ Row.undo 1 224 3 (pos 1) ∷ Row.undo 1 0 0 (pos 1) ∷ Row.undo 1 0 4097 (pos 1) ∷ Row.commit 0 ∷ Row.abort 0 ∷
    Row.hand_over_all 0 2 ∷ Row.hand_over_all 1 0 ∷ []) ≡ replicate 14 16
unfolding computes
out_of_range = refl

-- cell 255 is a cell's byte, and no cell
pub highest-cell-byte : map (judged_with (visits 1) (Row.change 1 0 (pos 1)) 3) (223 ∷ 224 ∷ 255 ∷ []) ≡ 0 ∷ 16 ∷ 16 ∷ []
unfolding computes
highest-cell-byte = refl

-- visits that are not the next, not active, or one where two are asked; a giver that holds none; an abort with an open change
pub visits-and-holders : map (judged_row (scopes 1))
    (Row.begin 2 ∷ Row.begin 4 ∷ Row.change 3 0 (pos 1) ∷ Row.commit 3 ∷ Row.abort 3 ∷ Row.hand_over 3 1 0 ∷ Row.hand_over 1 3 0 ∷ Row.hand_over 1 1 0 ∷
    Row.hand_over 2 1 0 ∷ Row.hand_over 1 2 1 ∷ Row.hand_over_all 1 1 ∷ Row.hand_over_all 2 1 ∷ Row.abort 1 ∷ []) ≡ replicate 13 16
unfolding computes
visits-and-holders = refl

-- an undo row: the right one, another change, cell, holder; row 2 is no change, row 4 is the undo row itself
pub undo-rules : map (judged_row (scopes 1))
    (Row.undo 1 0 3 (pos 1) ∷ Row.undo 1 0 3 (pos 2) ∷ Row.undo 1 1 3 (pos 1) ∷ Row.undo 2 0 3 (pos 1) ∷ Row.undo 1 0 2 (pos 1) ∷ Row.undo 1 0 4 (pos 1) ∷ []) ≡
    0 ∷ replicate 5 16
unfolding computes
undo-rules = refl

-- a visit that an undo row bears
pub after-undo : map (judged_row (scopes 2 ++ (Row.undo 1 1 4 (pos 1) ∷ [])))
    (Row.change 1 0 (pos 1) ∷ Row.hand_over 1 2 0 ∷ Row.hand_over_all 1 2 ∷ Row.commit 1 ∷ Row.undo 1 1 4 (pos 1) ∷ Row.undo 1 0 3 (pos 1) ∷ []) ≡
    16 ∷ 16 ∷ 16 ∷ 16 ∷ 16 ∷ 0 ∷ []
unfolding computes
after-undo = refl

-- an undo row bears the second visit, to which the first would hand over
pub receiver-after-undo : map (judged_row (scopes 1 ++ (Row.change 2 1 (pos 1) ∷ Row.undo 2 1 4 (pos 1) ∷ [])))
    (Row.hand_over 1 2 0 ∷ Row.hand_over_all 1 2 ∷ Row.commit 1 ∷ []) ≡ 16 ∷ 16 ∷ 0 ∷ []
unfolding computes
receiver-after-undo = refl

-- ── 17: "sixteen visits, the scopes or the free rows" ─────────────────────────────────────────────────────────────────

pub sixteenth-visit : judged_row (visits 15) (Row.begin 16) ≡ 0
unfolding computes
sixteenth-visit = refl

pub seventeenth-visit : judged_row (visits 16) (Row.begin 17) ≡ 17
unfolding computes
seventeenth-visit = refl

pub last-scope : judged_row (scopes 63) (Row.change 1 63 (pos 1)) ≡ 0
unfolding computes
last-scope = refl

-- one scope too many; a change that grows a scope
pub scope-too-many : map (judged_row (scopes 64)) (Row.change 1 64 (pos 1) ∷ Row.change 1 63 (pos 1) ∷ []) ≡ 17 ∷ 0 ∷ []
unfolding computes
scope-too-many = refl

-- a scope is in use while the holder of its changes is active: also where its only change is undone, and where the visit that made its changes has ended
pub emptied-scope : judged_row (scopes 64 ++ (Row.undo 1 63 66 (pos 1) ∷ [])) (Row.change 2 64 (pos 1)) ≡ 17
unfolding computes
emptied-scope = refl

pub scopes-by-holder : judged_row (scopes 64 ++ (Row.hand_over_all 1 2 ∷ Row.commit 1 ∷ [])) (Row.change 2 64 (pos 1)) ≡ 17
unfolding computes
scopes-by-holder = refl

-- after 4,091 rows 5 are free, and the reserve is 3; the first visit holds the change, after one row more the second, then the first again
pub five-free : map (judged_at rows4091 4092) (Row.begin 3 ∷ Row.change 1 0 (pos 1) ∷ Row.hand_over 1 2 0 ∷ Row.hand_over_all 1 2 ∷ []) ≡ 0 ∷ 0 ∷ 0 ∷ 0 ∷ []
unfolding computes
five-free = rw comes-4091 refl

pub four-free : map (judged_at rows4092 4093) (Row.begin 3 ∷ Row.change 1 0 (pos 1) ∷ Row.hand_over 2 1 0 ∷ Row.hand_over_all 2 1 ∷ []) ≡ 17 ∷ 17 ∷ 0 ∷ 0 ∷ []
unfolding computes
four-free = rw comes-4092 refl

pub three-free : map (judged_at rows4093 4094)
    (Row.begin 3 ∷ Row.change 1 0 (pos 1) ∷ Row.hand_over 1 2 0 ∷ Row.hand_over_all 1 2 ∷ Row.undo 1 0 3 (pos 1) ∷ Row.commit 1 ∷ Row.abort 2 ∷ []) ≡
    17 ∷ 17 ∷ 17 ∷ 17 ∷ 0 ∷ 0 ∷ 0 ∷ []
unfolding computes
three-free = rw comes-4093 refl

-- ── "Checks: within a row first 3, then 16 .., then 17" ───────────────────────────────────────────────────────────────

-- sixteen visits are active: a begin row of another visit than the next; with a byte set that must be zero, of the next visit and of another one
pub begin-16-before-17 : map (judged_row (visits 16)) (Row.begin 16 ∷ Row.begin 18 ∷ Row.begin 0 ∷ []) ≡ 16 ∷ 16 ∷ 16 ∷ []
unfolding computes
begin-16-before-17 = refl

pub begin-3-before-17 : judged_with (visits 16) (Row.begin 17) 2 1 ≡ 3
unfolding computes
begin-3-before-17 = refl

pub begin-3-before-both : judged_with (visits 16) (Row.begin 18) 2 1 ≡ 3
unfolding computes
begin-3-before-both = refl

-- 64 scopes are in use: a change by a visit that is not active, or of no cell; with another own number
pub change-16-before-17 : map (judged_row (scopes 64)) (Row.change 3 64 (pos 1) ∷ Row.change 1 224 (pos 1) ∷ []) ≡ 16 ∷ 16 ∷ []
unfolding computes
change-16-before-17 = refl

pub change-3-before-both : map (λ r. judged_with (scopes 64) r 4 66) (Row.change 1 64 (pos 1) ∷ Row.change 3 64 (pos 1) ∷ []) ≡ 3 ∷ 3 ∷ []
unfolding computes
change-3-before-both = refl

-- a byte that must be zero, and a rule
pub bytes-before-rule : map (λ i. judged_with (visits 1) (Row.commit 2) i 1) (2 ∷ 4 ∷ 15 ∷ []) ≡ 3 ∷ 3 ∷ 3 ∷ []
unfolding computes
bytes-before-rule = refl

-- no row is free beyond the reserve: rows of another visit, of a giver that holds none, of no cell
pub rule-before-free-rows : map (judged_at rows4093 4094)
    (Row.begin 4 ∷ Row.change 3 0 (pos 1) ∷ Row.change 1 224 (pos 1) ∷ Row.hand_over 2 1 0 ∷ Row.hand_over 1 2 1 ∷ Row.hand_over_all 2 1 ∷ []) ≡ replicate 6 16
unfolding computes
rule-before-free-rows = rw comes-4093 refl

-- and with another own number
pub bytes-before-free-rows : map (λ r. judge (ledger rows4093) 4094 (row_bytes 4095 r)) (Row.begin 3 ∷ Row.begin 4 ∷ Row.hand_over 1 2 0 ∷ Row.hand_over 2 1 0 ∷ []) ≡
    replicate 4 3
unfolding computes
bytes-before-free-rows = refl

-- sixteen visits are active and no row is free beyond the reserve: both limits are 17, after a rule
pub both-limits : map (judged_at sixteen_visits 4080) (Row.begin 17 ∷ Row.begin 18 ∷ []) ≡ 17 ∷ 16 ∷ []
unfolding computes
both-limits = rw comes-sixteen refl

-- ── "the row number still being the first row not allowed" ────────────────────────────────────────────────────────────

-- an earlier row comes first, whatever the numbers: 16 in row 2, or 17 in row 17, before 3 in the row after it
pub rule-in-an-earlier-row : read 3 (rows_bytes 1 (Row.begin 1 ∷ Row.begin 1 ∷ []) ++ replicate 16 255) ≡ bad 16 2
unfolding computes
rule-in-an-earlier-row = refl

pub limit-in-an-earlier-row : read 18 (rows_bytes 1 (visits 17) ++ replicate 16 255) ≡ bad 17 17
unfolding computes
limit-in-an-earlier-row = refl
