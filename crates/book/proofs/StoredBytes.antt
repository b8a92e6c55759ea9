-- The stored bytes (document 01, "The store"): lengths, the bytes of a row of each kind, where a cell stands; what an opening reads in a log's rows, and
-- which page it refuses ("Refusals by place", open). All hold by computing. Whole openings are in crate `worked_examples`.
use Prim.Native.Nat.{ℕ, ◌+◌, ◌*◌}
use mathlib.Core.Path.{◌≡◌, refl}
use mathlib.Core.Bool.{true, false, cond}
use mathlib.Core.List.{List, [], ◌∷◌, ◌++◌, map}
use lib.ListN.{length, length-replicate, replicate, take, drop, set}
use lib.IntN.{ℤ, pos, negsuc, neg_ℤ}
use lib.Dec.{eqb}
use Rattle.book.specs.Lists.{tabulate, join}
use Rattle.book.specs.Limits.{kind_limit, format_bound, move_bound}
use Rattle.book.specs.Rows.{Row}
use Rattle.book.specs.Ledger.{empty}
use Rattle.book.specs.Cells.{applied, zeros}
use Rattle.book.specs.Power.{none}
use Rattle.book.specs.Book.{Answer, answer, done}
use Rattle.book.specs.Numbers.{within}
use Rattle.book.specs.RowBytes.{kind_of, row_bytes}
use Rattle.book.specs.LogBytes.{log_bytes, rows_bytes, Log, good, bad, read_rows}
use Rattle.book.specs.OldLogs.{old_fits}
use Rattle.book.specs.Pages.{page_bytes, chart_bytes, page_at, page_after, cell_of, is_page, redone}
use Rattle.book.specs.Opening.{no_copy, checked}
use Rattle.book.proofs.WorkedExamples.{computes}

-- ── The log ───────────────────────────────────────────────────────────────────────────────────────────────────────────

-- 01: "65,536 bytes"; by a law of `replicate`, since to count them takes longer
pub log-length : length (log_bytes []) ≡ 65536
unfolding computes
log-length = length-replicate {A = ℕ} 65536 0

-- a row of each kind, in the order of the kinds
abbrev each_kind : List Row
each_kind = Row.begin 1 ∷ Row.change 1 9 (negsuc 199) ∷ Row.hand_over 1 2 9 ∷ Row.undo 2 9 2 (negsuc 199) ∷ Row.commit 1 ∷ Row.abort 2 ∷
    Row.hand_over_all 1 2 ∷ []

-- 01: "kind: 1 begin, 2 change, 3 hand-over, 4 undo, 5 commit, 6 abort"; 02, L2: 7 the hand-over of a whole visit
pub kinds : map kind_of each_kind ≡ tabulate kind_limit 1 (λ k. k)
kinds = refl

-- 01, the table of bytes: row 258 of each kind; 65,336 is -200 in 16 bits
pub row-of-each-kind : map (row_bytes 258) each_kind ≡
    (1 ∷ 1 ∷ 0 ∷ 0 ∷ 2 ∷ 1 ∷ 0 ∷ 0 ∷ 0 ∷ 0 ∷ 0 ∷ 0 ∷ 0 ∷ 0 ∷ 0 ∷ 0 ∷ []) ∷
    (2 ∷ 1 ∷ 0 ∷ 9 ∷ 2 ∷ 1 ∷ 0 ∷ 0 ∷ 56 ∷ 255 ∷ 0 ∷ 0 ∷ 0 ∷ 0 ∷ 0 ∷ 0 ∷ []) ∷
    (3 ∷ 1 ∷ 2 ∷ 9 ∷ 2 ∷ 1 ∷ 0 ∷ 0 ∷ 0 ∷ 0 ∷ 0 ∷ 0 ∷ 0 ∷ 0 ∷ 0 ∷ 0 ∷ []) ∷
    (4 ∷ 2 ∷ 0 ∷ 9 ∷ 2 ∷ 1 ∷ 2 ∷ 0 ∷ 56 ∷ 255 ∷ 0 ∷ 0 ∷ 0 ∷ 0 ∷ 0 ∷ 0 ∷ []) ∷
    (5 ∷ 1 ∷ 0 ∷ 0 ∷ 2 ∷ 1 ∷ 0 ∷ 0 ∷ 0 ∷ 0 ∷ 0 ∷ 0 ∷ 0 ∷ 0 ∷ 0 ∷ 0 ∷ []) ∷
    (6 ∷ 2 ∷ 0 ∷ 0 ∷ 2 ∷ 1 ∷ 0 ∷ 0 ∷ 0 ∷ 0 ∷ 0 ∷ 0 ∷ 0 ∷ 0 ∷ 0 ∷ 0 ∷ []) ∷
    (7 ∷ 1 ∷ 2 ∷ 0 ∷ 2 ∷ 1 ∷ 0 ∷ 0 ∷ 0 ∷ 0 ∷ 0 ∷ 0 ∷ 0 ∷ 0 ∷ 0 ∷ 0 ∷ []) ∷
    []
unfolding computes
row-of-each-kind = refl

-- 02, L7: "byte 1 stays the low byte and byte 10 holds the high one, byte 2 and byte 11 likewise for the receiver": 300 is 44 and 1, 513 is 1 and 2
abbrev wide_visits : List Row
wide_visits = Row.begin 300 ∷ Row.change 300 9 (negsuc 199) ∷ Row.hand_over 300 513 9 ∷ Row.undo 513 9 2 (negsuc 199) ∷ Row.commit 300 ∷ Row.abort 513 ∷
    Row.hand_over_all 300 513 ∷ []

pub wide-visits : map (row_bytes 258) wide_visits ≡
    (1 ∷ 44 ∷ 0 ∷ 0 ∷ 2 ∷ 1 ∷ 0 ∷ 0 ∷ 0 ∷ 0 ∷ 1 ∷ 0 ∷ 0 ∷ 0 ∷ 0 ∷ 0 ∷ []) ∷
    (2 ∷ 44 ∷ 0 ∷ 9 ∷ 2 ∷ 1 ∷ 0 ∷ 0 ∷ 56 ∷ 255 ∷ 1 ∷ 0 ∷ 0 ∷ 0 ∷ 0 ∷ 0 ∷ []) ∷
    (3 ∷ 44 ∷ 1 ∷ 9 ∷ 2 ∷ 1 ∷ 0 ∷ 0 ∷ 0 ∷ 0 ∷ 1 ∷ 2 ∷ 0 ∷ 0 ∷ 0 ∷ 0 ∷ []) ∷
    (4 ∷ 1 ∷ 0 ∷ 9 ∷ 2 ∷ 1 ∷ 2 ∷ 0 ∷ 56 ∷ 255 ∷ 2 ∷ 0 ∷ 0 ∷ 0 ∷ 0 ∷ 0 ∷ []) ∷
    (5 ∷ 44 ∷ 0 ∷ 0 ∷ 2 ∷ 1 ∷ 0 ∷ 0 ∷ 0 ∷ 0 ∷ 1 ∷ 0 ∷ 0 ∷ 0 ∷ 0 ∷ 0 ∷ []) ∷
    (6 ∷ 1 ∷ 0 ∷ 0 ∷ 2 ∷ 1 ∷ 0 ∷ 0 ∷ 0 ∷ 0 ∷ 2 ∷ 0 ∷ 0 ∷ 0 ∷ 0 ∷ 0 ∷ []) ∷
    (7 ∷ 44 ∷ 1 ∷ 0 ∷ 2 ∷ 1 ∷ 0 ∷ 0 ∷ 0 ∷ 0 ∷ 1 ∷ 2 ∷ 0 ∷ 0 ∷ 0 ∷ 0 ∷ []) ∷
    []
unfolding computes
wide-visits = refl

-- 02, L7: "Old logs mean the same." Rows with visits of one byte stood in them, those with visits of two did not.
pub old-rows-fit : map old_fits (each_kind ++ wide_visits) ≡ replicate 7 true ++ replicate 7 false
unfolding computes old_fits
old-rows-fit = refl

-- what is read in the bytes of n rows
abbrev read : ℕ → List ℕ → Log
read n bs = read_rows n 1 empty bs

-- 01: "rows of 16, numbered from 1"
pub two-rows-read : read 3 (rows_bytes 1 (Row.begin 1 ∷ Row.commit 1 ∷ []) ++ replicate 16 0) ≡ good (Row.begin 1 ∷ Row.commit 1 ∷ [])
unfolding computes
two-rows-read = refl

-- 01: "signed 16-bit change"
abbrev extremes : List Row
extremes = Row.begin 1 ∷ Row.change 1 0 (negsuc 32767) ∷ Row.change 1 0 (pos 32767) ∷ []

pub extremes-read : read 3 (rows_bytes 1 extremes) ≡ good extremes
unfolding computes
extremes-read = refl

-- two visits, a change by the first, and the hand-over of all that it holds
abbrev four_rows : List Row
four_rows = Row.begin 1 ∷ Row.begin 2 ∷ Row.change 1 9 (pos 1) ∷ Row.hand_over_all 1 2 ∷ []

pub whole-visit-read : read 4 (rows_bytes 1 four_rows) ≡ good four_rows
unfolding computes
whole-visit-read = refl

-- 02, L2: "cell zero". The cell's byte of a row of kind 7 is one that must be zero, even where the giver holds a change of that cell.
pub whole-visit-with-a-cell : read 4 (set (rows_bytes 1 four_rows) (16 * 3 + 3) 9) ≡ bad 3 4
unfolding computes
whole-visit-with-a-cell = refl

-- 02, L7: a begin row has no receiver, so its byte 11 must be zero; with byte 10 set, row 1 begins visit 257
pub high-bytes-of-a-begin : map (λ i. read 1 (set (rows_bytes 1 (Row.begin 1 ∷ [])) i 1)) (10 ∷ 11 ∷ []) ≡ bad 16 1 ∷ bad 3 1 ∷ []
unfolding computes
high-bytes-of-a-begin = refl

-- there is no kind 8
pub no-kind-8 : read 4 (set (rows_bytes 1 four_rows) (16 * 3) 8) ≡ bad 3 4
unfolding computes
no-kind-8 = refl

-- 01: "gives the first such row": rows 2 and 3 are not allowed
pub first-bad-row : read 3 (rows_bytes 1 (Row.begin 1 ∷ Row.begin 1 ∷ Row.begin 1 ∷ [])) ≡ bad 16 2
unfolding computes
first-bad-row = refl

-- 01: "a byte after the end not zero"
pub late-byte : read 3 (rows_bytes 1 (Row.begin 1 ∷ []) ++ set (replicate 32 0) 31 1) ≡ bad 3 3
unfolding computes
late-byte = refl

-- 01: "4,096 rows move a cell by at most 134,217,728"
pub lowest-move : applied zeros (replicate 4096 (Row.change 1 0 (negsuc 32767))) 0 ≡ neg_ℤ (pos move_bound)
lowest-move = refl

-- ── The charts ────────────────────────────────────────────────────────────────────────────────────────────────────────

-- each cell has its own number
abbrev numbered : List ℕ
numbered = chart_bytes (page_after (λ c. pos c) [])

-- 01: "1,024 bytes"
pub charts-length : length numbered ≡ 1024
unfolding computes
charts-length = refl

pub copy-length : length no_copy ≡ 1024
copy-length = refl

-- 01: "32 pages of 32 bytes": where each byte is the number of its page
pub page-31 : page_at (join (tabulate 32 0 (λ p. replicate 32 p))) 31 ≡ replicate 32 31
page-31 = refl

-- 01: "cell c (0 to 223) is place c mod 7 of page c / 7": cell 7 after the first page's 32 bytes and a mark, cell 223 at the end
pub stored-cell-7 : take 4 (drop 36 numbered) ≡ 7 ∷ 0 ∷ 0 ∷ 0 ∷ []
unfolding computes
stored-cell-7 = refl

pub stored-cell-223 : drop 1020 numbered ≡ 223 ∷ 0 ∷ 0 ∷ 0 ∷ []
unfolding computes
stored-cell-223 = refl

pub cell-223 : cell_of numbered 223 ≡ pos 223
unfolding computes
cell-223 = refl

-- 01: "a format is within ±1,000,000"
pub format-range : map (within format_bound) (pos 1000000 ∷ pos 1000001 ∷ negsuc 999999 ∷ negsuc 1000000 ∷ []) ≡ true ∷ false ∷ true ∷ false ∷ []
format-range = refl

-- ── The check of the pages ────────────────────────────────────────────────────────────────────────────────────────────

-- the answer of an opening of these charts that has read an empty log
abbrev pages_checked : List ℕ → Answer
pages_checked charts = (checked none (log_bytes []) charts (good [])).answer

-- z in cell c, 0 in the others
abbrev one_cell : ℕ → ℤ → List ℕ
one_cell c z = chart_bytes (page_after (λ d. cond (eqb d c) z (pos 0)) [])

-- 01: "a cell beyond ±200,000,000"
pub highest-cell : pages_checked (one_cell 0 (pos 200000000)) ≡ done (pos 0)
unfolding computes
highest-cell = refl

pub lowest-cell : pages_checked (one_cell 223 (negsuc 199999999)) ≡ done (pos 0)
unfolding computes
lowest-cell = refl

pub too-high-cell : pages_checked (one_cell 0 (pos 200000001)) ≡ answer 4 (pos 0)
unfolding computes
too-high-cell = refl

pub too-low-cell : pages_checked (one_cell 223 (negsuc 200000000)) ≡ answer 4 (pos 31)
unfolding computes
too-low-cell = refl

-- a page with this mark and 0 in its cells
abbrev marked : ℕ → List ℕ
marked m = page_bytes (record { mark = m; cell = λ j. pos 0 })

-- rows 2 and 5 are of page 1, rows 3 and 4 of page 0
abbrev page_rows : List Row
page_rows =
    Row.begin 1 ∷ Row.change 1 7 (pos 1) ∷ Row.change 1 6 (pos 1) ∷ Row.undo 1 6 3 (pos 1) ∷ Row.undo 1 7 2 (pos 1) ∷ Row.abort 1 ∷ []

-- 01: "mark neither 0 nor a change or undo row of that page": page 1 with the marks 0 to 7
pub marks : tabulate 8 0 (λ m. is_page page_rows 1 (marked m)) ≡ true ∷ false ∷ true ∷ false ∷ false ∷ true ∷ false ∷ false ∷ []
unfolding computes
marks = refl

-- a change of 0 g is a change row of its page
pub mark-of-no-grams : is_page (Row.begin 1 ∷ Row.change 1 0 (pos 0) ∷ []) 0 (marked 2) ≡ true
unfolding computes
mark-of-no-grams = refl

-- 01: "bytes 2-3 not zero"
pub bytes-2-3 : map (λ i. is_page [] 0 (set (marked 0) i 1)) (2 ∷ 3 ∷ []) ≡ false ∷ false ∷ []
unfolding computes
bytes-2-3 = refl

-- 01: 4 "gives the first such page"
pub first-bad-page : pages_checked (set (set (one_cell 0 (pos 0)) (32 * 30 + 2) 1) (32 * 31 + 2) 1) ≡ answer 4 (pos 30)
unfolding computes
first-bad-page = refl

-- 01: "each change or undo row whose number exceeds its page's mark is applied": row 3 alone
pub redone-from-mark : (redone (Row.begin 1 ∷ Row.change 1 0 (pos 10) ∷ Row.change 1 0 (pos 20) ∷ []) 0 (marked 2)).cell 0 ≡ pos 20
unfolding computes
redone-from-mark = refl
