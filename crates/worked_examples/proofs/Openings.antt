-- Whole openings over full stores of 65,536 and 1,024 bytes (specs/Opening), computed: ready ones, and each refusal of an opening with its value.
use Prim.Native.Nat.{ℕ, ◌+◌, ◌*◌}
use mathlib.Core.Bool.{Bool, true, false, cond}
use mathlib.Core.Path.{◌≡◌, refl}
use mathlib.Core.List.{List, [], ◌∷◌, ◌++◌, map}
use lib.ListN.{take, set}
use lib.IntN.{ℤ, pos, negsuc}
use lib.Dec.{eqb}
use Rattle.book.specs.Rows.{Row}
use Rattle.book.specs.Power.{none, left}
use Rattle.book.specs.Book.{Answer, answer}
use Rattle.book.specs.LogBytes.{log_bytes}
use Rattle.book.specs.Pages.{chart_bytes, cell_of, page_after}
use Rattle.book.specs.Opening.{Opened, open_bytes, no_copy}
use Rattle.book.specs.Cases.{fives}
use Rattle.book.proofs.WorkedExamples.{computes, visits}

-- what an example tells of an opening: the answer, the stored rows, whether the store is open, and the copy's cells 0, 7 and 223
record Seen : Type 0 where
  answer : Answer
  stored : List Row
  is_open : Bool
  cells : List ℤ

abbrev seen : Opened → Seen
seen o = record { answer = o.answer; stored = o.book.stored; is_open = o.book.is_open; cells = map (cell_of o.copy) (0 ∷ 7 ∷ 223 ∷ []) }

abbrev ready : ℕ → List Row → List ℤ → Seen
ready n rs cs = record { answer = answer 0 (pos n); stored = rs; is_open = true; cells = cs }

-- not ready: the store is closed and the copy is zero
abbrev refused : ℕ → ℕ → List Row → Seen
refused n place rs = record { answer = answer n (pos place); stored = rs; is_open = false; cells = pos 0 ∷ pos 0 ∷ pos 0 ∷ [] }

-- ── Ready ─────────────────────────────────────────────────────────────────────────────────────────────────────────────

-- 1 changes cell 7 and commits; what it handed to 2 and what 2 changed itself is open
abbrev rows : List Row
rows =
    Row.begin 1 ∷ Row.begin 2 ∷ Row.change 1 0 (pos 300) ∷ Row.hand_over 1 2 0 ∷ Row.change 2 223 (negsuc 32767) ∷ Row.change 1 7 (pos 70) ∷ Row.commit 1 ∷ []

abbrev closings : List Row
closings = Row.undo 2 223 5 (negsuc 32767) ∷ Row.undo 2 0 3 (pos 300) ∷ Row.abort 2 ∷ []

-- the charts that were formatted with 5 in each cell, each page stored after the first n rows
abbrev stored : ℕ → List ℕ
stored n = chart_bytes (page_after fives (take n (rows ++ closings)))

-- a cut before the abort row: the undo row is stored, and the page bears it
abbrev undone : List Row
undone = Row.begin 1 ∷ Row.change 1 0 (pos 9) ∷ Row.undo 1 0 2 (pos 9) ∷ []

-- 1 changes two cells, hands all over to 2 and commits: both changes are open
abbrev handed_all : List Row
handed_all = Row.begin 1 ∷ Row.begin 2 ∷ Row.change 1 0 (pos 300) ∷ Row.change 1 7 (pos 70) ∷ Row.hand_over_all 1 2 ∷ Row.commit 1 ∷ []

abbrev all_fives : List ℤ
all_fives = pos 5 ∷ pos 5 ∷ pos 5 ∷ []

record ReadyOpenings : Type 0 where
  -- undo rows, highest row first, then the abort row; the same from pages of any age
  blank-pages : seen (open_bytes none (log_bytes rows) (stored 0)) ≡ ready 3 (rows ++ closings) (pos 5 ∷ pos 75 ∷ pos 5 ∷ [])
  flushed-pages : seen (open_bytes none (log_bytes rows) (stored 5)) ≡ ready 3 (rows ++ closings) (pos 5 ∷ pos 75 ∷ pos 5 ∷ [])
  -- the next opening writes nothing, whatever fuse it has
  again : seen (open_bytes (left 0) (log_bytes (rows ++ closings)) (stored 9)) ≡ ready 0 (rows ++ closings) (pos 5 ∷ pos 75 ∷ pos 5 ∷ [])
  -- 01: an undo row is not applied again to a page that bears it, and is applied to one that does not
  bears-undo : seen (open_bytes none (log_bytes undone) (chart_bytes (page_after fives undone))) ≡ ready 1 (undone ++ (Row.abort 1 ∷ [])) all_fives
  bears-change : seen (open_bytes none (log_bytes undone) (chart_bytes (page_after fives (take 2 undone)))) ≡ ready 1 (undone ++ (Row.abort 1 ∷ [])) all_fives
  -- 02, L2: the hand-over of a whole visit
  whole-visit : seen (open_bytes none (log_bytes handed_all) (chart_bytes (page_after fives []))) ≡
      ready 3 (handed_all ++ (Row.undo 2 7 4 (pos 70) ∷ Row.undo 2 0 3 (pos 300) ∷ Row.abort 2 ∷ [])) all_fives
  -- cells at the bound pass
  outermost : seen (open_bytes none (log_bytes []) (chart_bytes (page_after (λ c. cond (eqb c 7) (negsuc 199999999) (pos 200000000)) []))) ≡
      ready 0 [] (pos 200000000 ∷ negsuc 199999999 ∷ pos 200000000 ∷ [])

ready-openings : ReadyOpenings
unfolding computes
ready-openings = record { blank-pages = refl; flushed-pages = refl; again = refl; bears-undo = refl; bears-change = refl; whole-visit = refl; outermost = refl }

-- ── Refused by 3, 16 or 17, with the first bad row ────────────────────────────────────────────────────────────────────

-- any charts: the log is checked first
abbrev RefusedRow : ℕ → ℕ → List ℕ → Type 0
RefusedRow k n log = seen (open_bytes none log (set (stored 0) 0 255)) ≡ refused k n []

record BadLogs : Type 0 where
  -- in the middle: 2 has not begun; the undo row's change is not that of row 2
  not-active : RefusedRow 16 2 (log_bytes (Row.begin 1 ∷ Row.change 2 0 (pos 9) ∷ Row.change 1 0 (pos 9) ∷ Row.commit 1 ∷ []))
  other-change : RefusedRow 16 3 (log_bytes (Row.begin 1 ∷ Row.change 1 0 (pos 9) ∷ Row.undo 1 0 2 (pos 8) ∷ Row.abort 1 ∷ []))
  -- row 4 has the number 5
  wrong-number : RefusedRow 3 4 (set (log_bytes rows) (16 * 3 + 4) 5)
  -- row 2, a begin row, has a cell; row 5, which hands over every cell, has one; there is no kind 8
  unnamed-byte : RefusedRow 3 2 (set (log_bytes rows) (16 * 1 + 3) 1)
  cell-of-kind-7 : RefusedRow 3 5 (set (log_bytes handed_all) (16 * 4 + 3) 7)
  unknown-kind : RefusedRow 3 7 (set (log_bytes rows) (16 * 6) 8)
  -- a byte after the end, in its last row
  late-byte : RefusedRow 3 4096 (set (log_bytes rows) 65535 1)
  -- rows after the end are none
  gap : RefusedRow 3 8 (set (log_bytes (rows ++ closings)) (16 * 7) 0)
  -- row 6 changes cell 224; row 1 begins visit 0; both are a row's bytes
  no_cell : RefusedRow 16 6 (set (log_bytes rows) (16 * 5 + 3) 224)
  no-visit : RefusedRow 16 1 (set (log_bytes rows) 1 0)
  -- a seventeenth visit; a byte of its row is wrong as well; it is not the next visit
  too-many-active : RefusedRow 17 17 (log_bytes (visits 17))
  bytes-first : RefusedRow 3 17 (set (log_bytes (visits 17)) (16 * 16 + 2) 1)
  rule-first : RefusedRow 16 17 (set (log_bytes (visits 17)) (16 * 16 + 1) 18)
  -- and where two rows are bad, the first of them says
  first-row : RefusedRow 17 17 (set (log_bytes (visits 17)) (16 * 17) 255)

bad-logs : BadLogs
unfolding computes
bad-logs = record {
  not-active = refl;
  other-change = refl;
  wrong-number = refl;
  unnamed-byte = refl;
  cell-of-kind-7 = refl;
  unknown-kind = refl;
  late-byte = refl;
  gap = refl;
  no_cell = refl;
  no-visit = refl;
  too-many-active = refl;
  bytes-first = refl;
  rule-first = refl;
  first-row = refl;
}

-- ── Refused by 4, with the first bad page ─────────────────────────────────────────────────────────────────────────────

-- a byte that is not zero in byte 3 of the last page, and of an earlier one
abbrev bad_pages : List ℕ
bad_pages = set (set (stored 0) (32 * 31 + 3) 1) (32 * 30 + 3) 1

record BadPages : Type 0 where
  -- with no fuse, and where the power would fail
  first-page : seen (open_bytes none (log_bytes undone) bad_pages) ≡ refused 4 30 []
  before-power : seen (open_bytes (left 0) (log_bytes undone) bad_pages) ≡ refused 4 30 []

bad-pages : BadPages
unfolding computes
bad-pages = record { first-page = refl; before-power = refl }

-- ── Refused by 5 ──────────────────────────────────────────────────────────────────────────────────────────────────────

record PowerFails : Type 0 where
  -- the second of the three closing rows is the last write that lands
  in-the-middle : seen (open_bytes (left 2) (log_bytes rows) (stored 0)) ≡ refused 5 0 (rows ++ take 2 closings)
  log : (open_bytes (left 2) (log_bytes rows) (stored 0)).log ≡ log_bytes (rows ++ take 2 closings)
  copy : (open_bytes (left 2) (log_bytes rows) (stored 0)).copy ≡ no_copy
  -- the opening after it writes the third
  next : seen (open_bytes (left 1) (log_bytes (rows ++ take 2 closings)) (stored 0)) ≡ ready 1 (rows ++ closings) (pos 5 ∷ pos 75 ∷ pos 5 ∷ [])

power-fails : PowerFails
unfolding computes
power-fails = record { in-the-middle = refl; log = refl; copy = refl; next = refl }
