-- The rows of the log as events (document 01, "The store"): their kinds, what each does to the charts, and which fields fit their bytes.
use Rattle.std.specs.Prelude.{ℕ, Bool, not, ◌&&◌, ℤ, pos, negsuc, neg_ℤ, eqb, leb, ltb}
use Rattle.std.specs.Int.Signed.{le_z}
use Rattle.book.specs.Limits.{row_limit, cell_limit, visit_limit}

-- 01: a row of the log, by its kind. Row n is the n-th of the list, from 1. 02, L2: `hand_over_all` is "the hand-over of every cell of which the giver holds
-- a change".
pub data Row : Type 0 where
  begin : (visit : ℕ) → Row
  change : (visit cell : ℕ) (amount : ℤ) → Row
  hand_over : (giver receiver cell : ℕ) → Row
  undo : (holder cell row : ℕ) (amount : ℤ) → Row
  commit : (visit : ℕ) → Row
  abort : (visit : ℕ) → Row
  hand_over_all : (giver receiver : ℕ) → Row

-- ── What a row does to the charts ─────────────────────────────────────────────────────────────────────────────────────

-- a cell moves by so many grams, or nothing does
pub data Effect : Type 0 where
  nothing : Effect
  moves : (cell : ℕ) (amount : ℤ) → Effect

-- 01: a change is added, an undo subtracted; an undo row has the change as first logged, not negated
abbrev pub effect : Row → Effect
effect (begin v) = nothing
effect (change v c a) = moves c a
effect (hand_over g r c) = nothing
effect (undo h c n a) = moves c (neg_ℤ a)
effect (commit v) = nothing
effect (abort v) = nothing
effect (hand_over_all g r) = nothing

-- the row that an undo row names, 0 for every other row
abbrev pub undone_by : Row → ℕ
undone_by (begin v) = 0
undone_by (change v c a) = 0
undone_by (hand_over g r c) = 0
undone_by (undo h c n a) = n
undone_by (commit v) = 0
undone_by (abort v) = 0
undone_by (hand_over_all g r) = 0

-- an undo row: rows are numbered from 1
abbrev pub is_undo : Row → Bool
is_undo r = not (eqb (undone_by r) 0)

-- the visit that an abort row ends, 0 for every other row
abbrev pub aborted_by : Row → ℕ
aborted_by (begin v) = 0
aborted_by (change v c a) = 0
aborted_by (hand_over g r c) = 0
aborted_by (undo h c n a) = 0
aborted_by (commit v) = 0
aborted_by (abort v) = v
aborted_by (hand_over_all g r) = 0

-- ── The fields fit their bytes (01: the table of bytes) ───────────────────────────────────────────────────────────────

-- 02, L7: visit, 1 to 65,535
abbrev pub is_visit : ℕ → Bool
is_visit v = leb 1 v && leb v visit_limit

-- 01: cell, 0 to 223
abbrev pub is_cell : ℕ → Bool
is_cell c = ltb c cell_limit

-- 01: signed 16-bit change
abbrev pub is_amount : ℤ → Bool
is_amount a = le_z (negsuc 32767) a && le_z a (pos 32767)

-- 01: rows are numbered from 1
abbrev pub is_row_number : ℕ → Bool
is_row_number n = leb 1 n && leb n row_limit

-- every field of the row is in its range
unfoldable pub fits : Row → Bool
fits (begin v) = is_visit v
fits (change v c a) = is_visit v && is_cell c && is_amount a
fits (hand_over g r c) = is_visit g && is_visit r && is_cell c
fits (undo h c n a) = is_visit h && is_cell c && is_row_number n && is_amount a
fits (commit v) = is_visit v
fits (abort v) = is_visit v
fits (hand_over_all g r) = is_visit g && is_visit r
