-- 01, "Refusals by place", from begin on, and 02, L2, in checking order: by the tables and the number of rows; 0 where none applies.
use Rattle.std.specs.Prelude.{ℕ, Bool, true, not, ◌||◌, leb, ltb, eqb}
use Rattle.book.specs.Limits.{visit_limit, active_limit, scope_limit, page_limit}
use Rattle.book.specs.Rows.{is_cell}
use Rattle.book.specs.Ledger.{only, every}
use Rattle.book.specs.Calls.{Call}
use Rattle.book.specs.Book.{◌else◌}
use Rattle.tables_model.specs.declared.CellSet.{CellSet}
use Rattle.tables_model.specs.declared.CellSet.TheVariants.{Only, Every}
use Rattle.tables_model.specs.Visits.{is_listed}
use Rattle.tables_model.specs.Rows.{Index, room_by, grows_by, holds_by}

-- a hand-over of one cell names one that there is; one of all cells names none
abbrev pub cells_in_range : CellSet → Bool
cells_in_range (Only c) = is_cell c.0
cells_in_range Every = true

-- the checks of a hand-over of these cells; `in_range` is that of the cell which the call names
abbrev pub hand_over_refusal : Index → ℕ → ℕ → ℕ → Bool → (ℕ → Bool) → ℕ
hand_over_refusal x rows g r in_range cs =
    (9, not (is_listed x.tables g)) else (9, not (is_listed x.tables r)) else (12, eqb g r) else (10, not in_range) else
    (13, not (holds_by x g cs)) else (8, not (room_by x rows 1)) else 0

abbrev pub begin_refusal : Index → ℕ → ℕ
begin_refusal x rows =
    (6, leb visit_limit x.tables.begun) else (7, leb active_limit x.tables.count) else (8, not (room_by x rows 2)) else 0

abbrev pub change_refusal : Index → ℕ → ℕ → ℕ → ℕ
change_refusal x rows v c =
    (9, not (is_listed x.tables v)) else (10, not (is_cell c)) else (11, not (grows_by x v c || ltb x.tables.used scope_limit)) else
    (8, not (room_by x rows 2)) else 0

unfoldable pub refusal_by : Index → ℕ → Call → ℕ
refusal_by x rows Call.begin = begin_refusal x rows
refusal_by x rows (Call.change v c a) = change_refusal x rows v c
refusal_by x rows (Call.hand_over g r c) = hand_over_refusal x rows g r (is_cell c) (only c)
refusal_by x rows (Call.commit v) = (9, not (is_listed x.tables v)) else 0
refusal_by x rows (Call.abort v) = (9, not (is_listed x.tables v)) else 0
refusal_by x rows Call.force = 0
refusal_by x rows (Call.flush p) = (14, not (ltb p page_limit)) else 0
refusal_by x rows (Call.read c) = (10, not (is_cell c)) else 0
refusal_by x rows (Call.hand_over_all g r) = hand_over_refusal x rows g r true every
