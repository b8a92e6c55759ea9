-- Every accepted call leaves what stands for the book after it, and its value is the book's.
use Prim.Native.Nat.{ℕ, ◌+◌, ◌*◌, ◌/◌, ◌%◌, ◌<◌}
use native.Mathlib.Omega.{arith}
use mathlib.Core.Path.{◌≡◌, refl, ap, ◌∙◌}
use mathlib.Core.Bool.{true, not}
use mathlib.Core.List.{List}
use lib.ListN.{length, length-append}
use lib.IntN.{ℤ, pos}
use borrow.Author.Tests.{ltb-true, not-false}
use Rattle.book.specs.Limits.{cell_limit, chart_bound, move_bound}
use Rattle.book.specs.Rows.{is_cell}
use Rattle.book.specs.Cells.{applied}
use Rattle.book.specs.Calls.{Call, Typed, ending}
use Rattle.book.specs.Power.{Book, rows_of}
use Rattle.book.specs.Book.{refusal, adds, through, value}
use Rattle.book.specs.Logs.{Sound}
use Rattle.book.specs.Numbers.{within}
use Rattle.book.specs.Pages.{chart_bytes, page_of, cell_of, page_after}
use Rattle.book.proofs.InvariantKept.{few-rows}
use Rattle.book.proofs.Steps.{extends-through}
use Rattle.book.proofs.Adds.{passes}
use Rattle.book.proofs.Marks.{abs-applied}
use Rattle.book.proofs.Pages.{page-at, cell-back, within-abs, abs-bits}
use Rattle.tables_model.specs.Meaning.{tables_of}
use Rattle.state.specs.CallContracts.{charts_after}
use Rattle.wal.specs.Writing.{row_count}
use Rattle.wal.proofs.RowsLookedUp.{count-rows}
use Rattle.calls_model.specs.Acts.{Core, acted, value_by}
use Rattle.calls_model.proofs.Cores.{core_for, Reaches}
use Rattle.calls_model.proofs.RowCalls.{acted-begin, acted-change, acted-hand_over, acted-hand_over_all, acted-commit}
use Rattle.calls_model.proofs.AbortCall.{acted-abort}
use Rattle.calls_model.proofs.StoringCalls.{acted-force, acted-flush, acted-read}

-- the cells that the rows start from are within their bound
abbrev pub InRange : (ℕ → ℤ) → Type 0
InRange cells = (c : ℕ) → c < cell_limit → within (chart_bound + move_bound) (cells c) ≡ true

-- a cell of the copy
cell-is : (cells : ℕ → ℤ) (b : Book) → InRange cells → Sound b → (c : ℕ) → c < 224
    → cell_of (chart_bytes (page_after cells (rows_of b))) c ≡ applied cells (rows_of b) c
unfolding page_after
cell-is cells b range s c h =
    let at : 7 * (c / 7) + c % 7 ≡ c = omega arith in
    let bound = within-abs (chart_bound + move_bound) (cells c) (range c h) in
    let moved = abs-applied cells (rows_of b) c (chart_bound + move_bound) s.allowed (few-rows (rows_of b) s.allowed) bound in
    ap (λ (l : List ℕ). (page_of l).cell (c % 7)) (page-at (page_after cells (rows_of b)) (c / 7) (omega arith)) ∙
    cell-back (page_after cells (rows_of b) (c / 7)) (c % 7) (omega arith)
    (rw at (abs-bits 468435456 (applied cells (rows_of b) c) moved (omega arith))) ∙
    ap (applied cells (rows_of b)) at

module _ (cells : ℕ → ℤ) (b : Book) (charts : List ℕ) (s : Sound b) (o : b.is_open ≡ true) where
  pub acted-reaches : (k : Call) → Typed k → refusal b k ≡ 0
      → Reaches cells (through b k) charts (charts_after cells b (ending k) 0 charts) (acted (core_for cells b charts) k)
  acted-reaches Call.begin t e = acted-begin cells b charts s o e
  acted-reaches (Call.change v c a) t e = acted-change cells b charts s o v c a t e
  acted-reaches (Call.hand_over g r c) t e = acted-hand_over cells b charts s o g r c e
  acted-reaches (Call.commit v) t e = acted-commit cells b charts s o v e
  acted-reaches (Call.abort v) t e = acted-abort cells b charts s v e
  acted-reaches Call.force t e = acted-force cells b charts s
  acted-reaches (Call.flush p) t e = acted-flush cells b charts p s e
  acted-reaches (Call.read c) t e = acted-read cells b charts s c
  acted-reaches (Call.hand_over_all g r) t e = acted-hand_over_all cells b charts s o g r e

  -- the number of the last row that the call added
  row-value : (k : Call) (done : List ℕ) → Reaches cells (through b k) charts done (acted (core_for cells b charts) k) → (through b k).is_open ≡ true
      → pos (row_count (acted (core_for cells b charts) k).ram.journal) ≡ pos (length (rows_of b) + length (adds b k))
  row-value k done r q =
      ap pos
      (ap (λ (y : Core). row_count y.ram.journal) (r.opened q) ∙ count-rows (through b k) ∙
      ap length ((extends-through b k s.shut).rows q) ∙ length-append (rows_of b) (adds b k))

  pub value-is : (k : Call) → InRange cells → Typed k → refusal b k ≡ 0 → (through b k).is_open ≡ true
      → value_by (core_for cells b charts) (acted (core_for cells b charts) k) k ≡ value cells b k
  unfolding value_by value refusal tables_of
  value-is Call.begin range t e q = refl
  value-is (Call.change v c a) range t e q = row-value (Call.change v c a) charts (acted-reaches (Call.change v c a) t e) q
  value-is (Call.hand_over g r c) range t e q = row-value (Call.hand_over g r c) charts (acted-reaches (Call.hand_over g r c) t e) q
  value-is (Call.commit v) range t e q = row-value (Call.commit v) charts (acted-reaches (Call.commit v) t e) q
  value-is (Call.abort v) range t e q = row-value (Call.abort v) charts (acted-reaches (Call.abort v) t e) q
  value-is Call.force range t e q = refl
  value-is (Call.flush p) range t e q = refl
  value-is (Call.hand_over_all g r) range t e q = row-value (Call.hand_over_all g r) charts (acted-reaches (Call.hand_over_all g r) t e) q
  value-is (Call.read c) range t e q =
      cell-is cells b range s c (ltb-true c cell_limit (not-false (is_cell c) (passes (not (is_cell c)) 9 _ e).0))
