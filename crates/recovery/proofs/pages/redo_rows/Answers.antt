-- `recovery::pages::redo_rows` meets its contract.
use Rattle.std.proofs.Common.{◌≡◌, ℕ, ◌+◌, ◌*◌, length, get_or, sym, ap, ◌∙◌, arith, get_or-drop, get_or-take}
use Rattle.book.specs.Rows.{effect}
use Rattle.book.specs.RowBytes.{row_of}
use Rattle.wal.specs.Looking.{row_bytes_at}
use Rattle.recovery_model.specs.Charts.{page_redone}
use Rattle.recovery.proofs.PageTurns.{redone-here, redone-elsewhere, redone-length, redo-turn, redo-end}
use Rattle.recovery.proofs.pages.redo_rows.Goals as goal
use Rattle.recovery.proofs.pages.redo_rows.Goals.{then-log-k-lt-CELLS_OF_PAGE, else-log-k-lt-CELLS_OF_PAGE}

pub loop-k-preserved : goal.loop-k-preserved
loop-k-preserved c =
    let l = c.loop-k in
    let a = c.args in
    let row = row_bytes_at a.log.now l.k in
    let byte = c.type_inv.log (16 * l.k + 3) in
    let cell : get_or row 3 0 ≡ get_or a.log.now (16 * l.k + 3) 0 = rw (get_or-take {A = ℕ} 16 _ 3 0 (omega arith), get_or-drop) in
    let next : c.if-log-k-lt-CELLS_OF_PAGE.page ≡ page_redone a.p (effect (row_of row)) (l.k + 1) l.page =
    elim c.if-log-k-lt-CELLS_OF_PAGE.branch [
      | then-log-k-lt-CELLS_OF_PAGE t ↦ t.page-is ∙ t.redo_row.ensures ∙ rw t.row_bytes.ensures (sym (redone-here row a.p _ (l.k + 1) l.page (omega arith) (omega arith) cell t.if-log-k-lt-CELLS_OF_PAGE.true))
      | else-log-k-lt-CELLS_OF_PAGE t ↦ t.page-is ∙ sym (redone-elsewhere row a.p _ (l.k + 1) l.page (omega arith) (omega arith) cell t.if-log-k-lt-CELLS_OF_PAGE.false)
    ] in
    (ap length next ∙ redone-length a.p (effect (row_of row)) (l.k + 1) l.page ∙ l.invariant.0, l.invariant.1 ∙ redo-turn _ _ _ l.k l.page (omega arith) ∙ rw next)

pub returns : goal.returns
returns c = let l = c.loop-k in sym (l.invariant.1 ∙ redo-end _ _ _ l.k l.page (omega arith))
