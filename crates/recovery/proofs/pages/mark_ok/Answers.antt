-- `recovery::pages::mark_ok` meets its contract. Assumes nothing.
use Rattle.std.proofs.Common.{ap, ◌∙◌, ne_eqb}
use Rattle.book.specs.Cells.{touches}
use Rattle.recovery_model.specs.Scan.{row_in}
use Rattle.recovery.proofs.LookUps.{row-of-log}
use Rattle.recovery.proofs.PageTurns.{effect-coded}
use Rattle.recovery.proofs.pages.mark_ok.Goals as goal

pub returns : goal.returns
returns c =
    let a = c.args in
    rw (ne_eqb _ _ c.if-mark-eq0.false)
    (c.touches_page.ensures ∙ rw (c.effect_of.ensures, c.row_of_part-row.ensures, c.from.ensures, row-of-log a.log.now a.rows a.mark.0) (ap (touches a.p) (effect-coded (row_in a.log.now a.rows a.mark.0))))
