-- `recovery::pages::redo` meets its contract. The loop's invariant: the first `p` pages are redone, the others are as they were. Assumes nothing.
use Rattle.std.proofs.Common.{◌≡◌, ◌+◌, ◌-◌, ◌*◌, ◌∙◌, arith, length-drop, length-take}
use Rattle.book.specs.Pages.{page_at}
use Rattle.recovery_model.specs.Charts.{redo_charts}
use Rattle.recovery.proofs.Laying.{laid_next, laid-length, laid-all, behind}
use Rattle.recovery.proofs.PageTurns.{page-ends}
use Rattle.recovery.proofs.pages.redo.Goals as goal

pub loop-p-preserved : goal.loop-p-preserved
loop-p-preserved c =
    let l = c.loop-p in
    let r = c.redo_page in
    let a = c.args in
    let e : 32 * l.p + 32 - 32 * l.p ≡ 32 = omega arith in
    let k = laid-length _ _ _ _ l.invariant (omega arith) in
    let all = page-ends a.log.now l.p a.rows c.note_ends.new.ends (page_at a.copy.now l.p) c.note_ends.ensures in
    let i = l.invariant in
    rw e (laid_next _ _ _ _ i _ (r.ensures ∙ rw (e, behind _ _ _ _ i, c.from.ensures) all) (r.auto.page ∙ simp (length-take, length-drop) (omega arith)))

pub returns : goal.returns
unfolding redo_charts
returns c =
    let l = c.loop-p in
    let e : l.p ≡ 32 = omega arith in
    laid-all _ 32 _ _ (rw e at l.invariant) c.requires.copy_len
