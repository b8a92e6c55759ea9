-- `recovery::format::build_charts` meets its contract. The loop's invariant: the first `p` pages are built, the others are as they were. Assumes nothing.
use Rattle.std.proofs.Common.{◌≡◌, ◌+◌, ◌-◌, ◌*◌, ◌∙◌, arith, length-drop, length-take}
use Rattle.recovery.proofs.FormatPages.{charts-same}
use Rattle.recovery.proofs.Laying.{laid_next, laid-length, laid-all}
use Rattle.recovery.proofs.format.build_charts.Goals as goal

pub loop-p-preserved : goal.loop-p-preserved
loop-p-preserved c =
    let l = c.loop-p in
    let r = c.build_page in
    let e : 32 * l.p + 32 - 32 * l.p ≡ 32 = omega arith in
    let f : 7 * l.p + 7 - 7 * l.p ≡ 7 = omega arith in
    let k = laid-length _ _ _ _ l.invariant (omega arith) in
    rw e (laid_next _ _ _ _ l.invariant _ (r.ensures ∙ rw f) (r.auto.p ∙ simp (length-take, length-drop) (omega arith)))

pub returns : goal.returns
returns c =
    let l = c.loop-p in
    let e : l.p ≡ 32 = omega arith in
    laid-all _ 32 _ _ (rw e at l.invariant) c.requires.charts_len ∙ charts-same c.args.cells.now
