-- `recovery::pages::bad_page` meets its contract. The loop's invariant: the pages before `p` passed, so the first that fails is the first from `p` on. Assumes nothing.
use Rattle.std.proofs.Common.{◌≡◌, ◌+◌, ◌-◌, ◌*◌, sym, ◌∙◌, arith, lt-ltb, le-ltb}
use Rattle.recovery_model.specs.Charts.{bad_page_by}
use Rattle.recovery.proofs.PageTurns.{passed, failed, all-passed}
use Rattle.recovery.proofs.pages.bad_page.Goals as goal

pub loop-p-preserved : goal.loop-p-preserved
loop-p-preserved c =
    let l = c.loop-p in
    let e : 32 * l.p + 32 - 32 * l.p ≡ 32 = omega arith in
    l.invariant ∙ passed 32 _ l.p (omega arith) (rw e at (sym c.page_passes.ensures ∙ c.if-not-page_passes.false))

pub returns-then-not-page_passes : goal.returns-then-not-page_passes
unfolding bad_page_by
returns-then-not-page_passes c =
    let l = c.loop-p in
    let e : 32 * l.p + 32 - 32 * l.p ≡ 32 = omega arith in
    rw (l.invariant, failed 32 _ l.p (omega arith) (rw e at (sym c.page_passes.ensures ∙ c.if-not-page_passes.true)), lt-ltb l.p 32 (omega arith))

pub returns : goal.returns
unfolding bad_page_by
returns c = let l = c.loop-p in rw (l.invariant, all-passed 32 _ l.p (omega arith), le-ltb l.p 32 (omega arith))
