-- `recovery::page_alone::end_of` meets its contract. The loop's invariant: the rows before `k` have a kind, so the log ends where it ends from `k` on.
use Rattle.std.proofs.Common.{◌≡◌, not, sym, ap, ◌∙◌, arith, eq-eqb, ne_eqb}
use Rattle.recovery_model.specs.PageAlone.{end_of}
use Rattle.recovery.proofs.PageTurns.{passed, failed, all-passed}
use Rattle.recovery.proofs.page_alone.end_of.Goals as goal

pub loop-k-preserved : goal.loop-k-preserved
loop-k-preserved c =
    let l = c.loop-k in
    l.invariant ∙ passed 4096 _ l.k (omega arith) (ap not (ne_eqb _ 0 c.if-log-k-eq0.false))

pub returns-then-log-k-eq0 : goal.returns-then-log-k-eq0
unfolding end_of
returns-then-log-k-eq0 c = let l = c.loop-k in sym (l.invariant ∙ failed 4096 _ l.k (omega arith) (ap not (eq-eqb _ 0 c.if-log-k-eq0.true)))

pub returns : goal.returns
unfolding end_of
returns c =
    let l = c.loop-k in
    let e : l.k ≡ 4096 = omega arith in
    sym (l.invariant ∙ all-passed 4096 _ l.k (omega arith) ∙ e)
