-- `wal::take_back::take_back` meets its contract. Assumes nothing.
use mathlib.Core.Path.{sym, ◌∙◌}
use Rattle.wal.specs.TakeBack.{taking, next_to_fall}
use Rattle.wal.proofs.Counters.{counters, fits-again, counters-fallen}
use Rattle.wal.proofs.Falling.{turn, turns-stop, turns-end}
use Rattle.wal.proofs.take_back.take_back.Goals as goal

pub returns-in_default : goal.returns-in_default
unfolding next_to_fall
returns-in_default c =
    let l = c.loop in
    sym (l.invariant.1 ∙ turns-stop _ _ _ _ _ c.loop-test.true (sym c.next_to_fall.ensures.0 ∙ c.in_default.is))

pub loop-preserved : goal.loop-preserved
unfolding next_to_fall
loop-preserved c =
    let l = c.loop in
    let f = c.fall-d in
    let e = l.invariant.1 ∙ turn _ _ _ _ _ c.loop-test.true _ (sym c.next_to_fall.ensures.0 ∙ c.in-Some.is) in
    let n = rw (← f.ensures) at (counters-fallen c.in-Some.i (taking l.d l.log l.tail l.copy l.scopes) (counters l.invariant.0)) in
    (fits-again l.invariant.0 n f.auto.log f.auto.tail f.auto.copy, rw f.ensures e)

pub returns : goal.returns
returns c =
    let l = c.loop in
    sym (l.invariant.1 ∙ turns-end _ _ _ _ _ c.loop-test.false)
