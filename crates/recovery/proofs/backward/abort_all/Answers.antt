-- `recovery::backward::abort_all` meets its contract.
use Rattle.std.proofs.Common.{◌-◌, get_or, sym, ap, ◌∙◌, arith}
use Rattle.book.specs.Rows.{Row}
use Rattle.tables_model.specs.declared.Active.{Active}
use Rattle.tables_model.specs.Layout.{actives}
use Rattle.tables_model.specs.Meaning.{vacant}
use Rattle.wal.proofs.Counters.{counters, counters-written, fits-again}
use Rattle.wal.specs.Writing.{ram, written}
use Rattle.recovery.proofs.BackwardSteps.{abort-turn, abort-end}
use Rattle.recovery.proofs.backward.abort_all.Goals as goal

pub loop-n-preserved : goal.loop-n-preserved
loop-n-preserved c =
    let w = c.write-d in
    let l = c.loop-n in
    let vs = actives c.args.visits.now in
    let m = ram l.d l.log l.tail l.copy in
    let e = w.ensures ∙ ap (λ (a : Active). written m (Row.abort a.visit.0)) c.active_at.ensures in
    let n = rw (← e) at (counters-written m (Row.abort (get_or vs (l.n - 1) vacant).visit.0) (counters l.invariant.0)) in
    (fits-again l.invariant.0 n w.auto.log w.auto.tail w.auto.copy, rw e (l.invariant.1 ∙ abort-turn vs m l.n c.loop-n-test.true))

pub returns : goal.returns
returns c = let l = c.loop-n in sym (l.invariant.1 ∙ abort-end _ _ l.n (omega arith))
