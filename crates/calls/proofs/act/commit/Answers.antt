-- `calls::act::commit` meets its contract. Assumes nothing.
use Rattle.book.specs.Rows.{Row}
use Rattle.wal.specs.Writing.{ram}
use Rattle.wal.proofs.Counters.{counters, fits-again, counters-written}
use Rattle.calls_model.specs.Acts.{core}
use Rattle.calls.proofs.CallSteps.{commits}
use Rattle.calls.proofs.act.commit.Goals as goal

pub force-requires : goal.force-requires
force-requires c =
    let a = c.args in
    let f = c.write-with_commit in
    let n = rw (← f.ensures) at (counters-written (ram a.c a.log.now a.tail.now a.copy.now) (Row.commit a.v.0) (counters c.requires.0)) in
    (fits-again c.requires.0 n f.auto.log f.auto.tail f.auto.copy).sizes

pub returns : goal.returns
returns c charts =
    let a = c.args in
    let x = core a.c a.t a.visits.now a.log.now charts a.copy.now a.tail.now a.scopes.now in
    commits x _ _ _ _ c.after_end-counts.ensures c.write-with_commit.ensures c.force.ensures
