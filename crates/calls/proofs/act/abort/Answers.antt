-- `calls::act::abort` meets its contract. Assumes nothing.
use Prim.Native.Nat.{◌+◌}
use Rattle.tables_model.specs.declared.Whom.TheVariants.{One}
use Rattle.wal.specs.TakeBack.{taking}
use Rattle.wal.proofs.Counters.{counters, fits-again, counters-fall_all}
use Rattle.calls_model.specs.Acts.{core}
use Rattle.calls.proofs.CallSteps.{aborts}
use Rattle.calls.proofs.act.abort.Goals as goal

pub append-requires : goal.append-requires
append-requires c =
    let a = c.args in
    let f = c.take_back-d in
    let n = rw (← f.ensures) at (counters-fall_all (a.c.stored + a.c.waiting) (One a.v) a.t.used (taking a.c a.log.now a.tail.now a.copy.now a.scopes.now) (counters c.requires.0)) in
    (fits-again c.requires.0 n f.auto.log f.auto.tail f.auto.copy).sizes

pub returns : goal.returns
returns c charts =
    let a = c.args in
    let b = c.take_back-d in
    let x = core a.c a.t a.visits.now a.log.now charts a.copy.now a.tail.now a.scopes.now in
    aborts x a.v.0 (taking b.result b.new.log b.new.tail b.new.copy b.new.scopes) _ _ b.ensures c.after_end-counts.ensures c.append.ensures
