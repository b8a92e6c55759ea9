-- `calls::act::begin` meets its contract. Assumes nothing.
use Prim.Native.Nat.{◌+◌}
use native.Mathlib.Numerals.{add-one}
use Rattle.book.specs.Rows.{Row}
use Rattle.wal.specs.Writing.{ram}
use Rattle.wal.proofs.Counters.{counters, fits-again, counters-written}
use Rattle.calls_model.specs.Acts.{core}
use Rattle.calls.proofs.CallSteps.{begins}
use Rattle.calls.proofs.act.begin.Goals as goal

pub force-requires : goal.force-requires
force-requires c =
    let a = c.args in
    let f = c.write-with_begin in
    let n = rw (← f.ensures) at (counters-written (ram a.c a.log.now a.tail.now a.copy.now) (Row.begin (a.t.begun + 1)) (counters c.requires.0)) in
    (fits-again c.requires.0 n f.auto.log f.auto.tail f.auto.copy).sizes

pub returns : goal.returns
returns c charts scopes =
    let a = c.args in
    let x = core a.c a.t a.visits.now a.log.now charts a.copy.now a.tail.now scopes in
    begins x _ _ _ (rw (add-one a.t.begun) at c.write-with_begin.ensures) (rw (add-one a.t.begun) at c.with_begun-counts.ensures) c.force.ensures
