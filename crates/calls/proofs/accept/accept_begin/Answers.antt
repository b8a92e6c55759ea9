-- `calls::accept::accept_begin` meets its contract. Assumes nothing.
use mathlib.Core.Path.{refl}
use native.Mathlib.Omega.{arith}
use native.Mathlib.Numerals.{add-one}
use Rattle.book.specs.Calls.{Call}
use Rattle.tables_model.specs.Rows.{index}
use Rattle.calls.proofs.NoRefusal.{free-begin}
use Rattle.calls.proofs.Leaving.{accepted-by}
use Rattle.calls.proofs.accept.accept_begin.Goals as goal

pub begin-a-requires : goal.begin-a-requires
begin-a-requires c =
    let A = c.requires in
    let free = free-begin (index c.args.t c.args.visits.now c.args.scopes.now) _ A.free in
    (A.fits, record { long = A.ready.visits-long; begins = record { room = free.1; next = add-one c.args.t.begun } }, free.0)

pub overflow_add-done : goal.overflow_add-done
overflow_add-done c =
    let free = free-begin (index c.args.t c.args.visits.now c.args.scopes.now) _ c.requires.free in
    omega (arith, free.0)

pub returns : goal.returns
returns c charts =
    accepted-by _ _ _ _ charts _ _ _ Call.begin c.requires _ _ _ _ _ _ _ _ (c.begin-a.ensures charts c.args.scopes.now) _ (rw (add-one c.args.t.begun)) refl _ _ _ _ _ c.settle.ensures
