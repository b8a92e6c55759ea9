-- `calls::accept::accept_flush` meets its contract. Assumes nothing.
use mathlib.Core.Path.{refl}
use Rattle.book.specs.Calls.{Call}
use Rattle.calls.proofs.NoRefusal.{free-flush}
use Rattle.calls.proofs.Leaving.{accepted-by}
use Rattle.calls.proofs.accept.accept_flush.Goals as goal

pub flush-requires : goal.flush-requires
flush-requires c =
    let p = c.requires in (p.0.fits, p.1, free-flush _ _ _ p.0.free)

pub returns : goal.returns
returns c =
    accepted-by _ _ _ _ _ _ _ _ (Call.flush _) c.requires.0 _ _ _ _ _ _ _ _ (c.flush.ensures _ _ _) _ refl refl _ _ _ _ _ c.settle.ensures
