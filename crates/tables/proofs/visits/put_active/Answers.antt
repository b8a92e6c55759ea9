-- `tables::visits::put_active` meets its contract. Assumes nothing.
use Rattle.std.proofs.Common.{add-zero}
use Rattle.tables.proofs.Places.{pair_set}
use Rattle.tables.proofs.visits.put_active.Goals as goal

pub returns : goal.returns
returns c =
    rw (add-zero, c.from.ensures) (pair_set c.args.visits.now c.args.i c.args.a.visit.0 c.args.a.bears c.requires.below c.requires.long)
