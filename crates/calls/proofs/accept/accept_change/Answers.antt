-- `calls::accept::accept_change` meets its contract. Assumes nothing.
use mir.Facts.{to_z-of_z}
use mathlib.Core.List.{[]}
use Rattle.book.specs.Calls.{Call}
use Rattle.tables_model.specs.Rows.{index, grows_by}
use Rattle.calls.proofs.NoRefusal.{free-change}
use Rattle.calls.proofs.Leaving.{rows-by, accepted-by}
use Rattle.calls.proofs.accept.accept_change.Goals as goal

pub change-a-requires : goal.change-a-requires
unfolding grows_by
change-a-requires c =
    let A = c.requires in (
      A.fits,
      record {
        ranged = record { range = A.ready.range; long = A.ready.long };
        entry = λ vs. free-change (index c.args.t c.args.visits.now c.args.scopes.now) _ _ _ _ A.free;
      },
    )

pub row_done-done-requires : goal.row_done-done-requires
row_done-done-requires c = rows-by _ _ _ _ _ _ _ _ (Call.change _ _ _) c.requires _ _ _ _ _ _ _ _ (rw (to_z-of_z c.ranges.z) at (c.change-a.ensures [] c.args.visits.now))

pub returns : goal.returns
returns c charts =
    let done = c.row_done-done.ensures in
    accepted-by _ _ _ _ charts _ _ _ (Call.change _ _ _) c.requires _ _ _ _ _ _ _ _ (rw (to_z-of_z c.ranges.z) at (c.change-a.ensures charts c.args.visits.now)) _ done.0 done.1 _ _ _ _ _ c.settle.ensures
