-- `calls::accept::accept_hand_over` meets its contract. Assumes nothing.
use mathlib.Core.List.{[]}
use Rattle.book.specs.Calls.{Call}
use Rattle.calls_model.specs.Acts.{acted}
use Rattle.calls.proofs.Leaving.{rows-by, accepted-by}
use Rattle.calls.proofs.accept.accept_hand_over.Goals as goal

pub row_done-done-requires : goal.row_done-done-requires
unfolding acted
row_done-done-requires c = rows-by _ _ _ _ _ _ _ _ (Call.hand_over _ _ _) c.requires _ _ _ _ _ _ _ _ (c.hand_over-a.ensures [] c.args.visits.now)

pub returns : goal.returns
unfolding acted
returns c charts =
    let done = c.row_done-done.ensures in
    accepted-by _ _ _ _ charts _ _ _ (Call.hand_over _ _ _) c.requires _ _ _ _ _ _ _ _ (c.hand_over-a.ensures charts c.args.visits.now) _ done.0 done.1 _ _ _ _ _ c.settle.ensures
