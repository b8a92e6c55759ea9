-- `calls::accept::accept_abort` meets its contract. Assumes nothing.
use mathlib.Core.List.{[]}
use Rattle.book.specs.Calls.{Call}
use Rattle.calls.proofs.Leaving.{rows-by, accepted-by}
use Rattle.calls.proofs.accept.accept_abort.Goals as goal

pub row_done-done-requires : goal.row_done-done-requires
row_done-done-requires c = rows-by _ _ _ _ _ _ _ _ (Call.abort _) c.requires _ _ _ _ _ _ _ _ (c.abort-a.ensures [])

pub returns : goal.returns
returns c charts =
    let done = c.row_done-done.ensures in
    accepted-by _ _ _ _ charts _ _ _ (Call.abort _) c.requires _ _ _ _ _ _ _ _ (c.abort-a.ensures charts) _ done.0 done.1 _ _ _ _ _ c.settle.ensures
