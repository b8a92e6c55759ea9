-- `wal::take_back::next_to_fall` meets its contract. Assumes nothing.
use Rattle.wal.proofs.Falling.{reach}
use Rattle.wal.proofs.take_back.next_to_fall.Goals as goal

pub returns-in-Open : goal.returns-in-Open
returns-in-Open c =
    ((rw (c.in-Open.is) (c.highest.ensures)), reach _ _ _ _ c.requires.1 c.highest.ensures)
