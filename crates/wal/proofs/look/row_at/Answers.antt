-- `wal::look::row_at` meets its contract. Assumes nothing.
use Rattle.journal.specs.Journal.{journal}
use Rattle.wal.proofs.LookUps.{log-here, tail-here}
use Rattle.wal.proofs.look.row_at.Goals as goal

pub returns-then-n-c : goal.returns-then-n-c
returns-then-n-c c =
    let a = c.args in
    rw (log-here (journal a.c a.log.now a.tail.now) a.n c.if-n-c.true) c.row_of_part.ensures

pub returns-else-n-c : goal.returns-else-n-c
returns-else-n-c c =
    let a = c.args in
    rw (tail-here (journal a.c a.log.now a.tail.now) a.n c.if-n-c.false) c.row_of_part-else-n-c.ensures
