-- `wal::write::write` meets its contract. Assumes nothing.
use native.Mathlib.Omega.{arith}
use Rattle.journal.specs.Journal.{journal}
use Rattle.rows.specs.Meaning.{meant}
use Rattle.wal.specs.Writing.{written}
use Rattle.wal.proofs.Counters.{counters, counters-appended}
use Rattle.wal.proofs.write.write.Goals as goal

pub returns-in_default : goal.returns-in_default
unfolding written
returns-in_default c = rw (← c.append-d.ensures, c.in_default.is)

pub overflow_add-n : goal.overflow_add-n
overflow_add-n c =
    let n = rw (← c.append-d.ensures) at (counters-appended (journal c.args.c c.args.log.now c.args.tail.now) (meant c.args.row) (counters c.requires)) in
    omega (arith, n.room)

pub overflow_cast-n : goal.overflow_cast-n
overflow_cast-n c =
    let n = rw (← c.append-d.ensures) at (counters-appended (journal c.args.c c.args.log.now c.args.tail.now) (meant c.args.row) (counters c.requires)) in
    omega (arith, n.room)

pub returns : goal.returns
unfolding written
returns c = rw (← c.append-d.ensures, c.in-Open.is, c.apply_row.ensures)
