-- `rows::writer::write_row` meets its contract. Assumes nothing.
use Rattle.rows.proofs.Written.{written}
use Rattle.rows.proofs.writer.write_row.Goals as goal

pub returns : goal.returns
returns c =
    rw (c.put.ensures, c.from.ensures)
    (written c.args.row c.args.n.0 c.args.b.now c.requires)
