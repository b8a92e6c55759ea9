-- `tables::entries::put_entry` meets its contract. Assumes nothing.
use Rattle.std.proofs.Common.{add-zero, arith}
use Rattle.tables.proofs.Flat.{stores-set}
use Rattle.tables.proofs.entries.put_entry.Goals as goal

pub returns : goal.returns
returns c =
    let e = c.args.e in
    rw (
      c.put_number-7.ensures,
      c.put_number-6.ensures,
      c.put_number-5.ensures,
      c.put_number-4.ensures,
      c.put_number-3.ensures,
      c.put_number-2.ensures,
      c.put_number.ensures,
      add-zero,
      c.from-2.ensures,
      c.from.ensures,
    )
    (stores-set c.args.t.now c.args.i e.maker.0 e.holder.0 e.cell.0 e.first.0 e.last.0 e.count e.handed c.requires.below c.requires.long (omega arith))
