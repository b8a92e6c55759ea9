-- `wal::look::before_last_in` meets its contract.
use mathlib.Core.Path.{◌≡◌}
use Rattle.tables_model.specs.Lookup.{previous}
use Rattle.wal.specs.Looking.{row_of_part}
use Rattle.wal.proofs.look.before_last_in.Given as goal

abbrev pub invariant-loop-n : goal.invariant-loop-n
invariant-loop-n l =
    let look = row_of_part l.b l.base l.rows in
    previous look l.s.maker.0 l.s.cell.0 l.s.first.0 l.s.last.0 ≡ previous look l.s.maker.0 l.s.cell.0 l.s.first.0 l.n
