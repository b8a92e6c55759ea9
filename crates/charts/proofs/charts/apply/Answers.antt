-- `charts::charts::apply` meets its contract. Beyond the last page there is nothing to move. Assumes nothing.
use Rattle.std.proofs.Common.{◌≡◌, ◌+◌, ◌-◌, ◌*◌, ◌/◌, arith, to_z-of_z}
use Rattle.charts.specs.Moves.{charts_moved}
use Rattle.charts.proofs.Parts.{moved-beyond}
use Rattle.charts.proofs.charts.apply.Goals as goal

pub returns-then-c-ge-CELL_LIMIT : goal.returns-then-c-ge-CELL_LIMIT
returns-then-c-ge-CELL_LIMIT c =
    moved-beyond c.args.charts.now c.requires c.args.cell.0 _ _ (omega arith)

pub returns : goal.returns
unfolding charts_moved
returns c =
    let a = 32 * (c.args.cell.0 / 7) in
    let e : a + 32 - a ≡ 32 = omega arith in
    rw (c.move_place.ensures, c.from-c.ensures, e, to_z-of_z c.ranges.grams)
