-- `charts::numbers::write32` meets its contract. Assumes nothing.
use Rattle.std.proofs.Common.{◌≡◌, ◌+◌, ◌-◌, arith}
use Rattle.charts.proofs.Bytes.{four-put}
use Rattle.charts.proofs.numbers.write32.Goals as goal

pub returns : goal.returns
returns c =
    let four : c.args.at + 4 - c.args.at ≡ 4 = omega arith in
    rw (c.copy_from_slice.ensures.after, c.to_le_bytes.ensures, four) (four-put c.args.b.now c.args.at c.args.x c.requires)
