-- `costliest::line::put_line` meets its contract. Assumes nothing.
use native.Mathlib.Omega.{arith}
use mir.Syntax.{w32}
use mir.Val.{SFits}
use mir.Facts.{to_z-of_z}
use borrow.Author.Rules.{rules}
use Rattle.io.proofs.Counting.{prefix_len_of_le}
use Rattle.run_lines.proofs.Decimals.{decimal-length, signed-length}
use Rattle.run_lines.proofs.Writings.{puts_after}
use Rattle.costliest.specs.Opened.{line_for}
use Rattle.costliest.proofs.line.put_line.Goals as goal

pub put_decimal-requires : goal.put_decimal-requires
put_decimal-requires c = let d = decimal-length 9 c.args.n (omega (arith, c.ranges.n.fits)) in rw c.from.ensures (omega arith)

pub put_value-requires : goal.put_value-requires
put_value-requires c =
    let fits : SFits w32 c.value_of.result = record { sfits = c.value_of.type_inv } in
    let d = decimal-length 9 c.args.n (omega (arith, c.ranges.n.fits)) in
    let v = signed-length c.value_of.result fits in
    let n = rw c.from.ensures at c.put_decimal.ensures in
    rw (to_z-of_z fits) (omega arith)

pub put-requires : goal.put-requires
put-requires c =
    let fits : SFits w32 c.value_of.result = record { sfits = c.value_of.type_inv } in
    let d = decimal-length 9 c.args.n (omega (arith, c.ranges.n.fits)) in
    let v = signed-length c.value_of.result fits in
    let n = rw c.from.ensures at c.put_decimal.ensures in
    let z = rw (to_z-of_z fits) at c.put_value.ensures in
    omega arith

pub returns : goal.returns
unfolding line_for
returns c =
    let fits : SFits w32 c.value_of.result = record { sfits = c.value_of.type_inv } in
    let n = rw c.from.ensures at c.put_decimal.ensures in
    let z = rw (to_z-of_z fits, c.value_of.ensures) at c.put_value.ensures in
    let all = puts_after n (puts_after z c.put.ensures) in
    let w = all.written in
    let p = prefix_len_of_le _ _ all.within in
    (search (rules, w), search (rules, p))
