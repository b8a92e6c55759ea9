-- What `put_line` leaves: the parts of the line fit, and each goes after those before it.
use native.Mathlib.Omega.{arith}
use mir.Facts.{to_z-of_z}
use Rattle.run_lines.specs.Lines.{line}
use Rattle.run_lines.proofs.Decimals.{parts_fit}
use Rattle.run_lines.proofs.Writings.{puts_after}
use Rattle.run_lines.proofs.line.Output.put_line.Goals as goal

pub put_decimal-requires : goal.put_decimal-requires
put_decimal-requires c = let fit = parts_fit c.requires.1 c.requires.2 c.ranges.number.fits c.ranges.value c.requires.3 in omega arith

pub put_next-requires : goal.put_next-requires
put_next-requires c = let fit = parts_fit c.requires.1 c.requires.2 c.ranges.number.fits c.ranges.value c.requires.3 in omega arith

pub put_next-requires-2 : goal.put_next-requires-2
put_next-requires-2 c =
    let fit = parts_fit c.requires.1 c.requires.2 c.ranges.number.fits c.ranges.value c.requires.3 in rw c.from.ensures (omega arith)

pub put_value-requires : goal.put_value-requires
put_value-requires c =
    let fit = parts_fit c.requires.1 c.requires.2 c.ranges.number.fits c.ranges.value c.requires.3 in
    let n = rw c.from.ensures at c.put_next-2.ensures in
    rw (to_z-of_z c.ranges.value) (omega arith)

pub put_next-requires-3 : goal.put_next-requires-3
put_next-requires-3 c =
    let fit = parts_fit c.requires.1 c.requires.2 c.ranges.number.fits c.ranges.value c.requires.3 in
    let n = rw c.from.ensures at c.put_next-2.ensures in
    let v = rw (to_z-of_z c.ranges.value) at c.put_value.ensures in
    omega arith

pub put_next-requires-4 : goal.put_next-requires-4
put_next-requires-4 c =
    let fit = parts_fit c.requires.1 c.requires.2 c.ranges.number.fits c.ranges.value c.requires.3 in
    let n = rw c.from.ensures at c.put_next-2.ensures in
    let v = rw (to_z-of_z c.ranges.value) at c.put_value.ensures in
    omega arith

pub put-requires : goal.put-requires
put-requires c =
    let fit = parts_fit c.requires.1 c.requires.2 c.ranges.number.fits c.ranges.value c.requires.3 in
    let n = rw c.from.ensures at c.put_next-2.ensures in
    let v = rw (to_z-of_z c.ranges.value) at c.put_value.ensures in
    omega arith

pub returns-clause-puts : goal.returns-clause-puts
unfolding line
returns-clause-puts c =
    let n = rw c.from.ensures at c.put_next-2.ensures in
    let v = rw (to_z-of_z c.ranges.value) at c.put_value.ensures in
    puts_after c.put_decimal.ensures
    (puts_after c.put_next.ensures (puts_after n (puts_after v (puts_after c.put_next-3.ensures (puts_after c.put_next-4.ensures c.put.ensures)))))

pub returns-clause-short : goal.returns-clause-short
returns-clause-short c =
    let fit = parts_fit c.requires.1 c.requires.2 c.ranges.number.fits c.ranges.value c.requires.3 in
    let n = rw c.from.ensures at c.put_next-2.ensures in
    let v = rw (to_z-of_z c.ranges.value) at c.put_value.ensures in
    omega arith
