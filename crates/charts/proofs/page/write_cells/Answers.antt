-- `charts::page::write_cells` meets its contract.
use Rattle.std.proofs.Common.{◌≡◌, get_or, pos, sym, ◌∙◌, arith, rules}
use Rattle.book.specs.Numbers.{bits_of}
use Rattle.charts.proofs.Turns.{cells-turn, cells-end}
use Rattle.charts.proofs.page.write_cells.Goals as goal

pub loop-i-preserved : goal.loop-i-preserved
loop-i-preserved c =
    let at = c.loop-i in
    let bits : c.cast_unsigned.result ≡ bits_of 32 (get_or c.args.cells.now at.i (pos 0)) = search rules in
    at.invariant ∙ cells-turn at.i _ at.p (omega arith) ∙ rw (c.write32.ensures, bits)

pub returns : goal.returns
returns c = sym (c.loop-i.invariant ∙ cells-end c.loop-i.i _ c.loop-i.p (omega arith))
