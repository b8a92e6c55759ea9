-- `charts::page::build_page` meets its contract. Assumes nothing.
use Rattle.std.proofs.Common.{◌∙◌}
use Rattle.charts.proofs.Built.{built}
use Rattle.charts.proofs.page.build_page.Goals as goal

pub returns : goal.returns
returns c =
    c.write_cells.ensures ∙ rw c.write32.ensures (built c.args.p.now _ c.requires.0)
