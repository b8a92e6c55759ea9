-- `rows::reader::is_blank` meets its contract. Assumes nothing.
use mathlib.Core.Path.{◌∙◌}
use Rattle.rows.proofs.ByTable.{blank-by-table}
use Rattle.rows.proofs.reader.is_blank.Goals as goal

pub returns : goal.returns
returns c = c.is_as_table.ensures ∙ blank-by-table c.args.b.now c.requires
