-- `recovery::look::named_by` meets its contract. Assumes nothing.
use Rattle.std.proofs.Common.{◌∙◌}
use Rattle.recovery.proofs.LookUps.{row-of-log}
use Rattle.recovery.proofs.look.named_by.Goals as goal

pub returns-in-Undo : goal.returns-in-Undo
returns-in-Undo c = rw c.in-Undo.is (c.row_of_part.ensures ∙ rw (c.from.ensures, row-of-log))
