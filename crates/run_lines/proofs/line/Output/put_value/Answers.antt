-- What `put_value` leaves: the value after the space.
use mir.Facts.{to_z-of_z}
use Rattle.run_lines.proofs.Writings.{puts_after}
use Rattle.run_lines.proofs.line.Output.put_value.Goals as goal

pub returns : goal.returns
returns c = puts_after c.put.ensures (rw (to_z-of_z c.ranges.value) at c.put_signed.ensures)
