-- `wal::take_back::fall` meets its contract. Assumes nothing.
use mathlib.Core.Path.{ap, ◌∙◌}
use Rattle.rows.specs.Meaning.{meant}
use Rattle.rows.proofs.Meanings.{meant-coded}
use Rattle.journal.specs.Journal.{journal}
use Rattle.wal.specs.Looking.{look_up}
use Rattle.wal.specs.TakeBack.{fallen}
use Rattle.wal.proofs.LookUps.{or-zero}
use Rattle.wal.proofs.take_back.fall.Goals as goal

pub returns : goal.returns
unfolding fallen
returns c =
    let a = c.args in
    let row = ap meant c.row_at-row.ensures ∙ meant-coded (look_up (journal a.c a.log.now a.tail.now) c.from.result) in
    let looked = rw c.from.ensures at row in
    let before = or-zero c.before_last-before.result _ (λ l d. d) c.unwrap_or_default.result c.unwrap_or_default.ensures in
    rw (
      c.undo_at.ensures,
      ← c.entry_at-s.ensures,
      before,
      ← c.before_last-before.ensures.0,
      ← looked,
      ← c.undo_row.ensures,
      ← c.write.ensures,
    )
