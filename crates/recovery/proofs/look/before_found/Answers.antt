-- `recovery::look::before_found` meets its contract. Assumes nothing.
use Rattle.std.proofs.Common.{◌∙◌}
use Rattle.tables_model.specs.Entries.{scope_in}
use Rattle.recovery.proofs.LookUps.{before-in-log}
use Rattle.recovery.proofs.look.before_found.Goals as goal

pub returns : goal.returns
returns c =
    let r = c.before_last_in.ensures in
    rw (c.in_ok-found.was, ← c.entry_at-s.ensures) (r.0 ∙ before-in-log c.args.log.now c.args.k (scope_in c.entry_at-s.result), r.2)
