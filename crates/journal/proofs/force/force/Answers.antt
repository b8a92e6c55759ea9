use Rattle.journal.specs.Journal.{forced}
use Rattle.journal.proofs.force.force.Goals as goal

pub returns : goal.returns
unfolding forced
returns c =
    let s = c.store_tail-run in
    rw (c.control_after.ensures, s.ensures.0, s.ensures.1, c.fill.ensures.after (λ y e. e))
