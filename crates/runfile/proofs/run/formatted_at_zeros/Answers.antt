-- `runfile::run::formatted_at_zeros` meets its contract. Assumes nothing.
use Rattle.runfile.proofs.Steps.{right-lengths, format-stands}
use Rattle.runfile.proofs.run.formatted_at_zeros.Goals as goal

pub returns : goal.returns
returns c =
    let k = c.requires in
    let a = c.args in
    format-stands _ _ (right-lengths c.closed_state.result a.log.now a.charts.now a.copy.now a.scopes.now k.0 k.1 k.2 k.3) c.format.ensures.post
