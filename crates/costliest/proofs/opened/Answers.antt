-- `costliest::opened` meets its contract. Assumes nothing.
use native.Mathlib.Omega.{arith}
use borrow.Author.Rules.{rules}
use Rattle.costliest.proofs.OpenedLogs.{opening_of_lem}
use Rattle.costliest.proofs.opened.Goals as goal

pub returns : goal.returns
returns c =
    let a = c.args in
    let log = c.write_log.ensures.1 in
    opening_of_lem a.n (omega arith) _ _ _ _ _ _ _ _ c.closed_state-state.ensures log (search rules) c.open_on.ensures
