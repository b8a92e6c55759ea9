-- `recovery::open::settle` meets its contract. Assumes nothing.
use Rattle.std.proofs.Common.{◌∙◌, arith}
use Rattle.recovery_model.specs.Openings.{settled_opening}
use Rattle.recovery.proofs.Settling.{zeros, opening-refused, opening-ready}
use Rattle.recovery.proofs.open.settle.Goals as goal

pub returns-in_default : goal.returns-in_default
unfolding settled_opening
returns-in_default c =
    let z = c.clear.ensures in
    let n = c.saturating_sub.ensures in
    λ log charts. opening-refused _ _ log charts _ _ _ _ (rw z.0) z.2 (rw z.1 (omega arith, omega arith)) (rw (z.0, z.1, n, c.in_default.is))

pub returns : goal.returns
returns c =
    let a = c.args in
    λ log charts. opening-ready a.c a.rows a.begun _ _ log charts _ _ _ _ c.in-Open.is c.requires.0 c.requires.1
    c.rows_written.ensures c.saturating_sub.ensures (c.fill.ensures.after (λ y e. e) ∙ zeros _ 32 search) (c.fill-2.ensures.after (λ y e. e) ∙ zeros _ 448 search)
