-- `recovery::scan::first_set` meets its contract. The loop's invariant: the rows from `i` on give what all rows from `k` on give. Assumes nothing.
use Rattle.std.proofs.Common.{sym, ◌∙◌, arith}
use Rattle.recovery.proofs.ScanTurns.{blank_turn, set-turn, set-end}
use Rattle.recovery.proofs.scan.first_set.Goals as goal

pub loop-i-preserved : goal.loop-i-preserved
loop-i-preserved c =
    let l = c.loop-i in
    l.invariant ∙ blank_turn _ _ (omega arith) (rw c.row_bytes.ensures at (sym c.is_blank.ensures ∙ c.if-not-is_blank.false))

pub returns-then-not-is_blank : goal.returns-then-not-is_blank
returns-then-not-is_blank c =
    let l = c.loop-i in
    sym (l.invariant ∙ set-turn _ _ (omega arith) (rw c.row_bytes.ensures at (sym c.is_blank.ensures ∙ c.if-not-is_blank.true)))

pub returns : goal.returns
returns c = sym (c.loop-i.invariant ∙ set-end _ _ (omega arith))
