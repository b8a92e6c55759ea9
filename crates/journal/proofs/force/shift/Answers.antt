use Prim.Native.Nat.{ℕ, ◌+◌, ◌*◌}
use native.Mathlib.Omega.{arith}
use mathlib.Core.Path.{ap, ◌∙◌}
use mathlib.Core.List.{List}
use lib.ListN.{set, get_or}
use Rattle.journal.proofs.Shifts.{moved_more}
use Rattle.journal.proofs.force.shift.Goals as goal

pub loop-i-preserved : goal.loop-i-preserved
loop-i-preserved c =
    let l = c.loop-i in
    let a = c.args in
    let step = moved_more (16 * a.m) l.i a.tail.now (omega arith) in
    ap (λ (x : List ℕ). set x l.i (get_or x (l.i + 16 * a.m) 0)) l.invariant ∙ step
