use native.Mathlib.Omega.{arith}
use mathlib.Core.Path.{◌≡◌, ap, ◌∙◌, sym}
use Prim.Native.Nat.{◌+◌, ◌-◌, ◌*◌}
use Rattle.journal.specs.Force.{Ran}
use Rattle.journal.proofs.Turns.{turn, turn-cut, turns-end}
use Rattle.journal.proofs.force.store_tail.Goals as goal

pub loop-j-preserved : goal.loop-j-preserved
loop-j-preserved c =
    let l = c.loop-j in
    let s = c.store_row in
    let t = sym s.ensures.0 ∙ c.in-Some.is in
    let e : 16 * l.j + 16 - 16 * l.j ≡ 16 = omega arith in
    l.invariant ∙ turn _ _ _ _ _ _ _ (omega arith) t ∙ rw (s.ensures.1, t, e)

pub returns-in_default : goal.returns-in_default
returns-in_default c =
    let l = c.loop-j in
    let s = c.store_row in
    let e = l.invariant ∙ turn-cut _ _ _ _ _ _ (omega arith) (sym s.ensures.0 ∙ c.in_default.is) in
    (sym (ap (λ (o : Ran). o.run) e), rw (s.ensures.1, ← s.ensures.0, c.in_default.is) (sym (ap (λ (o : Ran). o.log) e)))

pub returns : goal.returns
returns c =
    let l = c.loop-j in
    let last : l.j ≡ c.args.m = omega arith in
    let e = rw last at l.invariant ∙ turns-end _ _ _ _ _ in
    (sym (ap (λ (o : Ran). o.run) e), sym (ap (λ (o : Ran). o.log) e))
