-- `calls::act::flush` meets its contract. Assumes nothing.
use Prim.Native.Nat.{◌+◌, ◌*◌, ◌-◌}
use mathlib.Core.Path.{◌≡◌}
use native.Mathlib.Omega.{arith}
use Rattle.calls_model.specs.Acts.{core}
use Rattle.calls.proofs.CallSteps.{flushes}
use Rattle.calls.proofs.act.flush.Goals as goal

pub returns : goal.returns
returns c =
    let a = c.args in
    let p = c.from-p.ensures in
    let e : 32 * a.page + 32 - 32 * a.page ≡ 32 = omega arith in
    let m = rw (c.read_mark.ensures, p) at c.up_to_mark-m.ensures.0 in
    λ t visits scopes. flushes (core a.c t visits a.log.now a.charts.now a.copy.now a.tail.now scopes) a.page _ _ _ m c.force_up_to-d.ensures (rw (p, e) at c.write_page.ensures)
