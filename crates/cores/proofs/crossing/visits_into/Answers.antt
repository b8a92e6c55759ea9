-- `cores::crossing::visits_into` meets its contract. Assumes nothing.
use Prim.Native.Nat.{◌<◌}
use mathlib.Core.Path.{◌≡◌, ◌∙◌}
use mathlib.Core.List.{map-id}
use native.Mathlib.Omega.{arith}
use lib.ListN.{length}
use Rattle.tables_model.specs.Meaning.{vacant}
use Rattle.tables_model.specs.Layout.{actives}
use Rattle.tables.proofs.Places.{actives-length}
use Rattle.cores.proofs.Crossings.{crossed-next, crossed-all}
use borrow.Author.Rules.{rules}
use Rattle.cores.proofs.crossing.visits_into.Goals as goal

pub loop-i-preserved : goal.loop-i-preserved
loop-i-preserved c =
    let long : length c.args.active ≡ 16 = search rules in
    let l = c.loop-i in
    let p = c.put_active in
    let below : l.i < 16 = omega arith in
    let h : l.i < length c.args.active = omega (arith, long) in
    let k : l.i < length (actives l.f) = rw actives-length below in
    (p.auto.visits ∙ l.invariant.0, rw p.ensures (crossed-next (λ a. a) c.args.active (actives l.f) l.i l.invariant.1 vacant h k))

pub returns : goal.returns
returns c =
    let long : length c.args.active ≡ 16 = search rules in
    let l = c.loop-i in
    crossed-all (λ a. a) c.args.active (actives l.f) l.i l.invariant.1 (omega (arith, long)) (rw actives-length (omega arith)) ∙ map-id c.args.active
