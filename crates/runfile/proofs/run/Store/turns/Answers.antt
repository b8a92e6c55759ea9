-- `runfile::run::Store::turns` meets its contract. Assumes nothing.
use mathlib.Core.Path.{◌∙◌}
use native.Mathlib.Omega.{arith}
use Rattle.runfile.proofs.Turns.{turns_more, turns-all}
use Rattle.runfile.proofs.run.Store.turns.Goals as goal

pub loop-i-preserved : goal.loop-i-preserved
loop-i-preserved c =
    let l = c.loop-i in
    let a = c.args in
    let r = c.turn.ensures in
    let h = l.invariant in
    (turns_more a.file.now a.place a.n a.session _ _ _ l.i c.loop-i-test.true _ _ _ _ _ _ c.requires.2 h.0 r.plays, r.same ∙ h.1, r.kept ∙ h.2)

pub returns : goal.returns
returns c =
    let l = c.loop-i in
    let a = c.args in
    record { plays = turns-all a.file.now a.place a.n a.session _ _ _ l.i _ _ _ (omega arith) l.invariant.0; same = l.invariant.1; kept = l.invariant.2 }
