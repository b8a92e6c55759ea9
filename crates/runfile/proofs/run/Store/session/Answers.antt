-- `runfile::run::Store::session` meets its contract. Assumes nothing.
use mathlib.Core.Path.{◌∙◌}
use native.Mathlib.Omega.{arith}
use Rattle.runfile.proofs.Along.{plays-first}
use Rattle.runfile.proofs.Turns.{calls-counted}
use Rattle.runfile.proofs.run.Store.session.Goals as goal

pub returns : goal.returns
returns c =
    let a = c.args in
    let o = c.opening.ensures in
    let t = c.turns.ensures in
    let lines = calls-counted a.n a.file.now a.place in
    let k = o.plays.room in
    let l = t.plays.room in
    record {
      plays = plays-first _ _ a.number 0 _ _ _ _ _ _ _ _ _ o.plays t.plays (omega (arith, c.requires.2));
      same = t.same ∙ o.same;
      kept = t.kept ∙ o.kept;
    }
