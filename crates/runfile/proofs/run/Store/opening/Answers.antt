-- `runfile::run::Store::opening` meets its contract. Assumes nothing.
use borrow.Author.Rules.{rules}
use Rattle.state.specs.World.{allowance}
use Rattle.runfile.proofs.Steps.{open-answers, opened-few}
use Rattle.runfile.proofs.Along.{plays-one}
use Rattle.runfile.proofs.run.Store.opening.Goals as goal

pub tell-requires : goal.tell-requires
tell-requires c =
    let few = opened-few _ _ _ c.open-reply.ensures.post in (search rules, search rules, search rules, few)

pub returns : goal.returns
returns c =
    let a = c.args in
    let post = c.open-reply.ensures.post in
    let t = c.tell.ensures in
    record {
      plays = plays-one _ a.session 0 _ _ _ _ _ _ (λ b r. open-answers b (allowance a.fuse) _ _ r post) t.told.written t.short;
      same = t.told.same;
      kept = t.told.kept;
    }
