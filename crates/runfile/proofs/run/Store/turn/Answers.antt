-- `runfile::run::Store::turn` meets its contract. Assumes nothing.
use Rattle.runfile.proofs.Steps.{call-answers}
use Rattle.runfile.proofs.Along.{plays-one}
use Rattle.runfile.proofs.run.Store.turn.Goals as goal

pub returns : goal.returns
returns c =
    let a = c.args in
    let post = rw c.call_at.ensures at c.call-reply.ensures.post in
    let t = c.tell.ensures in
    record {
      plays = plays-one _ a.session a.call _ _ _ _ _ _ (λ b r. call-answers b a.file.now a.place _ _ r post) t.told.written t.short;
      same = t.told.same;
      kept = t.told.kept;
    }
