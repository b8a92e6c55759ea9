-- `recovery::look::before_highest` meets its contract. Assumes nothing.
use Rattle.tables.proofs.Verdicts.{reaches}
use Rattle.recovery.proofs.look.before_highest.Goals as goal

pub before_found-requires-clause-reaches : goal.before_found-requires-clause-reaches
before_found-requires-clause-reaches c = reaches _ _ _ _ _ c.highest-found.ensures c.requires.sized.within c.requires.sized.long
