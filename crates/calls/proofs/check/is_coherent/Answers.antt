-- `calls::check::is_coherent` meets its contract. Assumes nothing.
use borrow.Author.Rules.{rules}
use Rattle.calls_model.specs.Perform.{is_coherent}
use Rattle.calls.proofs.check.is_coherent.Goals as goal

pub returns-then-t-le-ACTIVE_LIMIT : goal.returns-then-t-le-ACTIVE_LIMIT
unfolding is_coherent
returns-then-t-le-ACTIVE_LIMIT c vs = search rules

pub returns-else-t-le-ACTIVE_LIMIT : goal.returns-else-t-le-ACTIVE_LIMIT
unfolding is_coherent
returns-else-t-le-ACTIVE_LIMIT c vs = search rules
