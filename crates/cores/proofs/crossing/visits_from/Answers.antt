-- `cores::crossing::visits_from` meets its contract. Assumes nothing.
use mathlib.Core.Path.{◌∙◌}
use mathlib.Core.List.{map-id}
use borrow.Author.Rules.{rules}
use Rattle.tables_model.specs.Meaning.{vacant}
use Rattle.tables_model.specs.Layout.{actives}
use Rattle.tables.proofs.Places.{actives-length}
use Rattle.cores.proofs.Made.{made}
use Rattle.cores.proofs.crossing.visits_from.Goals as goal

pub returns : goal.returns
returns c =
    made _ (λ a. a) (actives c.args.f.now) vacant _ (λ i y f' h k. search rules) _ _ c.from_fn.ensures.items (actives-length _) ∙ map-id (actives c.args.f.now)
