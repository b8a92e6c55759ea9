-- `cores::crossing::table_from` meets its contract. Assumes nothing.
use borrow.Author.Rules.{rules}
use Rattle.book.specs.Scopes.{unused}
use Rattle.tables_model.specs.Layout.{entries}
use Rattle.tables_model.specs.Meaning.{scope_of}
use Rattle.tables.proofs.Flat.{entries-length}
use Rattle.cores.proofs.Made.{made}
use Rattle.cores.proofs.crossing.table_from.Goals as goal

pub returns : goal.returns
returns c =
    made _ scope_of (entries c.args.f.now) unused _ (λ i y f' h k. search rules) _ _ c.from_fn.ensures.items (entries-length _)
