-- `embed::opening::open` meets its contract. Assumes nothing.
use mathlib.Core.Path.{◌≡◌, sym, ◌∙◌}
use mathlib.Core.Bool.{true, ◌&&◌}
use lib.ListN.{length}
use lib.Dec.{eqb}
use native.Mathlib.Omega.{arith}
use borrow.Author.Rules.{rules}
use Rattle.book.specs.Limits.{log_length, charts_length}
use Rattle.embed_model.specs.Arrays.{Arrays, arrays, RamLengths}
use Rattle.embed_model.proofs.Refused.{open-refused}
use Rattle.embed.proofs.Calling.{wrong-stored, right-stored}
use Rattle.embed.proofs.Restarting.{opening}
use Rattle.embed.proofs.opening.open.Goals as goal

pub returns-then-not-stored_fit : goal.returns-then-not-stored_fit
returns-then-not-stored_fit c =
    let given : Arrays = let a = c.args in arrays a.head.now a.visits.now a.scopes.now a.tail.now a.copy.now a.log.now a.charts.now in
    let long : RamLengths given = search rules in
    open-refused given long _ c.refused.ensures (wrong-stored given long (sym c.stored_fit.ensures ∙ c.if-not-stored_fit.true)) _

pub returns : goal.returns
returns c =
    let given : Arrays = let a = c.args in arrays a.head.now a.visits.now a.scopes.now a.tail.now a.copy.now a.log.now a.charts.now in
    let long : RamLengths given = search rules in
    let fit : eqb (length c.args.log.now) log_length && eqb (length c.args.charts.now) charts_length ≡ true = sym c.stored_fit.ensures ∙ c.if-not-stored_fit.false in
    let e = c.finish.ensures in
    opening _ _ c.from.ensures given (right-stored given long fit) (λ i. omega (arith, c.type_inv.charts i)) _ _ _ _ _ _ _ c.open-r.ensures e.1 e.2 (search rules) _ e.0
