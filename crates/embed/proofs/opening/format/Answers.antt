-- `embed::opening::format` meets its contract. Assumes nothing.
use mathlib.Core.Path.{◌≡◌, refl, sym, ap, ◌∙◌}
use mathlib.Core.Bool.{true, ◌&&◌}
use lib.ListN.{length}
use lib.Dec.{eqb}
use borrow.Author.Rules.{rules}
use Rattle.book.specs.Limits.{log_length, charts_length}
use Rattle.embed_model.specs.Arrays.{Arrays, arrays, RamLengths}
use Rattle.embed_model.proofs.Refused.{format-refused}
use Rattle.embed.proofs.Calling.{wrong-stored, right-stored}
use Rattle.embed.proofs.Restarting.{refused-format, done-format}
use Rattle.embed.proofs.opening.format.Goals as goal

pub returns-then-not-stored_fit : goal.returns-then-not-stored_fit
returns-then-not-stored_fit c =
    let given : Arrays = let a = c.args in arrays a.head.now a.visits.now a.scopes.now a.tail.now a.copy.now a.log.now a.charts.now in
    let long : RamLengths given = search rules in
    format-refused given long _ c.refused.ensures (wrong-stored given long (sym c.stored_fit.ensures ∙ c.if-not-stored_fit.true)) _

pub returns-in-Err : goal.returns-in-Err
returns-in-Err c =
    let given : Arrays = let a = c.args in arrays a.head.now a.visits.now a.scopes.now a.tail.now a.copy.now a.log.now a.charts.now in
    let long : RamLengths given = search rules in
    let fit : eqb (length c.args.log.now) log_length && eqb (length c.args.charts.now) charts_length ≡ true = sym c.stored_fit.ensures ∙ c.if-not-stored_fit.false in
    refused-format c.args.cells.now given (right-stored given long fit) _ _ c.in-Err.refusal (rw c.in-Err.is at c.format.ensures) long _ c.refused-in-Err.ensures

pub returns : goal.returns
returns c =
    let given : Arrays = let a = c.args in arrays a.head.now a.visits.now a.scopes.now a.tail.now a.copy.now a.log.now a.charts.now in
    let long : RamLengths given = search rules in
    let fit : eqb (length c.args.log.now) log_length && eqb (length c.args.charts.now) charts_length ≡ true = sym c.stored_fit.ensures ∙ c.if-not-stored_fit.false in
    let e = c.finish.ensures in
    let z = c.clear.ensures in
    let none = c.default.ensures in
    done-format c.args.cells.now given (right-stored given long fit) _ _ (rw c.in_default.is at c.format.ensures) _ z.0 (z.1 ∙ λ i. record { rows = none.0 i; pages = none.1 i }) _ _ _ _ _ z.2 e.1 _ e.0
