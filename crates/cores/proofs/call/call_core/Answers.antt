-- `cores::call::call_core` meets its contract. Assumes nothing.
use mathlib.Core.Path.{◌≡◌, sym, ◌∙◌}
use mathlib.Core.Bool.{true}
use lib.ListN.{length}
use Rattle.state.specs.World.{world}
use Rattle.state.specs.Functions.{Calls}
use Rattle.cores.proofs.Lengths.{fitting, fit, wrong-kept, right_kept}
use Rattle.cores.proofs.Performing.{call-wrong, called}
use borrow.Author.Rules.{rules}
use Rattle.cores.proofs.call.call_core.Goals as goal

pub returns-then-not-lengths_fit : goal.returns-then-not-lengths_fit
returns-then-not-lengths_fit c =
    let long : length c.args.t ≡ 64 = search rules in
    let x = c.args in
    rw c.out_with.ensures
    (wrong-kept (Calls x.request) x.state x.log.now x.charts.now x.copy.now x.n x.t long (sym c.lengths_fit.ensures ∙ c.if-not-lengths_fit.true)
    (call-wrong x.request c.is_typed.ensures))

pub decide-requires : goal.decide-requires
decide-requires c =
    let x = c.args in
    let lent = fit (length x.log.now) (length x.charts.now) (length x.copy.now) x.n (sym c.lengths_fit.ensures ∙ c.if-not-lengths_fit.false) in
    rw c.in-Some.ensures.cases.same lent.0

pub returns : goal.returns
returns c =
    let long : length c.args.t ≡ 64 = search rules in
    let right : let x = c.args in fitting (length x.log.now) (length x.charts.now) (length x.copy.now) x.n ≡ true = sym c.lengths_fit.ensures ∙ c.if-not-lengths_fit.false in
    let x = c.args in
    let w = world x.state x.log.now x.charts.now x.copy.now x.t in
    let d = rw c.in-Some.ensures.cases.same at c.decide.ensures in
    right_kept (Calls x.request) x.state x.log.now x.charts.now x.copy.now x.n x.t long right _ _
    (λ e. called x.request c.is_typed.ensures w _ d.0 d.1)
