-- `cores::opening::open_core` meets its contract. Assumes nothing.
use mathlib.Core.Path.{◌≡◌, sym, ◌∙◌}
use mathlib.Core.Bool.{true}
use native.Mathlib.Omega.{arith}
use lib.ListN.{length}
use Rattle.book.specs.Numbers.{AreBytes}
use Rattle.state.specs.World.{world}
use Rattle.state.specs.Functions.{Opens}
use Rattle.cores.proofs.Lengths.{fitting, fit, wrong-kept, right_kept}
use Rattle.cores.proofs.Openings.{open-wrong, opened}
use borrow.Author.Rules.{rules}
use Rattle.cores.proofs.opening.open_core.Goals as goal

pub returns-then-not-lengths_fit : goal.returns-then-not-lengths_fit
returns-then-not-lengths_fit c =
    let long : length c.args.t ≡ 64 = search rules in
    let x = c.args in
    rw c.out_with.ensures
    (wrong-kept (Opens x.fuse) x.state x.log.now x.charts.now x.copy.now x.n x.t long (sym c.lengths_fit.ensures ∙ c.if-not-lengths_fit.true) (open-wrong x.fuse))

pub opened-requires : goal.opened-requires
opened-requires c =
    let x = c.args in
    let lent = (fit (length x.log.now) (length x.charts.now) (length x.copy.now) x.n (sym c.lengths_fit.ensures ∙ c.if-not-lengths_fit.false)).0 in
    (lent.log-long, lent.charts-long)

pub returns : goal.returns
returns c =
    let long : length c.args.t ≡ 64 = search rules in
    let right : let x = c.args in fitting (length x.log.now) (length x.charts.now) (length x.copy.now) x.n ≡ true = sym c.lengths_fit.ensures ∙ c.if-not-lengths_fit.false in
    let x = c.args in
    let w = world x.state x.log.now x.charts.now x.copy.now x.t in
    let bytes : AreBytes x.charts.now = λ i. omega (arith, c.slice_known-2-1.given i) in
    let o = c.opened.ensures in
    right_kept (Opens x.fuse) x.state x.log.now x.charts.now x.copy.now x.n x.t long right _ _
    (opened x.fuse w bytes _ o.0 o.1)
