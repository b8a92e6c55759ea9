-- `cores::opening::format_core` meets its contract. Assumes nothing.
use mathlib.Core.Path.{◌≡◌, refl, sym, ◌∙◌}
use mathlib.Core.Logic.{inl, inr}
use mathlib.Core.Bool.{true}
use lib.ListN.{length}
use Rattle.std.specs.Prelude.{Ok, Err}
use Rattle.state.specs.World.{world}
use Rattle.state.specs.Functions.{Formats}
use Rattle.recovery_model.proofs.Formats.{format-done, format-refused}
use Rattle.calls.proofs.Performing.{numbered}
use Rattle.cores.specs.Lent.{zero_scope}
use Rattle.cores.proofs.Lengths.{fitting, fit, wrong-kept, right_kept}
use Rattle.cores.proofs.Openings.{format-wrong}
use borrow.Author.Rules.{rules}
use Rattle.cores.proofs.opening.format_core.Goals as goal

pub returns-then-not-lengths_fit : goal.returns-then-not-lengths_fit
returns-then-not-lengths_fit c =
    let long : length c.args.t ≡ 64 = search rules in
    let x = c.args in
    rw c.out_with.ensures
    (wrong-kept (Formats x.cells.now) x.state x.log.now x.charts.now x.copy.now x.n x.t long (sym c.lengths_fit.ensures ∙ c.if-not-lengths_fit.true) (format-wrong x.cells.now))

pub returns-in-Err : goal.returns-in-Err
returns-in-Err c =
    let long : length c.args.t ≡ 64 = search rules in
    let right : let x = c.args in fitting (length x.log.now) (length x.charts.now) (length x.copy.now) x.n ≡ true = sym c.lengths_fit.ensures ∙ c.if-not-lengths_fit.false in
    let x = c.args in
    let w = world x.state x.log.now x.charts.now x.copy.now x.t in
    let f = c.format in
    let is = rw c.in-Err.is at f.ensures in
    rw c.out_with-in-Err.ensures
    (right_kept (Formats x.cells.now) x.state x.log.now x.charts.now x.copy.now x.n x.t long right _ x.t
    (λ e. record { post = record { is = sym (format-refused x.cells.now w e (Err c.in-Err.refusal) f.new.log f.new.charts is (numbered c.in-Err.refusal)) }; case = inr refl }))

pub returns : goal.returns
returns c =
    let long : length c.args.t ≡ 64 = search rules in
    let right : let x = c.args in fitting (length x.log.now) (length x.charts.now) (length x.copy.now) x.n ≡ true = sym c.lengths_fit.ensures ∙ c.if-not-lengths_fit.false in
    let x = c.args in
    let w = world x.state x.log.now x.charts.now x.copy.now x.t in
    let f = c.format in
    let is = rw c.in_default.is at f.ensures in
    let copy = (fit (length x.log.now) (length x.charts.now) (length x.copy.now) x.n right).0.copy-long in
    let none : c.default.result ≡ zero_scope = search rules in
    rw (c.out_with-2.ensures, c.closed_state.ensures, c.fill.ensures.after (λ y e. e), copy, none)
    (right_kept (Formats x.cells.now) x.state x.log.now x.charts.now x.copy.now x.n x.t long right _ _
    (λ e. record { post = record { is = sym (format-done x.cells.now w e (Ok tt) f.new.log f.new.charts is refl) }; case = inl refl }))
