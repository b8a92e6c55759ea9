-- `cores::call::decide` meets its contract. Assumes nothing.
use mathlib.Core.Path.{◌≡◌, ◌∙◌, refl}
use mathlib.Core.Logic.{inr}
use lib.ListN.{length}
use Rattle.tables_model.specs.Layout.{entries}
use Rattle.state.specs.Requests.{call_of}
use Rattle.state.specs.World.{World, world}
use Rattle.calls_model.specs.Perform.{performed}
use Rattle.calls.proofs.Performing.{passed, when-refused, refuses, passes-all}
use Rattle.cores.proofs.Performing.{all-checked, when-accepted}
use borrow.Author.Rules.{rules}
use Rattle.cores.proofs.call.decide.Goals as goal

pub returns-in-Err : goal.returns-in-Err
unfolding performed
returns-in-Err c =
    let x = c.args in
    let given : World = world x.state x.log.now x.charts.now x.copy.now x.table in
    let long : length x.table ≡ 64 = search rules in
    let numbered = all-checked x.state x.log.now x.charts.now x.copy.now x.table c.visits_into.new.f c.flat_into.new.f (call_of x.request)
    c.visits_into.ensures c.flat_into.ensures c.check.result c.requires long (rw (c.control_in-c.ensures, c.counts_in-t.ensures) at c.check.ensures) in
    let refused = rw c.in-Err.is at numbered in
    rw c.out_with.ensures (when-refused given (call_of x.request) _ _ refused (refuses c.in-Err.refusal _ refused), inr refl)

pub accept-o-requires : goal.accept-o-requires
accept-o-requires c =
    let x = c.args in
    let tail-long : length x.state.tail ≡ 1024 = search rules in
    let visits = c.visits_into in
    let flat = c.flat_into in
    let p = passed c.control_in-c.result c.counts_in-t.result visits.new.f (entries flat.new.f) (call_of x.request)
    (passes-all _ _ (rw c.in_default.is at c.check.ensures)) in (
      record {
        fits = record {
          sizes = record { log-long = c.requires.log-long; tail-long = tail-long; few = p.within.few; room = p.within.room };
          copy-long = c.requires.copy-long;
        };
        ready = record { range = p.within.range; visits-long = visits.auto.f; long = flat.auto.f };
        running = p.running;
        free = p.free;
      },
      c.requires.charts-long,
    )

pub returns : goal.returns
unfolding performed
returns c =
    let x = c.args in
    let given : World = world x.state x.log.now x.charts.now x.copy.now x.table in
    let long : length x.table ≡ 64 = search rules in
    let numbered = all-checked x.state x.log.now x.charts.now x.copy.now x.table c.visits_into.new.f c.flat_into.new.f (call_of x.request)
    c.visits_into.ensures c.flat_into.ensures c.check.result c.requires long (rw (c.control_in-c.ensures, c.counts_in-t.ensures) at c.check.ensures) in
    let a = c.accept-o.ensures.accepted in
    let visits = c.visits_into in
    let flat = c.flat_into in (
      rw c.out_after.ensures
          (rw (c.control_in-c.ensures, c.counts_in-t.ensures) at a.is ∙
          when-accepted x.state x.log.now x.charts.now x.copy.now x.table visits.new.f flat.new.f (call_of x.request) visits.ensures flat.ensures _
          (passes-all _ _ (rw c.in_default.is at numbered))),
      rw c.out_after.ensures a.case,
    )
