-- `charts::check::is_sound` meets its contract.
use Rattle.std.proofs.Common.{◌≡◌, ℕ, Bool, true, false, rules, ◌∙◌, sym, refl, eq-eqb, ne_eqb}
use Rattle.std.proofs.lemmas.Iterator.{cases_from_all, YieldsList-from_range}
use borrow.Author.Tests.{tests}
use Rattle.book.specs.Numbers.{within}
use Rattle.book.specs.Limits.{chart_bound}
use Rattle.book.specs.Pages.{page_of}
use Rattle.charts.specs.Checks.{is_sound}
use Rattle.charts.proofs.AllPass.{all-pass}
use Rattle.charts.proofs.check.is_sound.Goals as goal

pub returns-then-read16-eq0 : goal.returns-then-read16-eq0
unfolding is_sound
returns-then-read16-eq0 c =
    let passes : ℕ → Bool = λ j. within chart_bound ((page_of c.args.p.now).cell j) in
    rw (eq-eqb _ 0 (sym c.read16.ensures ∙ c.if-read16-eq0.true))
    (all-pass c.all.result passes
    (cases_from_all _ _ _ (λ j. passes j ≡ true) (λ j. passes j ≡ false) c.all.ensures.ran (YieldsList-from_range 0 7 7 refl refl)
    (λ x q k. search (rules, tests)) (λ x q k. search (rules, tests))))

pub returns-else-read16-eq0 : goal.returns-else-read16-eq0
unfolding is_sound
returns-else-read16-eq0 c = rw (ne_eqb _ 0 (λ e. c.if-read16-eq0.false (c.read16.ensures ∙ e))) (ne_eqb _ 0 c.if-read16-eq0.false)
