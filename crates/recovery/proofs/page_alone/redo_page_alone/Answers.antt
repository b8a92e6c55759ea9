-- `recovery::page_alone::redo_page_alone` meets its contract. Assumes nothing.
use Rattle.std.proofs.Common.{◌≡◌, ℕ, true, ◌&&◌, eqb, List, pos, sym, ap, ◌∙◌, arith, rules, le-ltb, eqb-true}
use Rattle.book.specs.Book.{done}
use Rattle.book.specs.Limits.{log_length, page_length}
use Rattle.book.proofs.Lists.{and_l, and_r}
use Rattle.recovery_model.specs.PageAlone.{redone_alone}
use Rattle.recovery_model.proofs.PageAlone.{end-within, redo-alone, alone-done}
use Rattle.recovery.proofs.page_alone.redo_page_alone.Goals as goal

-- what the test of the lengths says
fit : (log page : ℕ) → (eqb log log_length && eqb page page_length) ≡ true → (log ≡ log_length) × (page ≡ page_length)
fit log page e = (eqb-true log log_length (and_l _ (eqb page page_length) e), eqb-true page page_length (and_r (eqb log log_length) _ e))

pub returns-then-not-lengths_fit : goal.returns-then-not-lengths_fit
unfolding redone_alone
returns-then-not-lengths_fit c = rw (sym c.lengths_fit.ensures ∙ c.if-not-lengths_fit.true)

pub returns-then-at-ge-PAGE_LIMIT : goal.returns-then-at-ge-PAGE_LIMIT
unfolding redone_alone
returns-then-at-ge-PAGE_LIMIT c =
    rw (sym c.lengths_fit.ensures ∙ c.if-not-lengths_fit.false, le-ltb c.args.p 32 (omega arith))

pub redo_page-requires-clause-rows : goal.redo_page-requires-clause-rows
redo_page-requires-clause-rows c =
    let k = fit _ _ (sym c.lengths_fit.ensures ∙ c.if-not-lengths_fit.false) in
    let w = end-within c.args.log.now in
    record { long = k.0; within = omega arith }

pub returns : goal.returns
returns c =
    let a = c.args in
    let k = fit _ _ (sym c.lengths_fit.ensures ∙ c.if-not-lengths_fit.false) in
    let redone = c.redo_page.ensures ∙ rw (c.end_of-rows.ensures, c.from-at.ensures) (redo-alone a.log.now a.p a.page.now k.1 (λ i. search (rules, arith))) in
    sym (alone-done a.log.now a.p a.page.now k.0 k.1 (omega arith) ∙ ap (λ (bs : List ℕ). record { answer = done (pos 0); page = bs }) (sym redone))
