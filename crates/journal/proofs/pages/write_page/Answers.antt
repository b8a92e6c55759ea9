use mathlib.Core.Path.{◌∙◌, sym}
use Rattle.journal.specs.Journal.{paged}
use Rattle.journal.proofs.pages.write_page.Goals as goal

pub returns-in_default : goal.returns-in_default
unfolding paged
returns-in_default c = rw c.in_default.is

pub returns-in-Some : goal.returns-in-Some
unfolding paged
returns-in-Some c =
    let s = c.store_page in
    let lands = sym s.ensures.0 ∙ c.in-Some.is in
    rw (s.ensures.1, c.in-Open.is, lands)

pub returns-in-None : goal.returns-in-None
unfolding paged
returns-in-None c =
    let s = c.store_page in
    let beyond = sym s.ensures.0 ∙ c.in-None.is in
    rw (c.closed.ensures, s.ensures.1, c.in-Open.is, beyond)
