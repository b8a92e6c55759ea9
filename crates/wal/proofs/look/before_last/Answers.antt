-- `wal::look::before_last` meets its contract. Assumes nothing.
use mathlib.Core.Path.{sym, ◌∙◌}
use native.Mathlib.Omega.{arith}
use borrow.Author.Tests.{ne_eqb}
use Rattle.journal.specs.Journal.{journal}
use Rattle.wal.proofs.LookUps.{in_parts}
use Rattle.wal.proofs.look.before_last.Goals as goal

pub returns-in-Some : goal.returns-in-Some
returns-in-Some c =
    let a = c.args in
    let r = rw c.in-Some.is at c.before_last_in.ensures in
    let found = ne_eqb c.in-Some.n.0 0 (λ z. omega (arith, r.2)) in
    (sym (in_parts (journal a.c a.log.now a.tail.now) a.s.maker.0 a.s.cell.0 a.s.first.0 a.s.last.0 ∙ rw (← r.0, found)), r.1, r.2)

pub returns-in-None : goal.returns-in-None
returns-in-None c =
    let a = c.args in
    let r = rw c.in-None.is at c.before_last_in.ensures in
    let q = c.before_last_in-in-None.ensures in
    (sym (in_parts (journal a.c a.log.now a.tail.now) a.s.maker.0 a.s.cell.0 a.s.first.0 a.s.last.0 ∙ rw (← r.0, ← q.0)), q.1, q.2)
