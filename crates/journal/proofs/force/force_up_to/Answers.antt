use native.Mathlib.Omega.{arith}
use mathlib.Core.Path.{◌≡◌, sym}
use Rattle.journal.specs.Journal.{journal, forced_up_to}
use Rattle.journal.proofs.Shifts.{none-forced}
use Rattle.journal.proofs.force.force_up_to.Goals as goal
use Rattle.journal.proofs.force.force_up_to.Goals.{in-Some, in-None}

pub returns-then-m-eq0 : goal.returns-then-m-eq0
returns-then-m-eq0 c =
    let a = c.args in
    let none : a.m ≡ 0 = omega arith in
    rw none (sym (none-forced (journal a.c a.log.now a.tail.now)))

pub returns : goal.returns
unfolding forced_up_to
returns c =
    let s = c.store_tail-run in
    elim c.match-run.branch [
      | in-Some w ↦ rw (c.control_after.ensures, s.ensures.1, w.tail-is, w.shift.ensures, ← s.ensures.0, w.in-Some.is)
      | in-None w ↦ rw (c.control_after.ensures, s.ensures.1, w.tail-is, w.fill.ensures.after (λ y e. e), ← s.ensures.0, w.in-None.is)
    ]
