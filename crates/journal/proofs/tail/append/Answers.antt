use mathlib.Core.Path.{◌∙◌}
use native.Mathlib.Omega.{arith}
use borrow.Author.Tests.{lt-ltb, le-ltb}
use Rattle.journal.specs.Journal.{journal, appended}
use Rattle.journal.proofs.Room.{roomy, with-log}
use Rattle.journal.proofs.tail.append.Goals as goal

pub returns-in_default : goal.returns-in_default
unfolding appended
returns-in_default c = rw (← c.make_room-d.ensures, c.in_default.is)

pub overflow_add-d : goal.overflow_add-d
overflow_add-d c =
    let e = c.make_room-d.ensures in
    let room = roomy (journal c.args.c c.args.log.now c.args.tail.now) in
    let fit = rw (← e) at room in
    omega (arith, fit.rows, c.requires.room)

pub join-requires : goal.join-requires
join-requires c =
    let e = c.make_room-d.ensures in
    let room = roomy (journal c.args.c c.args.log.now c.args.tail.now) in
    let fit = rw (← e) at room in
    (fit.tail-long ∙ c.requires.tail-long, fit.few, c.if-d-lt-ROW_LIMIT.true)

pub returns-then-d-lt-ROW_LIMIT : goal.returns-then-d-lt-ROW_LIMIT
unfolding appended
returns-then-d-lt-ROW_LIMIT c =
    rw (← c.make_room-d.ensures, c.in-Open.is, lt-ltb _ _ c.if-d-lt-ROW_LIMIT.true)
    (with-log _ _ _ c.join.ensures)

pub returns-else-d-lt-ROW_LIMIT : goal.returns-else-d-lt-ROW_LIMIT
unfolding appended
returns-else-d-lt-ROW_LIMIT c =
    rw (← c.make_room-d.ensures, c.in-Open.is, le-ltb _ _ c.if-d-lt-ROW_LIMIT.false)
    (with-log _ _ _ c.close.ensures)
