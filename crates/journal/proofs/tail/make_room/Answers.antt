use borrow.Author.Tests.{le-leb, lt-leb}
use Rattle.journal.specs.Journal.{with_room}
use Rattle.journal.proofs.tail.make_room.Goals as goal

pub returns-then-c-ge-TAIL_LIMIT : goal.returns-then-c-ge-TAIL_LIMIT
unfolding with_room
returns-then-c-ge-TAIL_LIMIT c =
    rw (le-leb _ _ c.if-c-ge-TAIL_LIMIT.true) c.force.ensures

pub returns-else-c-ge-TAIL_LIMIT : goal.returns-else-c-ge-TAIL_LIMIT
unfolding with_room
returns-else-c-ge-TAIL_LIMIT c = rw (lt-leb _ _ c.if-c-ge-TAIL_LIMIT.false)
