-- The journal that a book comes to. The functions do to it what the book's steps do to the book (`proofs/Meaning`).
use Rattle.std.specs.Prelude.{suc, Bool, cond, length}
use Rattle.book.specs.Lists.{pad_to}
use Rattle.book.specs.Power.{Book}
use Rattle.book.specs.LogBytes.{rows_bytes, log_bytes}
use Rattle.state.specs.World.{fuse_of, tail_length}
use Rattle.state.specs.declared.ram.Phase.{Phase}
use Rattle.state.specs.declared.ram.Phase.TheVariants.{Open, Closed}
use Rattle.journal.specs.declared.Control.{Control}
use Rattle.journal.specs.Journal.{Journal}

abbrev pub phase_of : Bool → Phase
phase_of is_open = cond is_open Open Closed

unfoldable pub control_of : Book → Control
control_of b = record { phase = phase_of b.is_open; fuse = fuse_of b.fuse; stored = length b.stored; waiting = length b.waiting }

unfoldable pub journal_of : Book → Journal
journal_of b = record {
  control = control_of b;
  log = log_bytes b.stored;
  tail = pad_to tail_length 0 (rows_bytes (suc (length b.stored)) b.waiting);
}
