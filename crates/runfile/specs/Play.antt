-- What is said of playing a run file on a store: the store goes on standing for the book, and the lines of the book's answers and counts are written.
use Rattle.std.specs.Prelude.{ℕ, ◌+◌, ◌*◌, ◌≤◌, ◌<◌, ◌≡◌, List, ◌++◌, length, drop, Result, Ok, Err}
use Rattle.book.specs.Power.{Book}
use Rattle.book.specs.Events.{Event, book_after}
use Rattle.state.specs.World.{World, world, Represents}
use Rattle.run_lines.specs.Output.{line_length, output_length, Written}
use Rattle.runfile.specs.Runs.{lines_from, lines_of}
use Rattle.book.specs.Cells.{zeros}
use Rattle.run_lines.specs.declared.line.Output.{Output}
use Rattle.runfile.specs.declared.run.Store.{Store}
use Rattle.runfile.specs.declared.run.OutputTooShort.{OutputTooShort}

-- the store stands for this book, and the output has this text from `at` up to `to`
pub record Told (book : Book) (text : List ℕ) (store : World) (before : List ℕ) (at : ℕ) (after : List ℕ) (to : ℕ) : Type 0 where
  pub stands : Represents zeros book store
  pub written : Written before at text to after

-- These events happen to the store `given`, which `leaves` is then, and their lines, from this call of the session on, are written from `at` up to `to`:
-- for whatever book the store stood for.
pub record Plays (events : List Event) (session call : ℕ) (given leaves : World) (before : List ℕ) (at : ℕ) (after : List ℕ) (to : ℕ) : Type 0 where
  pub room : to ≤ at + line_length * length events
  pub by : (b : Book) → Represents zeros b given
      → Told (book_after zeros b events) (lines_from session call b events) leaves before at after to

-- all that a store has
abbrev pub world_in : Store → World
world_in s = world s.state s.log.now s.charts.now s.copy.now s.scopes.now

-- the same of a store and an output, which goes on with the buffer that was lent, as long as it was
pub record Played (events : List Event) (session call : ℕ) (given leaves : Store) (before after : Output) : Type 0 where
  pub plays : Plays events session call (world_in given) (world_in leaves) before.bytes.now before.at after.bytes.now after.at
  pub same : after.bytes.ghost_name ≡ before.bytes.ghost_name
  pub kept : length after.bytes.now ≡ length before.bytes.now

-- 01: what a run file comes to, and anything else: its lines at the start of the output, and how many bytes they are; an output that could be too short for
-- the lines of a run file stays as it is
pub record RunsTo (file before : List ℕ) (r : Result ℕ OutputTooShort) (after : List ℕ) : Type 0 where
  pub short : length before < output_length → (r ≡ Err (record {})) × (after ≡ before)
  pub lines : output_length ≤ length before → (r ≡ Ok (length (lines_of file))) × (after ≡ lines_of file ++ drop (length (lines_of file)) before)
