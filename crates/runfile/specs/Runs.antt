-- What a run file comes to: the lines of the book's answers and of what each call stored, on a store formatted at zeros.
use Rattle.std.specs.Prelude.{ℕ, suc, true, cond, List, [], ◌∷◌, ◌++◌, map}
use Rattle.book.specs.Cells.{zeros}
use Rattle.book.specs.Power.{Book, formatted}
use Rattle.book.specs.Events.{Event, opens, calls, happens, book_after}
use Rattle.book.specs.SessionWrites.{event_writes}
use Rattle.run_reader.specs.File.{Asked, is_run_file, sessions_in}
use Rattle.run_lines.specs.Lines.{line, fault_line}

-- a session as the book sees it
abbrev pub events_of : Asked → List Event
events_of s = opens true s.fuse ∷ map (calls true) s.calls

-- the lines of a session's events, the first of which has this number and happens to this book
abbrev pub lines_from : ℕ → ℕ → Book → List Event → List ℕ
lines_from session call b [] = []
lines_from session call b (e ∷ es) =
    let o = happens zeros b e in line session call o.answer (event_writes zeros b e) ++ lines_from session (suc call) o.book es

-- the lines of sessions, the first of which has this number and starts at this book. 01: relog formats zeros.
abbrev pub run_lines : ℕ → Book → List Asked → List ℕ
run_lines session b [] = []
run_lines session b (s ∷ ss) =
    lines_from session 0 b (events_of s) ++ run_lines (suc session) (book_after zeros b (events_of s)) ss

-- 01: the output for a file; for anything else than a run file the line `15` alone
unfoldable pub lines_of : List ℕ → List ℕ
lines_of file = cond (is_run_file file) (run_lines 1 formatted (sessions_in file)) fault_line
