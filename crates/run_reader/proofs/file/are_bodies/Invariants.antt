-- `run_reader::file::are_bodies` meets its contract: what is left of the loop gives what the whole does. Assumes nothing.
use mathlib.Core.Path.{◌≡◌}
use Prim.Native.Nat.{◌-◌, ◌≤◌}
use lib.ListN.{length}
use Rattle.run_reader.specs.File.{session_entry_at, are_bodies}
use Rattle.run_reader.proofs.file.are_bodies.Given as goal

abbrev pub invariant-loop-i : goal.invariant-loop-i
invariant-loop-i l = (l.at ≤ length l.file) × (are_bodies l.sessions 0 (session_entry_at l.sessions) l.file ≡ are_bodies (l.sessions - l.i) l.i l.at l.file)
