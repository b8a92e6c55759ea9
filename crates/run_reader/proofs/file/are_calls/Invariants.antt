-- `run_reader::file::are_calls` meets its contract: what is left of the loop gives what the whole does. Assumes nothing.
use mathlib.Core.Path.{◌≡◌}
use Prim.Native.Nat.{◌+◌, ◌*◌, ◌-◌}
use Rattle.run_reader.specs.File.{call_length, are_calls}
use Rattle.run_reader.proofs.file.are_calls.Given as goal

abbrev pub invariant-loop-i : goal.invariant-loop-i
invariant-loop-i l = are_calls l.n l.file l.at ≡ are_calls (l.n - l.i) l.file (l.at + call_length * l.i)
