-- What the contract of `run` says (specs/Play), each field taken to a fact: of an output with no room, and of a file that is no run file.
use Prim.Native.Nat.{ℕ, ◌≤◌}
use native.Mathlib.Omega.{arith}
use mathlib.Core.Path.{◌≡◌, refl}
use mathlib.Core.List.{List, [], ◌∷◌, ◌++◌}
use Rattle.std.specs.Prelude.{Result, Ok, Err}
use lib.ListN.{length, drop}
use Rattle.run_reader.specs.File.{is_run_file}
use Rattle.runfile.specs.Runs.{lines_of}
use Rattle.runfile.specs.Play.{RunsTo}
use Rattle.runfile.specs.declared.run.OutputTooShort.{OutputTooShort}

-- an output of no bytes
pub no_room : (file : List ℕ) (r : Result ℕ OutputTooShort) (after : List ℕ) → RunsTo file [] r after → (r ≡ Err (record {})) × (after ≡ [])
no_room file r after runs = runs.short (omega arith)

-- a file of no bytes is no run file: the line `15`
line-15 : lines_of [] ≡ 49 ∷ 53 ∷ 10 ∷ []
unfolding lines_of is_run_file
line-15 = refl

pub no-run-file : (before : List ℕ) (r : Result ℕ OutputTooShort) (after : List ℕ) → RunsTo [] before r after → 18432 ≤ length before
    → (r ≡ Ok 3) × (after ≡ (49 ∷ 53 ∷ 10 ∷ []) ++ drop 3 before)
no-run-file before r after runs room = rw line-15 at (runs.lines room)
