-- What the program does for each n: the log of n rows is opened by the public call, with power for n stored writes, and the line has n and the value that the
-- opening answered.
use Rattle.std.specs.Prelude.{ℕ, Result, List, [], ◌∷◌, ◌++◌, replicate}
use Rattle.book.specs.Limits.{charts_length, scope_limit}
use Rattle.book.specs.Scopes.{unused}
use Rattle.book.specs.LogBytes.{log_bytes}
use Rattle.book.specs.OpeningCost.{costliest}
use Rattle.tables_model.specs.declared.Scope.{Scope}
use Rattle.tables_model.specs.Meaning.{scope_of}
use Rattle.state.specs.declared.ram.Fuse.TheVariants.{Left}
use Rattle.state.specs.declared.answers.Done.{Done}
use Rattle.state.specs.declared.answers.Refusal.{Refusal}
use Rattle.state.specs.declared.answers.Reply.{Reply}
use Rattle.state.specs.Answers.{number_and_value}
use Rattle.state.specs.World.{World, world, closed_state}
use Rattle.state.specs.CallContracts.{returned, answered_by}
use Rattle.state.specs.Functions.{Opens}
use Rattle.state.specs.OpeningCost.{Reported}
use Rattle.run_lines.specs.Lines.{decimal, signed_decimal, space, newline}
use Rattle.run_lines.specs.Output.{Written}

-- what the opening is lent: the log of n rows, charts and copy of zeros, blank scope entries, a closed state
abbrev pub lent_for : ℕ → World
lent_for n = world closed_state (log_bytes (costliest n)) (replicate charts_length 0) (replicate charts_length 0) (replicate scope_limit (scope_of unused))

-- the result is that of such an opening by the public `open`, whatever the buffers are then, with power for n stored writes; and so it reported n rows
pub record OpeningResult (n : ℕ) (r : Reply) : Type 0 where
  pub log : List ℕ
  pub charts : List ℕ
  pub copy : List ℕ
  pub scopes : List Scope
  pub opens : Opens (Left n) (lent_for n) (returned r log charts copy scopes)
  pub reported : Reported n (answered_by (returned r log charts copy scopes))

-- a line has at most so many bytes
abbrev pub line_length : ℕ
line_length = 23

-- n, and the value of the answer: the rows that a ready opening wrote
unfoldable pub line_for : ℕ → Result Done Refusal → List ℕ
line_for n a = decimal n ++ (space ∷ signed_decimal (number_and_value a).value ++ (newline ∷ []))

-- the line of such an opening is written from the start of a buffer up to `end`
pub record Told (n : ℕ) (before : List ℕ) (end : ℕ) (after : List ℕ) : Type 0 where
  pub result : Reply
  pub opening : OpeningResult n result
  pub written : Written before 0 (line_for n result.answer) end after
