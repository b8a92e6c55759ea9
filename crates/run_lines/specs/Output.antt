-- The output: its size, and text written to it.
use Rattle.std.specs.Prelude.{◌≡◌, List, ◌++◌, ℕ, ◌+◌, ◌≤◌, length, take, drop}
use Rattle.run_lines.specs.declared.line.Output.{Output}

-- a line has at most so many bytes: sessions and calls have up to five digits, refusal numbers three, values ten and a sign, rows four and pages one
abbrev pub line_length : ℕ
line_length = 35

-- a run file has at most so many lines: those of one session with 510 calls
abbrev pub line_limit : ℕ
line_limit = 511

-- room for them
abbrev pub output_length : ℕ
output_length = 18432

-- the output with this text from `at` on
abbrev pub put_text : List ℕ → ℕ → List ℕ → List ℕ
put_text out at text = take at out ++ text ++ drop (at + length text) out

-- the text was written from `at` up to `end`, and the output is `after` then
pub record Written (out : List ℕ) (at : ℕ) (text : List ℕ) (end : ℕ) (after : List ℕ) : Type 0 where
  pub place : end ≡ at + length text
  pub is : after ≡ put_text out at text

-- there is room for n more bytes
abbrev pub Room : Output → ℕ → Type 0
Room o n = o.at + n ≤ length o.bytes.now

-- the text was written at the place of the next byte, which then lies after it; the buffer is the one that was lent, and as long as it was
pub record Puts (before : Output) (text : List ℕ) (after : Output) : Type 0 where
  pub written : Written before.bytes.now before.at text after.at after.bytes.now
  pub within : after.at ≤ length after.bytes.now
  pub same : after.bytes.ghost_name ≡ before.bytes.ghost_name
  pub kept : length after.bytes.now ≡ length before.bytes.now
