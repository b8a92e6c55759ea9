-- The output of a run as a whole: the lines of a run file, or the line `15`. Assumes nothing.
use Prim.Native.Nat.{ℕ, ◌+◌, ◌≤◌}
use native.Mathlib.Omega.{arith}
use mathlib.Core.Path.{◌≡◌, ap, sym, ◌∙◌, subst}
use mathlib.Core.Bool.{true, false}
use mathlib.Core.List.{List, ◌++◌}
use Rattle.std.specs.Prelude.{Result, Ok}
use lib.ListN.{length, drop, length-append}
use Rattle.book.specs.Power.{formatted}
use Rattle.run_reader.specs.File.{is_run_file, sessions_in}
use Rattle.run_lines.specs.Lines.{fault_line}
use Rattle.run_lines.specs.Output.{output_length, Written}
use Rattle.runfile.specs.Runs.{run_lines, lines_of}
use Rattle.runfile.specs.Play.{RunsTo}
use Rattle.runfile.specs.declared.run.OutputTooShort.{OutputTooShort}

written-lines : (file before : List ℕ) (n : ℕ) (after : List ℕ) → output_length ≤ length before → Written before 0 (lines_of file) n after
    → RunsTo file before (Ok n) after
written-lines file before n after long w =
    let l = length (lines_of file) in
    let e : 0 + l ≡ l = omega arith in
    record {
      short = λ h. absurd (omega arith);
      lines = λ h. (ap Ok (w.place ∙ e), w.is ∙ ap (λ (k : ℕ). lines_of file ++ drop k before) e);
    }

module _ (file before : List ℕ) (n : ℕ) (after : List ℕ) (long : output_length ≤ length before) where
  pub ran-file : is_run_file file ≡ true → Written before 0 (run_lines 1 formatted (sessions_in file)) n after → RunsTo file before (Ok n) after
  ran-file e w = written-lines file before n after long (subst (λ (text : List ℕ). Written before 0 text n after) (sym lines) w)
    where
      lines : lines_of file ≡ run_lines 1 formatted (sessions_in file)
      lines = unfold lines_of in rw e

  pub ran-other : is_run_file file ≡ false → Written before 0 fault_line n after → RunsTo file before (Ok n) after
  ran-other e w = written-lines file before n after long (subst (λ (text : List ℕ). Written before 0 text n after) (sym lines) w)
    where
      lines : lines_of file ≡ fault_line
      lines = unfold lines_of in rw e

-- the lines lie in the output
pub lines-within : (file before : List ℕ) (r : Result ℕ OutputTooShort) (after : List ℕ) (n : ℕ) → RunsTo file before r after → output_length ≤ length before → r ≡ Ok n
    → n ≤ length after
lines-within file before r after n post long e =
    let p = post.lines long in
    let text = lines_of file in
    let all : length after ≡ length text + length (drop (length text) before) = ap length p.1 ∙ length-append text (drop (length text) before) in
    let is : n ≡ length text = cc p.0 in
    omega arith
