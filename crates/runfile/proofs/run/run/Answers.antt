-- `runfile::run::run` meets its contract. Assumes nothing.
use mathlib.Core.Path.{sym, ◌∙◌}
use native.Mathlib.Omega.{arith}
use Rattle.runfile.proofs.Outcome.{ran-file, ran-other}
use Rattle.runfile.proofs.run.run.Goals as goal

pub returns-then-is_run_file : goal.returns-then-is_run_file
returns-then-is_run_file c = ran-file _ _ _ _ (omega (arith, c.if-out-lt-OUTPUT_LENGTH.false)) (sym c.is_run_file.ensures ∙ c.if-is_run_file.true) c.play.ensures

pub returns-else-is_run_file : goal.returns-else-is_run_file
returns-else-is_run_file c = ran-other _ _ _ _ (omega (arith, c.if-out-lt-OUTPUT_LENGTH.false)) (sym c.is_run_file.ensures ∙ c.if-is_run_file.false) c.put_fault.ensures
