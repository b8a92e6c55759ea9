-- `recovery::pages::redo_rows` meets its contract.
use Rattle.std.proofs.Common.{◌≡◌, ◌-◌, length}
use Rattle.recovery_model.specs.Charts.{redo_from}
use Rattle.recovery.proofs.pages.redo_rows.Given as goal

abbrev pub invariant-loop-k : goal.invariant-loop-k
invariant-loop-k l = (length l.page ≡ length l.initial.page) × (redo_from (l.rows - l.from) l.from l.log l.p l.initial.page ≡ redo_from (l.rows - l.k) l.k l.log l.p l.page)
