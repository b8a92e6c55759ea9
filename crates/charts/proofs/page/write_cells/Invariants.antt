-- `charts::page::write_cells` meets its contract.
use Rattle.std.proofs.Common.{◌≡◌, ℕ, ◌-◌, get_or, ℤ, pos}
use Rattle.charts.specs.Build.{cells_written}
use Rattle.charts.proofs.page.write_cells.Given as goal

abbrev pub invariant-loop-i : goal.invariant-loop-i
invariant-loop-i l = let cell : ℕ → ℤ = λ j. get_or l.cells j (pos 0) in cells_written 7 0 cell l.initial.p ≡ cells_written (7 - l.i) l.i cell l.p
