-- `recovery::format::bad_cell` meets its contract. The loop's invariant: the cells before `c` passed, so the first that fails is the first from `c` on. Assumes nothing.
use Rattle.std.proofs.Common.{◌≡◌, ℕ, ◌-◌, Bool, get_or, pos}
use Rattle.book.specs.Numbers.{within}
use Rattle.book.specs.Limits.{format_bound}
use Rattle.book.specs.Lists.{first_failing}
use Rattle.recovery.proofs.format.bad_cell.Given as goal

abbrev pub invariant-loop-c : goal.invariant-loop-c
invariant-loop-c l = let test : ℕ → Bool = λ k. within format_bound (get_or l.cells k (pos 0)) in first_failing 224 0 test ≡ first_failing (224 - l.c) l.c test
