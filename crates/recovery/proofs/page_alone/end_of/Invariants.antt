-- `recovery::page_alone::end_of` meets its contract. The loop's invariant: the rows before `k` have a kind, so the log ends where it ends from `k` on.
use Rattle.std.proofs.Common.{◌≡◌, ◌-◌}
use Rattle.book.specs.Lists.{first_failing}
use Rattle.recovery_model.specs.PageAlone.{has_kind}
use Rattle.recovery.proofs.page_alone.end_of.Given as goal

abbrev pub invariant-loop-k : goal.invariant-loop-k
invariant-loop-k l = first_failing 4096 0 (has_kind l.log) ≡ first_failing (4096 - l.k) l.k (has_kind l.log)
