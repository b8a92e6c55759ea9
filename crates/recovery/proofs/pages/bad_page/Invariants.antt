-- `recovery::pages::bad_page` meets its contract. The loop's invariant: the pages before `p` passed, so the first that fails is the first from `p` on. Assumes nothing.
use Rattle.std.proofs.Common.{◌≡◌, ℕ, ◌-◌, Bool}
use Rattle.book.specs.Pages.{page_at}
use Rattle.book.specs.Lists.{first_failing}
use Rattle.recovery_model.specs.Charts.{is_page_by}
use Rattle.recovery.proofs.pages.bad_page.Given as goal

abbrev pub invariant-loop-p : goal.invariant-loop-p
invariant-loop-p l = let test : ℕ → Bool = λ q. is_page_by l.log l.rows q (page_at l.charts q) in first_failing 32 0 test ≡ first_failing (32 - l.p) l.p test
