-- `recovery::pages::redo` meets its contract. The loop's invariant: the first `p` pages are redone, the others are as they were. Assumes nothing.
use Rattle.book.specs.Pages.{page_at}
use Rattle.recovery_model.specs.Charts.{redo_page}
use Rattle.recovery.proofs.Laying.{Laid}
use Rattle.recovery.proofs.pages.redo.Given as goal

abbrev pub invariant-loop-p : goal.invariant-loop-p
invariant-loop-p l = Laid (λ q. redo_page l.log l.rows q (page_at l.initial.copy q)) l.p l.initial.copy l.copy
