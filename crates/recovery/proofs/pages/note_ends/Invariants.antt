-- `recovery::pages::note_ends` meets its contract. The loop's invariant: of the pages that the first `k` rows name the last such row is noted. Assumes nothing.
use Rattle.std.proofs.Common.{◌≡◌, length}
use Rattle.recovery_model.specs.Charts.{named_pages, Ends}
use Rattle.recovery.proofs.pages.note_ends.Given as goal

abbrev pub invariant-loop-k : goal.invariant-loop-k
invariant-loop-k l = (length l.ends ≡ named_pages) × Ends l.log l.k l.ends
