-- 02, L6: where the buffers have their lengths, the pages pass and the power is enough, an opening ends ready (specs/OpeningCost).
use Prim.Native.Nat.{ℕ, ◌≤◌}
use mathlib.Core.Path.{◌≡◌, ap, ◌∙◌}
use mathlib.Core.Bool.{true}
use mathlib.Core.List.{List}
use lib.ListN.{length}
use Rattle.book.specs.Rows.{Row}
use Rattle.book.specs.Ledger.{ledger}
use Rattle.book.specs.Power.{Fuse}
use Rattle.book.specs.Book.{Answer, closing, reopened, reopen}
use Rattle.book.specs.LogBytes.{log_bytes}
use Rattle.book.specs.Opening.{Opened, open_bytes}
use Rattle.book.proofs.Openings.{ended-done}
use Rattle.book.proofs.Force.{reopened-holds}
use Rattle.book.proofs.ReopenedBytes.{open-passed}
use Rattle.book.proofs.OpeningCost.{holds-fewer}
use Rattle.state.specs.World.{World, right_lengths, LogIs}
use Rattle.state.specs.CallContracts.{Answered, OpenPost}
use Rattle.state.specs.OpeningCost.{Powered}
use Rattle.state.proofs.OpenedStores.{opens-bytes}

module _ (f : Fuse) (given : World) (rs : List Row) (x : Answered) (log : LogIs given rs) (post : OpenPost f given x) where
  -- what it comes to where the lent buffers have their lengths
  pub by_bytes : right_lengths given ≡ true
      → (x.answer ≡ (open_bytes f (log_bytes rs) given.charts).answer) × (x.writes ≡ (open_bytes f (log_bytes rs) given.charts).writes)
  by_bytes e =
      let is = post.is ∙ opens-bytes f given e in
      let at = ap (λ (bs : List ℕ). open_bytes f bs given.charts) log.1 in
      (ap (λ (r : Answered). r.answer) is ∙ ap (λ (o : Opened). o.answer) at, ap (λ (r : Answered). r.writes) is ∙ ap (λ (o : Opened). o.writes) at)

  pub ready : (n : ℕ) → length (closing (ledger rs)) ≤ n → Powered f given rs n → x.answer.number ≡ 0
  unfolding reopen
  ready n few p =
      let holds = holds-fewer f (length (closing (ledger rs))) n few p.power in
      ap (λ (a : Answer). a.number)
      ((by_bytes p.lengths).0 ∙ ap (λ (o : Opened). o.answer) (open-passed rs given.charts log.0 p.pages f) ∙
      ended-done _ (reopened f rs) (reopened-holds f rs holds))
