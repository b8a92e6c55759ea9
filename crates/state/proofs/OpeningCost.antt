-- 02, L6: what openings cost, by the contract of open (specs/OpeningCost).
use Prim.Native.Nat.{ℕ, ◌-◌, ◌≤◌}
use native.Mathlib.Omega.{arith}
use mathlib.Core.Path.{◌≡◌, refl, ap, ap₂, ◌∙◌}
use mathlib.Core.Bool.{Bool, true, false}
use mathlib.Core.Logic.{◌⊎◌, inl, inr}
use mathlib.Core.List.{List}
use lib.ListN.{length}
use lib.IntN.{pos}
use Rattle.book.specs.Limits.{row_limit, cost_limit}
use Rattle.book.specs.Rows.{Row}
use Rattle.book.specs.Ledger.{ledger}
use Rattle.book.specs.Rules.{allowed_log}
use Rattle.book.specs.Power.{Fuse}
use Rattle.book.specs.Book.{Answer, answer, done, closing}
use Rattle.book.specs.Writes.{Writes}
use Rattle.book.specs.LogBytes.{log_bytes}
use Rattle.book.specs.OpeningCost.{Cost, costliest}
use Rattle.book.proofs.OpeningCost.{refused-cost, names-few, reaching-few}
use Rattle.book.proofs.BytesCost.{bytes-cost}
use Rattle.book.proofs.CostliestLogs.{costliest-log}
use Rattle.state.specs.World.{World, right_lengths, LogIs, allowance}
use Rattle.state.specs.CallContracts.{Answered, OpenPost, answered_by}
use Rattle.state.specs.OpeningCost.{Powered, CostOfOpening, Reported, CostliestOpening, CostOfOpen}
use Rattle.state.proofs.OpenedStores.{opens-refused}
use Rattle.state.proofs.ReadyOpening.{by_bytes, ready}

-- each of the two bounds is enough
either : (rs : List Row) → allowed_log rs ≡ true → (m : ℕ) → (length rs ≤ m) ⊎ (row_limit - length rs ≤ m) → length (closing (ledger rs)) ≤ m
either rs al m (inl h) = let k = (names-few rs al).0 in omega arith
either rs al m (inr h) = let k = (names-few rs al).1 in omega arith

module _ (f : Fuse) (given : World) (rs : List Row) (x : Answered) (log : LogIs given rs) (post : OpenPost f given x) where
  cost : Cost rs x.answer x.writes
  cost = go (right_lengths given) refl
    where
      go : (t : Bool) → right_lengths given ≡ t → Cost rs x.answer x.writes
      go true e = let b = by_bytes f given rs x log post e in rw (b.0, b.1) (bytes-cost f rs given.charts log.0)
      go false e = rw (post.is, opens-refused f given e) (refused-cost rs _ (λ z. omega arith))

  pub opening-cost : CostOfOpening f given rs x
  opening-cost = record {
    cost = cost;
    ready = λ m few p. ready f given rs x log post m (either rs log.0 m few) p;
    ready-any = λ p. ready f given rs x log post cost_limit (names-few rs log.0).2 p;
    reaches = λ p. cost.reaches (ready f given rs x log post (length rs) (names-few rs log.0).0 p);
  }

-- an answer and counts by their parts
answer-is : (a : Answer) (n : ℕ) → a.number ≡ 0 → a.value ≡ pos n → a ≡ done (pos n)
answer-is a n z v = ap₂ answer z v

writes_are : (w : Writes) (n : ℕ) → w.rows ≡ n → w.pages ≡ 0 → w ≡ record { rows = n; pages = 0 }
writes_are w n r p = ap₂ (λ (m k : ℕ). record { rows = m; pages = k }) r p

reported : (n : ℕ) → n ≤ cost_limit → (f : Fuse) (given : World) (x : Answered) → given.log ≡ log_bytes (costliest n) → OpenPost f given x
    → Powered f given (costliest n) n → Reported n x
reported n few f given x is post p =
    let c = costliest-log n few in
    let log : LogIs given (costliest n) = (c.allowed, is) in
    let k = cost f given (costliest n) x log post in
    let long = c.long in
    let names = (names-few (costliest n) c.allowed).0 in
    let z = ready f given (costliest n) x log post n (omega arith) p in
    let rows : x.writes.rows ≡ n = (k.reaches z).1 c.each ∙ long in
    record {
      answer = answer-is x.answer n z (k.reports z ∙ ap pos rows);
      writes = writes_are x.writes n rows k.pages;
    }

pub costliest-opening : CostliestOpening
costliest-opening = record { opening = opening-cost; log = costliest-log; reported = reported; log-most = reaching-few }

pub cost-of-open : CostOfOpen
unfolding CostOfOpen
cost-of-open fuse given rs x log does = opening-cost (allowance fuse) given rs (answered_by x) log does.post
