-- 02, L6 of the functions for C, for each n: an opening of the log of a begin and n - 1 changes.
use Prim.Native.Nat.{ℕ, ◌≤◌}
use native.Mathlib.Omega.{arith}
use mathlib.Core.Bool.{true}
use mathlib.Core.Path.{◌≡◌, ap, ap₂, sym, ◌∙◌, subst}
use mathlib.Core.Logic.{inl}
use lib.IntN.{pos}
use borrow.Author.Tests.{ne_eqb}
use Rattle.book.specs.Power.{PowerHolds}
use Rattle.book.specs.Book.{answer}
use Rattle.book.specs.LogBytes.{log_bytes}
use Rattle.book.specs.Opening.{bad_page}
use Rattle.book.specs.OpeningCost.{costliest, Costliest}
use Rattle.book.proofs.CostliestLogs.{costliest-log}
use Rattle.state.specs.World.{right_lengths, fuse_of_number}
use Rattle.state.specs.OpeningCost.{CostOfOpening}
use Rattle.embed_model.specs.Arrays.{Arrays, world_in}
use Rattle.embed_model.specs.Packed.{answer_in, writes_in}
use Rattle.embed_model.specs.Called.{answered_in, OpensOfC}
use Rattle.embed_model.specs.OpeningCost.{CostOfOpenOfC}
use Rattle.embed_model.proofs.CostOfOpening.{cost-of-open-of-c}

-- ── For each n ────────────────────────────────────────────────────────────────────────────────────────────────────────

-- an opening of the log of a begin and n - 1 changes
module _ (n : ℕ) (small : n ≤ 2048) (fuse : ℕ) (given : Arrays) (r : ℕ) (leaves : Arrays) (log : given.log ≡ log_bytes (costliest n))
    (opens : OpensOfC fuse given r leaves) where
  its : Costliest n (costliest n)
  its = costliest-log n small

  pub costliest-costs-of-c : CostOfOpening (fuse_of_number fuse) (world_in given) (costliest n) (answered_in r leaves)
  unfolding CostOfOpenOfC world_in
  costliest-costs-of-c = cost-of-open-of-c fuse given (costliest n) r leaves (its.allowed, log) opens

  -- whatever fuse, RAM and charts it is given: at most n rows, and no page
  pub costliest-at-most-of-c : ((writes_in r).rows ≤ n) × ((writes_in r).rows ≤ 2048) × ((writes_in r).pages ≡ 0)
  costliest-at-most-of-c = let long = its.long in let most = costliest-costs-of-c.cost.most in (omega arith, costliest-costs-of-c.cost.worst, costliest-costs-of-c.cost.pages)

  module _ (right : right_lengths (world_in given) ≡ true) (pages : bad_page (costliest n) (world_in given).charts ≡ 32) where
    holds : (m : ℕ) → m ≤ 2048 → fuse ≡ m → PowerHolds (fuse_of_number fuse) m
    holds m h e = rw (e, ne_eqb m 4294967295 (λ q. omega arith)) (omega arith)

    -- with a fuse of n writes it ends ready and reports n rows, which it has stored
    pub costliest-reached-of-c : fuse ≡ n → (answer_in r ≡ answer 0 (pos n)) × (writes_in r ≡ record { rows = n; pages = 0 })
    costliest-reached-of-c e =
        let long = its.long in
        let power = holds n small e in
        let zero : (answer_in r).number ≡ 0 = costliest-costs-of-c.ready n (inl (omega arith)) (record { lengths = right; pages = pages; power = power }) in
        let rows : (writes_in r).rows ≡ n =
        (costliest-costs-of-c.reaches (record { lengths = right; pages = pages; power = subst (PowerHolds (fuse_of_number fuse)) (sym long) power })).1 its.each ∙ long in
        (ap₂ answer zero (costliest-costs-of-c.cost.reports zero ∙ ap pos rows), ap₂ (λ (a b : ℕ). record { rows = a; pages = b }) rows costliest-costs-of-c.cost.pages)

    -- and it ends ready with a fuse of 2,048 writes, whatever n is
    pub costliest-ready-of-c : fuse ≡ 2048 → (answer_in r).number ≡ 0
    costliest-ready-of-c e = costliest-costs-of-c.ready-any (record { lengths = right; pages = pages; power = holds 2048 (omega arith) e })
