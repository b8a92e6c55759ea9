-- What is left where every number of RAM is 0: the world that a power failure leaves. Assumes nothing.
use Prim.Native.Nat.{ℕ}
use mathlib.Core.Path.{◌≡◌, ap₂}
use mathlib.Core.List.{List}
use Rattle.tables_model.specs.declared.Counts.{Counts}
use Rattle.state.specs.Answers.{number_and_value, rows_and_pages}
use Rattle.state.specs.World.{cleared}
use Rattle.journal.specs.declared.Outcome.{Outcome}
use Rattle.journal.specs.Outcomes.{outcome, no_counts, Zeroed}
use Rattle.tables.proofs.Flat.{entries-zero}
use Rattle.tables.proofs.Places.{actives-zero}

pub none-counted : (t : Counts) → (t.begun ≡ 0) × ((t.count ≡ 0) × (t.used ≡ 0)) → t ≡ no_counts
none-counted t z =
    ap₂ (λ (n : ℕ) (k : ℕ × ℕ). record { begun = n; count = k.0; used = k.1 }) z.0 (ap₂ (λ (x y : ℕ). (x, y)) z.1.0 z.1.1)

pub zeroed-outcome : (r : Outcome) (log charts copy tail visits flat : List ℕ) → Zeroed r copy tail visits flat
    → outcome r log charts copy tail visits flat ≡ record { answer = number_and_value r.answer; world = cleared log charts; writes = rows_and_pages r.writes }
zeroed-outcome r log charts copy tail visits flat z =
    let none = actives-zero 32 (λ i. 32) in
    let unused = entries-zero 448 (λ i. 448) in
    rw (z.control, z.counts, z.copy-zero, z.tail-zero, z.visits-zero, z.flat-zero, none, unused)
