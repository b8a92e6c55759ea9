-- What a search that may find nothing gives, by the number that stands for it where nothing is found: the limit. Assumes nothing.
use Rattle.std.proofs.Common.{◌≡◌, ℕ, ◌≤◌, ◌<◌, Bool, true, false, cond, Some, None, ltb, refl, ltb-true, ltb-false}
use Rattle.recovery_model.specs.Charts.{below}

-- it found the number
pub below-Some : (limit n i : ℕ) → below limit n ≡ Some i → (n < limit) × (n ≡ i)
below-Some limit n i = go (ltb n limit) refl
  where
    go : (t : Bool) → ltb n limit ≡ t → cond t (Some n) None ≡ Some i → (n < limit) × (n ≡ i)
    go true e f = (ltb-true n limit e, cc)
    go false e f = cc

-- it found nothing
pub below-None : (limit n : ℕ) → below limit n ≡ None → limit ≤ n
below-None limit n = go (ltb n limit) refl
  where
    go : (t : Bool) → ltb n limit ≡ t → cond t (Some n) None ≡ None → limit ≤ n
    go true e f = cc
    go false e f = ltb-false n limit e
