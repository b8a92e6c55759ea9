-- Numbers read from bytes that were written over: where they were written, and elsewhere. Assumes nothing.
use Rattle.std.proofs.Common.{◌≡◌, ℕ, zero, suc, ◌+◌, ◌*◌, ◌/◌, ◌%◌, ◌^◌, ◌<◌, ◌≤◌, ◌≢◌, List, [], ◌∷◌, ◌++◌, length, get_or, take, drop, set, refl, ap, ◌∙◌, ap₂, append_assoc, arith, length-take-le, get_or-set_other, get_or-append-add}
use lib.Seq.{sets, sets-eq, set-get_or}
use Rattle.book.specs.Numbers.{le, number}
use Rattle.book.proofs.Numbers.{two_bytes, four_bytes}

-- a byte below what was written, and one above
byte-below : (bs : List ℕ) (i : ℕ) (xs : List ℕ) (k : ℕ) → k < i → get_or (sets bs i xs) k 0 ≡ get_or bs k 0
byte-below bs i [] k h = refl
byte-below bs i (x ∷ xs) k h =
    let o : k ≢ i = omega arith in byte-below (set bs i x) (suc i) xs k (omega arith) ∙ get_or-set_other bs i k x 0 o

pub byte_above : (bs : List ℕ) (i : ℕ) (xs : List ℕ) (k : ℕ) → i + length xs ≤ k → get_or (sets bs i xs) k 0 ≡ get_or bs k 0
byte_above bs i [] k h = refl
byte_above bs i (x ∷ xs) k h =
    let o : k ≢ i = omega arith in byte_above (set bs i x) (suc i) xs k (omega arith) ∙ get_or-set_other bs i k x 0 o

-- a number is read as before, if its bytes are
number_same : (m : ℕ) (bs cs : List ℕ) (i : ℕ) → ((k : ℕ) → i ≤ k → k < i + m → get_or bs k 0 ≡ get_or cs k 0) → number m bs i ≡ number m cs i
number_same zero bs cs i h = refl
number_same (suc m) bs cs i h =
    ap₂ (λ (x y : ℕ). x + 256 * y) (h i (omega arith) (omega arith)) (number_same m bs cs (suc i) (λ k a b. h k (omega arith) (omega arith)))

pub number-below : (m : ℕ) (bs : List ℕ) (i : ℕ) (xs : List ℕ) (k : ℕ) → k + m ≤ i → number m (sets bs i xs) k ≡ number m bs k
number-below m bs i xs k h = number_same m (sets bs i xs) bs k (λ j a b. byte-below bs i xs j (omega arith))

pub number-above : (m : ℕ) (bs : List ℕ) (i : ℕ) (xs : List ℕ) (k : ℕ) → i + length xs ≤ k → number m (sets bs i xs) k ≡ number m bs k
number-above m bs i xs k h = number_same m (sets bs i xs) bs k (λ j a b. byte_above bs i xs j (omega arith))

-- a number behind other bytes
number_behind : (m : ℕ) (xs ys : List ℕ) (i : ℕ) → number m (xs ++ ys) (length xs + i) ≡ number m ys i
number_behind zero xs ys i = refl
number_behind (suc m) xs ys i =
    ap₂ (λ (x y : ℕ). x + 256 * y) (get_or-append-add xs ys i 0) (ap (number m (xs ++ ys)) (at (length xs) i) ∙ number_behind m xs ys (suc i))
  where
    at : (x i : ℕ) → suc (x + i) ≡ x + suc i
    at x i = omega arith

-- what is written is read
module _ (bs : List ℕ) (i : ℕ) where
  at-start : (m : ℕ) (xs : List ℕ) → i + length xs ≤ length bs → number m (sets bs i xs) i ≡ number m (xs ++ drop (i + length xs) bs) 0
  at-start m xs h =
      let long = length-take-le i bs (omega arith) in
      let start : i ≡ length (take i bs) + 0 = omega arith in
      ap₂ (number m) (sets-eq xs bs i h ∙ append_assoc (take i bs) xs (drop (i + length xs) bs)) start ∙
      number_behind m (take i bs) (xs ++ drop (i + length xs) bs) 0

  pub two-written : (x : ℕ) → i + 2 ≤ length bs → x < 65536 → number 2 (sets bs i (le 2 x)) i ≡ x
  two-written x h k = at-start 2 (le 2 x) h ∙ two_bytes x k

  pub four-written : (x : ℕ) → i + 4 ≤ length bs → x < 4294967296 → number 4 (sets bs i (le 4 x)) i ≡ x
  four-written x h k = at-start 4 (le 4 x) h ∙ four_bytes x k

-- a number is below the power that its bytes hold
pub number_bound : (m : ℕ) (bs : List ℕ) (i : ℕ) → ((k : ℕ) → get_or bs k 0 < 256) → number m bs i < 256 ^ m
number_bound zero bs i h = omega arith
number_bound (suc m) bs i h = let k = number_bound m bs (suc i) h in let b = h i in omega arith

-- a number written where it was read changes nothing
pub same-written : (m : ℕ) (bs : List ℕ) (i : ℕ) → ((k : ℕ) → i ≤ k → get_or bs k 0 < 256) → sets bs i (le m (number m bs i)) ≡ bs
same-written zero bs i h = refl
same-written (suc m) bs i h =
    let b = get_or bs i 0 in
    let rest = number m bs (suc i) in
    let small = h i (omega arith) in
    let low : (b + 256 * rest) % 256 ≡ b = omega arith in
    let high : (b + 256 * rest) / 256 ≡ rest = omega arith in
    rw (low, high, set-get_or bs i 0) (same-written m bs (suc i) (λ k a. h k (omega arith)))
