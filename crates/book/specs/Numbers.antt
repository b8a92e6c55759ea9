-- Numbers in bytes (document 01, "The store"): little-endian, and two's complement for the signed ones.
use Rattle.std.specs.Prelude.{ℕ, zero, suc, ◌+◌, ◌-◌, ◌*◌, ◌/◌, ◌%◌, ◌^◌, ◌<◌, Bool, cond, ◌&&◌, List, [], ◌∷◌, get_or, ℤ, pos, negsuc, neg_ℤ, ltb}
use Rattle.std.specs.Int.Signed.{le_z}

-- the numbers of the list are bytes
abbrev pub AreBytes : List ℕ → Type 0
AreBytes bs = (i : ℕ) → get_or bs i 0 < 256

-- 01: little-endian, in n bytes
abbrev pub le : ℕ → ℕ → List ℕ
le zero x = []
le (suc n) x = x % 256 ∷ le n (x / 256)

-- the number in n bytes from i on
abbrev pub number : ℕ → List ℕ → ℕ → ℕ
number zero bs i = 0
number (suc n) bs i = get_or bs i 0 + 256 * number n bs (suc i)

-- the n bits of a signed number
abbrev pub bits_of : ℕ → ℤ → ℕ
bits_of n (pos a) = a % 2 ^ n
bits_of n (negsuc a) = 2 ^ n - suc (a % 2 ^ n)

-- the signed number that n bits are
abbrev pub signed : ℕ → ℕ → ℤ
signed n x = cond (ltb (2 * x) (2 ^ n)) (pos x) (negsuc (2 ^ n - suc x))

-- within ±n
abbrev pub within : ℕ → ℤ → Bool
within n z = le_z (neg_ℤ (pos n)) z && le_z z (pos n)
