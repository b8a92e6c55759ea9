-- Sums in 32-bit two's complement: the bits of a sum are the sum of the bits, less a carry, whatever the numbers. Assumes nothing.
use Rattle.std.proofs.Common.{◌≡◌, ℕ, suc, ◌+◌, ◌-◌, ◌%◌, ◌<◌, Bool, true, false, ltb, ℤ, pos, negsuc, ◌+ℤ◌, neg_ℤ, refl, ap, ◌∙◌, arith, ltb-false, ltb-true}
use lib.IntN.{sub_ℕ, +ℤ_invr}
use Rattle.book.specs.Numbers.{bits_of}

pub bits_below : (z : ℤ) → bits_of 32 z < 4294967296
bits_below (pos n) = omega arith
bits_below (negsuc n) = omega arith

-- a natural number and a negative one
difference : (a b : ℕ) → (a % 4294967296 + (4294967296 - suc (b % 4294967296))) % 4294967296 ≡ bits_of 32 (sub_ℕ a (suc b))
difference a b = go (ltb a (suc b)) refl
  where
    go : (t : Bool) → ltb a (suc b) ≡ t
        → (a % 4294967296 + (4294967296 - suc (b % 4294967296))) % 4294967296 ≡ bits_of 32 (sub_ℕ a (suc b))
    go true e = let h = ltb-true a (suc b) e in rw e (omega arith)
    go false e = let h = ltb-false a (suc b) e in rw e (omega arith)

pub bits-sum : (y z : ℤ) → (bits_of 32 y + bits_of 32 z) % 4294967296 ≡ bits_of 32 (y +ℤ z)
bits-sum (pos a) (pos b) = omega arith
bits-sum (pos a) (negsuc b) = difference a b
bits-sum (negsuc a) (pos b) =
    let e : 4294967296 - suc (a % 4294967296) + b % 4294967296 ≡ b % 4294967296 + (4294967296 - suc (a % 4294967296)) = omega arith in
    rw e (difference b a)
bits-sum (negsuc a) (negsuc b) = omega arith

-- what is left when the bits of z are subtracted
pub bits-less : (r old : ℕ) (z : ℤ) → r < 4294967296 → (r + bits_of 32 z) % 4294967296 ≡ old → r ≡ (old + bits_of 32 (neg_ℤ z)) % 4294967296
bits-less r old z h e =
    let s : (bits_of 32 z + bits_of 32 (neg_ℤ z)) % 4294967296 ≡ 0 = bits-sum z (neg_ℤ z) ∙ ap (bits_of 32) (+ℤ_invr z) in
    let a = bits_below z in
    let b = bits_below (neg_ℤ z) in
    go (bits_of 32 z) (bits_of 32 (neg_ℤ z)) a b s e
  where
    go : (x y : ℕ) → x < 4294967296 → y < 4294967296 → (x + y) % 4294967296 ≡ 0 → (r + x) % 4294967296 ≡ old → r ≡ (old + y) % 4294967296
    go x y a b s e = omega arith
