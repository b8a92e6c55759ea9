-- Numbers in bytes and in bits are read back as they were written (specs/Numbers).
use Prim.Native.Nat.{ℕ, suc, ◌+◌, ◌-◌, ◌*◌, ◌/◌, ◌%◌, ◌^◌, ◌<◌}
use native.Mathlib.Omega.{arith}
use native.Mathlib.Nat.{mod-eq_of_lt}
use mathlib.Core.Path.{◌≡◌, refl, ap, ap₂}
use mathlib.Core.Bool.{Bool, true, false, cond}
use mathlib.Core.List.{List, [], ◌∷◌}
use lib.ListN.{get_or, take, drop, length-take, get_or-eq_default}
use lib.Seq.{get_or-take, get_or-drop}
use lib.IntN.{ℤ, pos, negsuc}
use lib.Dec.{leb, ltb}
use borrow.Author.Tests.{leb-true, lt-ltb, le-ltb, ltb-true, ltb-false}
use Rattle.book.specs.Rows.{is_amount}
use Rattle.book.specs.Numbers.{AreBytes, le, bits_of, signed}
use Rattle.book.proofs.Lists.{and_l}

-- ── Bytes ─────────────────────────────────────────────────────────────────────────────────────────────────────────────

-- a part of bytes
pub part_bytes : (bs : List ℕ) → AreBytes bs → (m n : ℕ) → AreBytes (take n (drop m bs))
part_bytes bs byte m n i = go (ltb i n) refl
  where
    go : (t : Bool) → ltb i n ≡ t → get_or (take n (drop m bs)) i 0 < 256
    go true e = rw (get_or-take n (drop m bs) i 0 (ltb-true i n e), get_or-drop m bs i 0) (byte (m + i))
    go false e =
        let k = length-take n (drop m bs) in let h = ltb-false i n e in
        rw (get_or-eq_default (take n (drop m bs)) 0 {n = i} (omega arith)) (omega arith)

pub two_bytes : (x : ℕ) → x < 65536 → x % 256 + 256 * (x / 256 % 256 + 256 * 0) ≡ x
two_bytes x h = omega arith

pub four_bytes : (x : ℕ) → x < 4294967296
    → x % 256 + 256 * (x / 256 % 256 + 256 * (x / 256 / 256 % 256 + 256 * (x / 256 / 256 / 256 % 256 + 256 * 0))) ≡ x
four_bytes x h = omega arith

-- two bytes are those of the number that they are
pub two_back : (a b : ℕ) → a < 256 → b < 256 → le 2 (a + 256 * (b + 256 * 0)) ≡ a ∷ b ∷ []
two_back a b h k = ap₂ (λ (x y : ℕ). x ∷ y ∷ []) low high
  where
    low : (a + 256 * (b + 256 * 0)) % 256 ≡ a
    low = omega arith

    high : (a + 256 * (b + 256 * 0)) / 256 % 256 ≡ b
    high = omega arith

pub four-back : (a b c d : ℕ) → a < 256 → b < 256 → c < 256 → d < 256
    → le 4 (a + 256 * (b + 256 * (c + 256 * (d + 256 * 0)))) ≡ a ∷ b ∷ c ∷ d ∷ []
four-back a b c d h k l m = rw (first, second, third, fourth)
  where
    first : (a + 256 * (b + 256 * (c + 256 * (d + 256 * 0)))) % 256 ≡ a
    first = omega arith

    second : (a + 256 * (b + 256 * (c + 256 * (d + 256 * 0)))) / 256 % 256 ≡ b
    second = omega arith

    third : (a + 256 * (b + 256 * (c + 256 * (d + 256 * 0)))) / 256 / 256 % 256 ≡ c
    third = omega arith

    fourth : (a + 256 * (b + 256 * (c + 256 * (d + 256 * 0)))) / 256 / 256 / 256 % 256 ≡ d
    fourth = omega arith

pub four_below : (a b c d : ℕ) → a < 256 → b < 256 → c < 256 → d < 256 → a + 256 * (b + 256 * (c + 256 * (d + 256 * 0))) < 4294967296
four_below a b c d h k l m = omega arith

pub two-below : (a b : ℕ) → a < 256 → b < 256 → a + 256 * (b + 256 * 0) < 65536
two-below a b h k = omega arith

-- ── Bits ──────────────────────────────────────────────────────────────────────────────────────────────────────────────

-- n bits hold the signed number
abbrev pub InBits : ℕ → ℤ → Type 0
InBits n (pos a) = 2 * a < 2 ^ n
InBits n (negsuc a) = 2 * a + 1 < 2 ^ n

pub signed-bits : (n : ℕ) (z : ℤ) → InBits n z → (signed n (bits_of n z) ≡ z) × (bits_of n z < 2 ^ n)
signed-bits n (pos a) h =
    let lt : a < 2 ^ n = omega arith in
    (rw (mod-eq_of_lt lt, lt-ltb (2 * a) (2 ^ n) h), rw (mod-eq_of_lt lt) lt)
signed-bits n (negsuc a) h =
    let lt : a < 2 ^ n = omega arith in
    (rw (mod-eq_of_lt lt, le-ltb (2 * (2 ^ n - suc a)) (2 ^ n) (omega arith)) (ap negsuc (omega arith)), rw (mod-eq_of_lt lt) (omega arith))

pub bits-signed : (n x : ℕ) → x < 2 ^ n → bits_of n (signed n x) ≡ x
bits-signed n x h = go (ltb (2 * x) (2 ^ n))
  where
    go : (t : Bool) → bits_of n (cond t (pos x) (negsuc (2 ^ n - suc x))) ≡ x
    go true = mod-eq_of_lt h
    go false = let lt : 2 ^ n - suc x < 2 ^ n = omega arith in rw (mod-eq_of_lt lt) (omega arith)

-- a row's change is a signed 16-bit number
pub amount-bits : (a : ℤ) → is_amount a ≡ true → InBits 16 a
amount-bits (pos a) e = let k = leb-true a 32767 e in omega arith
amount-bits (negsuc a) e = let k = leb-true a 32767 (and_l (leb a 32767) true e) in omega arith
