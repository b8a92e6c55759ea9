-- An answer is read from the number that it was packed into. Assumes nothing.
use Prim.Native.Nat.{ℕ, suc, ◌-◌, ◌^◌, ◌%◌, ◌<◌}
use native.Mathlib.Omega.{arith}
use mathlib.Core.Path.{◌≡◌, ap, sym, ◌∙◌}
use lib.IntN.{ℤ, pos, negsuc}
use mir.Syntax.{w32}
use mir.Val.{SFits, of_z}
use Rattle.book.specs.Book.{answer}
use Rattle.book.specs.Numbers.{bits_of}
use Rattle.book.proofs.Numbers.{InBits, signed-bits}
use Rattle.embed_model.specs.Packed.{answer_in, writes_in}
use Rattle.embed_model.proofs.Packed.{joined_as, answer_back, writes-back}

in-bits : (z : ℤ) → SFits w32 z → InBits 32 z
in-bits (pos n) f = omega arith
in-bits (negsuc n) f = omega arith

-- the bits of a signed number in 32 bits
in-32 : (z : ℤ) → SFits w32 z → of_z w32 z ≡ bits_of 32 z
in-32 (pos n) f = let e : n ≡ n % 2 ^ 32 = omega arith in e
in-32 (negsuc n) f = let e : n % 2 ^ 32 ≡ n = omega arith in ap (λ (m : ℕ). 2 ^ 32 - suc m) (sym e)

pub answer-packed : (n : ℕ) (z : ℤ) (rows pages : ℕ) → n < 256 → SFits w32 z → rows < 65536
    → (answer_in (joined_as n (of_z w32 z) rows pages) ≡ answer n z) × (writes_in (joined_as n (of_z w32 z) rows pages) ≡ record { rows = rows; pages = pages })
answer-packed n z rows pages l f m =
    let k = (signed-bits 32 z (in-bits z f)).1 in
    let e = in-32 z f in (
      ap (λ (i : ℕ). answer_in (joined_as n i rows pages)) e ∙ answer_back n z rows pages l (in-bits z f) m,
      writes-back n (of_z w32 z) rows pages l (omega (arith, e, k)) m,
    )
