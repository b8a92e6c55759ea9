-- One turn, and the end, of each loop over the table of kinds and bytes. Assumes nothing.
use mathlib.Core.Path.{◌≡◌, refl, sym}
use mathlib.Core.Bool.{true, false, ◌&&◌, and-true, and_assoc}
use mathlib.Core.List.{List}
use Prim.Native.Nat.{ℕ, zero, suc, ◌+◌, ◌-◌, ◌≤◌, ◌<◌}
use native.Mathlib.Omega.{arith}
use native.Mathlib.Numerals.{add-one}
use lib.ListN.{get_or, set}
use lib.Dec.{eqb}
use lib.Bits.{bit_or, or_zero_l, or_add_and, and_le_r}
use borrow.Author.Tests.{ne_eqb}
use Rattle.book.specs.RowBytes.{may_be}
use Rattle.rows.specs.Table.{ok_byte, as_table, masked, fill}

pub ok-zero : (m x : ℕ) → m ≡ 0 → ok_byte m x ≡ eqb x 0
ok-zero zero x e = refl
ok-zero (suc m) x e = absurd (omega arith)

pub ok-other : (m x : ℕ) → (m ≡ 0 → ⊥) → ok_byte m x ≡ true
ok-other zero x e = absurd (e refl)
ok-other (suc m) x e = refl

left : (i n : ℕ) → i < n → n - i ≡ suc (n - (i + 1))
left i n h = omega arith

pub test-step : (i n k : ℕ) (b : List ℕ) → i < n
    → as_table (n - i) i k b ≡ (ok_byte (may_be k i) (get_or b i 0) && as_table (n - (i + 1)) (i + 1) k b)
unfolding as_table
test-step i n k b h = rw (left i n h, add-one i)

pub test-end : (i n k : ℕ) (b : List ℕ) → n ≤ i → as_table (n - i) i k b ≡ true
unfolding as_table
test-end i n k b h = let e : n - i ≡ 0 = omega arith in rw e

-- no bit is set in either of two numbers exactly if both are zero
or-zero : (a b : ℕ) → eqb (bit_or a b) 0 ≡ (eqb a 0 && eqb b 0)
or-zero zero b = rw (or_zero_l b)
or-zero (suc a) b =
    let either : eqb (bit_or (suc a) b) 0 ≡ false = ne_eqb (bit_or (suc a) b) 0 (λ z. omega (arith, or_add_and (suc a) b, and_le_r (suc a) b)) in
    let first : eqb (suc a) 0 ≡ false = ne_eqb (suc a) 0 (λ z. omega arith) in
    rw (either, first)

-- the bits of a byte that is to be zero are wrong, those of another are not
module _ (wrong m x : ℕ) where
  pub gathered : m ≡ 0 → eqb (bit_or wrong x) 0 ≡ (eqb wrong 0 && ok_byte m x)
  gathered e = rw (ok-zero m x e) (or-zero wrong x)

  pub kept : (m ≡ 0 → ⊥) → eqb wrong 0 ≡ (eqb wrong 0 && ok_byte m x)
  kept e = rw (ok-other m x e, and-true (eqb wrong 0))

-- one byte more is tested
pub tested : (i n k wrong more : ℕ) (b : List ℕ) → i < n → eqb more 0 ≡ (eqb wrong 0 && ok_byte (may_be k i) (get_or b i 0))
    → (eqb wrong 0 && as_table (n - i) i k b) ≡ (eqb more 0 && as_table (n - (i + 1)) (i + 1) k b)
tested i n k wrong more b h e = rw (test-step i n k b h, e) (sym (and_assoc (eqb wrong 0) _ _))

pub all_tested : (i n k wrong : ℕ) (b : List ℕ) → n ≤ i → (eqb wrong 0 && as_table (n - i) i k b) ≡ eqb wrong 0
all_tested i n k wrong b h = rw (test-end i n k b h) (and-true (eqb wrong 0))

pub fill_step : (i n k : ℕ) (f b : List ℕ) → i < n
    → fill (n - i) i k f b ≡ fill (n - (i + 1)) (i + 1) k f (set b i (masked (may_be k i) (get_or f i 0)))
unfolding fill
fill_step i n k f b h = rw (left i n h, add-one i)

pub fill_end : (i n k : ℕ) (f b : List ℕ) → n ≤ i → fill (n - i) i k f b ≡ b
unfolding fill
fill_end i n k f b h = let e : n - i ≡ 0 = omega arith in rw e
