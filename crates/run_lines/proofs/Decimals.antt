-- Numbers in base ten: that std prints them so, and how long numbers and lines are. Assumes nothing.
use mathlib.Core.Path.{◌≡◌, refl, ap, ◌∙◌}
use mathlib.Core.Bool.{Bool, true, false, cond}
use mathlib.Core.List.{List, [], ◌∷◌, ◌++◌}
use Prim.Native.Nat.{ℕ, zero, suc, ◌/◌, ◌%◌, ◌^◌, ◌≤◌, ◌<◌}
use native.Mathlib.Nat.{pow-suc}
use native.Mathlib.Omega.{arith}
use borrow.Author.Tests.{lt-ltb, ltb-true, ltb-false}
use lib.Dec.{ltb}
use lib.IntN.{ℤ, pos, negsuc}
use lib.ListN.{length, length-append}
use mir.Syntax.{w32}
use mir.Val.{SFits}
use Rattle.std.specs.Fmt as std
use Rattle.std.proofs.lemmas.Fmt.{decimal_digit, decimal_step}
use Rattle.book.specs.Writes.{Few}
use Rattle.run_lines.specs.Lines.{digit, digits_of, decimal, signed_decimal}

-- std's text of a number, digit by digit from the last
by-digits : (k n : ℕ) → n < 10 ^ suc k → n < 2 ^ 32 → std.decimal n ≡ digits_of k n
by-digits zero n h b =
    let small : n < 10 = omega (arith, pow-suc 10 0) in
    let same : n ≡ n % 10 = omega arith in
    decimal_digit n small ∙ ap (λ (d : ℕ). digit d ∷ []) same
by-digits (suc k) n h b = go (ltb n 10) refl (by-digits k (n / 10) (omega (arith, pow-suc 10 (suc k))) (omega arith))
  where
    go : (t : Bool) → ltb n 10 ≡ t → std.decimal (n / 10) ≡ digits_of k (n / 10)
        → std.decimal n ≡ cond t (digit n ∷ []) (digits_of k (n / 10) ++ (digit (n % 10) ∷ []))
    go true e before = decimal_digit n (ltb-true n 10 e)
    go false e before = decimal_step n (ltb-false n 10 e) (omega arith) ∙ ap (λ (ds : List ℕ). ds ++ (digit (n % 10) ∷ [])) before

-- what is printed is the number in base ten
pub decimal_printed : (n : ℕ) → n < 2 ^ 32 → std.decimal n ≡ decimal n
unfolding decimal
decimal_printed n h = by-digits 9 n (omega arith) h

pub signed_printed : (z : ℤ) → SFits w32 z → std.signed_decimal z ≡ signed_decimal z
unfolding signed_decimal
signed_printed (pos n) h = decimal_printed n (omega (arith, h.sfits))
signed_printed (negsuc n) h = ap (λ (ds : List ℕ). 45 ∷ ds) (decimal_printed (suc n) (omega (arith, h.sfits)))

-- a number below a power of ten has no more digits than that
digits-length : (k j n : ℕ) → n < 10 ^ suc j → length (digits_of k n) ≤ suc j
digits-length zero j n h = omega arith
digits-length (suc k) zero n h = let small : n < 10 = omega (arith, pow-suc 10 0) in rw (lt-ltb n 10 small) (omega arith)
digits-length (suc k) (suc j) n h =
    let less : n / 10 < 10 ^ suc j = omega (arith, pow-suc 10 (suc j)) in go (ltb n 10) (digits-length k j (n / 10) less)
  where
    go : (t : Bool) → length (digits_of k (n / 10)) ≤ suc j
        → length (cond t (digit n ∷ []) (digits_of k (n / 10) ++ (digit (n % 10) ∷ []))) ≤ suc (suc j)
    go true before = omega arith
    go false before = omega (arith, length-append (digits_of k (n / 10)) (digit (n % 10) ∷ []))

pub decimal-length : (j n : ℕ) → n < 10 ^ suc j → length (decimal n) ≤ suc j
unfolding decimal
decimal-length j n h = digits-length 9 j n h

pub signed-length : (z : ℤ) → SFits w32 z → length (signed_decimal z) ≤ 11
unfolding signed_decimal
signed-length (pos n) h = omega (arith, decimal-length 9 n (omega (arith, h.sfits)))
signed-length (negsuc n) h = omega (arith, decimal-length 9 (suc n) (omega (arith, h.sfits)))

-- the parts of a line are no longer than `line_length` allows
pub record PartsFit (session call number : ℕ) (value : ℤ) (rows pages : ℕ) : Type 0 where
  pub session_fits : length (decimal session) ≤ 5
  pub call_fits : length (decimal call) ≤ 5
  pub number_fits : length (decimal number) ≤ 3
  pub value_fits : length (signed_decimal value) ≤ 11
  pub rows_fit : length (decimal rows) ≤ 4
  pub pages_fit : length (decimal pages) ≤ 1

pub parts_fit : {session call number : ℕ} {value : ℤ} {rows pages : ℕ} → session < 65536 → call < 65536 → number < 256 → SFits w32 value
    → Few (record { rows = rows; pages = pages }) → PartsFit session call number value rows pages
parts_fit {session} {call} {number} {value} {rows} {pages} s c n v few = record {
  session_fits = decimal-length 4 session (omega arith);
  call_fits = decimal-length 4 call (omega arith);
  number_fits = decimal-length 2 number (omega arith);
  value_fits = signed-length value v;
  rows_fit = decimal-length 3 rows (omega arith);
  pages_fit = decimal-length 0 pages (omega arith);
}
