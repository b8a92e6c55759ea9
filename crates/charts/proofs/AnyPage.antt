-- A move of a cell on any 32 bytes, read as signed numbers: the cell moves by exactly the change where the sum is within 32 bits, the other cells
-- and bytes 2-3 stay, and the mark is the row's number. Subtracting what was added gives all bytes back but those of the mark. Assumes nothing.
use Rattle.std.proofs.Common.{◌≡◌, ℕ, zero, suc, ◌+◌, ◌*◌, ◌%◌, ◌<◌, Bool, true, false, ltb, ◌≢◌, List, length, get_or, ℤ, ◌+ℤ◌, neg_ℤ, sym, refl, ap, ◌∙◌, arith, ltb-false, ltb-true}
use lib.Seq.{sets, length-sets}
use Rattle.book.specs.Lists.{tabulate}
use Rattle.book.specs.Numbers.{le, number, bits_of, signed}
use Rattle.book.specs.Pages.{page_of}
use Rattle.book.proofs.Numbers.{InBits, signed-bits, bits-signed}
use Rattle.charts.specs.Moves.{page_moved}
use Rattle.charts.proofs.Sums.{bits-sum, bits-less}
use Rattle.charts.proofs.Built.{by_bytes}
use Rattle.charts.proofs.Overwrites.{byte_above, number-below, number-above, two-written, four-written, number_bound, same-written}

-- the bytes with the mark n
abbrev marked : List ℕ → ℕ → List ℕ
marked bs n = sets bs 0 (le 2 n)

-- the bits of the cell after its move
abbrev new_bits : List ℕ → ℕ → ℤ → ℕ
new_bits bs j z = (number 4 bs (4 + 4 * j) + bits_of 32 z) % 4294967296

module _ (bs : List ℕ) (long : length bs ≡ 32) (bytes : (k : ℕ) → get_or bs k 0 < 256) (j : ℕ) (inside : j < 7) (z : ℤ) (n : ℕ) where
  old-bits : number 4 bs (4 + 4 * j) < 4294967296
  old-bits = number_bound 4 bs (4 + 4 * j) bytes

  new-bits : number 4 (page_moved bs j z n) (4 + 4 * j) ≡ new_bits bs j z
  unfolding page_moved
  new-bits =
      let l = length-sets bs 0 (le 2 n) in four-written (marked bs n) (4 + 4 * j) (new_bits bs j z) (omega arith) (omega arith)

  -- the cell moves by exactly z
  pub cell-moves : InBits 32 ((page_of bs).cell j +ℤ z) → (page_of (page_moved bs j z n)).cell j ≡ (page_of bs).cell j +ℤ z
  unfolding page_of
  cell-moves w =
      ap
      (signed 32)
      (new-bits ∙ ap (λ (x : ℕ). (x + bits_of 32 z) % 4294967296) (sym (bits-signed 32 (number 4 bs (4 + 4 * j)) old-bits)) ∙
      bits-sum ((page_of bs).cell j) z) ∙
      (signed-bits 32 ((page_of bs).cell j +ℤ z) w).0

  -- the other cells stay
  pub cell_stays : (i : ℕ) → i < 7 → i ≢ j → (page_of (page_moved bs j z n)).cell i ≡ (page_of bs).cell i
  unfolding page_moved page_of
  cell_stays i h o = ap (signed 32) (aside (ltb i j) refl ∙ number-above 4 bs 0 (le 2 n) (4 + 4 * i) (omega arith))
    where
      aside : (t : Bool) → ltb i j ≡ t
          → number 4 (sets (marked bs n) (4 + 4 * j) (le 4 (new_bits bs j z))) (4 + 4 * i) ≡ number 4 (marked bs n) (4 + 4 * i)
      aside true e =
          let k = ltb-true i j e in number-below 4 (marked bs n) (4 + 4 * j) (le 4 (new_bits bs j z)) (4 + 4 * i) (omega arith)
      aside false e =
          let k = ltb-false i j e in number-above 4 (marked bs n) (4 + 4 * j) (le 4 (new_bits bs j z)) (4 + 4 * i) (omega arith)

  -- bytes 2 and 3 stay
  pub zeros-stay : number 2 (page_moved bs j z n) 2 ≡ number 2 bs 2
  unfolding page_moved
  zeros-stay =
      number-below 2 (marked bs n) (4 + 4 * j) (le 4 (new_bits bs j z)) 2 (omega arith) ∙ number-above 2 bs 0 (le 2 n) 2 (omega arith)

  -- the mark is the row's number
  pub mark_set : n < 65536 → (page_of (page_moved bs j z n)).mark ≡ n
  unfolding page_moved page_of
  mark_set h =
      number-below 2 (marked bs n) (4 + 4 * j) (le 4 (new_bits bs j z)) 0 (omega arith) ∙ two-written bs 0 n (omega arith) h

-- of what was written twice, the last is there
last_written : (bs : List ℕ) (j : ℕ) (n m x y : ℕ) → length bs ≡ 32 → j < 7
    → sets (marked (sets (marked bs n) (4 + 4 * j) (le 4 y)) m) (4 + 4 * j) (le 4 x) ≡ sets (marked bs m) (4 + 4 * j) (le 4 x)
last_written bs j n m x y l h =
    ap (λ (b : List ℕ). sets (marked (sets (marked b n) (4 + 4 * j) (le 4 y)) m) (4 + 4 * j) (le 4 x)) (by_bytes bs 32 l) ∙ places j h ∙
    ap (λ (b : List ℕ). sets (marked b m) (4 + 4 * j) (le 4 x)) (sym (by_bytes bs 32 l))
  where
    b : List ℕ
    b = tabulate 32 0 (λ i. get_or bs i 0)

    places : (j : ℕ) → j < 7 → sets (marked (sets (marked b n) (4 + 4 * j) (le 4 y)) m) (4 + 4 * j) (le 4 x) ≡ sets (marked b m) (4 + 4 * j) (le 4 x)
    places zero h = refl
    places (suc zero) h = refl
    places (suc (suc zero)) h = refl
    places (suc (suc (suc zero))) h = refl
    places (suc (suc (suc (suc zero)))) h = refl
    places (suc (suc (suc (suc (suc zero))))) h = refl
    places (suc (suc (suc (suc (suc (suc zero)))))) h = refl
    places (suc (suc (suc (suc (suc (suc (suc j))))))) h = absurd (omega arith)

-- 01: an undo subtracts the change as first logged
pub bytes-restored : (bs : List ℕ) → length bs ≡ 32 → ((k : ℕ) → get_or bs k 0 < 256) → (j : ℕ) → j < 7 → (z : ℤ) (n m : ℕ)
    → page_moved (page_moved bs j z n) j (neg_ℤ z) m ≡ sets bs 0 (le 2 m)
unfolding page_moved
bytes-restored bs long bytes j inside z n m =
    let i = 4 + 4 * j in
    let page = sets (marked bs n) i (le 4 (new_bits bs j z)) in
    let less : new_bits page j (neg_ℤ z) ≡ number 4 bs i =
    ap (λ (x : ℕ). (x + bits_of 32 (neg_ℤ z)) % 4294967296) (new-bits bs long bytes j inside z n) ∙
    sym (bits-less (number 4 bs i) (new_bits bs j z) z (old-bits bs long bytes j inside z n) refl) in
    ap (λ (x : ℕ). sets (marked page m) i (le 4 x)) (less ∙ sym (number-above 4 bs 0 (le 2 m) i (omega arith))) ∙
    last_written bs j n m (number 4 (marked bs m) i) (new_bits bs j z) long inside ∙
    same-written 4 (marked bs m) i (λ k h. rw (byte_above bs 0 (le 2 m) k (omega arith)) (bytes k))
