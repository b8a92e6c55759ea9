-- Four bytes put over a part of others. Assumes nothing.
use Rattle.std.proofs.Common.{◌≡◌, ℕ, ◌+◌, ◌/◌, ◌%◌, ◌≤◌, List, ◌∷◌, ◌++◌, length, take, drop, sym, ◌∙◌, append_assoc, arith, drop-drop}
use lib.Seq.{sets, sets-eq}
use Rattle.book.specs.Numbers.{le}

pub four-put : (bs : List ℕ) (i x : ℕ) → i + 4 ≤ length bs
    → take i bs ++ (x % 256 ∷ x / 256 % 256 ∷ x / 65536 % 256 ∷ x / 16777216 % 256 ∷ drop 4 (drop i bs)) ≡ sets bs i (le 4 x)
four-put bs i x h =
    let third : x / 65536 ≡ x / 256 / 256 = omega arith in
    let fourth : x / 16777216 ≡ x / 256 / 256 / 256 = omega arith in
    rw (third, fourth, drop-drop 4 i bs) (sym (sets-eq (le 4 x) bs i h ∙ append_assoc (take i bs) (le 4 x) (drop (i + 4) bs)))
