-- A list of 16 by its elements. Assumes nothing.
use mathlib.Core.Path.{◌≡◌, ap, ◌∙◌}
use mathlib.Core.List.{List, [], ◌∷◌}
use Prim.Native.Nat.{ℕ, zero, suc, ◌+◌, ◌≤◌}
use native.Mathlib.Omega.{arith}
use lib.ListN.{length, get_or, drop, drop_of_length-le}
use lib.Seq.{drop-cons}

abbrev elements : ℕ → ℕ → List ℕ → List ℕ
elements zero i b = []
elements (suc m) i b = get_or b i 0 ∷ elements m (suc i) b

elements-are : (m i : ℕ) (b : List ℕ) → i + m ≡ length b → drop i b ≡ elements m i b
elements-are zero i b e = let h : length b ≤ i = omega arith in drop_of_length-le b h
elements-are (suc m) i b e = drop-cons b i 0 (omega arith) ∙ ap (λ (l : List ℕ). get_or b i 0 ∷ l) (elements-are m (suc i) b (omega arith))

pub sixteen : (b : List ℕ) → length b ≡ 16
    → b ≡ get_or b 0 0 ∷ get_or b 1 0 ∷ get_or b 2 0 ∷ get_or b 3 0 ∷ get_or b 4 0 ∷ get_or b 5 0 ∷ get_or b 6 0 ∷ get_or b 7 0 ∷ get_or b 8 0 ∷
    get_or b 9 0 ∷ get_or b 10 0 ∷ get_or b 11 0 ∷ get_or b 12 0 ∷ get_or b 13 0 ∷ get_or b 14 0 ∷ get_or b 15 0 ∷ []
sixteen b e = elements-are 16 0 b (omega arith)
