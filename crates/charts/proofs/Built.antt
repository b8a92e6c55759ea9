-- A page whose bytes were all written is its seven cells with mark 0. Assumes nothing.
use Rattle.std.proofs.Common.{◌≡◌, ℕ, zero, suc, ◌+◌, List, [], ◌∷◌, length, get_or, ℤ, refl, ap, ◌∙◌, ap₂, arith}
use lib.Seq.{sets}
use Rattle.book.specs.Lists.{tabulate}
use Rattle.book.specs.Numbers.{le}
use Rattle.book.specs.Pages.{page_bytes}
use Rattle.charts.specs.Build.{cells_written}

-- a list of a known length, element by element
listed : (xs ys : List ℕ) (n from : ℕ) → length ys ≡ n → ((i : ℕ) → get_or ys i 0 ≡ get_or xs (from + i) 0) → ys ≡ tabulate n from (λ i. get_or xs i 0)
listed xs [] zero from l h = refl
listed xs [] (suc n) from l h = absurd (omega arith)
listed xs (y ∷ ys) zero from l h = absurd (omega arith)
listed xs (y ∷ ys) (suc n) from l h =
    ap₂ ◌∷◌ (h 0 ∙ ap (λ (k : ℕ). get_or xs k 0) (first from)) (listed xs ys n (suc from) (omega arith) (λ i. h (suc i) ∙ ap (λ (k : ℕ). get_or xs k 0) (next from i)))
  where
    first : (from : ℕ) → from + 0 ≡ from
    first from = omega arith

    next : (from i : ℕ) → from + suc i ≡ suc from + i
    next from i = omega arith

pub by_bytes : (bs : List ℕ) (n : ℕ) → length bs ≡ n → bs ≡ tabulate n 0 (λ i. get_or bs i 0)
by_bytes bs n l = listed bs bs n 0 l (λ i. ap (λ (k : ℕ). get_or bs k 0) (at i))
  where
    at : (i : ℕ) → i ≡ 0 + i
    at i = omega arith

pub built : (bs : List ℕ) (cell : ℕ → ℤ) → length bs ≡ 32 → cells_written 7 0 cell (sets bs 0 (le 4 0)) ≡ page_bytes (record { mark = 0; cell = cell })
unfolding cells_written page_bytes
built bs cell l = ap (λ (b : List ℕ). cells_written 7 0 cell (sets b 0 (le 4 0))) (by_bytes bs 32 l)
