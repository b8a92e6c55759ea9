-- The turns of the loop over a page's cells. Assumes nothing.
use Rattle.std.proofs.Common.{◌≡◌, ℕ, suc, ◌+◌, ◌-◌, ◌*◌, ◌<◌, ◌≤◌, List, ℤ, add-one, arith}
use lib.Seq.{sets}
use Rattle.book.specs.Numbers.{le, bits_of}
use Rattle.charts.specs.Build.{cells_written}

left : (i : ℕ) → i < 7 → 7 - i ≡ suc (7 - (i + 1))
left i h = omega arith

-- a cell is written
pub cells-turn : (i : ℕ) (cell : ℕ → ℤ) (bs : List ℕ) → i < 7
    → cells_written (7 - i) i cell bs ≡ cells_written (7 - (i + 1)) (i + 1) cell (sets bs (4 + 4 * i) (le 4 (bits_of 32 (cell i))))
unfolding cells_written
cells-turn i cell bs h = rw (left i h, add-one i)

pub cells-end : (i : ℕ) (cell : ℕ → ℤ) (bs : List ℕ) → 7 ≤ i → cells_written (7 - i) i cell bs ≡ bs
unfolding cells_written
cells-end i cell bs h = let e : 7 - i ≡ 0 = omega arith in rw e
