-- What a move makes of the bytes of a page: those of the page with that cell moved and the row's number as its mark, whatever the numbers and whatever
-- bytes 2 and 3 are, since the bits of a sum are the sum of the bits. Assumes nothing.
use Rattle.std.proofs.Common.{◌≡◌, ℕ, zero, suc, ◌+◌, ◌%◌, ◌<◌, cond, eqb, List, [], ◌∷◌, ℤ, ◌+ℤ◌, ap, ◌∙◌, arith}
use lib.Seq.{sets}
use Rattle.book.specs.Numbers.{le, number, bits_of}
use Rattle.book.specs.Pages.{Page, page_bytes}
use Rattle.book.proofs.Numbers.{four_bytes}
use Rattle.charts.specs.Moves.{page_moved}
use Rattle.charts.proofs.Sums.{bits_below, bits-sum}

-- the page with the cell at place j moved by z, and mark n
abbrev pub moved_page : Page → ℕ → ℤ → ℕ → Page
moved_page g j z n = record { mark = n; cell = λ i. cond (eqb i j) (g.cell i +ℤ z) (g.cell i) }

-- the bytes of a page with these for bytes 2 and 3
abbrev pub bytes_with : ℕ → ℕ → Page → List ℕ
bytes_with x y g = sets (page_bytes g) 2 (x ∷ y ∷ [])

-- the bytes of a number, read and moved
sum-read : (y z : ℤ) → (number 4 (le 4 (bits_of 32 y)) 0 + bits_of 32 z) % 4294967296 ≡ bits_of 32 (y +ℤ z)
sum-read y z = ap (λ (x : ℕ). (x + bits_of 32 z) % 4294967296) (four_bytes (bits_of 32 y) (bits_below y)) ∙ bits-sum y z

-- bytes 2 and 3 stay
pub page-moved-with : (x y : ℕ) (g : Page) (j : ℕ) (z : ℤ) (n : ℕ) → j < 7 → page_moved (bytes_with x y g) j z n ≡ bytes_with x y (moved_page g j z n)
unfolding page_moved page_bytes
page-moved-with x y g zero z n h = rw (sum-read (g.cell 0) z)
page-moved-with x y g (suc zero) z n h = rw (sum-read (g.cell 1) z)
page-moved-with x y g (suc (suc zero)) z n h = rw (sum-read (g.cell 2) z)
page-moved-with x y g (suc (suc (suc zero))) z n h = rw (sum-read (g.cell 3) z)
page-moved-with x y g (suc (suc (suc (suc zero)))) z n h = rw (sum-read (g.cell 4) z)
page-moved-with x y g (suc (suc (suc (suc (suc zero))))) z n h = rw (sum-read (g.cell 5) z)
page-moved-with x y g (suc (suc (suc (suc (suc (suc zero)))))) z n h = rw (sum-read (g.cell 6) z)
page-moved-with x y g (suc (suc (suc (suc (suc (suc (suc j))))))) z n h = absurd (omega arith)

pub page_moved_lem : (g : Page) (j : ℕ) (z : ℤ) (n : ℕ) → j < 7 → page_moved (page_bytes g) j z n ≡ page_bytes (moved_page g j z n)
unfolding page_bytes
page_moved_lem g j z n h = page-moved-with 0 0 g j z n h
