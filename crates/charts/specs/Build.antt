-- A page from its seven formatted cells.
use Rattle.std.specs.Prelude.{ℕ, zero, suc, ◌+◌, ◌*◌, List, ℤ, pos, slice_index_or}
use Rattle.std.proofs.lemmas.List.Edits.{sets}
use Rattle.book.specs.Numbers.{le, bits_of}
use Rattle.book.specs.Pages.{Page}

-- 01: format gives the cells, and marks 0
abbrev pub from_cells : List ℤ → Page
from_cells cells = record { mark = 0; cell = λ j. slice_index_or cells j (pos 0) }

-- n cells from place j on written into a page's bytes
unfoldable pub cells_written : ℕ → ℕ → (ℕ → ℤ) → List ℕ → List ℕ
cells_written zero j cell bs = bs
cells_written (suc n) j cell bs = cells_written n (suc j) cell (sets bs (4 + 4 * j) (le 4 (bits_of 32 (cell j))))
