-- A row applied to a page and to the charts: bytes from bytes, for any bytes at all.
use Rattle.std.specs.Prelude.{ℕ, ◌+◌, ◌*◌, ◌%◌, ◌^◌, List, ◌++◌, take, drop, ℤ}
use Rattle.std.proofs.lemmas.List.Edits.{sets}
use Rattle.book.specs.Limits.{places, page_length}
use Rattle.book.specs.Rows.{Effect, nothing, moves}
use Rattle.book.specs.Cells.{page_of_cell}
use Rattle.book.specs.Numbers.{le, number, bits_of}
use Rattle.book.specs.Pages.{page_at}

-- the cell at place j moves by z in 32-bit two's complement, and the mark becomes n
unfoldable pub page_moved : List ℕ → ℕ → ℤ → ℕ → List ℕ
page_moved bs j z n = sets (sets bs 0 (le 2 n)) (4 + 4 * j) (le 4 ((number 4 bs (4 + 4 * j) + bits_of 32 z) % 2 ^ 32))

-- the effect of row n on the charts: its cell's page changes, and nothing else
unfoldable pub charts_moved : List ℕ → Effect → ℕ → List ℕ
charts_moved bs nothing n = bs
charts_moved bs (moves c z) n =
    take (page_length * page_of_cell c) bs ++
    (page_moved (page_at bs (page_of_cell c)) (c % places) z n ++ drop page_length (drop (page_length * page_of_cell c) bs))
