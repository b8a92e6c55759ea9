-- The effect of a row on the bytes of the page that its cell is on.
use Rattle.std.specs.Prelude.{ℕ, ◌%◌, List}
use Rattle.book.specs.Limits.{places}
use Rattle.book.specs.Rows.{Effect, nothing, moves}
use Rattle.charts.specs.Moves.{page_moved}

-- row n moves the cell, and the page's mark becomes n
abbrev pub page_with : Effect → ℕ → List ℕ → List ℕ
page_with nothing n bs = bs
page_with (moves c z) n bs = page_moved bs (c % places) z n
