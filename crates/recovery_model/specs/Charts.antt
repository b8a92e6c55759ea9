-- The check of the pages against the log, and the forward part of an opening, page by page.
use Rattle.std.specs.Prelude.{ℕ, zero, suc, ◌-◌, ◌/◌, ◌%◌, ◌≤◌, ◌<◌, Bool, cond, ◌&&◌, ◌||◌, Option, Some, None, List, eqb, ltb, get_or}
use Rattle.book.specs.Lists.{first_failing, tabulate, join}
use Rattle.book.specs.Limits.{places, page_limit}
use Rattle.book.specs.Rows.{Effect, nothing, moves, effect}
use Rattle.book.specs.RowBytes.{row_of}
use Rattle.book.specs.Cells.{touches, on_page}
use Rattle.book.specs.Pages.{page_at, page_of}
use Rattle.charts.specs.Moves.{page_moved}
use Rattle.charts.specs.Checks.{is_sound}
use Rattle.wal.specs.Looking.{row_bytes_at}
use Rattle.recovery_model.specs.Scan.{row_in}

-- 01, open, pages: the mark is 0 or a change or undo row of that page, and the bytes are sound
unfoldable pub is_page_by : List ℕ → ℕ → ℕ → List ℕ → Bool
is_page_by log rows p bs = (eqb (page_of bs).mark 0 || on_page p (row_in log rows (page_of bs).mark)) && is_sound bs

-- a number below the limit; a search that finds nothing gives the limit
abbrev pub below : ℕ → ℕ → Option ℕ
below limit n = cond (ltb n limit) (Some n) None

-- the first page that fails, or 32
unfoldable pub bad_page_by : List ℕ → ℕ → List ℕ → ℕ
bad_page_by log rows charts = first_failing page_limit 0 (λ p. is_page_by log rows p (page_at charts p))

-- the effect of row n on page p
abbrev pub page_redone : ℕ → Effect → ℕ → List ℕ → List ℕ
page_redone p nothing n bs = bs
page_redone p (moves c z) n bs = cond (touches p (moves c z)) (page_moved bs (c % places) z n) bs

-- the m rows after the first k applied to page p: a function of the log and that page's bytes
unfoldable pub redo_from : ℕ → ℕ → List ℕ → ℕ → List ℕ → List ℕ
redo_from zero k log p bs = bs
redo_from (suc m) k log p bs = redo_from m (suc k) log p (page_redone p (effect (row_of (row_bytes_at log k))) (suc k) bs)

-- The pages that a byte can name as that of a cell: 255 / 7 + 1. There are 32, so that no allowed row names the others.
abbrev pub named_pages : ℕ
named_pages = 37

-- the page that the cell byte of row k, counted from 0, names
abbrev pub page_named : List ℕ → ℕ → ℕ
page_named log k = get_or (row_bytes_at log k) 3 0 / places

-- for each page a number, at most `rows`: every one of the first `rows` rows that names the page is among the first so many
pub record Ends (log : List ℕ) (rows : ℕ) (ends : List ℕ) : Type 0 where
  pub among : (k : ℕ) → k < rows → k < get_or ends (page_named log k) 0
  pub within : (p : ℕ) → get_or ends p 0 ≤ rows

-- 01, open, forward: each row above the page's mark is applied
unfoldable pub redo_page : List ℕ → ℕ → ℕ → List ℕ → List ℕ
redo_page log rows p bs = redo_from (rows - (page_of bs).mark) (page_of bs).mark log p bs

unfoldable pub redo_charts : List ℕ → ℕ → List ℕ → List ℕ
redo_charts log rows charts = join (tabulate page_limit 0 (λ p. redo_page log rows p (page_at charts p)))
