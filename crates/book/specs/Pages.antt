-- Pages and charts as bytes (document 01, "The store"), the check of a page ("Refusals by place", open, pages) and the forward part of an opening.
-- A page is judged and redone by its own 32 bytes and its number.
use Rattle.std.specs.Prelude.{ℕ, ◌+◌, ◌-◌, ◌*◌, ◌%◌, Bool, ◌&&◌, ◌||◌, List, ◌++◌, map, get_or, take, drop, ℤ, ◌+ℤ◌, eqb}
use Rattle.book.specs.Lists.{total, tabulate, first_failing, join}
use Rattle.book.specs.Limits.{places, page_limit, page_length, chart_bound}
use Rattle.book.specs.Rows.{Row}
use Rattle.book.specs.Cells.{moved_by, applied, page_of_cell, on_page, last_on}
use Rattle.book.specs.Numbers.{le, number, bits_of, signed, within}

-- 01: a page, its mark and the 7 cells
pub record Page : Type 0 where
  pub mark : ℕ
  pub cell : (place : ℕ) → ℤ

-- 01: mark, two zero bytes, 7 cells of four bytes
unfoldable pub page_bytes : Page → List ℕ
page_bytes g = le 2 g.mark ++ le 2 0 ++ join (tabulate places 0 (λ j. le 4 (bits_of 32 (g.cell j))))

-- 01: stored charts, 32 pages
unfoldable pub chart_bytes : (ℕ → Page) → List ℕ
chart_bytes f = join (tabulate page_limit 0 (λ p. page_bytes (f p)))

-- the 32 bytes of page p
abbrev pub page_at : List ℕ → ℕ → List ℕ
page_at charts p = take page_length (drop (page_length * p) charts)

-- a page as its 32 bytes say
unfoldable pub page_of : List ℕ → Page
page_of bs = record { mark = number 2 bs 0; cell = λ j. signed 32 (number 4 bs (4 + 4 * j)) }

-- 01: cell c of the charts, place c mod 7 of page c / 7
abbrev pub cell_of : List ℕ → ℕ → ℤ
cell_of charts c = (page_of (page_at charts (page_of_cell c))).cell (c % places)

-- page p after the rows, from the cells on that they start from
unfoldable pub page_after : (ℕ → ℤ) → List Row → ℕ → Page
page_after cells rs p = record { mark = last_on p rs; cell = λ j. applied cells rs (places * p + j) }

-- row n of the log, from 1
abbrev pub row_at : List Row → ℕ → Row
row_at rs n = get_or rs (n - 1) (Row.begin 0)

-- 01, open, pages: the mark is 0 or a change or undo row of page p, bytes 2-3 are zero, and no cell is beyond ±200,000,000
unfoldable pub is_page : List Row → ℕ → List ℕ → Bool
is_page rs p bs =
    (eqb (page_of bs).mark 0 || on_page p (row_at rs (page_of bs).mark)) &&
    eqb (number 2 bs 2) 0 &&
    eqb (first_failing places 0 (λ j. within chart_bound ((page_of bs).cell j))) places

-- 01, open, forward: each change or undo row whose number exceeds its page's mark is applied
unfoldable pub redone : List Row → ℕ → List ℕ → Page
redone rs p bs = record {
  mark = last_on p rs;
  cell = λ j. (page_of bs).cell j +ℤ total (map (moved_by (places * p + j)) (drop (page_of bs).mark rs));
}
