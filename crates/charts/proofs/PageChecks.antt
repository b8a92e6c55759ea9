-- The check of a page is the test of its mark, which goes by the log, and that of its bytes. Assumes nothing.
use Rattle.std.proofs.Common.{◌≡◌, ℕ, Bool, true, false, ◌&&◌, ◌||◌, eqb, List, refl}
use Rattle.book.specs.Rows.{Row}
use Rattle.book.specs.Cells.{on_page}
use Rattle.book.specs.Pages.{page_of, row_at, is_page}
use Rattle.charts.specs.Checks.{is_sound}

-- 01, open, pages
pub page-check : (rs : List Row) (p : ℕ) (bs : List ℕ)
    → ((eqb (page_of bs).mark 0 || on_page p (row_at rs (page_of bs).mark)) && is_sound bs) ≡ is_page rs p bs
unfolding is_sound is_page
page-check rs p bs = and_assoc (eqb (page_of bs).mark 0 || on_page p (row_at rs (page_of bs).mark)) _ _
  where
    and_assoc : (a b c : Bool) → (a && (b && c)) ≡ (a && b && c)
    and_assoc true b c = refl
    and_assoc false b c = refl
