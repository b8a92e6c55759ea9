-- The check of the pages against the log finds what the rows say (`bad-page-by`).
use Prim.Native.Nat.{ℕ, zero, suc, ◌≤◌}
use native.Mathlib.Omega.{arith}
use mathlib.Core.Path.{◌≡◌, refl, ap, ap₂, ◌∙◌}
use mathlib.Core.Bool.{Bool, true, cond, ◌&&◌, ◌||◌}
use mathlib.Core.List.{List}
use lib.ListN.{length}
use lib.Dec.{eqb}
use Rattle.book.specs.Lists.{first_failing}
use Rattle.book.specs.Rows.{Row}
use Rattle.book.specs.Rules.{allowed_log}
use Rattle.book.specs.LogBytes.{log_bytes}
use Rattle.book.specs.Cells.{on_page}
use Rattle.book.specs.Pages.{page_at, page_of, row_at, is_page}
use Rattle.book.specs.Opening.{bad_page}
use Rattle.charts.specs.Checks.{is_sound}
use Rattle.charts.proofs.PageChecks.{page-check}
use Rattle.recovery_model.specs.Scan.{row_in}
use Rattle.recovery_model.specs.Charts.{is_page_by, bad_page_by}
use Rattle.recovery_model.proofs.LogRows.{row-in}

module _ (rs : List Row) (al : allowed_log rs ≡ true) where
  -- row n of the log of these rows
  pub row-looked : (n : ℕ) → 1 ≤ n → row_in (log_bytes rs) (length rs) n ≡ row_at rs n
  unfolding log_bytes
  row-looked n low = row-in rs _ n al low

  -- the mark is 0 or a row of the page
  mark-by : (p n : ℕ) → (eqb n 0 || on_page p (row_in (log_bytes rs) (length rs) n)) ≡ (eqb n 0 || on_page p (row_at rs n))
  mark-by p zero = refl
  mark-by p (suc n) = ap (λ (r : Row). eqb (suc n) 0 || on_page p r) (row-looked (suc n) (omega arith))

  pub page-by : (p : ℕ) (bs : List ℕ) → is_page_by (log_bytes rs) (length rs) p bs ≡ is_page rs p bs
  unfolding is_page_by
  page-by p bs = ap (λ (t : Bool). t && is_sound bs) (mark-by p (page_of bs).mark) ∙ page-check rs p bs

  pub bad-page-by : (charts : List ℕ) → bad_page_by (log_bytes rs) (length rs) charts ≡ bad_page rs charts
  unfolding bad_page_by
  bad-page-by charts = same 32 0
    where
      same : (n from : ℕ) → first_failing n from (λ p. is_page_by (log_bytes rs) (length rs) p (page_at charts p)) ≡ first_failing n from (λ p. is_page rs p (page_at charts p))
      same zero from = refl
      same (suc n) from = ap₂ (λ (t : Bool) (m : ℕ). cond t m from) (page-by from (page_at charts from)) (same n (suc from))
