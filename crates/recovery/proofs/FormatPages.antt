-- What format leaves: the pages that it builds are the book's pages of no rows, and the zeros of the log are its bytes of no rows. Assumes nothing.
use Rattle.std.proofs.Common.{◌≡◌, ℕ, ◌*◌, ◌<◌, ◌≤◌, List, [], ◌++◌, length, take, drop, replicate, ℤ, pos, Some, None, Ok, sym, ap, ◌∙◌, arith, get_or-drop, get_or-take, le-ltb, eq-eqb}
use lib.IntN.{+ℤ_idr}
use Rattle.book.specs.Lists.{tabulate, join}
use Rattle.book.specs.Numbers.{le, bits_of}
use Rattle.book.specs.Pages.{page_bytes, chart_bytes, page_after}
use Rattle.book.proofs.Blocks.{tabulate-same}
use Rattle.book.specs.LogBytes.{log_bytes}
use Rattle.charts.specs.Build.{from_cells}
use Rattle.state.specs.CallContracts.{bad_cell, cells_of}
use Rattle.recovery_model.specs.Charts.{below}
use Rattle.recovery_model.specs.Answering.{formatted_as, format_bytes}
use Rattle.recovery.proofs.Searches.{below-Some, below-None}

-- page p of the values
abbrev pub page_of_cells : List ℤ → ℕ → List ℕ
page_of_cells cells p = page_bytes (from_cells (take 7 (drop (7 * p) cells)))

-- seven cells say all of a page that no row has changed
cells_same : (f g : ℕ → ℤ) → ((j : ℕ) → j < 7 → f j ≡ g j) → page_bytes (record { mark = 0; cell = f }) ≡ page_bytes (record { mark = 0; cell = g })
unfolding page_bytes
cells_same f g h =
    ap (λ (l : List (List ℕ)). le 2 0 ++ le 2 0 ++ join l)
    (tabulate-same 7 0 (λ j. le 4 (bits_of 32 (f j))) (λ j. le 4 (bits_of 32 (g j))) (λ j a b. ap (λ (z : ℤ). le 4 (bits_of 32 z)) (h j (omega arith))))

page-same : (cells : List ℤ) (p : ℕ) → page_of_cells cells p ≡ page_bytes (page_after (cells_of cells) [] p)
unfolding page_after
page-same cells p = cells_same _ _ (λ j h. get_or-take 7 (drop (7 * p) cells) j (pos 0) h ∙ get_or-drop (7 * p) cells j (pos 0) ∙ sym (+ℤ_idr _))

pub charts-same : (cells : List ℤ) → join (tabulate 32 0 (page_of_cells cells)) ≡ chart_bytes (page_after (cells_of cells) [])
unfolding chart_bytes
charts-same cells =
    ap join (tabulate-same 32 0 (page_of_cells cells) (λ p. page_bytes (page_after (cells_of cells) [] p)) (λ p a b. page-same cells p))

-- ── A cell out of range ───────────────────────────────────────────────────────────────────────────────────────────────

module _ (cells : List ℤ) where
  pub cell-found : (i : ℕ) → Some i ≡ below 224 (bad_cell cells) → (bad_cell cells < 224) × (bad_cell cells ≡ i)
  cell-found i e = below-Some 224 (bad_cell cells) i (sym e)

  pub no-cell-found : None ≡ below 224 (bad_cell cells) → 224 ≤ bad_cell cells
  no-cell-found e = below-None 224 (bad_cell cells) (sym e)

-- ── What format leaves ────────────────────────────────────────────────────────────────────────────────────────────────

pub no_rows : (n : ℕ) (bs : List ℕ) → bs ≡ replicate n 0 → n ≡ 65536 → bs ≡ log_bytes []
unfolding log_bytes
no_rows n bs e h = e ∙ ap (λ (k : ℕ). replicate k 0) h

pub formatted-done : (values : List ℤ) (log charts : List ℕ) → length values ≡ 224 → 224 ≤ bad_cell values
    → format_bytes values log charts ≡ formatted_as (Ok tt) (log_bytes []) (chart_bytes (page_after (cells_of values) []))
unfolding format_bytes
formatted-done values log charts n k = rw (eq-eqb (length values) 224 n, le-ltb (bad_cell values) 224 k)
