-- What a row's effect makes of the bytes of the charts: those of the charts with that cell moved and its page marked. So the charts after some
-- rows become the charts after one row more: the law that the appending of rows and the redoing of pages go by. Assumes nothing.
use Rattle.std.proofs.Common.{◌≡◌, ℕ, suc, ◌+◌, ◌*◌, ◌/◌, ◌%◌, ◌<◌, ◌≤◌, Bool, true, false, cond, eqb, ltb, List, [], ◌∷◌, ◌++◌, length, take, drop, ℤ, ◌+ℤ◌, sym, refl, ap, ◌∙◌, append_assoc, arith, drop-drop, ltb-false, ltb-true, eq-eqb, ne_eqb, eqb-true, le-leb}
use lib.IntN.{+ℤ_assoc, +ℤ_idr}
use borrow.Author.Tests.{eqb-false}
use Rattle.book.specs.Rows.{Row, Effect, nothing, moves, effect}
use Rattle.book.specs.Cells.{moved, moved_by, touches, on_page, last_on}
use Rattle.book.specs.Pages.{Page, page_bytes, chart_bytes, page_after}
use Rattle.book.proofs.Marks.{sum_of, sum-append}
use Rattle.book.proofs.Pages.{chart-long, page-at, SamePage, chart-same}
use Rattle.book.proofs.Flush.{set_at, set-page}
use Rattle.charts.specs.Moves.{charts_moved}
use Rattle.charts.proofs.Parts.{moved-beyond}
use Rattle.charts.proofs.PageMoves.{moved_page, page_moved_lem}

-- the pages after the effect of row n
abbrev pub moved_pages : (ℕ → Page) → Effect → ℕ → ℕ → Page
moved_pages f e n p = record { mark = cond (touches p e) n (f p).mark; cell = λ j. (f p).cell j +ℤ moved (7 * p + j) e }

module _ (f : ℕ → Page) (c : ℕ) (z : ℤ) (n : ℕ) where
  -- a page other than the cell's
  pub other-page : (p : ℕ) → (c / 7 ≡ p → ⊥) → SamePage (f p) (moved_pages f (moves c z) n p)
  other-page p o = record {
    mark = rw (ne_eqb (c / 7) p o);
    cells = λ j h. rw (ne_eqb c (7 * p + j) (λ e. o (omega arith))) (sym (+ℤ_idr ((f p).cell j)));
  }

  -- the cell's page
  pub own-page : (p : ℕ) → p ≡ c / 7 → SamePage (moved_page (f (c / 7)) (c % 7) z n) (moved_pages f (moves c z) n p)
  own-page p e = record {
    mark = rw (eq-eqb (c / 7) p (sym e));
    cells = λ j h. place j (eqb j (c % 7)) refl h;
  }
    where
      place : (j : ℕ) (t : Bool) → eqb j (c % 7) ≡ t → j < 7
          → cond t ((f (c / 7)).cell j +ℤ z) ((f (c / 7)).cell j) ≡ (f p).cell j +ℤ moved (7 * p + j) (moves c z)
      place j true q h = let i = eqb-true j (c % 7) q in rw (e, eq-eqb c (7 * (c / 7) + j) (omega arith))
      place j false q h =
          rw (e, ne_eqb c (7 * (c / 7) + j) (λ k. eqb-false j (c % 7) q (omega arith))) (sym (+ℤ_idr ((f (c / 7)).cell j)))

  same-pages : (p : ℕ) → SamePage (set_at (c / 7) (moved_page (f (c / 7)) (c % 7) z n) f p) (moved_pages f (moves c z) n p)
  same-pages p = go (eqb p (c / 7)) refl
    where
      go : (t : Bool) → eqb p (c / 7) ≡ t → SamePage (cond t (moved_page (f (c / 7)) (c % 7) z n) (f p)) (moved_pages f (moves c z) n p)
      go true q = own-page p (eqb-true p (c / 7) q)
      go false q = other-page p (λ e. eqb-false p (c / 7) q (sym e))

  on-charts : c / 7 < 32 → charts_moved (chart_bytes f) (moves c z) n ≡ chart_bytes (moved_pages f (moves c z) n)
  unfolding charts_moved
  on-charts h =
      let a = 32 * (c / 7) in
      let new = moved_page (f (c / 7)) (c % 7) z n in
      rw (page-at f (c / 7) h, page_moved_lem (f (c / 7)) (c % 7) z n (omega arith), drop-drop 32 a (chart_bytes f))
      (sym (append_assoc (take a (chart_bytes f)) (page_bytes new) (drop (a + 32) (chart_bytes f))) ∙ set-page f (c / 7) new h ∙
      chart-same _ _ (λ p k. same-pages p))

  beyond-charts : 32 ≤ c / 7 → charts_moved (chart_bytes f) (moves c z) n ≡ chart_bytes (moved_pages f (moves c z) n)
  beyond-charts h =
      sym (moved-beyond (chart_bytes f) (chart-long f) c z n (omega arith)) ∙ chart-same _ _ (λ p k. other-page p (λ e. omega arith))

  cell-moved : charts_moved (chart_bytes f) (moves c z) n ≡ chart_bytes (moved_pages f (moves c z) n)
  cell-moved = go (ltb (c / 7) 32) refl
    where
      go : (t : Bool) → ltb (c / 7) 32 ≡ t → charts_moved (chart_bytes f) (moves c z) n ≡ chart_bytes (moved_pages f (moves c z) n)
      go true q = on-charts (ltb-true (c / 7) 32 q)
      go false q = beyond-charts (ltb-false (c / 7) 32 q)

-- the effect on the charts is that on the pages
pub charts-moved : (f : ℕ → Page) (e : Effect) (n : ℕ) → charts_moved (chart_bytes f) e n ≡ chart_bytes (moved_pages f e n)
unfolding charts_moved
charts-moved f nothing n = chart-same f (moved_pages f nothing n) (λ p h. record { mark = refl; cells = λ j k. sym (+ℤ_idr ((f p).cell j)) })
charts-moved f (moves c z) n = cell-moved f c z n

-- ── One row more ──────────────────────────────────────────────────────────────────────────────────────────────────────

-- the mark
pub last_row : (p : ℕ) (rs : List Row) (r : Row) → cond (on_page p r) (suc (length rs)) (last_on p rs) ≡ last_on p (rs ++ (r ∷ []))
last_row p [] r = refl
last_row p (x ∷ rs) r = go (on_page p r) refl (last_row p rs r)
  where
    go : (t : Bool) → on_page p r ≡ t → cond t (suc (length rs)) (last_on p rs) ≡ last_on p (rs ++ (r ∷ []))
        → cond t (suc (length (x ∷ rs))) (last_on p (x ∷ rs)) ≡ last_on p (x ∷ rs ++ (r ∷ []))
    go true e ih = rw (← ih, le-leb 1 (suc (length rs)) (omega arith))
    go false e ih = rw (← ih)

one_more_lem : (cells : ℕ → ℤ) (rs : List Row) (r : Row) (p : ℕ)
    → SamePage (moved_pages (page_after cells rs) (effect r) (suc (length rs)) p) (page_after cells (rs ++ (r ∷ [])) p)
unfolding page_after
one_more_lem cells rs r p = record {
  mark = last_row p rs r;
  cells = λ j h.
      let c = 7 * p + j in
      +ℤ_assoc (cells c) (sum_of c rs) (moved_by c r) ∙
      ap (λ (y : ℤ). cells c +ℤ y) (ap (λ (y : ℤ). sum_of c rs +ℤ y) (sym (+ℤ_idr (moved_by c r))) ∙ sym (sum-append c rs (r ∷ [])));
}

-- 01: a change or undo row is applied to its cell, and its number becomes the page's mark; no other row changes a page
pub row-applied : (cells : ℕ → ℤ) (rs : List Row) (r : Row)
    → charts_moved (chart_bytes (page_after cells rs)) (effect r) (suc (length rs)) ≡ chart_bytes (page_after cells (rs ++ (r ∷ [])))
row-applied cells rs r =
    charts-moved (page_after cells rs) (effect r) (suc (length rs)) ∙ chart-same _ _ (λ p h. one_more_lem cells rs r p)
