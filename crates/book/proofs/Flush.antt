-- The stored charts after a page was stored (document 01, flush page), and after more rows were: each page is still as of the row of its mark.
use Prim.Native.Nat.{ℕ, ◌+◌, ◌*◌, ◌≤◌, ◌<◌}
use native.Mathlib.Omega.{arith}
use native.Mathlib.Nat.{zero-add}
use mathlib.Core.Path.{◌≡◌, refl, ap, sym, ◌∙◌}
use mathlib.Core.Bool.{Bool, true, false, cond}
use mathlib.Core.List.{List, ◌++◌}
use lib.ListN.{length, take, drop, length-take}
use lib.Seq.{take-append-le}
use lib.IntN.{ℤ, ◌+ℤ◌, +ℤ_idr}
use lib.Dec.{eqb}
use borrow.Author.Tests.{eqb-true, eq-eqb}
use Rattle.book.specs.Rows.{Row}
use Rattle.book.specs.Cells.{last_on}
use Rattle.book.specs.Pages.{Page, page_bytes, chart_bytes, page_after}
use Rattle.book.proofs.Marks.{sum_of, last-le, last_rest, last-append, last-take, sum-append, sum-last}
use Rattle.book.proofs.Blocks.{block-set}
use Rattle.book.proofs.Pages.{page-long, SamePage, chart-same, page-of, as_of, charts_as_of}

-- a function with another value at p
abbrev pub set_at : {A : Type 0} → ℕ → A → (ℕ → A) → ℕ → A
set_at p a f q = cond (eqb q p) a (f q)

-- replacing the 32 bytes of page p gives the charts with that page
pub set-page : (f : ℕ → Page) (p : ℕ) (g : Page) → p < 32
    → take (32 * p) (chart_bytes f) ++ page_bytes g ++ drop (32 * p + 32) (chart_bytes f) ≡ chart_bytes (set_at p g f)
unfolding chart_bytes
set-page f p g h =
    ap (λ (x : List ℕ). take (32 * p) (chart_bytes f) ++ x ++ drop (32 * p + 32) (chart_bytes f)) (sym there) ∙
    block-set 32 (λ q. page_bytes (f q)) (λ q. page-long (f q)) (λ q. page_bytes (set_at p g f q)) 32 0 p h
    (λ q e. ap (λ (t : Bool). page_bytes (cond t g (f q))) (sym (ap (eqb q) (sym (zero-add p)) ∙ e)))
  where
    there : page_bytes (set_at p g f (0 + p)) ≡ page_bytes g
    there = rw (zero-add p, eq-eqb p p refl)

-- ── Pages as of the row of their mark ─────────────────────────────────────────────────────────────────────────────────

-- the page after all rows is the page as of its last row
pub page-whole : (cells : ℕ → ℤ) (rs : List Row) (p : ℕ) → SamePage (page_after cells rs p) (as_of cells rs p (last_on p rs))
unfolding page_after
page-whole cells rs p = record {
  mark = sym (last-take p rs);
  cells = λ j h. ap (λ (z : ℤ). cells (7 * p + j) +ℤ z) (sym (sum-last (7 * p + j) p rs (page-of p j h)));
}

-- rows that are not on the page change neither its mark nor its cells
pub page-off : (cells : ℕ → ℤ) (p : ℕ) (xs ys : List Row) → last_on p ys ≡ 0 → SamePage (page_after cells (xs ++ ys) p) (page_after cells xs p)
unfolding page_after
page-off cells p xs ys e = record {
  mark = last-append p xs ys e;
  cells = λ j h.
      let c = 7 * p + j in
      ap (λ (z : ℤ). cells c +ℤ z) (sum-append c xs ys ∙ ap (λ (z : ℤ). sum_of c xs +ℤ z) (rw e at (last_rest c p ys (page-of p j h))) ∙ +ℤ_idr _);
}

-- the row of a mark is one of the rows
pub mark-le : (p m : ℕ) (rs : List Row) → last_on p (take m rs) ≡ m → m ≤ length rs
mark-le p m rs e = let k = last-le p (take m rs) in let n = length-take m rs in omega arith

-- it stays the last of the first rows when more rows come
pub marked-grows : (p m : ℕ) (rs more : List Row) → last_on p (take m rs) ≡ m → last_on p (take m (rs ++ more)) ≡ m
marked-grows p m rs more e = ap (last_on p) (take-append-le m rs more (mark-le p m rs e)) ∙ e

module _ (cells : ℕ → ℤ) (rs : List Row) (marks : ℕ → ℕ) (marked : (p : ℕ) → p < 32 → last_on p (take (marks p) rs) ≡ marks p) where
  -- more rows are stored: the charts are the same
  pub charts-grow : (more : List Row) → charts_as_of cells rs marks ≡ charts_as_of cells (rs ++ more) marks
  charts-grow more = chart-same _ _ (λ p h. same p (sym (take-append-le (marks p) rs more (mark-le p (marks p) rs (marked p h)))))
    where
      same : (p : ℕ) {xs ys : List Row} → xs ≡ ys → SamePage (page_after cells xs p) (page_after cells ys p)
      same p e = record { mark = ap (λ (l : List Row). (page_after cells l p).mark) e; cells = λ j h. ap (λ (l : List Row). (page_after cells l p).cell j) e }

  -- page p is stored as all stored rows make it: its mark is its last row
  pub charts-set : (p : ℕ) → p < 32
      → take (32 * p) (charts_as_of cells rs marks) ++ page_bytes (page_after cells rs p) ++ drop (32 * p + 32) (charts_as_of cells rs marks) ≡
      charts_as_of cells rs (set_at p (last_on p rs) marks)
  charts-set p h = set-page (λ q. as_of cells rs q (marks q)) p (page_after cells rs p) h ∙ chart-same _ _ (λ q k. its q (eqb q p) refl)
    where
      its : (q : ℕ) (t : Bool) → eqb q p ≡ t
          → SamePage (cond t (page_after cells rs p) (as_of cells rs q (marks q))) (as_of cells rs q (cond t (last_on p rs) (marks q)))
      its q true e = rw (eqb-true q p e) (page-whole cells rs p)
      its q false e = record { mark = refl; cells = λ j k. refl }
