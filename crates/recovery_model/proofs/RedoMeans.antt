-- The forward part of an opening, page by page: any page becomes what the rows above its mark make of it (`redo-any`), a page that passed its check the
-- book's page (`page-redone-by`); the pages together are the copy.
use Prim.Native.Nat.{ℕ, zero, suc, ◌+◌, ◌-◌, ◌*◌, ◌/◌, ◌%◌, ◌≤◌, ◌<◌}
use native.Mathlib.Omega.{arith}
use mathlib.Core.Path.{◌≡◌, refl, ap, ap₂, sym, ◌∙◌}
use mathlib.Core.Bool.{Bool, true, false, cond, ◌||◌}
use mathlib.Core.List.{List, [], ◌∷◌, ◌++◌, append_assoc}
use lib.ListN.{length, get_or, take, drop, length-append, length-drop, take-append-drop, drop_of_length-le}
use lib.Seq.{sets, get_or-append_seam, length-take-le}
use lib.IntN.{◌+ℤ◌, +ℤ_assoc, +ℤ_idr}
use lib.Dec.{eqb, leb}
use borrow.Author.Tests.{eqb-true, eqb-false, le-leb, leb-true, leb-false}
use Rattle.book.specs.Lists.{join}
use Rattle.book.specs.Numbers.{AreBytes}
use Rattle.book.specs.Rows.{Row, Effect, nothing, moves, effect}
use Rattle.book.specs.Rules.{allowed_log}
use Rattle.book.specs.RowBytes.{row_of}
use Rattle.book.specs.LogBytes.{log_bytes}
use Rattle.book.specs.Cells.{moved_by, on_page, last_on}
use Rattle.book.specs.Pages.{Page, page_bytes, chart_bytes, page_at, page_of, is_page, redone}
use Rattle.book.specs.Opening.{bad_page}
use Rattle.book.proofs.Marks.{sum_of}
use Rattle.book.proofs.Blocks.{tabulate-same, first-all}
use Rattle.book.proofs.Pages.{SamePage, page-same}
use Rattle.book.proofs.Numbers.{part_bytes}
use Rattle.book.proofs.AnyCharts.{page-read}
use Rattle.charts.specs.Moves.{page_moved}
use Rattle.charts.proofs.PageMoves.{bytes_with, page-moved-with}
use Rattle.charts.proofs.ChartMoves.{moved_pages, other-page, own-page}
use Rattle.wal.specs.Looking.{row_bytes_at}
use Rattle.recovery_model.specs.Charts.{page_redone, redo_from, redo_page, redo_charts}
use Rattle.recovery_model.specs.PageAlone.{redone_above, redone_bytes}
use Rattle.recovery_model.proofs.LogRows.{row_read}
use Rattle.recovery_model.proofs.RedoneBytes.{redone-passed}

-- ── One row ───────────────────────────────────────────────────────────────────────────────────────────────────────────

module _ (x y : ℕ) where
  same_bytes : (f g : Page) → SamePage f g → bytes_with x y f ≡ bytes_with x y g
  same_bytes f g s = ap (λ (bs : List ℕ). sets bs 2 (x ∷ y ∷ [])) (page-same f g s)

  effect-redone : (p : ℕ) (g : Page) (e : Effect) (n : ℕ) → page_redone p e n (bytes_with x y g) ≡ bytes_with x y (moved_pages (λ q. g) e n p)
  effect-redone p g nothing n = same_bytes g (moved_pages (λ q. g) nothing n p) (record { mark = refl; cells = λ j h. sym (+ℤ_idr (g.cell j)) })
  effect-redone p g (moves c z) n = go (eqb (c / 7) p) refl
    where
      go : (t : Bool) → eqb (c / 7) p ≡ t
          → cond t (page_moved (bytes_with x y g) (c % 7) z n) (bytes_with x y g) ≡ bytes_with x y (moved_pages (λ q. g) (moves c z) n p)
      go true e = page-moved-with x y g (c % 7) z n (omega arith) ∙ same_bytes _ _ (own-page (λ q. g) c z n p (sym (eqb-true (c / 7) p e)))
      go false e = same_bytes g _ (other-page (λ q. g) c z n p (eqb-false (c / 7) p e))

-- ── The rows behind the first n ───────────────────────────────────────────────────────────────────────────────────────

-- the mark after rows of which this one is the page's last, 0 for none
abbrev mark_after : ℕ → ℕ → ℕ → ℕ
mark_after mark n zero = mark
mark_after mark n (suc last) = n + suc last

mark-step : (p mark n : ℕ) (r : Row) (more : List Row)
    → mark_after (cond (on_page p r) (suc n) mark) (suc n) (last_on p more) ≡ mark_after mark n (last_on p (r ∷ more))
mark-step p mark n r more = go (last_on p more) (on_page p r)
  where
    go : (l : ℕ) (t : Bool) → mark_after (cond t (suc n) mark) (suc n) l ≡ mark_after mark n (cond (leb 1 l || t) (suc l) 0)
    go zero true = omega arith
    go zero false = refl
    go (suc l) t = rw (le-leb 1 (suc l) (omega arith)) (omega arith)

-- the page after them
abbrev later : Page → ℕ → List Row → ℕ → Page
later g p more n = record { mark = mark_after g.mark n (last_on p more); cell = λ j. g.cell j +ℤ sum_of (7 * p + j) more }

module _ (log : List ℕ) (rs : List Row) (reads : (k : ℕ) → k < length rs → row_of (row_bytes_at log k) ≡ get_or rs k (Row.begin 0)) (p : ℕ) where
  row_at_lem : (done more : List Row) (r : Row) → rs ≡ done ++ (r ∷ more) → row_of (row_bytes_at log (length done)) ≡ r
  row_at_lem done more r e =
      let n = ap length e in let m = length-append done (r ∷ more) in
      reads (length done) (omega arith) ∙ ap (λ (l : List Row). get_or l (length done) (Row.begin 0)) e ∙ get_or-append_seam done r more (Row.begin 0)

  redo-rows : (x y : ℕ) (more done : List Row) (g : Page) → rs ≡ done ++ more
      → redo_from (length more) (length done) log p (bytes_with x y g) ≡ bytes_with x y (later g p more (length done))
  unfolding redo_from
  redo-rows x y [] done g e = same_bytes x y g (later g p [] (length done)) (record { mark = refl; cells = λ j h. sym (+ℤ_idr (g.cell j)) })
  redo-rows x y (r ∷ more) done g e =
      let n = suc (length done) in
      let next = moved_pages (λ q. g) (effect r) n p in
      ap (λ (row : Row). redo_from (length more) n log p (page_redone p (effect row) n (bytes_with x y g))) (row_at_lem done more r e) ∙
      ap (redo_from (length more) n log p) (effect-redone x y p g (effect r) n) ∙
      ap (λ (k : ℕ). redo_from (length more) k log p (bytes_with x y next)) count ∙
      redo-rows x y more (done ++ (r ∷ [])) next (e ∙ sym (append_assoc done (r ∷ []) more)) ∙
      same_bytes x y _ _ (record {
        mark = ap (λ (k : ℕ). mark_after next.mark k (last_on p more)) (sym count) ∙ mark-step p g.mark (length done) r more;
        cells = λ j h. +ℤ_assoc (g.cell j) (moved_by (7 * p + j) r) (sum_of (7 * p + j) more);
      })
    where
      count : suc (length done) ≡ length (done ++ (r ∷ []))
      count = let m = length-append done (r ∷ []) in omega arith

  -- ── Any page ────────────────────────────────────────────────────────────────────────────────────────────────────────

  module _ (bs : List ℕ) (long : length bs ≡ 32) (bytes : AreBytes bs) where
    -- its mark, and the page that it is read as
    abbrev mark : ℕ
    mark = (page_of bs).mark

    abbrev read : List ℕ
    read = bytes_with (get_or bs 2 0) (get_or bs 3 0) (page_of bs)

    -- the rows above a mark that is among the rows
    redo-marked : mark ≤ length rs → redo_page log (length rs) p bs ≡ redone_bytes rs p bs
    unfolding redo_page redone_bytes
    redo-marked low =
        let rest : length rs - mark ≡ length (drop mark rs) = sym (length-drop mark rs) in
        let first : mark ≡ length (take mark rs) = sym (length-take-le mark rs low) in
        ap (redo_from (length rs - mark) mark log p) (page-read bs long bytes) ∙
        ap₂ (λ (k n : ℕ). redo_from k n log p read) rest first ∙
        redo-rows (get_or bs 2 0) (get_or bs 3 0) (drop mark rs) (take mark rs) (page_of bs) (sym (take-append-drop mark rs)) ∙
        same_bytes (get_or bs 2 0) (get_or bs 3 0) _ (redone_above rs p bs) (record {
          mark = ap (λ (n : ℕ). mark_after mark n (last_on p (drop mark rs))) (sym first) ∙ counted (last_on p (drop mark rs));
          cells = λ j h. refl;
        })
      where
        counted : (l : ℕ) → mark_after mark mark l ≡ mark + l
        counted zero = omega arith
        counted (suc l) = refl

    -- no row is above a mark beyond them
    redo-none : length rs < mark → redo_page log (length rs) p bs ≡ redone_bytes rs p bs
    unfolding redo_page redone_bytes redo_from
    redo-none high =
        let rest : length rs - mark ≡ 0 = omega arith in
        let none : drop mark rs ≡ [] = drop_of_length-le rs {i = mark} (omega arith) in
        rw rest (page-read bs long bytes ∙ same_bytes (get_or bs 2 0) (get_or bs 3 0) (page_of bs) (redone_above rs p bs) (record {
          mark = rw none (omega arith);
          cells = λ j h. rw none (sym (+ℤ_idr ((page_of bs).cell j)));
        }))

    pub redo-any : redo_page log (length rs) p bs ≡ redone_bytes rs p bs
    redo-any = go (leb mark (length rs)) refl
      where
        go : (t : Bool) → leb mark (length rs) ≡ t → redo_page log (length rs) p bs ≡ redone_bytes rs p bs
        go true e = redo-marked (leb-true mark (length rs) e)
        go false e = redo-none (leb-false mark (length rs) e)

-- ── A page that passed its check ──────────────────────────────────────────────────────────────────────────────────────

module _ (rs : List Row) (al : allowed_log rs ≡ true) where
  rows-read : (k : ℕ) → k < length rs → row_of (row_bytes_at (log_bytes rs) k) ≡ get_or rs k (Row.begin 0)
  unfolding log_bytes
  rows-read k h = row_read rs _ k al h

  -- 01, open, forward: each row above its mark is applied
  pub page-redone-by : (p : ℕ) (bs : List ℕ) → length bs ≡ 32 → AreBytes bs → is_page rs p bs ≡ true
      → redo_page (log_bytes rs) (length rs) p bs ≡ page_bytes (redone rs p bs)
  page-redone-by p bs long bytes good = redo-any (log_bytes rs) rs rows-read p bs long bytes ∙ redone-passed rs p bs good

-- ── The copy ──────────────────────────────────────────────────────────────────────────────────────────────────────────

module _ (charts : List ℕ) (long : length charts ≡ 1024) (bytes : AreBytes charts) (rs : List Row) (al : allowed_log rs ≡ true) (good : bad_page rs charts ≡ 32) where
  -- what the check says of page p
  page-passes : (p : ℕ) → p < 32 → is_page rs p (page_at charts p) ≡ true
  page-passes p h = first-all 32 0 (λ q. is_page rs q (page_at charts q)) good p (omega arith) (omega arith)

  page-length : (p : ℕ) → p < 32 → length (page_at charts p) ≡ 32
  page-length p h = let d = length-drop (32 * p) charts in length-take-le 32 (drop (32 * p) charts) (omega arith)

  pub charts-redone-by : redo_charts (log_bytes rs) (length rs) charts ≡ chart_bytes (λ p. redone rs p (page_at charts p))
  unfolding redo_charts chart_bytes
  charts-redone-by =
      ap join (tabulate-same 32 0 _ _ (λ p a b.
      page-redone-by rs al p (page_at charts p) (page-length p (omega arith)) (part_bytes charts bytes (32 * p) 32) (page-passes p (omega arith))))
