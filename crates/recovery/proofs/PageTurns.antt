-- The turns of the loops over pages and rows of the forward part, and a row of a page by its bytes. Assumes nothing.
use Rattle.std.proofs.Common.{◌≡◌, ℕ, zero, suc, ◌+◌, ◌-◌, ◌*◌, ◌/◌, ◌%◌, ◌<◌, ◌≤◌, Bool, true, false, cond, eqb, List, length, get_or, ℤ, sym, refl, ap, ◌∙◌, add-zero, add-one, arith, eq-eqb, ne_eqb}
use Rattle.book.specs.Lists.{first_failing}
use Rattle.book.specs.Numbers.{number}
use Rattle.book.specs.Rows.{Row, Effect, nothing, moves, effect}
use Rattle.book.specs.RowBytes.{row_of, row_of_kind}
use Rattle.book.specs.Cells.{touches}
use Rattle.book.specs.Pages.{page_of}
use Rattle.rows.specs.Meaning.{coded, effect_of, effect_meant}
use Rattle.rows.proofs.Meanings.{meant-coded, effect-meant}
use Rattle.charts.proofs.Lengths.{page-length}
use Rattle.wal.specs.Looking.{row_bytes_at}
use Rattle.recovery_model.specs.Charts.{page_redone, redo_from, redo_page, page_named, Ends}
use Rattle.recovery_model.specs.Forward.{page_with}

-- ── A row of a page ───────────────────────────────────────────────────────────────────────────────────────────────────
-- the effect of a row that was looked up
pub effect-coded : (r : Row) → effect_meant (effect_of (coded r)) ≡ effect r
effect-coded r = effect-meant (coded r) ∙ ap effect (meant-coded r)

cond_same : (t : Bool) (bs : List ℕ) → bs ≡ cond t bs bs
cond_same true bs = refl
cond_same false bs = refl

-- a row moves the page if its cell is there, whatever its kind: where it is no change or undo, its effect is nothing
redone-by-kind : (k v r c u : ℕ) (a : ℤ) (p n : ℕ) (bs : List ℕ) → let e = effect (row_of_kind k v r c u a) in
    page_redone p e n bs ≡ cond (eqb (c / 7) p) (page_with e n bs) bs
redone-by-kind zero v r c u a p n bs = cond_same (eqb (c / 7) p) bs
redone-by-kind (suc zero) v r c u a p n bs = cond_same (eqb (c / 7) p) bs
redone-by-kind (suc (suc zero)) v r c u a p n bs = refl
redone-by-kind (suc (suc (suc zero))) v r c u a p n bs = cond_same (eqb (c / 7) p) bs
redone-by-kind (suc (suc (suc (suc zero)))) v r c u a p n bs = refl
redone-by-kind (suc (suc (suc (suc (suc zero))))) v r c u a p n bs = cond_same (eqb (c / 7) p) bs
redone-by-kind (suc (suc (suc (suc (suc (suc zero)))))) v r c u a p n bs = cond_same (eqb (c / 7) p) bs
redone-by-kind (suc (suc (suc (suc (suc (suc (suc k))))))) v r c u a p n bs = cond_same (eqb (c / 7) p) bs

redone-by-cell : (b : List ℕ) (p n : ℕ) (bs : List ℕ) → let e = effect (row_of b) in page_redone p e n bs ≡ cond (eqb (get_or b 3 0 / 7) p) (page_with e n bs) bs
redone-by-cell b p n bs = rw (add-zero (get_or b 3 0)) (redone-by-kind (number 1 b 0) _ _ (get_or b 3 0) _ _ p n bs)

-- the cell is on the page exactly if it is one of 7 from the page's first on: a difference that wraps is too large
module _ (b : List ℕ) (p cell n : ℕ) (bs : List ℕ) (small : p < 32) (byte : cell < 256) (is : get_or b 3 0 ≡ cell) where
  pub redone-here : (cell + (256 - 7 * p)) % 256 < 7 → page_redone p (effect (row_of b)) n bs ≡ page_with (effect (row_of b)) n bs
  redone-here h = redone-by-cell b p n bs ∙ rw (is, eq-eqb (cell / 7) p (omega arith))

  pub redone-elsewhere : 7 ≤ (cell + (256 - 7 * p)) % 256 → page_redone p (effect (row_of b)) n bs ≡ bs
  redone-elsewhere h = redone-by-cell b p n bs ∙ rw (is, ne_eqb (cell / 7) p (λ on. omega arith))

-- ── Rows applied to a page ────────────────────────────────────────────────────────────────────────────────────────────

module _ (log : List ℕ) (p rows : ℕ) where
  pub redo-turn : (k : ℕ) (bs : List ℕ) → k < rows
      → redo_from (rows - k) k log p bs ≡ redo_from (rows - (k + 1)) (k + 1) log p (page_redone p (effect (row_of (row_bytes_at log k))) (k + 1) bs)
  unfolding redo_from
  redo-turn k bs h = let e : rows - k ≡ suc (rows - (k + 1)) = omega arith in rw (e, add-one k)

  pub redo-end : (k : ℕ) (bs : List ℕ) → rows ≤ k → redo_from (rows - k) k log p bs ≡ bs
  unfolding redo_from
  redo-end k bs h = let e : rows - k ≡ 0 = omega arith in rw e

  -- a page that none of the m rows from k on names stays as it is
  redo-unnamed : (m k : ℕ) (bs : List ℕ) → ((j : ℕ) → k ≤ j → j < k + m → page_named log j ≡ p → ⊥) → redo_from m k log p bs ≡ bs
  unfolding redo_from
  redo-unnamed zero k bs h = refl
  redo-unnamed (suc m) k bs h =
      let away = ne_eqb (page_named log k) p (h k (omega arith) (omega arith)) in
      rw (redone-by-cell (row_bytes_at log k) p (suc k) bs, away) (redo-unnamed m (suc k) bs (λ j a b. h j (omega arith) (omega arith)))

  -- n rows that do not name the page make no difference behind m others
  redo-ends : (m n k : ℕ) (bs : List ℕ) → ((j : ℕ) → k + m ≤ j → j < k + m + n → page_named log j ≡ p → ⊥) → redo_from (m + n) k log p bs ≡ redo_from m k log p bs
  unfolding redo_from
  redo-ends zero n k bs h = let e : 0 + n ≡ n = omega arith in rw e (redo-unnamed n k bs (λ j a b. h j (omega arith) (omega arith)))
  redo-ends (suc m) n k bs h =
      let e : suc m + n ≡ suc (m + n) = omega arith in rw e (redo-ends m n (suc k) _ (λ j a b. h j (omega arith) (omega arith)))

  -- the rows up to the last one that names the page come to what all rows come to
  pub page-ends : (ends bs : List ℕ) → Ends log rows ends → redo_page log (get_or ends p 0) p bs ≡ redo_page log rows p bs
  unfolding redo_page
  page-ends ends bs h =
      let mark = (page_of bs).mark in
      let end = get_or ends p 0 in
      let w = h.within p in
      let m = end - mark in
      let n = rows - mark - m in
      let e : rows - mark ≡ m + n = omega arith in
      rw e (sym (redo-ends m n mark bs (λ k a b q. let z = h.among k (omega arith) in omega (arith, rw q at z))))

pub redone-length : (p : ℕ) (e : Effect) (n : ℕ) (bs : List ℕ) → length (page_redone p e n bs) ≡ length bs
redone-length p nothing n bs = refl
redone-length p (moves c z) n bs = go (touches p (moves c z)) refl
  where
    go : (t : Bool) → touches p (moves c z) ≡ t → length (page_redone p (moves c z) n bs) ≡ length bs
    go true e = rw e (page-length bs (c % 7) z n)
    go false e = rw e

-- ── Pages tested in turn ──────────────────────────────────────────────────────────────────────────────────────────────

-- the first of n numbers that fails is the first from i on, where those before it passed
module _ (n : ℕ) (test : ℕ → Bool) (i : ℕ) where
  pub passed : i < n → test i ≡ true → first_failing (n - i) i test ≡ first_failing (n - (i + 1)) (i + 1) test
  passed h t = let e : n - i ≡ suc (n - (i + 1)) = omega arith in rw (e, t, add-one i)

  pub failed : i < n → test i ≡ false → first_failing (n - i) i test ≡ i
  failed h t = let e : n - i ≡ suc (n - (i + 1)) = omega arith in rw (e, t)

  pub all-passed : n ≤ i → first_failing (n - i) i test ≡ i
  all-passed h = let e : n - i ≡ 0 = omega arith in rw e
