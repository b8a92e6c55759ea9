-- The bytes of pages and charts (specs/Pages): they are read back, a page that was stored after some of the rows passes the check of an opening, and
-- is redone to what all rows make of it; and one page of the charts is replaced.
use Prim.Native.Nat.{ℕ, zero, suc, ◌+◌, ◌-◌, ◌*◌, ◌/◌, ◌%◌, ◌≤◌, ◌<◌}
use native.Mathlib.Omega.{arith}
use native.Mathlib.Nat.{zero-add}
use mathlib.Core.Path.{◌≡◌, refl, ap, ap₂, sym, ◌∙◌}
use mathlib.Core.Bool.{true, false, ◌||◌}
use mathlib.Core.List.{List, ◌++◌}
use lib.ListN.{length, length-take, take, drop}
use lib.Seq.{get_or-take, take-append-le}
use lib.IntN.{ℤ, pos, negsuc, ◌+ℤ◌, nat_abs, +ℤ_assoc}
use lib.Dec.{eqb, leb}
use borrow.Author.Tests.{eq-eqb, leb-true, le-leb}
use Rattle.book.specs.Lists.{join}
use Rattle.book.specs.Rows.{Row}
use Rattle.book.specs.Rules.{allowed_log}
use Rattle.book.specs.Cells.{applied, page_of_cell, on_page, last_on}
use Rattle.book.specs.Numbers.{le, number, bits_of, signed, within}
use Rattle.book.specs.Pages.{Page, page_bytes, chart_bytes, page_at, page_of, cell_of, page_after, row_at, is_page, redone}
use Rattle.book.specs.Opening.{bad_page}
use Rattle.book.proofs.Lists.{clash, and_i, and_l, and_r, or_r}
use Rattle.book.proofs.Numbers.{two_bytes, four_bytes, InBits, signed-bits}
use Rattle.book.proofs.Marks.{sum_of, abs-applied, last-le, last_on_lem, sum-split, take-allowed, take-few}
use Rattle.book.proofs.Blocks.{tabulate-same, blocks-long, block_at, first-none}

-- ── A page is read back ───────────────────────────────────────────────────────────────────────────────────────────────

pub page-long : (g : Page) → length (page_bytes g) ≡ 32
unfolding page_bytes
page-long g = refl

pub chart-long : (f : ℕ → Page) → length (chart_bytes f) ≡ 1024
unfolding chart_bytes
chart-long f = blocks-long 32 (λ q. page_bytes (f q)) (λ q. page-long (f q)) 32 0

-- the bytes of page p stand there
pub page-at : (f : ℕ → Page) (p : ℕ) → p < 32 → page_at (chart_bytes f) p ≡ page_bytes (f p)
unfolding chart_bytes
page-at f p h = block_at 32 (λ q. page_bytes (f q)) (λ q. page-long (f q)) 32 0 p h ∙ ap (λ (q : ℕ). page_bytes (f q)) (zero-add p)

pub mark-back : (g : Page) → g.mark < 65536 → (page_of (page_bytes g)).mark ≡ g.mark
unfolding page_of page_bytes
mark-back g h = two_bytes g.mark h

-- bytes 2 and 3
pub zero-back : (g : Page) → number 2 (page_bytes g) 2 ≡ 0
unfolding page_bytes
zero-back g = refl

pub cell-back : (g : Page) (j : ℕ) → j < 7 → InBits 32 (g.cell j) → (page_of (page_bytes g)).cell j ≡ g.cell j
unfolding page_of page_bytes
cell-back g j h w = let s = signed-bits 32 (g.cell j) w in ap (signed 32) (at j h ∙ four_bytes (bits_of 32 (g.cell j)) s.1) ∙ s.0
  where
    four : ℕ → ℕ
    four x = x % 256 + 256 * (x / 256 % 256 + 256 * (x / 256 / 256 % 256 + 256 * (x / 256 / 256 / 256 % 256 + 256 * 0)))

    at : (j : ℕ) → j < 7 → number 4 (page_bytes g) (4 + 4 * j) ≡ four (bits_of 32 (g.cell j))
    at zero h = refl
    at (suc zero) h = refl
    at (suc (suc zero)) h = refl
    at (suc (suc (suc zero))) h = refl
    at (suc (suc (suc (suc zero)))) h = refl
    at (suc (suc (suc (suc (suc zero))))) h = refl
    at (suc (suc (suc (suc (suc (suc zero)))))) h = refl
    at (suc (suc (suc (suc (suc (suc (suc j))))))) h = absurd (omega arith)

-- ── Bounds ────────────────────────────────────────────────────────────────────────────────────────────────────────────

-- a bound on the cells
abbrev pub Bounded : ℕ → (ℕ → ℤ) → Type 0
Bounded b cells = (c : ℕ) → nat_abs (cells c) ≤ b

pub abs-within : (n : ℕ) (z : ℤ) → nat_abs z ≤ n → within n z ≡ true
abs-within zero (pos a) h = and_i _ _ (le-leb 0 a (omega arith)) (le-leb a 0 (omega arith))
abs-within zero (negsuc a) h = absurd (omega arith)
abs-within (suc n) (pos a) h = le-leb a (suc n) (omega arith)
abs-within (suc n) (negsuc a) h = and_i _ _ (le-leb a n (omega arith)) refl

pub within-abs : (n : ℕ) (z : ℤ) → within n z ≡ true → nat_abs z ≤ n
within-abs zero (pos a) e = leb-true a 0 (and_r (leb 0 a) _ e)
within-abs zero (negsuc a) e = clash false e refl
within-abs (suc n) (pos a) e = leb-true a (suc n) e
within-abs (suc n) (negsuc a) e = let k = leb-true a n (and_l (leb a n) true e) in omega arith

pub abs-bits : (b : ℕ) (z : ℤ) → nat_abs z ≤ b → b < 2147483648 → InBits 32 z
abs-bits b (pos a) h k = omega arith
abs-bits b (negsuc a) h k = omega arith

-- ── Equal pages ───────────────────────────────────────────────────────────────────────────────────────────────────────

-- the same mark and the same seven cells
pub record SamePage (f g : Page) : Type 0 where
  pub mark : f.mark ≡ g.mark
  pub cells : (j : ℕ) → j < 7 → f.cell j ≡ g.cell j

pub page-same : (f g : Page) → SamePage f g → page_bytes f ≡ page_bytes g
unfolding page_bytes
page-same f g s =
    ap₂
    (λ (x : ℕ) (t : List (List ℕ)). le 2 x ++ le 2 0 ++ join t)
    s.mark
    (tabulate-same 7 0 _ _ (λ j a b. ap (λ (z : ℤ). le 4 (bits_of 32 z)) (s.cells j (omega arith))))

pub chart-same : (f g : ℕ → Page) → ((p : ℕ) → p < 32 → SamePage (f p) (g p)) → chart_bytes f ≡ chart_bytes g
unfolding chart_bytes
chart-same f g h = ap join (tabulate-same 32 0 _ _ (λ p a b. page-same (f p) (g p) (h p (omega arith))))

pub page-of : (p j : ℕ) → j < 7 → page_of_cell (7 * p + j) ≡ p
page-of p j h = omega arith

-- ── Pages as of some first part of an allowed log ─────────────────────────────────────────────────────────────────────

-- page p after the first m rows, and the charts whose pages are each after the rows up to its mark
abbrev pub as_of : (ℕ → ℤ) → List Row → ℕ → ℕ → Page
as_of cells rs p m = page_after cells (take m rs) p

abbrev pub charts_as_of : (ℕ → ℤ) → List Row → (ℕ → ℕ) → List ℕ
charts_as_of cells rs marks = chart_bytes (λ p. as_of cells rs p (marks p))

module _ (cells : ℕ → ℤ) (b : ℕ) (small : Bounded b cells) (bound : b + 134217728 < 2147483648)
    (rs : List Row) (al : allowed_log rs ≡ true) (few : length rs ≤ 4096) where
  -- 01: cells can't overflow
  pub part_small : (p m j : ℕ) → nat_abs ((as_of cells rs p m).cell j) ≤ b + 134217728
  unfolding page_after
  part_small p m j = abs-applied cells (take m rs) (7 * p + j) b (take-allowed m rs al) (take-few m rs few) (small (7 * p + j))

  cell-is : (p m j : ℕ) → j < 7 → (page_of (page_bytes (as_of cells rs p m))).cell j ≡ (as_of cells rs p m).cell j
  cell-is p m j h = cell-back (as_of cells rs p m) j h (abs-bits (b + 134217728) ((as_of cells rs p m).cell j) (part_small p m j) bound)

  module _ (p m : ℕ) (marked : last_on p (take m rs) ≡ m) where
    mark-is : (page_of (page_bytes (as_of cells rs p m))).mark ≡ m
    unfolding page_after
    mark-is = let k = last-le p (take m rs) in let n = take-few m rs few in mark-back (as_of cells rs p m) (omega arith) ∙ marked

    mark-good : (eqb (page_of (page_bytes (as_of cells rs p m))).mark 0 || on_page p (row_at rs (page_of (page_bytes (as_of cells rs p m))).mark)) ≡ true
    mark-good = rw mark-is (go m refl)
      where
        go : (u : ℕ) → m ≡ u → (eqb u 0 || on_page p (row_at rs u)) ≡ true
        go zero e = refl
        go (suc u) e =
            let at : suc u - 1 ≡ u = omega arith in
            rw at (or_r (eqb (suc u) 0) _ (rw (← get_or-take m rs u (Row.begin 0) (omega arith)) (last_on_lem p (take m rs) u (Row.begin 0) (marked ∙ e))))

    -- an opening accepts the page
    pub page-good : b + 134217728 ≤ 200000000 → is_page rs p (page_bytes (as_of cells rs p m)) ≡ true
    unfolding is_page
    page-good h =
        and_i _ _ (and_i _ _ mark-good (eq-eqb (number 2 (page_bytes (as_of cells rs p m)) 2) 0 (zero-back (as_of cells rs p m))))
        (eq-eqb _ 7 (first-none 7 0 (λ j. within 200000000 ((page_of (page_bytes (as_of cells rs p m))).cell j))
        (λ j f k. ap (within 200000000) (cell-is p m j (omega arith)) ∙ abs-within 200000000 ((as_of cells rs p m).cell j) (in-range j))))
      where
        in-range : (j : ℕ) → nat_abs ((as_of cells rs p m).cell j) ≤ 200000000
        in-range j = let k = part_small p m j in omega arith

    -- 01, open, forward: the page is redone to what all rows make of it, those too that come behind the stored ones
    pub page-redone : (more : List Row) → SamePage (redone (rs ++ more) p (page_bytes (as_of cells rs p m))) (page_after cells (rs ++ more) p)
    unfolding redone page_after
    page-redone more = record {
      mark = refl;
      cells = λ j h.
          let c = 7 * p + j in
          let k = last-le p (take m rs) in let n = length-take m rs in
          let part : take m rs ≡ take m (rs ++ more) = sym (take-append-le m rs more (omega arith)) in
          ap₂ (λ (z : ℤ) (u : ℕ). z +ℤ sum_of c (drop u (rs ++ more))) (cell-is p m j h) mark-is ∙
          +ℤ_assoc (cells c) (sum_of c (take m rs)) (sum_of c (drop m (rs ++ more))) ∙
          ap (λ (z : ℤ). cells c +ℤ z) (ap (λ (l : List Row). sum_of c l +ℤ sum_of c (drop m (rs ++ more))) part ∙ sum-split c m (rs ++ more));
    }

-- ── The charts ────────────────────────────────────────────────────────────────────────────────────────────────────────

module _ (cells : ℕ → ℤ) (b : ℕ) (small : Bounded b cells) (bound : b + 134217728 < 2147483648)
    (rs : List Row) (al : allowed_log rs ≡ true) (few : length rs ≤ 4096)
    (marks : ℕ → ℕ) (marked : (p : ℕ) → p < 32 → last_on p (take (marks p) rs) ≡ marks p) where
  here : (p : ℕ) → p < 32 → page_at (charts_as_of cells rs marks) p ≡ page_bytes (as_of cells rs p (marks p))
  here p h = page-at (λ q. as_of cells rs q (marks q)) p h

  -- an opening accepts each page
  pub charts-good : b + 134217728 ≤ 200000000 → bad_page rs (charts_as_of cells rs marks) ≡ 32
  charts-good h =
      first-none 32 0 (λ p. is_page rs p (page_at (charts_as_of cells rs marks) p)) (λ p f k.
      rw (here p (omega arith)) (page-good cells b small bound rs al few p (marks p) (marked p (omega arith)) h))

  -- and its copy is what all rows make of the cells
  pub charts-redone : (more : List Row)
      → chart_bytes (λ p. redone (rs ++ more) p (page_at (charts_as_of cells rs marks) p)) ≡ chart_bytes (page_after cells (rs ++ more))
  charts-redone more =
      chart-same (λ p. redone (rs ++ more) p (page_at (charts_as_of cells rs marks) p)) (page_after cells (rs ++ more)) (λ p h.
      rw (here p h) (page-redone cells b small bound rs al few p (marks p) (marked p h) more))

-- the copy's cell
pub cell-read : (cells : ℕ → ℤ) (b : ℕ) → Bounded b cells → b + 134217728 < 2147483648 → (rs : List Row) → allowed_log rs ≡ true → length rs ≤ 4096
    → (c : ℕ) → c < 224 → cell_of (chart_bytes (page_after cells rs)) c ≡ applied cells rs c
unfolding page_after
cell-read cells b small bound rs al few c h =
    let at : 7 * (c / 7) + c % 7 ≡ c = omega arith in
    let page = page_after cells rs (c / 7) in
    ap (λ (l : List ℕ). (page_of l).cell (c % 7)) (page-at (page_after cells rs) (c / 7) (omega arith)) ∙
    cell-back page (c % 7) (omega arith) (abs-bits (b + 134217728) (page.cell (c % 7)) (abs-applied cells rs (7 * (c / 7) + c % 7) b al few (small _)) bound) ∙
    ap (applied cells rs) at
