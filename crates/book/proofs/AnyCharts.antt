-- Charts that pass the check of an opening (specs/Pages), whoever wrote them: each page is as of the row of its mark, from some cells on that are
-- within bounds. So what is said of stored pages holds after every ready opening.
use Prim.Native.Nat.{ℕ, zero, suc, ◌+◌, ◌-◌, ◌*◌, ◌%◌, ◌≤◌, ◌<◌}
use native.Mathlib.Omega.{arith}
use mathlib.Core.Path.{◌≡◌, refl, ap, ap₂, sym, ◌∙◌}
use mathlib.Core.Bool.{Bool, true, false, cond, ◌||◌}
use mathlib.Core.List.{List, [], ◌∷◌, ◌++◌}
use lib.ListN.{length, get_or, take, drop, length-drop}
use lib.Seq.{sets, length-take-le}
use lib.IntN.{ℤ, pos, neg_ℤ, ◌+ℤ◌, ◌-ℤ◌, nat_abs, -ℤ-+ℤ_cancel}
use lib.Dec.{eqb, ltb}
use borrow.Author.Tests.{eqb-true, ne_eqb, le-leb, lt-ltb, ltb-true}
use Rattle.book.specs.Lists.{tabulate, join, first_failing}
use Rattle.book.specs.Rows.{Row}
use Rattle.book.specs.Ledger.{empty}
use Rattle.book.specs.Rules.{allowed_log}
use Rattle.book.specs.Cells.{page_of_cell, on_page, last_on}
use Rattle.book.specs.Numbers.{AreBytes, le, number, bits_of, signed, within}
use Rattle.book.specs.Pages.{page_bytes, chart_bytes, page_at, page_of, cell_of, page_after, row_at, is_page}
use Rattle.book.specs.Opening.{bad_page}
use Rattle.book.proofs.Lists.{clash, and_l, and_r}
use Rattle.book.proofs.Numbers.{part_bytes, two_back, four-back, four_below, bits-signed}
use Rattle.book.proofs.Blocks.{listed, blocks, tabulate-same, first-all}
use Rattle.book.proofs.Marks.{sum_of, abs-add, abs_neg, abs-sum, take-allowed, take-few}
use Rattle.book.proofs.Pages.{page-same, within-abs, page-of, as_of, charts_as_of, Bounded}

-- ── A page's 32 bytes ─────────────────────────────────────────────────────────────────────────────────────────────────

-- 32 bytes are those of the page that they are read as, but for bytes 2 and 3
pub page-read : (bs : List ℕ) → length bs ≡ 32 → AreBytes bs → bs ≡ sets (page_bytes (page_of bs)) 2 (get_or bs 2 0 ∷ get_or bs 3 0 ∷ [])
unfolding page_bytes page_of
page-read bs long byte = listed bs ∙ ap (λ (m : ℕ). tabulate m 0 b) long ∙ sym whole
  where
    b : ℕ → ℕ
    b i = get_or bs i 0

    four : ℕ → List ℕ
    four i = b i ∷ b (suc i) ∷ b (suc (suc i)) ∷ b (suc (suc (suc i))) ∷ []

    cell : (i : ℕ) → le 4 (bits_of 32 (signed 32 (number 4 bs i))) ≡ four i
    cell i =
        let s = byte i in let t = byte (suc i) in let u = byte (suc (suc i)) in let v = byte (suc (suc (suc i))) in
        ap (le 4) (bits-signed 32 (number 4 bs i) (four_below (b i) (b (suc i)) (b (suc (suc i))) (b (suc (suc (suc i)))) s t u v)) ∙
        four-back (b i) (b (suc i)) (b (suc (suc i))) (b (suc (suc (suc i)))) s t u v

    whole : sets (page_bytes (page_of bs)) 2 (b 2 ∷ b 3 ∷ []) ≡ tabulate 32 0 b
    whole =
        ap₂
        (λ (x y : List ℕ). x ++ (b 2 ∷ b 3 ∷ y))
        (two_back (b 0) (b 1) (byte 0) (byte 1))
        (ap join (tabulate-same 7 0 (λ j. le 4 (bits_of 32 (signed 32 (number 4 bs (4 + 4 * j))))) (λ j. four (4 + 4 * j)) (λ j f k. cell (4 + 4 * j))))

-- with zeros there they are those of the page
page-exact : (bs : List ℕ) → length bs ≡ 32 → AreBytes bs → number 2 bs 2 ≡ 0 → bs ≡ page_bytes (page_of bs)
unfolding page_bytes
page-exact bs long byte z =
    let two : get_or bs 2 0 ≡ 0 = omega arith in
    let three : get_or bs 3 0 ≡ 0 = omega arith in
    page-read bs long byte ∙ ap₂ (λ (x y : ℕ). sets (page_bytes (page_of bs)) 2 (x ∷ y ∷ [])) two three

-- ── Each page is as of the row of its mark ────────────────────────────────────────────────────────────────────────────

-- a row of the page is the last on it of the rows up to it
last-mark : (p m : ℕ) (rs : List Row) → on_page p (get_or rs m (Row.begin 0)) ≡ true → last_on p (take (suc m) rs) ≡ suc m
last-mark p m [] e = clash false e refl
last-mark p zero (r ∷ rs) e = rw e
last-mark p (suc m) (r ∷ rs) e = rw (last-mark p m rs e, le-leb 1 (suc m) (omega arith))

-- what the check says of a page
pub record Passed (rs : List Row) (p : ℕ) (bs : List ℕ) : Type 0 where
  pub marked : last_on p (take (page_of bs).mark rs) ≡ (page_of bs).mark
  pub zeros : number 2 bs 2 ≡ 0
  pub small : (j : ℕ) → j < 7 → nat_abs ((page_of bs).cell j) ≤ 200000000

pub passed : (rs : List Row) (p : ℕ) (bs : List ℕ) → is_page rs p bs ≡ true → Passed rs p bs
unfolding is_page
passed rs p bs e =
    let cells : eqb (first_failing 7 0 (λ i. within 200000000 ((page_of bs).cell i))) 7 ≡ true = search (and_l, and_r) in
    record {
      marked = go (page_of bs).mark (search (and_l, and_r));
      zeros = eqb-true (number 2 bs 2) 0 (search (and_l, and_r));
      small = λ j h. within-abs 200000000 ((page_of bs).cell j)
          (first-all 7 0 (λ i. within 200000000 ((page_of bs).cell i)) (eqb-true _ 7 cells) j (omega arith) (omega arith));
    }
  where
    go : (m : ℕ) → (eqb m 0 || on_page p (row_at rs m)) ≡ true → last_on p (take m rs) ≡ m
    go zero e = refl
    go (suc m) e =
        let at : suc m - 1 ≡ m = omega arith in
        last-mark p m rs (rw (ne_eqb (suc m) 0 (λ q. omega arith), at) at e)

-- the marks of the charts, and the cells that the rows up to them start from
abbrev pub marks_of : List ℕ → ℕ → ℕ
marks_of charts p = (page_of (page_at charts p)).mark

abbrev pub start_of : List ℕ → List Row → ℕ → ℕ → ℕ → ℤ
start_of charts rs c p j = (page_of (page_at charts p)).cell j -ℤ sum_of c (take (marks_of charts p) rs)

unfoldable pub base_of : List ℕ → List Row → ℕ → ℤ
base_of charts rs c = cond (ltb c 224) (start_of charts rs c (page_of_cell c) (c % 7)) (pos 0)

module _ (charts : List ℕ) (long : length charts ≡ 1024) (byte : AreBytes charts) (rs : List Row) (al : allowed_log rs ≡ true) (few : length rs ≤ 4096)
    (good : bad_page rs charts ≡ 32) where
  page : (p : ℕ) → p < 32 → Passed rs p (page_at charts p)
  page p h = passed rs p (page_at charts p) (first-all 32 0 (λ q. is_page rs q (page_at charts q)) good p (omega arith) (omega arith))

  pub marked-any : (p : ℕ) → p < 32 → last_on p (take (marks_of charts p) rs) ≡ marks_of charts p
  marked-any p h = (page p h).marked

  -- ±200,000,000, and what 4,096 rows can move
  pub base-bounded : Bounded 334217728 (base_of charts rs)
  unfolding base_of
  base-bounded c = go (ltb c 224) refl
    where
      go : (t : Bool) → ltb c 224 ≡ t → nat_abs (cond t (start_of charts rs c (page_of_cell c) (c % 7)) (pos 0)) ≤ 334217728
      go false e = omega arith
      go true e =
          let h = ltb-true c 224 e in
          let m = marks_of charts (page_of_cell c) in
          let cell = (page (page_of_cell c) (omega arith)).small (c % 7) (omega arith) in
          let sum = abs-sum c empty (take m rs) (take-allowed m rs al) in
          let n = take-few m rs few in
          let neg = abs_neg (sum_of c (take m rs)) in
          let both = abs-add (cell_of charts c) (neg_ℤ (sum_of c (take m rs))) in omega arith

  cell-any : (p j : ℕ) → p < 32 → j < 7 → (page_of (page_at charts p)).cell j ≡ base_of charts rs (7 * p + j) +ℤ sum_of (7 * p + j) (take (marks_of charts p) rs)
  unfolding base_of
  cell-any p j h k =
      let c = 7 * p + j in
      let at : (7 * p + j) % 7 ≡ j = omega arith in
      rw (lt-ltb c 224 (omega arith), page-of p j k, at) (sym (-ℤ-+ℤ_cancel ((page_of (page_at charts p)).cell j) (sum_of c (take (marks_of charts p) rs))))

  -- the bytes of a page are those of the page as of its mark
  page-any : (p : ℕ) → p < 32 → page_at charts p ≡ page_bytes (as_of (base_of charts rs) rs p (marks_of charts p))
  unfolding page_after
  page-any p h =
      let d = length-drop (32 * p) charts in
      page-exact (page_at charts p) (length-take-le 32 (drop (32 * p) charts) (omega arith)) (part_bytes charts byte (32 * p) 32) (page p h).zeros ∙
      page-same (page_of (page_at charts p)) (as_of (base_of charts rs) rs p (marks_of charts p))
      (record { mark = sym (marked-any p h); cells = λ j k. cell-any p j h k })

  pub charts-any : charts ≡ charts_as_of (base_of charts rs) rs (marks_of charts)
  unfolding chart_bytes
  charts-any =
      sym (blocks 32 32 0 charts long) ∙
      ap join (tabulate-same 32 0 (page_at charts) (λ p. page_bytes (as_of (base_of charts rs) rs p (marks_of charts p))) (λ p f k. page-any p (omega arith)))
