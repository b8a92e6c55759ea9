-- The search of the rows downwards finds the highest change below a row, of its maker and cell, that the ledger has.
use Prim.Native.Nat.{ℕ, zero, suc, ◌≤◌, ◌<◌}
use native.Mathlib.Omega.{arith}
use mathlib.Core.Path.{◌≡◌, refl, ap, ap₂, ◌∙◌}
use mathlib.Core.Bool.{Bool, true, false, cond, ◌&&◌}
use mathlib.Core.List.{List, [], ◌∷◌}
use lib.ListN.{length}
use lib.IntN.{ℤ}
use lib.Dec.{eqb, leb, ltb}
use borrow.Author.Tests.{eqb-true, eq-eqb, leb-true, le-leb, ltb-true, ltb-false, lt-ltb}
use Rattle.book.specs.Lists.{In, keep}
use Rattle.book.specs.Rows.{Row, begin, change, hand_over, undo, commit, abort, hand_over_all}
use Rattle.book.specs.Ledger.{Change, ledger}
use Rattle.book.specs.Scopes.{first_row}
use Rattle.book.specs.Pages.{row_at}
use Rattle.book.proofs.Lists.{clash, is_false, and_i, and_l, and_r, here, in-keep, keep-in, keep_same, keep-none}
use Rattle.book.proofs.Invariant.{Inv, falling-keep}
use Rattle.book.proofs.Recorded.{row_of, change-of}
use Rattle.tables_model.specs.Lookup.{is_change_by, previous}
use Rattle.tables_model.proofs.Highest.{row-le}

-- the row that passes the test
change-by : (maker cell : ℕ) (r : Row) → is_change_by maker cell r ≡ true → (a : ℤ) × (r ≡ change maker cell a)
change-by maker cell (begin v) e = clash false e refl
change-by maker cell (change v c a) e =
    let p = eqb-true v maker (and_l _ (eqb c cell) e) in let q = eqb-true c cell (and_r (eqb v maker) _ e) in (a, cc)
change-by maker cell (hand_over g r c) e = clash false e refl
change-by maker cell (undo h c n a) e = clash false e refl
change-by maker cell (commit v) e = clash false e refl
change-by maker cell (abort v) e = clash false e refl
change-by maker cell (hand_over_all g r) e = clash false e refl

module _ (rs : List Row) (i : Inv (ledger rs)) (v c from : ℕ) where
  -- the changes that the search is for
  abbrev pub sought : ℕ → Change → Bool
  sought n y = eqb y.maker v && eqb y.cell c && (leb from y.row && ltb y.row n)

  -- what such a change is
  record Sought (n : ℕ) (y : Change) : Type 0 where
    maker : y.maker ≡ v
    cell : y.cell ≡ c
    low : from ≤ y.row
    below : y.row < n

  sought-is : (n : ℕ) (y : Change) → sought n y ≡ true → Sought n y
  sought-is n y e =
      let p : eqb y.maker v ≡ true = search (and_l, and_r) in
      let q : eqb y.cell c ≡ true = search (and_l, and_r) in
      let r : leb from y.row ≡ true = search (and_l, and_r) in
      let s : ltb y.row n ≡ true = search (and_l, and_r) in
      record {
        maker = eqb-true y.maker v p;
        cell = eqb-true y.cell c q;
        low = leb-true from y.row r;
        below = ltb-true y.row n s;
      }

  is-sought : (n : ℕ) (y : Change) → Sought n y → sought n y ≡ true
  is-sought n y d =
      and_i _ _ (and_i _ _ (eq-eqb y.maker v d.maker) (eq-eqb y.cell c d.cell))
      (and_i _ _ (le-leb from y.row d.low) (lt-ltb y.row n d.below))

  abbrev all : List Change
  all = (ledger rs).changes

  -- none is that low
  stop : (n : ℕ) → (leb from n && leb 1 n) ≡ false → first_row (keep (sought (suc n)) all) ≡ 0
  stop n e = ap first_row (keep-none (sought (suc n)) all (λ y m. is_false _ (λ h.
      let d = sought-is (suc n) y h in
      let lo = d.low in let lt = d.below in let one = (i.good y m).low in
      clash _ (and_i _ _ (le-leb from n (omega arith)) (le-leb 1 n (omega arith))) e)))

  -- the next row is one
  hit : (n : ℕ) → n ≤ length rs → (leb from n && leb 1 n) ≡ true → is_change_by v c (row_at rs n) ≡ true → first_row (keep (sought (suc n)) all) ≡ n
  hit n le e k =
      let lo = leb-true from n (and_l _ (leb 1 n) e) in
      let one = leb-true 1 n (and_r (leb from n) _ e) in
      let r = change-by v c (row_at rs n) k in
      let d = change-of rs n v c r.0 one le r.1 in
      let row = d.row in
      let ge = row-le (keep (sought (suc n)) all) d.x (falling-keep (sought (suc n)) all i.falling)
      (keep-in (sought (suc n)) d.mem (is-sought (suc n) d.x (record { maker = d.maker; cell = d.cell; low = omega arith; below = omega arith }))) in
      let below = first_below (keep (sought (suc n)) all) (λ y m. (sought-is (suc n) y (in-keep (sought (suc n)) all y m).1).below) in
      omega arith
    where
      first_below : (ys : List Change) → ((y : Change) → In y ys → y.row < suc n) → first_row ys < suc n
      first_below [] f = omega arith
      first_below (y ∷ ys) f = f y here

  -- the next row is none
  miss : (n : ℕ) → is_change_by v c (row_at rs n) ≡ false → keep (sought (suc n)) all ≡ keep (sought n) all
  miss n k = keep_same (sought (suc n)) (sought n) all (λ y m. go y m (sought (suc n) y) refl (sought n y) refl)
    where
      less : (y : Change) → In y all → Sought (suc n) y → y.row < n
      less y m d = its (ltb y.row n) refl
        where
          its : (t : Bool) → ltb y.row n ≡ t → y.row < n
          its true e = ltb-true y.row n e
          its false e =
              let lt = d.below in
              let ge = ltb-false y.row n e in
              let is : n ≡ y.row = omega arith in
              let row : row_at rs n ≡ change y.maker y.cell y.amount = ap (row_at rs) is ∙ row_of rs y m in
              clash _ (ap (is_change_by v c) row ∙ and_i _ _ (eq-eqb y.maker v d.maker) (eq-eqb y.cell c d.cell)) k

      go : (y : Change) → In y all → (a : Bool) → sought (suc n) y ≡ a → (b : Bool) → sought n y ≡ b → a ≡ b
      go y m true p true q = refl
      go y m false p false q = refl
      go y m true p false q =
          let d = sought-is (suc n) y p in
          clash _ (is-sought n y (record { maker = d.maker; cell = d.cell; low = d.low; below = less y m d })) q
      go y m false p true q =
          let d = sought-is n y q in let lt = d.below in
          clash _ (is-sought (suc n) y (record { maker = d.maker; cell = d.cell; low = d.low; below = omega arith })) p

  pub previous-is : (n : ℕ) → n ≤ suc (length rs) → first_row (keep (sought n) all) ≡ previous (row_at rs) v c from n
  previous-is zero le = ap first_row (keep-none (sought 0) all (λ y m. is_false _ (λ h. let d = sought-is 0 y h in let lt = d.below in omega arith)))
  previous-is (suc n) le = go (leb from n && leb 1 n) refl (is_change_by v c (row_at rs n)) refl (previous-is n (omega arith))
    where
      go : (a : Bool) → (leb from n && leb 1 n) ≡ a → (b : Bool) → is_change_by v c (row_at rs n) ≡ b
          → first_row (keep (sought n) all) ≡ previous (row_at rs) v c from n
          → first_row (keep (sought (suc n)) all) ≡ cond a (cond b n (previous (row_at rs) v c from n)) 0
      go true p true q ih = hit n (omega arith) p q
      go true p false q ih = ap first_row (miss n q) ∙ ih
      go false p b q ih = stop n p

-- ── Rows looked up elsewhere ──────────────────────────────────────────────────────────────────────────────────────────

-- the rows of the list are looked up right; of other numbers nothing is said
abbrev pub Looks : (ℕ → Row) → List Row → Type 0
Looks look rs = (n : ℕ) → 1 ≤ n → n ≤ length rs → look n ≡ row_at rs n

-- the search looks only at rows below n, from 1 on
pub previous-same : (look other : ℕ → Row) (v c from n : ℕ) → ((k : ℕ) → 1 ≤ k → k < n → look k ≡ other k)
    → previous look v c from n ≡ previous other v c from n
previous-same look other v c from zero f = refl
previous-same look other v c from (suc n) f = go (leb from n && leb 1 n) refl (previous-same look other v c from n (λ k lo lt. f k lo (omega arith)))
  where
    go : (t : Bool) → (leb from n && leb 1 n) ≡ t → previous look v c from n ≡ previous other v c from n
        → cond t (cond (is_change_by v c (look n)) n (previous look v c from n)) 0 ≡ cond t (cond (is_change_by v c (other n)) n (previous other v c from n)) 0
    go true e ih =
        let one = leb-true 1 n (and_r (leb from n) _ e) in
        ap₂ (λ (r : Row) (k : ℕ). cond (is_change_by v c r) n k) (f n one (omega arith)) ih
    go false e ih = refl
