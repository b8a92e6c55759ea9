-- What rows make of a page (specs/Cells): its mark is its last row, the rows after that one leave its cells alone, and cells cannot overflow.
use Prim.Native.Nat.{ℕ, zero, suc, ◌+◌, ◌-◌, ◌*◌, ◌≤◌}
use native.Mathlib.Omega.{arith}
use mathlib.Core.Path.{◌≡◌, refl, ap, ap₂, sym, ◌∙◌}
use mathlib.Core.Bool.{Bool, true, false, cond, ◌||◌}
use mathlib.Core.List.{List, [], ◌∷◌, ◌++◌, map}
use lib.ListN.{length, get_or, take, drop, length-take, take-append-drop}
use lib.IntN.{ℤ, pos, negsuc, neg_ℤ, ◌+ℤ◌, nat_abs, +ℤ_idr, +ℤ_idl, +ℤ_assoc}
use lib.Dec.{eqb, leb, ltb}
use borrow.Author.Tests.{eq-eqb, ne_eqb, ltb-true, ltb-false, leb-true, le-leb}
use Rattle.book.specs.Lists.{total}
use Rattle.book.specs.Rows.{Row, Effect, nothing, moves, effect, is_amount, fits}
use Rattle.book.specs.Ledger.{Ledger, empty, after}
use Rattle.book.specs.Rules.{allowed, all_allowed, allowed_log}
use Rattle.book.specs.Cells.{moved, moved_by, applied, page_of_cell, touches, on_page, last_on}
use Rattle.book.proofs.Lists.{and_l, and_r, clash}
use Rattle.book.proofs.Logs.{allowed-start}
use Rattle.book.proofs.LogBytes.{allowed-fits}

-- what the rows move cell c by
abbrev pub sum_of : ℕ → List Row → ℤ
sum_of c rs = total (map (moved_by c) rs)

-- ── Cells cannot overflow ─────────────────────────────────────────────────────────────────────────────────────────────

abs-sub : (a b : ℕ) → nat_abs (cond (ltb a b) (negsuc (b - suc a)) (pos (a - b))) ≤ a + b
abs-sub a b = go (ltb a b) refl
  where
    go : (t : Bool) → ltb a b ≡ t → nat_abs (cond t (negsuc (b - suc a)) (pos (a - b))) ≤ a + b
    go true e = let k = ltb-true a b e in omega arith
    go false e = let k = ltb-false a b e in omega arith

pub abs-add : (a b : ℤ) → nat_abs (a +ℤ b) ≤ nat_abs a + nat_abs b
abs-add (pos a) (pos b) = omega arith
abs-add (pos a) (negsuc b) = abs-sub a (suc b)
abs-add (negsuc a) (pos b) = let k = abs-sub b (suc a) in omega arith
abs-add (negsuc a) (negsuc b) = omega arith

pub abs_neg : (a : ℤ) → nat_abs (neg_ℤ a) ≡ nat_abs a
abs_neg (pos zero) = refl
abs_neg (pos (suc n)) = refl
abs_neg (negsuc n) = refl

abs-amount : (a : ℤ) → is_amount a ≡ true → nat_abs a ≤ 32768
abs-amount (pos a) e = let k = leb-true a 32767 e in omega arith
abs-amount (negsuc a) e = let k = leb-true a 32767 (and_l (leb a 32767) true e) in omega arith

abs-moved : (c k : ℕ) (a : ℤ) → nat_abs a ≤ 32768 → nat_abs (moved c (moves k a)) ≤ 32768
abs-moved c k a h = go (eqb k c)
  where
    go : (t : Bool) → nat_abs (cond t a (pos 0)) ≤ 32768
    go true = h
    go false = omega arith

pub abs-row : (c : ℕ) (r : Row) → fits r ≡ true → nat_abs (moved_by c r) ≤ 32768
unfolding fits
abs-row c (Row.begin v) e = omega arith
abs-row c (Row.change v k a) e = abs-moved c k a (abs-amount a (search (and_l, and_r)))
abs-row c (Row.hand_over g r k) e = omega arith
abs-row c (Row.undo h k n a) e = abs-moved c k (neg_ℤ a) (rw (abs_neg a) (abs-amount a (search (and_l, and_r))))
abs-row c (Row.commit v) e = omega arith
abs-row c (Row.abort v) e = omega arith
abs-row c (Row.hand_over_all g r) e = omega arith

pub abs-sum : (c : ℕ) (l : Ledger) (rs : List Row) → all_allowed l rs ≡ true → nat_abs (sum_of c rs) ≤ 32768 * length rs
abs-sum c l [] e = omega arith
abs-sum c l (r ∷ rs) e =
    let k = abs-add (moved_by c r) (sum_of c rs) in
    let m = abs-row c r (allowed-fits l r (and_l (allowed l r) _ e)) in
    let n = abs-sum c (after l r) rs (and_r (allowed l r) _ e) in omega arith

-- 01: 4,096 rows move a cell by at most 134,217,728
pub abs-applied : (cells : ℕ → ℤ) (rs : List Row) (c b : ℕ) → allowed_log rs ≡ true → length rs ≤ 4096 → nat_abs (cells c) ≤ b
    → nat_abs (applied cells rs c) ≤ b + 134217728
abs-applied cells rs c b al h k = let m = abs-add (cells c) (sum_of c rs) in let n = abs-sum c empty rs al in omega arith

-- ── The mark ──────────────────────────────────────────────────────────────────────────────────────────────────────────

pub last-le : (p : ℕ) (rs : List Row) → last_on p rs ≤ length rs
last-le p [] = omega arith
last-le p (r ∷ rs) = go (leb 1 (last_on p rs) || on_page p r) (last-le p rs)
  where
    go : (t : Bool) → last_on p rs ≤ length rs → cond t (suc (last_on p rs)) 0 ≤ length (r ∷ rs)
    go true k = omega arith
    go false k = omega arith

-- the mark is a row of the page
pub last_on_lem : (p : ℕ) (rs : List Row) (m : ℕ) (d : Row) → last_on p rs ≡ suc m → on_page p (get_or rs m d) ≡ true
last_on_lem p [] m d e = absurd (omega arith)
last_on_lem p (r ∷ rs) m d e = go (last_on p rs) refl (on_page p r) refl m e (last_on_lem p rs)
  where
    go : (n : ℕ) → last_on p rs ≡ n → (t : Bool) → on_page p r ≡ t → (m : ℕ) → cond (leb 1 n || t) (suc n) 0 ≡ suc m
        → ((k : ℕ) (d : Row) → last_on p rs ≡ suc k → on_page p (get_or rs k d) ≡ true) → on_page p (get_or (r ∷ rs) m d) ≡ true
    go zero q true o zero e ih = o
    go zero q true o (suc m) e ih = absurd (omega arith)
    go zero q false o m e ih = absurd (omega arith)
    go (suc n) q t o zero e ih = let k = rw (le-leb 1 (suc n) (omega arith)) at e in absurd (omega arith)
    go (suc n) q t o (suc m) e ih = let k = rw (le-leb 1 (suc n) (omega arith)) at e in ih m d (omega arith)

-- a row that is not on the page does not move its cells
moved-off : (c p : ℕ) (r : Row) → page_of_cell c ≡ p → on_page p r ≡ false → moved_by c r ≡ pos 0
moved-off c p r h = off (effect r)
  where
    off : (e : Effect) → touches p e ≡ false → moved c e ≡ pos 0
    off nothing e = refl
    off (moves k a) e = rw (ne_eqb k c (λ q. clash _ (eq-eqb (page_of_cell k) p (ap page_of_cell q ∙ h)) e))

-- the rows after the page's last do not move its cells
pub last_rest : (c p : ℕ) (rs : List Row) → page_of_cell c ≡ p → sum_of c (drop (last_on p rs) rs) ≡ pos 0
last_rest c p [] h = refl
last_rest c p (r ∷ rs) h = go (last_on p rs) refl (on_page p r) refl (last_rest c p rs h)
  where
    go : (n : ℕ) → last_on p rs ≡ n → (t : Bool) → on_page p r ≡ t → sum_of c (drop (last_on p rs) rs) ≡ pos 0
        → sum_of c (drop (cond (leb 1 n || t) (suc n) 0) (r ∷ rs)) ≡ pos 0
    go zero q true o ih = rw q at ih
    go zero q false o ih = ap₂ ◌+ℤ◌ (moved-off c p r h o) (rw q at ih)
    go (suc n) q t o ih = rw (le-leb 1 (suc n) (omega arith)) (rw q at ih)

-- no row after the page's last is on the page
pub last-drop : (p : ℕ) (rs : List Row) → last_on p (drop (last_on p rs) rs) ≡ 0
last-drop p [] = refl
last-drop p (r ∷ rs) = go (leb 1 (last_on p rs) || on_page p r) refl (last-drop p rs)
  where
    go : (t : Bool) → (leb 1 (last_on p rs) || on_page p r) ≡ t → last_on p (drop (last_on p rs) rs) ≡ 0
        → last_on p (drop (cond t (suc (last_on p rs)) 0) (r ∷ rs)) ≡ 0
    go true e ih = ih
    go false e ih = rw e

-- rows that are not on the page leave its mark alone
pub last-append : (p : ℕ) (xs ys : List Row) → last_on p ys ≡ 0 → last_on p (xs ++ ys) ≡ last_on p xs
last-append p [] ys e = e
last-append p (x ∷ xs) ys e = rw (last-append p xs ys e)

-- the last row of the page among later rows, counted from the first row on
pub last-behind : (p : ℕ) (xs ys : List Row) → 1 ≤ last_on p ys → last_on p (xs ++ ys) ≡ length xs + last_on p ys
last-behind p [] ys h = omega arith
last-behind p (x ∷ xs) ys h = let ih = last-behind p xs ys h in rw (ih, le-leb 1 (length xs + last_on p ys) (omega arith)) (omega arith)

-- the rows up to the page's last have that last row
pub last-take : (p : ℕ) (rs : List Row) → last_on p (take (last_on p rs) rs) ≡ last_on p rs
last-take p rs =
    let m = last_on p rs in
    sym (last-append p (take m rs) (drop m rs) (last-drop p rs)) ∙ ap (last_on p) (take-append-drop m rs)

-- ── Sums over first and later rows ────────────────────────────────────────────────────────────────────────────────────

pub sum-append : (c : ℕ) (xs ys : List Row) → sum_of c (xs ++ ys) ≡ sum_of c xs +ℤ sum_of c ys
sum-append c [] ys = sym (+ℤ_idl (sum_of c ys))
sum-append c (x ∷ xs) ys = ap (λ (z : ℤ). moved_by c x +ℤ z) (sum-append c xs ys) ∙ sym (+ℤ_assoc (moved_by c x) (sum_of c xs) (sum_of c ys))

pub sum-split : (c m : ℕ) (rs : List Row) → sum_of c (take m rs) +ℤ sum_of c (drop m rs) ≡ sum_of c rs
sum-split c m rs = sym (sum-append c (take m rs) (drop m rs)) ∙ ap (sum_of c) (take-append-drop m rs)

-- the rows up to the page's last make of its cells what all rows do
pub sum-last : (c p : ℕ) (rs : List Row) → page_of_cell c ≡ p → sum_of c (take (last_on p rs) rs) ≡ sum_of c rs
sum-last c p rs h =
    sym (+ℤ_idr _) ∙ ap (λ (z : ℤ). sum_of c (take (last_on p rs) rs) +ℤ z) (sym (last_rest c p rs h)) ∙ sum-split c (last_on p rs) rs

-- ── First parts of a log ──────────────────────────────────────────────────────────────────────────────────────────────

pub take-allowed : (u : ℕ) (rs : List Row) → allowed_log rs ≡ true → allowed_log (take u rs) ≡ true
take-allowed u rs al = allowed-start (take u rs) rs (drop u rs, sym (take-append-drop u rs)) al

pub take-few : (u : ℕ) (rs : List Row) → length rs ≤ 4096 → length (take u rs) ≤ 4096
take-few u rs h = let k = length-take u rs in omega arith
