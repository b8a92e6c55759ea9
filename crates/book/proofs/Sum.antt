-- The rows applied to a cell come to its changes that no undo row names, and once no visit is active to those whose last holder has a commit row.
use Prim.Native.Nat.{ℕ}
use native.Mathlib.Omega.{arith}
use mathlib.Core.Path.{◌≡◌, refl, ap, sym, ◌∙◌}
use mathlib.Core.Bool.{Bool, true, false, cond, not, ◌&&◌, ◌||◌, and-true, not-not}
use mathlib.Core.List.Memᴰ
use mathlib.Core.List.{List, [], ◌∷◌, map}
use lib.IntN.{ℤ, pos, neg_ℤ, ◌+ℤ◌, +ℤ_idr, +ℤ_idl, +ℤ_comm, +ℤ_assoc, +ℤ-neg_ℤ_cancel}
use lib.Dec.{eqb}
use borrow.Author.Tests.{eqb-true, eq-eqb, ne_eqb}
use Rattle.book.specs.Lists.{In, keep, foldl, total}
use Rattle.book.specs.Rows.{Row, begin, change, hand_over, undo, commit, abort, hand_over_all}
use Rattle.book.specs.Ledger.{Change, Ledger, empty, new_change, given, pass, only, every, after, ledger}
use Rattle.book.specs.Rules.{is_active, is_undone, allowed, all_allowed, allowed_log}
use Rattle.book.specs.Cells.{moved_by, applied, is_kept, kept_sum}
use Rattle.book.proofs.Lists.{and_l, and_r, and-not-or, eq_z-true, keep_same}
use Rattle.book.proofs.Invariant.{Inv, Falling, Named, names, same_row, fresh, pass-cases}
use Rattle.book.proofs.InvariantKept.{inv-after, inv-empty, inv-log}
use Rattle.book.proofs.Fate.{fate-ended}

-- the sum of the amounts
abbrev pub amounts : List Change → ℤ
amounts xs = total (map (λ x. x.amount) xs)

-- a change of the cell that no undo row names
abbrev pub stands_in : ℕ → Ledger → Change → Bool
stands_in c l x = eqb x.cell c && not (is_undone l x)

-- the sum of the changes of the cell that no undo row names
abbrev pub standing_sum : ℕ → Ledger → ℤ
standing_sum c l = amounts (keep (stands_in c l) l.changes)

-- a hand-over alters no cell, row or amount
amounts-pass : (p : Change → Bool) (g r : ℕ) (cs : ℕ → Bool) (xs : List Change) → ((x : Change) → p (given r x) ≡ p x)
    → amounts (keep p (map (pass g r cs) xs)) ≡ amounts (keep p xs)
amounts-pass p g r cs [] h = refl
amounts-pass p g r cs (x ∷ xs) h = rw (pass-cases (λ (y : Change). p y ≡ p x) g r cs x (λ q. h x) refl) (go (p x) (amounts-pass p g r cs xs h))
  where
    go : (t : Bool) → amounts (keep p (map (pass g r cs) xs)) ≡ amounts (keep p xs)
        → amounts (cond t (pass g r cs x ∷ keep p (map (pass g r cs) xs)) (keep p (map (pass g r cs) xs))) ≡ amounts (cond t (x ∷ keep p xs) (keep p xs))
    go true e = rw (pass-cases (λ (y : Change). y.amount ≡ x.amount) g r cs x (λ q. refl) refl, e)
    go false e = e

-- the sum without one of the changes
amounts-less : (p : Change → Bool) (xs : List Change) (x : Change) → Falling xs → In x xs → p x ≡ true
    → amounts (keep (λ y. p y && not (eqb y.row x.row)) xs) +ℤ x.amount ≡ amounts (keep p xs)
amounts-less p [] x f x5 t = elim x5 [ ]
amounts-less p (z ∷ xs) x f (Memᴰ.head e) t =
    let r = ap (λ (w : Change). w.row) e in
    rw (e, rw e at t, eq-eqb z.row z.row refl)
    (rw (keep_same (λ y. p y && not (eqb y.row x.row)) p xs
    (λ y m. let k = f.0 y m in rw (ne_eqb y.row x.row (λ q. omega arith)) (and-true (p y))))
    (+ℤ_comm (amounts (keep p xs)) z.amount))
amounts-less p (z ∷ xs) x f (Memᴰ.tail m) t =
    let k = f.0 x m in
    rw (ne_eqb z.row x.row (λ q. omega arith), and-true (p z)) (go (p z) (amounts-less p xs x f.1 m t))
  where
    go : (s : Bool) → amounts (keep (λ y. p y && not (eqb y.row x.row)) xs) +ℤ x.amount ≡ amounts (keep p xs)
        → amounts (cond s (z ∷ keep (λ y. p y && not (eqb y.row x.row)) xs) (keep (λ y. p y && not (eqb y.row x.row)) xs)) +ℤ x.amount
        ≡ amounts (cond s (z ∷ keep p xs) (keep p xs))
    go true e = +ℤ_assoc z.amount (amounts (keep (λ y. p y && not (eqb y.row x.row)) xs)) x.amount ∙ ap (λ (w : ℤ). z.amount +ℤ w) e
    go false e = e

-- ── One row more ──────────────────────────────────────────────────────────────────────────────────────────────────────

sum-change : (c : ℕ) (l : Ledger) (v k : ℕ) (a : ℤ) → Inv l → standing_sum c (after l (change v k a)) ≡ standing_sum c l +ℤ moved_by c (change v k a)
unfolding after
sum-change c l v k a i = rw (fresh l i, and-true (eqb k c)) (go (eqb k c))
  where
    go : (t : Bool)
        → amounts (cond t (new_change l v k a ∷ keep (stands_in c l) l.changes) (keep (stands_in c l) l.changes)) ≡ standing_sum c l +ℤ cond t a (pos 0)
    go true = +ℤ_comm a (standing_sum c l)
    go false = sym (+ℤ_idr (standing_sum c l))

sum-undo : (c : ℕ) (l : Ledger) (h k n : ℕ) (a : ℤ) → allowed l (undo h k n a) ≡ true → Inv l
    → standing_sum c (after l (undo h k n a)) ≡ standing_sum c l +ℤ moved_by c (undo h k n a)
unfolding after
sum-undo c l h k n a e i = go (eqb k c) refl
  where
    w : Named l h k n a
    w = names l h k n a e

    -- the named change was not undone before
    stood : eqb k c ≡ true → stands_in c l w.x ≡ true
    stood q = rw (w.cell, q) (and_r (is_active l w.x.holder) (not (is_undone l w.x)) w.opened)

    -- a change of that row is of cell k
    cell : (y : Change) → In y l.changes → y.row ≡ n → y.cell ≡ k
    cell y m r = ap (λ (x : Change). x.cell) (same_row l.changes y w.x i.falling m w.mem (r ∙ sym w.row)) ∙ w.cell

    other : (y : Change) → In y l.changes → eqb k c ≡ false → (t : Bool) → eqb y.row n ≡ t
        → (eqb y.cell c && not (t || is_undone l y)) ≡ (eqb y.cell c && not (is_undone l y))
    other y m q true r = rw (cell y m (eqb-true y.row n r), q)
    other y m q false r = refl

    go : (t : Bool) → eqb k c ≡ t → standing_sum c (after l (undo h k n a)) ≡ standing_sum c l +ℤ cond t (neg_ℤ a) (pos 0)
    go true q =
        let less = amounts-less (stands_in c l) l.changes w.x i.falling w.mem (stood q) in
        ap amounts (keep_same _ (λ y. stands_in c l y && not (eqb y.row w.x.row)) l.changes
        (λ y m. rw w.row (and-not-or (eqb y.cell c) (eqb y.row n) (is_undone l y)))) ∙
        sym (+ℤ-neg_ℤ_cancel _ a) ∙ ap (λ (z : ℤ). z +ℤ neg_ℤ a) (rw (eq_z-true w.x.amount a w.amount) at less)
    go false q = ap amounts (keep_same _ (stands_in c l) l.changes (λ y m. other y m q (eqb y.row n) refl)) ∙ sym (+ℤ_idr (standing_sum c l))

sum-after : (c : ℕ) (l : Ledger) (r : Row) → allowed l r ≡ true → Inv l → standing_sum c (after l r) ≡ standing_sum c l +ℤ moved_by c r
unfolding after
sum-after c l (begin v) e i = sym (+ℤ_idr (standing_sum c l))
sum-after c l (change v k a) e i = sum-change c l v k a i
sum-after c l (hand_over g r k) e i = amounts-pass (stands_in c l) g r (only k) l.changes (λ x. refl) ∙ sym (+ℤ_idr (standing_sum c l))
sum-after c l (undo h k n a) e i = sum-undo c l h k n a e i
sum-after c l (commit v) e i = sym (+ℤ_idr (standing_sum c l))
sum-after c l (abort v) e i = sym (+ℤ_idr (standing_sum c l))
sum-after c l (hand_over_all g r) e i = amounts-pass (stands_in c l) g r every l.changes (λ x. refl) ∙ sym (+ℤ_idr (standing_sum c l))

sum-all : (c : ℕ) (l : Ledger) (rs : List Row) → all_allowed l rs ≡ true → Inv l
    → standing_sum c (foldl after l rs) ≡ standing_sum c l +ℤ total (map (moved_by c) rs)
sum-all c l [] e i = sym (+ℤ_idr (standing_sum c l))
sum-all c l (r ∷ rs) e i =
    let al = and_l (allowed l r) _ e in
    sum-all c (after l r) rs (and_r (allowed l r) _ e) (inv-after l r al i) ∙
    ap (λ (z : ℤ). z +ℤ total (map (moved_by c) rs)) (sum-after c l r al i) ∙ +ℤ_assoc (standing_sum c l) (moved_by c r) (total (map (moved_by c) rs))

-- ── Every allowed log ─────────────────────────────────────────────────────────────────────────────────────────────────

-- the rows come to the formatted value plus the changes that no undo row names
pub applied-standing : (cells : ℕ → ℤ) (rs : List Row) (c : ℕ) → allowed_log rs ≡ true → applied cells rs c ≡ cells c +ℤ standing_sum c (ledger rs)
applied-standing cells rs c e = ap (λ (z : ℤ). cells c +ℤ z) (sym (sum-all c empty rs e inv-empty ∙ +ℤ_idl (total (map (moved_by c) rs))))

-- 00: once no visit is active, to the formatted value plus the changes whose last holder has a commit row
pub applied-kept : (cells : ℕ → ℤ) (rs : List Row) (c : ℕ) → allowed_log rs ≡ true → (ledger rs).active ≡ [] → applied cells rs c ≡ kept_sum cells rs c
unfolding kept_sum
applied-kept cells rs c e none =
    let i = inv-log rs e in
    applied-standing cells rs c e ∙ ap (λ (xs : List Change). cells c +ℤ amounts xs)
    (keep_same (stands_in c (ledger rs)) (λ x. eqb x.cell c && is_kept (ledger rs) x) (ledger rs).changes
    (λ x m. ap (λ (t : Bool). eqb x.cell c && t) (ap not (fate-ended (ledger rs) x i m (rw none)) ∙ not-not (is_kept (ledger rs) x))))
