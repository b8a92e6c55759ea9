-- Two ledgers with the same active visits and, but for their holders, the same open changes (`SameOpen`): an opening finds the same to take back in both. The
-- rows of its backward part keep it so.
use Prim.Native.Nat.{ℕ, suc}
use mathlib.Core.Bool.{Bool, true, false, not, ◌&&◌}
use mathlib.Core.Path.{◌≡◌, refl, ap, ap₂, sym, ◌∙◌}
use mathlib.Core.List.{List, [], ◌∷◌, ◌++◌, map, Forall₂}
use lib.IntN.{ℤ, neg_ℤ}
use lib.Dec.{eqb}
use borrow.Author.Tests.{eqb-true}
use Rattle.book.specs.Lists.{In, keep, any, member, without, foldl}
use Rattle.book.specs.Rows.{Row, moves, effect}
use Rattle.book.specs.Ledger.{Change, Ledger, after}
use Rattle.book.specs.Rules.{is_active, is_undone, is_open_change, open_changes, just, lawful, allowed, all_allowed}
use Rattle.book.specs.Book.{undo_of}
use Rattle.book.proofs.Lists.{clash, is_false, not_is, and_l, and_r, and-not-or, eqb-sym, keep-in, any_false, stays-in, goes}
use Rattle.book.proofs.Pairs.{pairs-imp, pairs-same}

-- ── Two ledgers ───────────────────────────────────────────────────────────────────────────────────────────────────────

-- one change, whoever holds it
pub record SameChange (x y : Change) : Type 0 where
  pub row : y.row ≡ x.row
  pub cell : y.cell ≡ x.cell
  pub amount : y.amount ≡ x.amount

-- both are open and one change, or neither is open
pub data OpenAlike (l l' : Ledger) (x y : Change) : Type 0 where
  both : is_open_change l x ≡ true → is_open_change l' y ≡ true → SameChange x y → OpenAlike l l' x y
  neither : is_open_change l x ≡ false → is_open_change l' y ≡ false → OpenAlike l l' x y

pub record SameOpen (l l' : Ledger) : Type 0 where
  pub rows : l'.rows ≡ l.rows
  pub begun : l'.begun ≡ l.begun
  pub active : l'.active ≡ l.active
  pub undone : l'.undone ≡ l.undone
  pub changes : Forall₂ (OpenAlike l l') l.changes l'.changes

-- by what is known of each
pub open-alike : (l l' : Ledger) (x y : Change) → is_open_change l' y ≡ is_open_change l x → SameChange x y → OpenAlike l l' x y
open-alike l l' x y e s = go (is_open_change l x) refl
  where
    go : (t : Bool) → is_open_change l x ≡ t → OpenAlike l l' x y
    go true q = both q (e ∙ q) s
    go false q = neither q (e ∙ q)

pub same-open-refl : (l : Ledger) → SameOpen l l
same-open-refl l = record {
  rows = refl;
  begun = refl;
  active = refl;
  undone = refl;
  changes = pairs-same l.changes (λ x. open-alike l l x x refl (record { row = refl; cell = refl; amount = refl }));
}

-- the open changes, one beside the other
pub open-pairs : {l l' : Ledger} {xs ys : List Change} → Forall₂ (OpenAlike l l') xs ys
    → Forall₂ SameChange (keep (is_open_change l) xs) (keep (is_open_change l') ys)
open-pairs Forall₂.nil = Forall₂.nil
open-pairs (Forall₂.cons (both p q s) t) = rw (p, q) (Forall₂.cons s (open-pairs t))
open-pairs (Forall₂.cons (neither p q) t) = rw (p, q) (open-pairs t)

-- ── Rows ──────────────────────────────────────────────────────────────────────────────────────────────────────────────

-- Two lists of rows after two ledgers: row by row they move the same cells by the same grams, and before and after each of them the open changes are the same.
pub data SameRows : Ledger → Ledger → List Row → List Row → Type 0 where
  end : {l l' : Ledger} → SameOpen l l' → SameRows l l' [] []
  next : {l l' : Ledger} {r r' : Row} {rs rs' : List Row} → SameOpen l l' → effect r ≡ effect r' → SameRows (after l r) (after l' r') rs rs'
      → SameRows l l' (r ∷ rs) (r' ∷ rs')

pub first-open : {l l' : Ledger} {rs rs' : List Row} → SameRows l l' rs rs' → SameOpen l l'
first-open (end s) = s
first-open (next s e t) = s

pub last-open : {l l' : Ledger} {rs rs' : List Row} → SameRows l l' rs rs' → SameOpen (foldl after l rs) (foldl after l' rs')
last-open (end s) = s
last-open (next s e t) = last-open t

pub rows_join : {l l' : Ledger} {rs rs' qs qs' : List Row} → SameRows l l' rs rs' → SameRows (foldl after l rs) (foldl after l' rs') qs qs'
    → SameRows l l' (rs ++ qs) (rs' ++ qs')
rows_join (end s) q = q
rows_join (next s e t) q = next s e (rows_join t q)

-- the same rows after one ledger
pub rows_refl : (rs : List Row) (l : Ledger) → SameRows l l rs rs
rows_refl [] l = end (same-open-refl l)
rows_refl (r ∷ rs) l = next (same-open-refl l) refl (rows_refl rs (after l r))

-- ── The rows that take back ───────────────────────────────────────────────────────────────────────────────────────────

-- an undo row of one change, whoever holds it
same-undo : (l l' : Ledger) (x y : Change) → SameChange x y → SameOpen l l' → SameOpen (after l (undo_of x)) (after l' (undo_of y))
unfolding after
same-undo l l' x y c s = record {
  rows = ap suc s.rows;
  begun = s.begun;
  active = s.active;
  undone = ap₂ ◌∷◌ c.row s.undone;
  changes = pairs-imp (λ u v m n. alike u v) s.changes;
}
  where
    left : (m : Ledger) (z u : Change) → is_open_change (after m (undo_of z)) u ≡ (is_open_change m u && not (eqb u.row z.row))
    left m z u = and-not-or (is_active m u.holder) (eqb u.row z.row) (is_undone m u)

    alike : (u v : Change) → OpenAlike l l' u v → OpenAlike (after l (undo_of x)) (after l' (undo_of y)) u v
    alike u v (both p q w) = open-alike _ _ u v (rw (left l x u, left l' y v, p, q, w.row, c.row)) w
    alike u v (neither p q) = neither (rw (left l x u, p)) (rw (left l' y v, q))

-- a lawful abort row closes no change
abort-keeps : (l : Ledger) (v : ℕ) (x : Change) → lawful l (Row.abort v) ≡ true → In x l.changes → is_open_change (after l (Row.abort v)) x ≡ is_open_change l x
unfolding after lawful
abort-keeps l v x e m = go (eqb x.holder v) refl
  where
    none : any (λ z. just v z.holder) (open_changes l) ≡ false
    none = not_is _ (and_r (is_active l v) _ e)

    go : (t : Bool) → eqb x.holder v ≡ t → (member x.holder (without v l.active) && not (is_undone l x)) ≡ is_open_change l x
    go true q =
        let shut : is_open_change l x ≡ false = is_false _ (λ o. clash _ q (any_false _ (open_changes l) none x (keep-in (is_open_change l) m o))) in
        let out : member x.holder (without v l.active) ≡ false = rw (eqb-true x.holder v q) (goes v l.active) in
        ap (λ (t : Bool). t && not (is_undone l x)) out ∙ sym shut
    go false q = rw (stays-in x.holder v l.active (eqb-sym v x.holder ∙ q))

same-abort : (l l' : Ledger) (v : ℕ) → lawful l (Row.abort v) ≡ true → lawful l' (Row.abort v) ≡ true → SameOpen l l'
    → SameOpen (after l (Row.abort v)) (after l' (Row.abort v))
unfolding after
same-abort l l' v e e' s = record {
  rows = ap suc s.rows;
  begun = s.begun;
  active = ap (without v) s.active;
  undone = s.undone;
  changes = pairs-imp alike s.changes;
}
  where
    alike : (x y : Change) → In x l.changes → In y l'.changes → OpenAlike l l' x y → OpenAlike (after l (Row.abort v)) (after l' (Row.abort v)) x y
    alike x y m n (both p q w) = both (abort-keeps l v x e m ∙ p) (abort-keeps l' v y e' n ∙ q) w
    alike x y m n (neither p q) = neither (abort-keeps l v x e m ∙ p) (abort-keeps l' v y e' n ∙ q)

-- what an allowed row is
pub is_lawful : (l : Ledger) (r : Row) → allowed l r ≡ true → lawful l r ≡ true
unfolding allowed
is_lawful l r e = search (and_l, and_r)

aborts-alike : (vs : List ℕ) (l l' : Ledger) → SameOpen l l' → all_allowed l (map Row.abort vs) ≡ true → all_allowed l' (map Row.abort vs) ≡ true
    → SameRows l l' (map Row.abort vs) (map Row.abort vs)
aborts-alike [] l l' s e e' = end s
aborts-alike (v ∷ vs) l l' s e e' =
    let one = is_lawful l (Row.abort v) (and_l (allowed l (Row.abort v)) _ e) in
    let one' = is_lawful l' (Row.abort v) (and_l (allowed l' (Row.abort v)) _ e') in
    next s refl (aborts-alike vs (after l (Row.abort v)) (after l' (Row.abort v)) (same-abort l l' v one one' s)
    (and_r (allowed l (Row.abort v)) _ e) (and_r (allowed l' (Row.abort v)) _ e'))

-- undo rows of the same changes, then the same abort rows
pub taken-back-alike : {xs ys : List Change} (vs : List ℕ) (l l' : Ledger) → Forall₂ SameChange xs ys → SameOpen l l'
    → all_allowed l (map undo_of xs ++ map Row.abort vs) ≡ true → all_allowed l' (map undo_of ys ++ map Row.abort vs) ≡ true
    → SameRows l l' (map undo_of xs ++ map Row.abort vs) (map undo_of ys ++ map Row.abort vs)
taken-back-alike vs l l' Forall₂.nil s e e' = aborts-alike vs l l' s e e'
taken-back-alike vs l l' (Forall₂.cons {a = x} {b = y} c t) s e e' =
    next s (ap₂ (λ (k : ℕ) (a : ℤ). moves k (neg_ℤ a)) (sym c.cell) (sym c.amount))
    (taken-back-alike vs (after l (undo_of x)) (after l' (undo_of y)) t (same-undo l l' x y c s)
    (and_r (allowed l (undo_of x)) _ e) (and_r (allowed l' (undo_of y)) _ e'))
