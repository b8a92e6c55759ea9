-- The scope table counts right: it has as many entries as scopes are in use, and their counts add up to the open changes.
use Prim.Native.Nat.{ℕ, suc, ◌+◌}
use native.Mathlib.Omega.{arith}
use mathlib.Core.Path.{◌≡◌, refl, ap, sym, ◌∙◌}
use mathlib.Core.Bool.{Bool, true, false, cond, not, ◌&&◌, and-true, and-false}
use mathlib.Core.List.Memᴰ
use mathlib.Core.List.{List, [], ◌∷◌, map}
use lib.ListN.{length, length-map}
use lib.Dec.{eqb}
use borrow.Author.Tests.{eqb-true, eq-eqb, ne_eqb}
use Rattle.book.specs.Lists.{In, keep}
use Rattle.book.specs.Rows.{Row}
use Rattle.book.specs.Ledger.{Change, Ledger, ledger}
use Rattle.book.specs.Rules.{is_active, is_undone, is_open_change, open_changes, starts_in_use, scopes_in_use, allowed_log}
use Rattle.book.specs.Scopes.{Scope, standing, entry_of, scopes_of}
use Rattle.book.proofs.Lists.{clash, is_false, and_l, and_r, and_i, here, there, in-keep, keep-in, keep_same, keep-none}
use Rattle.book.proofs.Invariant.{Inv, Falling, same_row, falling-keep}
use Rattle.book.proofs.InvariantKept.{inv-log}
use Rattle.book.proofs.Scoped.{Started, Scoped, scoped-log}

-- as many entries as scopes in use
pub scopes-count : (l : Ledger) → length (scopes_of l) ≡ scopes_in_use l
unfolding scopes_of scopes_in_use
scopes-count l = length-map (keep (starts_in_use l) l.changes) (entry_of l)

-- ── Counting pairs both ways ──────────────────────────────────────────────────────────────────────────────────────────

module _ {A : Type 0} where
  abbrev pub sum_by : (A → ℕ) → List A → ℕ
  sum_by f [] = 0
  sum_by f (x ∷ xs) = f x + sum_by f xs

  sum-zero : (xs : List A) → sum_by (λ x. 0) xs ≡ 0
  sum-zero [] = refl
  sum-zero (x ∷ xs) = let k = sum-zero xs in omega arith

  -- one element more on the other side
  sum_more : (q : A → A → Bool) (y : A) (ys xs : List A)
      → sum_by (λ x. length (keep (q x) (y ∷ ys))) xs ≡ length (keep (λ x. q x y) xs) + sum_by (λ x. length (keep (q x) ys)) xs
  sum_more q y ys [] = refl
  sum_more q y ys (x ∷ xs) = go (q x y) (sum_more q y ys xs)
    where
      go : (t : Bool) → sum_by (λ x. length (keep (q x) (y ∷ ys))) xs ≡ length (keep (λ x. q x y) xs) + sum_by (λ x. length (keep (q x) ys)) xs
          → length (cond t (y ∷ keep (q x) ys) (keep (q x) ys)) + sum_by (λ x. length (keep (q x) (y ∷ ys))) xs
          ≡ length (cond t (x ∷ keep (λ x. q x y) xs) (keep (λ x. q x y) xs)) + (length (keep (q x) ys) + sum_by (λ x. length (keep (q x) ys)) xs)
      go true e = omega arith
      go false e = omega arith

  -- the pairs that pass the test, counted by the one and by the other
  sum-swap : (q : A → A → Bool) (xs ys : List A) → sum_by (λ x. length (keep (q x) ys)) xs ≡ sum_by (λ y. length (keep (λ x. q x y) xs)) ys
  sum-swap q xs [] = sum-zero xs
  sum-swap q xs (y ∷ ys) = let k = sum-swap q xs ys in let m = sum_more q y ys xs in omega arith

  -- where each counts for one or for none
  sum-keep : (f : A → ℕ) (p : A → Bool) (ys : List A) → ((y : A) → In y ys → f y ≡ cond (p y) 1 0) → sum_by f ys ≡ length (keep p ys)
  sum-keep f p [] h = refl
  sum-keep f p (y ∷ ys) h = go (p y) (h y here) (sum-keep f p ys (λ z m. h z (there m)))
    where
      go : (t : Bool) → f y ≡ cond t 1 0 → sum_by f ys ≡ length (keep p ys) → f y + sum_by f ys ≡ length (cond t (y ∷ keep p ys) (keep p ys))
      go true e k = omega arith
      go false e k = omega arith

-- ── Each open change is counted in one scope ──────────────────────────────────────────────────────────────────────────

-- of changes in descending order one has this row number
row-once : (xs : List Change) (s : Change) → Falling xs → In s xs → length (keep (λ x. eqb s.row x.row) xs) ≡ 1
row-once [] s f x'' = elim x'' [ ]
row-once (z ∷ xs) s f (Memᴰ.head e) =
    rw (eq-eqb s.row z.row (ap (λ (x : Change). x.row) e))
    (ap (λ ys. suc (length ys)) (keep-none _ xs (λ y m.
    let k = f.0 y m in let r = ap (λ (x : Change). x.row) e in ne_eqb s.row y.row (λ q. omega arith))))
row-once (z ∷ xs) s f (Memᴰ.tail m) = let k = f.0 s m in rw (ne_eqb s.row z.row (λ q. omega arith)) (row-once xs s f.1 m)

module _ (l : Ledger) (i : Inv l) (S : Scoped l.changes) where
  -- the changes that start the scopes in use
  abbrev starters : List Change
  starters = keep (starts_in_use l) l.changes

  in_one : (y : Change) → In y l.changes
      → length (keep (λ x. eqb y.scope x.row && not (is_undone l y)) starters) ≡ cond (is_open_change l y) 1 0
  in_one y m = go (is_undone l y) (is_active l y.holder) refl
    where
      d : Started l.changes y
      d = S.started y m

      go : (u a : Bool) → is_active l y.holder ≡ a → length (keep (λ x. eqb y.scope x.row && not u) starters) ≡ cond (a && not u) 1 0
      go true a q = ap length (keep-none _ starters (λ x n. and-false (eqb y.scope x.row))) ∙ ap (λ (t : Bool). cond t 1 0) (sym (and-false a))
      go false true q =
          let used : In d.s starters = keep-in (starts_in_use l) d.mem (and_i _ _ (eq-eqb d.s.scope d.s.row d.start) (rw d.holder q)) in
          ap length (keep_same _ _ starters (λ x n. and-true (eqb y.scope x.row) ∙ ap (λ (k : ℕ). eqb k x.row) (sym d.row))) ∙
          row-once starters d.s (falling-keep (starts_in_use l) l.changes i.falling) used
      go false false q = ap length (keep-none _ starters (λ x n. is_false _ (λ e. none x n (and_l (eqb y.scope x.row) true e))))
        where
          -- the change that starts its scope has its holder, who is not active
          none : (x : Change) → In x starters → eqb y.scope x.row ≡ true → ⊥
          none x n e =
              let k = in-keep (starts_in_use l) l.changes x n in
              let is = same_row l.changes d.s x i.falling d.mem k.0 (d.row ∙ eqb-true y.scope x.row e) in
              let holder : y.holder ≡ x.holder = sym d.holder ∙ ap (λ (z : Change). z.holder) is in
              clash (is_active l y.holder) (ap (is_active l) holder ∙ and_r (eqb x.scope x.row) _ k.1) q

  pub counts-open : sum_by (λ (s : Scope). s.count) (scopes_of l) ≡ length (open_changes l)
  unfolding scopes_of
  counts-open =
      sum-map starters ∙ sum-swap (λ x y. eqb y.scope x.row && not (is_undone l y)) starters l.changes ∙
      sum-keep _ (is_open_change l) l.changes in_one
    where
      sum-map : (xs : List Change) → sum_by (λ (s : Scope). s.count) (map (entry_of l) xs) ≡ sum_by (λ (x : Change). length (standing l x.row)) xs
      sum-map [] = refl
      sum-map (x ∷ xs) = ap (λ (n : ℕ). length (standing l x.row) + n) (sum-map xs)

-- of every allowed log: the counts of the scopes in use add up to the open changes
pub counts-log : (rs : List Row) → allowed_log rs ≡ true → sum_by (λ (s : Scope). s.count) (scopes_of (ledger rs)) ≡ length (open_changes (ledger rs))
counts-log rs e = counts-open (ledger rs) (inv-log rs e) (scoped-log rs)
