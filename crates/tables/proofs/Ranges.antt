-- The counters stay within the arrays over a row. Assumes nothing.
use Rattle.std.proofs.Common.{◌≡◌, ℕ, suc, ◌≤◌, Bool, true, false, not, ◌||◌, eqb, ltb, List, [], ◌∷◌, length, take, refl, arith, length-take, ltb-true, is_some, Option, Some, None}
use Rattle.book.specs.Lists.{keep}
use Rattle.book.specs.Rows.{Row, begin, change, hand_over, undo, commit, abort, hand_over_all}
use Rattle.book.specs.Scopes.{Scope}
use Rattle.tables_model.specs.Visits.{InRange, is_of, with_begun, with_undo, with_ended}
use Rattle.tables_model.specs.Table.{find, grows, changed_at, scopes_changed, scopes_ended}
use Rattle.tables_model.specs.Rows.{Index, grows_by, after_end, step_by, Takes}

module _ {A : Type 0} where
  keep_one : (p : A → Bool) (x : A) (xs : List A) (b : Bool) → p x ≡ b → length (keep p xs) ≤ length xs → length (keep p (x ∷ xs)) ≤ suc (length xs)
  keep_one p x xs true e h = rw e (omega arith)
  keep_one p x xs false e h = rw e (omega arith)

  keep-length : (p : A → Bool) (xs : List A) → length (keep p xs) ≤ length xs
  keep-length p [] = omega arith
  keep-length p (x ∷ xs) = keep_one p x xs (p x) refl (keep-length p xs)

-- what is kept of the first n places
kept-few : {A : Type 0} (p : A → Bool) (n m : ℕ) (xs : List A) → n ≤ m → length (keep p (take n xs)) ≤ m
kept-few p n m xs h = omega (arith, keep-length p (take n xs), length-take n xs)

changed-few : (used n v c : ℕ) (ss : List Scope) (f : Option ℕ) → used ≤ 64 → is_some f || ltb used 64 ≡ true → (changed_at used n v c f ss).used ≤ 64
changed-few used n v c ss (Some i) h k = h
changed-few used n v c ss None h k = ltb-true _ _ k

ended-range : (x : Index) (v : ℕ) → InRange x.tables.count x.tables.used → InRange (after_end x v).tables.count (after_end x v).tables.used
unfolding with_ended scopes_ended
ended-range x v h = record {
  count = kept-few (λ a. not (is_of v a)) x.tables.count 16 x.tables.active h.count;
  used = kept-few (λ s. not (eqb s.holder v)) x.tables.used 64 x.scopes h.used;
}

pub step_range : (x : Index) (n before : ℕ) (r : Row) → InRange x.tables.count x.tables.used → Takes x r → InRange (step_by x n before r).tables.count (step_by x n before r).tables.used
unfolding step_by with_begun with_undo scopes_changed grows_by
step_range x n before (begin v) h k = record { count = k.room; used = h.used }
step_range x n before (change v c a) h k = record {
  count = h.count;
  used = changed-few x.tables.used n v c x.scopes (find (grows v c) x.tables.used x.scopes) h.used k;
}
step_range x n before (hand_over g r c) h k = h
step_range x n before (undo v c m a) h k = record { count = h.count; used = h.used }
step_range x n before (commit v) h k = ended-range x v h
step_range x n before (abort v) h k = ended-range x v h
step_range x n before (hand_over_all g r) h k = h
