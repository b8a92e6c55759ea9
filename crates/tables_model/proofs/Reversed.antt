-- The ledger's lists have the newest first, the tables the oldest: what `reverse` keeps.
use Prim.Native.Nat.{◌+◌}
use native.Mathlib.Omega.{arith}
use mathlib.Core.Path.{◌≡◌, refl, ◌∙◌}
use mathlib.Core.Bool.{Bool, true, false, cond, ◌||◌, or-false}
use mathlib.Core.Logic.{◌⊎◌, inl, inr}
use mathlib.Core.List.Memᴰ
use mathlib.Core.List.{List, [], ◌∷◌, map, reverse, reverse_aux}
use Rattle.book.specs.Lists.{In, keep, any}
use Rattle.book.specs.Scopes.{Scope}
use Rattle.book.proofs.Lists.{here, there}
use Rattle.tables_model.specs.Table.{count_all}

module _ {A : Type 0} where
  keep-aux : (p : A → Bool) (xs ys : List A) → keep p (reverse_aux xs ys) ≡ reverse_aux (keep p xs) (keep p ys)
  keep-aux p [] ys = refl
  keep-aux p (x ∷ xs) ys = go (p x) (keep-aux p xs (x ∷ ys))
    where
      go : (t : Bool) → keep p (reverse_aux xs (x ∷ ys)) ≡ reverse_aux (keep p xs) (cond t (x ∷ keep p ys) (keep p ys))
          → keep p (reverse_aux xs (x ∷ ys)) ≡ reverse_aux (cond t (x ∷ keep p xs) (keep p xs)) (keep p ys)
      go true e = e
      go false e = e

  pub keep-reverse : (p : A → Bool) (xs : List A) → keep p (reverse xs) ≡ reverse (keep p xs)
  keep-reverse p xs = keep-aux p xs []

  any-aux : (p : A → Bool) (xs ys : List A) → any p (reverse_aux xs ys) ≡ (any p xs || any p ys)
  any-aux p [] ys = refl
  any-aux p (x ∷ xs) ys = any-aux p xs (x ∷ ys) ∙ bools (p x) (any p xs) (any p ys)
    where
      bools : (a b c : Bool) → (b || (a || c)) ≡ ((a || b) || c)
      bools true true c = refl
      bools true false c = refl
      bools false b c = refl

  pub any-reverse : (p : A → Bool) (xs : List A) → any p (reverse xs) ≡ any p xs
  any-reverse p xs = any-aux p xs [] ∙ or-false (any p xs)

  in-aux : (y : A) (xs ys : List A) → In y (reverse_aux xs ys) → In y xs ⊎ In y ys
  in-aux y [] ys m = inr m
  in-aux y (x ∷ xs) ys m = go (in-aux y xs (x ∷ ys) m)
    where
      first : (y ≡ x) ⊎ In y ys → In y (x ∷ xs) ⊎ In y ys
      first (inl e) = inl (rw e here)
      first (inr n) = inr n

      go : In y xs ⊎ In y (x ∷ ys) → In y (x ∷ xs) ⊎ In y ys
      go (inl n) = inl (there n)
      go (inr n) = first (Memᴰ.cases_cons n)

  pub of_reverse : (y : A) (xs : List A) → In y (reverse xs) → In y xs
  of_reverse y xs m = go (in-aux y xs [] m)
    where
      go : In y xs ⊎ In y [] → In y xs
      go (inl n) = n
      go (inr n) = absurd (Memᴰ.not-nil n)

  aux-in : (y : A) (xs ys : List A) → In y xs ⊎ In y ys → In y (reverse_aux xs ys)
  aux-in y [] ys (inl m) = absurd (Memᴰ.not-nil m)
  aux-in y [] ys (inr m) = m
  aux-in y (x ∷ xs) ys (inl m) = aux-in y xs (x ∷ ys) (go (Memᴰ.cases_cons m))
    where
      go : (y ≡ x) ⊎ In y xs → In y xs ⊎ In y (x ∷ ys)
      go (inl e) = inr (rw e here)
      go (inr n) = inl n
  aux-in y (x ∷ xs) ys (inr m) = aux-in y xs (x ∷ ys) (inr (there m))

  pub in-reverse : (y : A) (xs : List A) → In y xs → In y (reverse xs)
  in-reverse y xs m = aux-in y xs [] (inl m)

map-aux : {A B : Type 0} (f : A → B) (xs ys : List A) → map f (reverse_aux xs ys) ≡ reverse_aux (map f xs) (map f ys)
map-aux f [] ys = refl
map-aux f (x ∷ xs) ys = map-aux f xs (x ∷ ys)

pub map-reverse : {A B : Type 0} (f : A → B) (xs : List A) → map f (reverse xs) ≡ reverse (map f xs)
map-reverse f xs = map-aux f xs []

count-aux : (xs ys : List Scope) → count_all (reverse_aux xs ys) ≡ count_all xs + count_all ys
count-aux [] ys = omega arith
count-aux (x ∷ xs) ys = omega (arith, count-aux xs (x ∷ ys))

pub count-reverse : (xs : List Scope) → count_all (reverse xs) ≡ count_all xs
count-reverse xs = omega (arith, count-aux xs [])
