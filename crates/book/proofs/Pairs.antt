-- Two lists element by element (`Forall₂`): what is so of each pair, and what maps make of them.
use mathlib.Core.List.{List, [], ◌∷◌, map, Forall₂}
use Rattle.book.specs.Lists.{In}
use Rattle.book.proofs.Lists.{here, there}

module _ {A : Type 0} {R : A → A → Type 0} where
  -- what each pair has it has of another relation too
  pub pairs-imp : {S : A → A → Type 0} {xs ys : List A} → ((x y : A) → In x xs → In y ys → R x y → S x y) → Forall₂ R xs ys → Forall₂ S xs ys
  pairs-imp f Forall₂.nil = Forall₂.nil
  pairs-imp f (Forall₂.cons {a = x} {b = y} r t) = Forall₂.cons (f x y here here r) (pairs-imp (λ u v m n. f u v (there m) (there n)) t)

  pub pairs-map : {S : A → A → Type 0} (f g : A → A) {xs ys : List A} → ((x y : A) → R x y → S (f x) (g y)) → Forall₂ R xs ys
      → Forall₂ S (map f xs) (map g ys)
  pairs-map f g h Forall₂.nil = Forall₂.nil
  pairs-map f g h (Forall₂.cons {a = x} {b = y} r t) = Forall₂.cons (h x y r) (pairs-map f g h t)

  -- each element with itself
  pub pairs-same : (xs : List A) → ((x : A) → R x x) → Forall₂ R xs xs
  pairs-same [] h = Forall₂.nil
  pairs-same (x ∷ xs) h = Forall₂.cons (h x) (pairs-same xs h)

  -- two functions of each element
  pub pairs-maps : (f g : A → A) (xs : List A) → ((x : A) → R (f x) (g x)) → Forall₂ R (map f xs) (map g xs)
  pairs-maps f g [] h = Forall₂.nil
  pairs-maps f g (x ∷ xs) h = Forall₂.cons (h x) (pairs-maps f g xs h)
