-- Laws of the lists and tests of `specs/Lists.antt`: conjunctions, members, sublists by a test, folds, and lists of numbers.
use Prim.Native.Nat.{ℕ, ◌≤◌, ◌<◌}
use native.Mathlib.Omega.{arith}
use mathlib.Core.Path.{◌≡◌, refl, ap, ap₂, sym, ◌∙◌}
use mathlib.Core.Bool.{Bool, true, false, cond, not, ◌&&◌, ◌||◌, and_comm, and-false}
use mathlib.Core.List.Memᴰ
use mathlib.Core.List.{List, [], ◌∷◌, ◌++◌, map, append_assoc, append-nil}
use mathlib.Core.Logic.{◌⊎◌, inl, inr}
use lib.ListN.{length}
use lib.IntN.{ℤ, pos, negsuc}
use lib.Dec.{eqb}
use borrow.Author.Tests.{eqb-true, eq-eqb, ne_eqb, eqb-false}
use Rattle.book.specs.Lists.{In, keep, any, foldl, StartsWith, member, without, eq_z}

-- ── Tests ─────────────────────────────────────────────────────────────────────────────────────────────────────────────

-- one test has not two answers
pub clash {ℓ} : {X : Type ℓ} (a : Bool) → a ≡ true → a ≡ false → X
clash a p q = let z : ◌≡◌ {A = ℕ} 0 1 = cc in absurd (omega arith)

pub is_false : (t : Bool) → (t ≡ true → ⊥) → t ≡ false
is_false true h = absurd (h refl)
is_false false h = refl

pub not_is : (a : Bool) → not a ≡ true → a ≡ false
not_is true e = sym e
not_is false e = refl

pub and_l : (a b : Bool) → (a && b) ≡ true → a ≡ true
and_l true b e = refl
and_l false b e = e

pub and_r : (a b : Bool) → (a && b) ≡ true → b ≡ true
and_r true b e = e
and_r false b e = clash false e refl

pub and_i : (a b : Bool) → a ≡ true → b ≡ true → (a && b) ≡ true
and_i true b p q = q
and_i false b p q = p

pub or_l : (a b : Bool) → a ≡ true → (a || b) ≡ true
or_l true b e = refl
or_l false b e = clash false e refl

pub or_r : (a b : Bool) → b ≡ true → (a || b) ≡ true
or_r true b e = refl
or_r false b e = e

-- neither of two
pub not-or-l : (a b : Bool) → not (a || b) ≡ true → not a ≡ true
not-or-l true b e = e
not-or-l false b e = refl

pub not-or-r : (a b : Bool) → not (a || b) ≡ true → not b ≡ true
not-or-r true b e = clash false e refl
not-or-r false b e = e

pub and-not-or : (p q r : Bool) → (p && not (q || r)) ≡ (p && not r && not q)
and-not-or true true true = refl
and-not-or true true false = refl
and-not-or true false true = refl
and-not-or true false false = refl
and-not-or false q r = refl

pub eqb-sym : (a b : ℕ) → eqb a b ≡ eqb b a
eqb-sym a b = go (eqb a b) refl
  where
    go : (t : Bool) → eqb a b ≡ t → eqb a b ≡ eqb b a
    go true e = e ∙ sym (eq-eqb b a (sym (eqb-true a b e)))
    go false e = e ∙ sym (ne_eqb b a (λ q. eqb-false a b e (sym q)))

pub eq_z-refl : (a : ℤ) → eq_z a a ≡ true
eq_z-refl (pos a) = eq-eqb a a refl
eq_z-refl (negsuc a) = eq-eqb a a refl

pub eq_z-true : (a b : ℤ) → eq_z a b ≡ true → a ≡ b
eq_z-true (pos a) (pos b) e = ap pos (eqb-true a b e)
eq_z-true (pos a) (negsuc b) e = clash false e refl
eq_z-true (negsuc a) (pos b) e = clash false e refl
eq_z-true (negsuc a) (negsuc b) e = ap negsuc (eqb-true a b e)

-- ── Folds and first parts ─────────────────────────────────────────────────────────────────────────────────────────────

pub foldl-append : {A B : Type 0} (f : B → A → B) (b : B) (xs ys : List A) → foldl f b (xs ++ ys) ≡ foldl f (foldl f b xs) ys
foldl-append f b [] ys = refl
foldl-append f b (x ∷ xs) ys = foldl-append f (f b x) xs ys

module _ {A : Type 0} where
  pub starts-refl : (xs : List A) → StartsWith xs xs
  starts-refl xs = ([], sym (append-nil xs))

  pub starts-append : (xs ys : List A) → StartsWith xs (xs ++ ys)
  starts-append xs ys = (ys, refl)

  pub starts-trans : (xs ys zs : List A) → StartsWith xs ys → StartsWith ys zs → StartsWith xs zs
  starts-trans xs ys zs p q = (p.0 ++ q.0, q.1 ∙ ap (λ (l : List A). l ++ q.0) p.1 ∙ append_assoc xs p.0 q.0)

-- ── Members, and the elements that pass a test ────────────────────────────────────────────────────────────────────────

module _ {A : Type 0} where
  pub here : {x : A} {xs : List A} → In x (x ∷ xs)
  here = Memᴰ.head refl

  pub there : {x y : A} {xs : List A} → In x xs → In x (y ∷ xs)
  there m = Memᴰ.tail m

  -- what holds of x and of each of xs holds of each of x ∷ xs
  pub in-cons {κ} : {P : A → Type κ} {x : A} {xs : List A} → P x → ((y : A) → In y xs → P y) → (y : A) → In y (x ∷ xs) → P y
  in-cons {P = P} {x = x} {xs = xs} a f y m = go (Memᴰ.cases_cons m)
    where
      go : (y ≡ x) ⊎ In y xs → P y
      go (inl e) = rw e a
      go (inr k) = f y k

  pub in-keep : (p : A → Bool) (xs : List A) (y : A) → In y (keep p xs) → In y xs × (p y ≡ true)
  in-keep p [] y m = absurd (Memᴰ.not-nil m)
  in-keep p (x ∷ xs) y m = go (p x) refl m (in-keep p xs y)
    where
      go : (t : Bool) → p x ≡ t → In y (cond t (x ∷ keep p xs) (keep p xs)) → (In y (keep p xs) → In y xs × (p y ≡ true))
          → In y (x ∷ xs) × (p y ≡ true)
      go true e k ih = in-cons
          {P = λ (z : A). (In z (keep p xs) → In z xs × (p z ≡ true)) → In z (x ∷ xs) × (p z ≡ true)}
          (λ h. (here, e))
          (λ z n h. let r = h n in (there r.0, r.1))
          y
          k
          ih
      go false e k ih = let r = ih k in (there r.0, r.1)

  pub keep-in : (p : A → Bool) {y : A} {xs : List A} → In y xs → p y ≡ true → In y (keep p xs)
  keep-in p {y} (Memᴰ.head {x = x} {xs = xs} e) h = rw (← e, h) here
  keep-in p {y} (Memᴰ.tail {x = x} {xs = xs} m) h = go (p x) (keep-in p m h)
    where
      go : (t : Bool) → In y (keep p xs) → In y (cond t (x ∷ keep p xs) (keep p xs))
      go true k = there k
      go false k = k

  pub keep_same : (p q : A → Bool) (xs : List A) → ((x : A) → In x xs → p x ≡ q x) → keep p xs ≡ keep q xs
  keep_same p q [] h = refl
  keep_same p q (x ∷ xs) h = rw (h x here, keep_same p q xs (λ y m. h y (there m)))

  pub keep_all : (p : A → Bool) (xs : List A) → ((x : A) → In x xs → p x ≡ true) → keep p xs ≡ xs
  keep_all p [] h = refl
  keep_all p (x ∷ xs) h = rw (h x here, keep_all p xs (λ y m. h y (there m)))

  pub keep-none : (p : A → Bool) (xs : List A) → ((x : A) → In x xs → p x ≡ false) → keep p xs ≡ []
  keep-none p [] h = refl
  keep-none p (x ∷ xs) h = rw (h x here, keep-none p xs (λ y m. h y (there m)))

  pub keep-keep : (p q : A → Bool) (xs : List A) → keep p (keep q xs) ≡ keep (λ x. q x && p x) xs
  keep-keep p q [] = refl
  keep-keep p q (x ∷ xs) = go (q x) (p x) refl (keep-keep p q xs)
    where
      go : (s t : Bool) → p x ≡ t → keep p (keep q xs) ≡ keep (λ y. q y && p y) xs
          → keep p (cond s (x ∷ keep q xs) (keep q xs)) ≡ cond (s && t) (x ∷ keep (λ y. q y && p y) xs) (keep (λ y. q y && p y) xs)
      go true true e h = rw (e, h)
      go true false e h = rw (e, h)
      go false t e h = h

  pub keep_append : (p : A → Bool) (xs ys : List A) → keep p (xs ++ ys) ≡ keep p xs ++ keep p ys
  keep_append p [] ys = refl
  keep_append p (x ∷ xs) ys = rw (keep_append p xs ys) (go (p x))
    where
      go : (t : Bool) → cond t (x ∷ (keep p xs ++ keep p ys)) (keep p xs ++ keep p ys) ≡ cond t (x ∷ keep p xs) (keep p xs) ++ keep p ys
      go true = refl
      go false = refl

  -- two tests, one after the other, in either order
  pub keep-swap : (p q : A → Bool) (xs : List A) → keep p (keep q xs) ≡ keep q (keep p xs)
  keep-swap p q xs = keep-keep p q xs ∙ keep_same _ _ xs (λ x m. and_comm (q x) (p x)) ∙ sym (keep-keep q p xs)

  pub any_false : (p : A → Bool) (xs : List A) → any p xs ≡ false → (x : A) → In x xs → p x ≡ false
  any_false p [] e = λ x m. absurd (Memᴰ.not-nil m)
  any_false p (y ∷ xs) e = go (p y) refl e (any_false p xs)
    where
      go : (t : Bool) → p y ≡ t → (t || any p xs) ≡ false → (any p xs ≡ false → (x : A) → In x xs → p x ≡ false) → (x : A) → In x (y ∷ xs)
          → p x ≡ false
      go true q k ih = clash true refl k
      go false q k ih = in-cons q (ih k)

  -- none passes exactly when none is kept
  pub any_none : (p : A → Bool) (xs : List A) → keep p xs ≡ [] → any p xs ≡ false
  any_none p [] e = refl
  any_none p (x ∷ xs) e = go (p x) e (any_none p xs)
    where
      go : (t : Bool) → cond t (x ∷ keep p xs) (keep p xs) ≡ [] → (keep p xs ≡ [] → any p xs ≡ false) → (t || any p xs) ≡ false
      go true q ih = let z : ◌≡◌ {A = ℕ} 0 1 = cc in absurd (omega arith)
      go false q ih = ih q

  pub any-in : (p : A → Bool) {x : A} {xs : List A} → In x xs → p x ≡ true → any p xs ≡ true
  any-in p {x} (Memᴰ.head {x = y} {xs = xs} e) h = rw (← e, h)
  any-in p {x} (Memᴰ.tail {x = y} {xs = xs} m) h = or_r (p y) (any p xs) (any-in p m h)

  pub any_some : (p : A → Bool) (xs : List A) → any p xs ≡ true → (x : A) × In x xs × (p x ≡ true)
  any_some p [] e = clash false e refl
  any_some p (x ∷ xs) e = go (p x) refl e (any_some p xs)
    where
      go : (t : Bool) → p x ≡ t → (t || any p xs) ≡ true → (any p xs ≡ true → (y : A) × In y xs × (p y ≡ true)) → (y : A) × In y (x ∷ xs) × (p y ≡ true)
      go true q k ih = (x, here, q)
      go false q k ih = let r = ih k in (r.0, there r.1, r.2)

  -- what a stronger test keeps is no longer
  pub length-keep : (p q : A → Bool) (xs : List A) → ((x : A) → In x xs → p x ≡ true → q x ≡ true) → length (keep p xs) ≤ length (keep q xs)
  length-keep p q [] h = omega arith
  length-keep p q (x ∷ xs) h = go (p x) (q x) (h x here) (length-keep p q xs (λ y m. h y (there m)))
    where
      go : (s t : Bool) → (s ≡ true → t ≡ true) → length (keep p xs) ≤ length (keep q xs)
          → length (cond s (x ∷ keep p xs) (keep p xs)) ≤ length (cond t (x ∷ keep q xs) (keep q xs))
      go true true f k = omega arith
      go true false f k = clash true refl (sym (f refl))
      go false true f k = omega arith
      go false false f k = omega arith

  -- and is shorter if it leaves an element out
  pub length-keep-less : (p q : A → Bool) (xs : List A) (y : A) → ((x : A) → In x xs → p x ≡ true → q x ≡ true) → In y xs → p y ≡ false → q y ≡ true
      → length (keep p xs) < length (keep q xs)
  length-keep-less p q [] y h x4 a b = elim x4 [ ]
  length-keep-less p q (x ∷ xs) y h (Memᴰ.head e) a b =
      rw (← e, a, b) (let k = length-keep p q xs (λ z m. h z (there m)) in omega arith)
  length-keep-less p q (x ∷ xs) y h (Memᴰ.tail m) a b = go (p x) (q x) (h x here) (length-keep-less p q xs y (λ z n. h z (there n)) m a b)
    where
      go : (s t : Bool) → (s ≡ true → t ≡ true) → length (keep p xs) < length (keep q xs)
          → length (cond s (x ∷ keep p xs) (keep p xs)) < length (cond t (x ∷ keep q xs) (keep q xs))
      go true true f k = omega arith
      go true false f k = clash true refl (sym (f refl))
      go false true f k = omega arith
      go false false f k = omega arith

-- ── Maps ──────────────────────────────────────────────────────────────────────────────────────────────────────────────

pub map-map : {A B C : Type 0} (f : B → C) (g : A → B) (xs : List A) → map f (map g xs) ≡ map (λ x. f (g x)) xs
map-map f g [] = refl
map-map f g (x ∷ xs) = ap (λ ys. f (g x) ∷ ys) (map-map f g xs)

pub map_same : {A B : Type 0} (f g : A → B) (xs : List A) → ((x : A) → In x xs → f x ≡ g x) → map f xs ≡ map g xs
map_same f g [] h = refl
map_same f g (x ∷ xs) h = ap₂ ◌∷◌ (h x here) (map_same f g xs (λ y m. h y (there m)))

pub keep-map : {A B : Type 0} (p : B → Bool) (f : A → B) (xs : List A) → keep p (map f xs) ≡ map f (keep (λ x. p (f x)) xs)
keep-map p f [] = refl
keep-map p f (x ∷ xs) = go (p (f x)) (keep-map p f xs)
  where
    go : (t : Bool) → keep p (map f xs) ≡ map f (keep (λ y. p (f y)) xs)
        → cond t (f x ∷ keep p (map f xs)) (keep p (map f xs)) ≡ map f (cond t (x ∷ keep (λ y. p (f y)) xs) (keep (λ y. p (f y)) xs))
    go true e = ap (λ ys. f x ∷ ys) e
    go false e = e

-- ── Lists of numbers, by the test `member` ────────────────────────────────────────────────────────────────────────────

pub member-keep : (p : ℕ → Bool) (u : ℕ) (xs : List ℕ) → member u (keep p xs) ≡ (p u && member u xs)
member-keep p u [] = sym (and-false (p u))
member-keep p u (x ∷ xs) = go (p x) refl (eqb u x) refl (member-keep p u xs)
  where
    go : (t : Bool) → p x ≡ t → (s : Bool) → eqb u x ≡ s → member u (keep p xs) ≡ (p u && member u xs)
        → member u (cond t (x ∷ keep p xs) (keep p xs)) ≡ (p u && (s || member u xs))
    go true e true q ih = let is : p u ≡ true = ap p (eqb-true u x q) ∙ e in rw (q, is)
    go true e false q ih = rw q ih
    go false e true q ih = let is : p u ≡ false = ap p (eqb-true u x q) ∙ e in rw (ih, is)
    go false e false q ih = ih

-- who stays was there, and is not the one that goes
pub stays : (u v : ℕ) (xs : List ℕ) → member u (without v xs) ≡ true → (eqb v u ≡ false) × (member u xs ≡ true)
stays u v xs h = let k = rw (member-keep (λ m. not (eqb v m)) u xs) at h in (not_is _ (and_l _ (member u xs) k), and_r (not (eqb v u)) _ k)

pub stays_out : (u v : ℕ) (xs : List ℕ) → member u xs ≡ false → member u (without v xs) ≡ false
stays_out u v xs h = is_false _ (λ e. clash _ (stays u v xs e).1 h)

pub stays-in : (u v : ℕ) (xs : List ℕ) → eqb v u ≡ false → member u (without v xs) ≡ member u xs
stays-in u v xs h = rw (member-keep (λ m. not (eqb v m)) u xs, h)

pub goes : (v : ℕ) (xs : List ℕ) → member v (without v xs) ≡ false
goes v xs = is_false _ (λ e. clash _ (eq-eqb v v refl) (stays v v xs e).0)

-- a member, by the test and by the type
pub member-in : (v : ℕ) (xs : List ℕ) → In v xs → member v xs ≡ true
member-in v [] x' = elim x' [ ]
member-in v (x ∷ xs) (Memᴰ.head e) = or_l (eqb v x) (member v xs) (eq-eqb v x e)
member-in v (x ∷ xs) (Memᴰ.tail m) = or_r (eqb v x) (member v xs) (member-in v xs m)

pub length-without-le : (v : ℕ) (xs : List ℕ) → length (without v xs) ≤ length xs
length-without-le v [] = omega arith
length-without-le v (x ∷ xs) = go (not (eqb v x)) (length-without-le v xs)
  where
    go : (t : Bool) → length (without v xs) ≤ length xs → length (cond t (x ∷ without v xs) (without v xs)) ≤ length (x ∷ xs)
    go true k = omega arith
    go false k = omega arith

pub length_without : (v : ℕ) (xs : List ℕ) → member v xs ≡ true → length (without v xs) < length xs
length_without v [] h = clash false h refl
length_without v (x ∷ xs) h = go (eqb v x) refl h (length_without v xs) (length-without-le v xs)
  where
    go : (t : Bool) → eqb v x ≡ t → (t || member v xs) ≡ true → (member v xs ≡ true → length (without v xs) < length xs)
        → length (without v xs) ≤ length xs
        → length (cond (not t) (x ∷ without v xs) (without v xs)) < length (x ∷ xs)
    go true e k ih le = omega arith
    go false e k ih le = let a = ih k in omega arith
