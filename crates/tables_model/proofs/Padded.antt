-- A list in the first places of an array (`pad_to`): looking at it, putting an element behind the last, and replacing elements.
use Prim.Native.Nat.{ℕ, zero, suc, ◌-◌, ◌≤◌, ◌<◌}
use native.Mathlib.Omega.{arith}
use mathlib.Core.Path.{◌≡◌, refl, ap, sym, ◌∙◌}
use mathlib.Core.Bool.{Bool, true, false, cond}
use mathlib.Core.List.{List, [], ◌∷◌, ◌++◌, append_assoc, map, reverse, reverse-cons}
use lib.ListN.{length, take, drop, set, get_or, replicate, length-append, length-set, length-reverse, get_or-append}
use lib.Seq.{take_at, drop_at, set-append_seam, set-append_left}
use Rattle.book.specs.Lists.{In, keep, pad_to}
use Rattle.book.proofs.Lists.{here, there}
use Rattle.tables_model.proofs.Reversed.{keep-reverse}

module _ {A : Type 0} where
  -- ── The places in use ─────────────────────────────────────────────────────────────────────────────────────────────────

  pub take-pad : (n : ℕ) (d : A) (xs : List A) → take (length xs) (pad_to n d (reverse xs)) ≡ reverse xs
  take-pad n d xs = take_at (reverse xs) (replicate (n - length (reverse xs)) d) (length xs) (length-reverse xs)

  pub drop-pad : (n : ℕ) (d : A) (xs : List A) → drop (length xs) (pad_to n d (reverse xs)) ≡ replicate (n - length (reverse xs)) d
  drop-pad n d xs = drop_at (reverse xs) (replicate (n - length (reverse xs)) d) (length xs) (length-reverse xs)

  pub get_or-pad : (n : ℕ) (d e : A) (xs : List A) (i : ℕ) → i < length xs → get_or (pad_to n d xs) i e ≡ get_or xs i e
  get_or-pad n d e xs i lt = get_or-append xs (replicate (n - length xs) d) e i lt

  pub get_or-in : (d : A) (xs : List A) (i : ℕ) → i < length xs → In (get_or xs i d) xs
  get_or-in d [] i lt = absurd (omega arith)
  get_or-in d (x ∷ xs) zero lt = here
  get_or-in d (x ∷ xs) (suc i) lt = there (get_or-in d xs i (omega arith))

  -- ── Behind the last ───────────────────────────────────────────────────────────────────────────────────────────────────

  set-end : (n : ℕ) (d a : A) (xs : List A) → length xs < n → set (pad_to n d xs) (length xs) a ≡ pad_to n d (xs ++ (a ∷ []))
  set-end n d a xs lt =
      let one : n - length xs ≡ suc (n - length (xs ++ (a ∷ []))) = omega (arith, length-append xs (a ∷ [])) in
      ap (λ (k : ℕ). set (xs ++ replicate k d) (length xs) a) one ∙
      set-append_seam xs d (replicate (n - length (xs ++ (a ∷ []))) d) a ∙
      sym (append_assoc xs (a ∷ []) (replicate (n - length (xs ++ (a ∷ []))) d))

  pub push-pad : (n : ℕ) (d a : A) (xs : List A) → length xs < n → set (pad_to n d (reverse xs)) (length xs) a ≡ pad_to n d (reverse (a ∷ xs))
  push-pad n d a xs lt =
      ap (λ (k : ℕ). set (pad_to n d (reverse xs)) k a) (sym (length-reverse xs)) ∙
      set-end n d a (reverse xs) (rw (length-reverse xs) lt) ∙
      ap (pad_to n d) (sym (reverse-cons a xs))

  -- ── Replacing ─────────────────────────────────────────────────────────────────────────────────────────────────────────

  -- as many elements are replaced, one by one
  pub map-pad : (n : ℕ) (d : A) (xs ys : List A) → length xs ≡ length ys → ys ++ replicate (n - length xs) d ≡ pad_to n d ys
  map-pad n d xs ys e = ap (λ (k : ℕ). ys ++ replicate (n - k) d) e

  -- the elements that pass the test are replaced
  abbrev pub replaced : (A → Bool) → (A → A) → A → A
  replaced p f s = cond (p s) (f s) s

  replaced-none : (p : A → Bool) (f : A → A) (xs : List A) → keep p xs ≡ [] → map (replaced p f) xs ≡ xs
  replaced-none p f [] e = refl
  replaced-none p f (x ∷ xs) e = go (p x) e (replaced-none p f xs)
    where
      go : (t : Bool) → cond t (x ∷ keep p xs) (keep p xs) ≡ [] → (keep p xs ≡ [] → map (replaced p f) xs ≡ xs) → cond t (f x) x ∷ map (replaced p f) xs ≡ x ∷ xs
      go true q ih = let z : ◌≡◌ {A = ℕ} 0 1 = cc in absurd (omega arith)
      go false q ih = ap (λ (ys : List A). x ∷ ys) (ih q)

  none_kept : (xs : List A) → length xs ≤ 0 → xs ≡ []
  none_kept [] h = refl
  none_kept (x ∷ xs) h = absurd (omega arith)

  some-kept : (p : A → Bool) (d : A) (xs : List A) (i : ℕ) → i < length xs → p (get_or xs i d) ≡ true → 1 ≤ length (keep p xs)
  some-kept p d [] i lt e = absurd (omega arith)
  some-kept p d (x ∷ xs) zero lt e = rw e (omega arith)
  some-kept p d (x ∷ xs) (suc i) lt e = go (p x) (some-kept p d xs i (omega arith) e)
    where
      go : (t : Bool) → 1 ≤ length (keep p xs) → 1 ≤ length (cond t (x ∷ keep p xs) (keep p xs))
      go true h = omega arith
      go false h = h

  -- of the one element that passes the test the place is known
  pub set-replaced : (p : A → Bool) (f : A → A) (d : A) (xs : List A) (i : ℕ) → length (keep p xs) ≤ 1 → i < length xs → p (get_or xs i d) ≡ true
      → set xs i (f (get_or xs i d)) ≡ map (replaced p f) xs
  set-replaced p f d [] i one lt e = absurd (omega arith)
  set-replaced p f d (x ∷ xs) zero one lt e =
      let rest : length (x ∷ keep p xs) ≤ 1 = rw e at one in
      rw (e, replaced-none p f xs (none_kept (keep p xs) (omega arith)))
  set-replaced p f d (x ∷ xs) (suc i) one lt e = go (p x) one (set-replaced p f d xs i) (some-kept p d xs i (omega arith) e)
    where
      go : (t : Bool) → length (cond t (x ∷ keep p xs) (keep p xs)) ≤ 1
          → (length (keep p xs) ≤ 1 → i < length xs → p (get_or xs i d) ≡ true → set xs i (f (get_or xs i d)) ≡ map (replaced p f) xs)
          → 1 ≤ length (keep p xs) → x ∷ set xs i (f (get_or xs i d)) ≡ cond t (f x) x ∷ map (replaced p f) xs
      go true h ih some = absurd (omega arith)
      go false h ih some = ap (λ (ys : List A). x ∷ ys) (ih h (omega arith) e)

  pub set-pad : (n : ℕ) (p : A → Bool) (f : A → A) (d e : A) (xs : List A) (i : ℕ) → length (keep p xs) ≤ 1 → i < length xs → p (get_or xs i e) ≡ true
      → set (pad_to n d xs) i (f (get_or xs i e)) ≡ pad_to n d (map (replaced p f) xs)
  set-pad n p f d e xs i one lt h =
      let is = set-replaced p f e xs i one lt h in
      set-append_left xs (replicate (n - length xs) d) i (f (get_or xs i e)) lt ∙
      ap (λ (ys : List A). ys ++ replicate (n - length xs) d) is ∙
      map-pad n d xs (map (replaced p f) xs) (sym (length-set xs i (f (get_or xs i e))) ∙ ap length is)

  -- at most one passes, whichever end comes first
  pub one-reverse : (p : A → Bool) (xs : List A) → length (keep p xs) ≤ 1 → length (keep p (reverse xs)) ≤ 1
  one-reverse p xs h = rw (keep-reverse p xs, length-reverse (keep p xs)) h
