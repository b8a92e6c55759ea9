-- Lists and tests that the definitions use. A test is a `Bool`; `keep` is the sublist whose elements pass one.
use Rattle.std.specs.Prelude.{ℕ, zero, suc, ◌-◌, length, replicate, Bool, true, false, cond, not, ◌&&◌, ◌||◌, ℤ, pos, negsuc, ◌+ℤ◌, eqb}
use mathlib.Core.List.{List, [], ◌∷◌, ◌++◌, Memᴰ}

module _ {A : Type 0} where
  -- the elements that pass the test, in their order
  abbrev pub keep : (A → Bool) → List A → List A
  keep p [] = []
  keep p (x ∷ xs) = let r = keep p xs in cond (p x) (x ∷ r) r

  -- some element passes the test
  abbrev pub any : (A → Bool) → List A → Bool
  any p [] = false
  any p (x ∷ xs) = p x || any p xs

  -- the list `xs` stands at the start of `ys`
  abbrev pub StartsWith : List A → List A → Type 0
  StartsWith xs ys = (rest : List A) × Path (List A) ys (xs ++ rest)

  -- an element of the list
  abbrev pub In : A → List A → Type 0
  In x xs = Memᴰ x xs

  -- `f` applied n times
  abbrev pub times : ℕ → (A → A) → A → A
  times zero f a = a
  times (suc n) f a = times n f (f a)

  -- the list, then the filler up to the length n
  abbrev pub pad_to : ℕ → A → List A → List A
  pad_to n d xs = xs ++ replicate (n - length xs) d

  -- `f` at n numbers from `from` on
  abbrev pub tabulate : ℕ → ℕ → (ℕ → A) → List A
  tabulate zero from f = []
  tabulate (suc n) from f = f from ∷ tabulate n (suc from) f

  -- the lists one after another
  abbrev pub join : List (List A) → List A
  join [] = []
  join (x ∷ xs) = x ++ join xs

-- `f` over the list, from its first element on
abbrev pub foldl : {A B : Type 0} → (B → A → B) → B → List A → B
foldl f b [] = b
foldl f b (x ∷ xs) = foldl f (f b x) xs

-- a number that stands in the list
abbrev pub member : ℕ → List ℕ → Bool
member n xs = any (eqb n) xs

-- the list without a number
abbrev pub without : ℕ → List ℕ → List ℕ
without n xs = keep (λ m. not (eqb n m)) xs

-- the sum of the list
abbrev pub total : List ℤ → ℤ
total [] = pos 0
total (x ∷ xs) = x +ℤ total xs

-- equality of whole numbers as a test
abbrev pub eq_z : ℤ → ℤ → Bool
eq_z (pos a) (pos b) = eqb a b
eq_z (pos a) (negsuc b) = false
eq_z (negsuc a) (pos b) = false
eq_z (negsuc a) (negsuc b) = eqb a b

-- equality of lists of bytes as a test
abbrev pub eq_bytes : List ℕ → List ℕ → Bool
eq_bytes [] [] = true
eq_bytes [] (y ∷ ys) = false
eq_bytes (x ∷ xs) [] = false
eq_bytes (x ∷ xs) (y ∷ ys) = eqb x y && eq_bytes xs ys

-- the first of n numbers from `from` on that fails the test, or `from + n` where none does
abbrev pub first_failing : ℕ → ℕ → (ℕ → Bool) → ℕ
first_failing zero from p = from
first_failing (suc n) from p = let rest = first_failing n (suc from) p in cond (p from) rest from
