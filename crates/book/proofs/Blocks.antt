-- Lists made of blocks of one length, as the charts are of pages: a block read, a block replaced; and the first of some numbers that fails a test.
use Prim.Native.Nat.{ℕ, zero, suc, ◌+◌, ◌*◌, ◌≤◌, ◌<◌}
use native.Mathlib.Omega.{arith}
use native.Mathlib.Nat.{add-zero}
use mathlib.Core.Path.{◌≡◌, refl, ap, ap₂, sym, ◌∙◌}
use mathlib.Core.Bool.{Bool, true, false, cond}
use mathlib.Core.List.{List, [], ◌∷◌, ◌++◌, append_assoc}
use lib.ListN.{length, length-append, get_or, take, drop, take-append-drop, drop_of_length-le}
use lib.Seq.{take_at, take-append-add, drop-append-add, drop-drop}
use lib.Dec.{eqb}
use borrow.Author.Tests.{ne_eqb, eqb-true, eqb-false}
use Rattle.book.specs.Lists.{tabulate, join, first_failing}

pub tabulate-same : {A : Type 0} (n from : ℕ) (F G : ℕ → A) → ((i : ℕ) → from ≤ i → i < from + n → F i ≡ G i) → tabulate n from F ≡ tabulate n from G
tabulate-same zero from F G h = refl
tabulate-same (suc n) from F G h =
    ap₂ ◌∷◌ (h from (omega arith) (omega arith)) (tabulate-same n (suc from) F G (λ i a b. h i (omega arith) (omega arith)))

-- a list by its elements
pub listed : (xs : List ℕ) → xs ≡ tabulate (length xs) 0 (λ i. get_or xs i 0)
listed [] = refl
listed (x ∷ xs) = ap (λ (l : List ℕ). x ∷ l) (listed xs ∙ sym (shift (length xs) 0 (λ i. get_or (x ∷ xs) i 0)))
  where
    shift : (n from : ℕ) (f : ℕ → ℕ) → tabulate n (suc from) f ≡ tabulate n from (λ i. f (suc i))
    shift zero from f = refl
    shift (suc n) from f = ap (λ (l : List ℕ). f (suc from) ∷ l) (shift n (suc from) f)

-- a list by its blocks
pub blocks : (size n from : ℕ) (xs : List ℕ) → length xs ≡ size * (from + n)
    → join (tabulate n from (λ p. take size (drop (size * p) xs))) ≡ drop (size * from) xs
blocks size zero from xs h = sym (drop_of_length-le xs {i = size * from} (omega arith))
blocks size (suc n) from xs h =
    ap
    (λ (l : List ℕ). take size (drop (size * from) xs) ++ l)
    (blocks size n (suc from) xs (omega arith) ∙ ap (λ (m : ℕ). drop m xs) at ∙ sym (drop-drop size (size * from) xs)) ∙
    take-append-drop size (drop (size * from) xs)
  where
    at : size * suc from ≡ size * from + size
    at = omega arith

next : (from p : ℕ) → from + suc p ≡ suc from + p
next from p = omega arith

module _ (size : ℕ) (G : ℕ → List ℕ) (long : (q : ℕ) → length (G q) ≡ size) where
  pub blocks-long : (n from : ℕ) → length (join (tabulate n from G)) ≡ size * n
  blocks-long zero from = omega arith
  blocks-long (suc n) from =
      let k = length-append (G from) (join (tabulate n (suc from) G)) in let l = long from in let m = blocks-long n (suc from) in omega arith

  -- where block p + 1 starts
  at : (p x m : ℕ) → m ≡ size → size * suc p + x ≡ m + (size * p + x)
  at p x m e = omega arith

  -- block p is as it was put there
  pub block_at : (n from p : ℕ) → p < n → take size (drop (size * p) (join (tabulate n from G))) ≡ G (from + p)
  block_at zero from p h = absurd (omega arith)
  block_at (suc n) from zero h =
      let z : size * 0 ≡ 0 = omega arith in
      rw (z, add-zero from) (take_at (G from) (join (tabulate n (suc from) G)) size (long from))
  block_at (suc n) from (suc p) h =
      let more = join (tabulate n (suc from) G) in
      let start : size * suc p ≡ length (G from) + size * p = let l = long from in omega arith in
      rw (start, drop-append-add (G from) more (size * p), next from p) (block_at n (suc from) p (omega arith))

  -- block p is replaced
  pub block-set : (H : ℕ → List ℕ) (n from p : ℕ) → p < n → ((q : ℕ) → eqb q (from + p) ≡ false → G q ≡ H q)
      → take (size * p) (join (tabulate n from G)) ++ H (from + p) ++ drop (size * p + size) (join (tabulate n from G)) ≡ join (tabulate n from H)
  block-set H zero from p h k = absurd (omega arith)
  block-set H (suc n) from zero h k =
      ap₂ (λ (m i : ℕ). take m J ++ H (from + 0) ++ drop i J) (zero-at size) (zero-end size (length (G from)) (long from)) ∙
      ap₂
      (λ (x y : List ℕ). x ++ y)
      (ap H (add-zero from))
      (drop-append-add (G from) (join (tabulate n (suc from) G)) 0 ∙
      ap join (tabulate-same n (suc from) G H (λ i a b. k i (ne_eqb i (from + 0) (λ q. omega arith)))))
    where
      J : List ℕ
      J = G from ++ join (tabulate n (suc from) G)

      zero-at : (s : ℕ) → s * 0 ≡ 0
      zero-at s = omega arith

      zero-end : (s m : ℕ) → m ≡ s → s * 0 + s ≡ m + 0
      zero-end s m e = omega arith
  block-set H (suc n) from (suc p) h k =
      ap₂ (λ (m i : ℕ). take m J ++ H (from + suc p) ++ drop i J) (start (length (G from)) (long from)) (at p size (length (G from)) (long from)) ∙
      ap₂ (λ (x y : List ℕ). x ++ H (from + suc p) ++ y) (take-append-add (G from) R (size * p)) (drop-append-add (G from) R (size * p + size)) ∙
      ap (λ (l : List ℕ). l ++ drop (size * p + size) R) (append_assoc (G from) (take (size * p) R) (H (from + suc p))) ∙
      append_assoc (G from) (take (size * p) R ++ H (from + suc p)) (drop (size * p + size) R) ∙
      ap₂
      (λ (x y : List ℕ). x ++ y)
      (k from (ne_eqb from (from + suc p) (λ q. omega arith)))
      (ap (λ (m : ℕ). take (size * p) R ++ H m ++ drop (size * p + size) R) (next from p) ∙
      block-set H n (suc from) p (omega arith) (λ q e. k q (ap (eqb q) (next from p) ∙ e)))
    where
      R : List ℕ
      R = join (tabulate n (suc from) G)

      J : List ℕ
      J = G from ++ join (tabulate n (suc from) G)

      start : (m : ℕ) → m ≡ size → size * suc p ≡ m + size * p
      start m e = omega arith

-- ── The first number that fails a test ────────────────────────────────────────────────────────────────────────────────

-- it is at most the end
pub first-within : (n from : ℕ) (P : ℕ → Bool) → first_failing n from P ≤ from + n
first-within zero from P = omega arith
first-within (suc n) from P = go (P from) (first-within n (suc from) P)
  where
    go : (t : Bool) → first_failing n (suc from) P ≤ suc from + n → cond t (first_failing n (suc from) P) from ≤ from + suc n
    go true h = omega arith
    go false h = omega arith

-- none does
pub first-none : (n from : ℕ) (P : ℕ → Bool) → ((i : ℕ) → from ≤ i → i < from + n → P i ≡ true) → first_failing n from P ≡ from + n
first-none zero from P f = sym (add-zero from)
first-none (suc n) from P f =
    rw (f from (omega arith) (omega arith)) (first-none n (suc from) P (λ i a b. f i (omega arith) (omega arith)) ∙ sym (next from n))

-- and if none does, each passes
pub first-all : (n from : ℕ) (P : ℕ → Bool) → first_failing n from P ≡ from + n → (i : ℕ) → from ≤ i → i < from + n → P i ≡ true
first-all zero from P e i a b = absurd (omega arith)
first-all (suc n) from P e i a b = go (P from) refl e (first-all n (suc from) P)
  where
    go : (t : Bool) → P from ≡ t → cond t (first_failing n (suc from) P) from ≡ from + suc n
        → (first_failing n (suc from) P ≡ suc from + n → (j : ℕ) → suc from ≤ j → j < suc from + n → P j ≡ true) → P i ≡ true
    go true q f ih = its (eqb i from) refl
      where
        its : (t : Bool) → eqb i from ≡ t → P i ≡ true
        its true k = ap P (eqb-true i from k) ∙ q
        its false k = let ne = eqb-false i from k in ih (omega arith) i (omega arith) (omega arith)
    go false q f ih = absurd (omega arith)
