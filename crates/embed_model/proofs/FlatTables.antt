-- Active visits and scope entries as the numbers of the flat tables (crate `tables_model`), and read again.
use Prim.Native.Nat.{ℕ, zero, suc, ◌+◌, ◌*◌, ◌%◌, ◌<◌}
use native.Mathlib.Omega.{arith}
use mathlib.Core.Path.{◌≡◌, refl, ap, ap₂, sym, ◌∙◌}
use mathlib.Core.Bool.{Bool, true, false, not}
use mathlib.Core.List.{List, [], ◌∷◌, ◌++◌, map}
use lib.ListN.{length, length-append}
use lib.Dec.{eqb}
use Rattle.book.specs.Lists.{In, tabulate, join}
use Rattle.book.specs.Limits.{active_limit, scope_limit}
use Rattle.book.specs.Scopes.{Scope}
use Rattle.book.proofs.Lists.{here, there}
use Rattle.book.proofs.Blocks.{tabulate-same}
use Rattle.tables_model.specs.declared.Active.{Active}
use Rattle.tables_model.specs.Layout.{visits_length, active_at, actives, flat_length, field_at, entry_at, entries}
use Rattle.tables_model.specs.Entries.{flag}
use Rattle.embed_model.specs.EveryList.{Below}
use Rattle.embed_model.proofs.Below.{below-append}

-- ── A table of entries of so many numbers ─────────────────────────────────────────────────────────────────────────────

tabulate-next : {A : Type 0} (n from : ℕ) (f : ℕ → A) → tabulate n (suc from) f ≡ tabulate n from (λ i. f (suc i))
tabulate-next zero from f = refl
tabulate-next (suc n) from f = ap₂ ◌∷◌ refl (tabulate-next n (suc from) f)

-- the numbers of each element, one after another
abbrev flat : {A : Type 0} → (A → List ℕ) → List A → List ℕ
flat write xs = join (map write xs)

module _ {A : Type 0} (write : A → List ℕ) where
  flat-long : (width : ℕ) → ((x : A) → length (write x) ≡ width) → (xs : List A) → length (flat write xs) ≡ width * length xs
  flat-long width long [] = omega arith
  flat-long width long (x ∷ xs) =
      let k = length-append (write x) (flat write xs) in let l = long x in let m = flat-long width long xs in omega arith

  flat-below : (n : ℕ) (xs : List A) → ((x : A) → In x xs → Below n (write x)) → Below n (flat write xs)
  unfolding Below
  flat-below n [] h = tt
  flat-below n (x ∷ xs) h = below-append n (write x) (flat write xs) (h x here) (flat-below n xs (λ y m. h y (there m)))

  -- where an element is read from its numbers, and a later one from those that follow
  module _ (read : List ℕ → ℕ → A) (later : (x : A) (t : List ℕ) (i : ℕ) → read (write x ++ t) (suc i) ≡ read t i) where
    flat_back : (xs : List A) → ((x : A) → In x xs → (t : List ℕ) → read (write x ++ t) 0 ≡ x) → tabulate (length xs) 0 (read (flat write xs)) ≡ xs
    flat_back [] first = refl
    flat_back (x ∷ xs) first =
        ap₂ ◌∷◌ (first x here (flat write xs)) (tabulate-next (length xs) 0 (read (write x ++ flat write xs)) ∙
        tabulate-same (length xs) 0 (λ i. read (write x ++ flat write xs) (suc i)) (read (flat write xs)) (λ i a b. later x (flat write xs) i) ∙
        flat_back xs (λ y m. first y (there m)))

flag-back : (t : Bool) → not (eqb (flag t) 0) ≡ t
flag-back true = refl
flag-back false = refl

flag_small : (t : Bool) → flag t < 65536
flag_small true = omega arith
flag_small false = omega arith

-- ── Active visits ─────────────────────────────────────────────────────────────────────────────────────────────────────

abbrev visit_numbers : Active → List ℕ
visit_numbers a = a.visit.0 ∷ flag a.bears ∷ []

abbrev pub flat_visits : List Active → List ℕ
flat_visits vs = flat visit_numbers vs

active-later : (a : Active) (t : List ℕ) (i : ℕ) → active_at (visit_numbers a ++ t) (suc i) ≡ active_at t i
active-later a t i =
    let e : 2 * suc i ≡ suc (suc (2 * i)) = omega arith in
    let f : 2 * suc i + 1 ≡ suc (suc (2 * i + 1)) = omega arith in
    rw (f, e)

active-first : (a : Active) (t : List ℕ) → active_at (visit_numbers a ++ t) 0 ≡ a
active-first a t = λ i. record { visit = a.visit; bears = flag-back a.bears i }

module _ (vs : List Active) (long : length vs ≡ active_limit) where
  pub visits-back : actives (flat_visits vs) ≡ vs
  unfolding actives
  visits-back = ap (λ (n : ℕ). tabulate n 0 (active_at (flat_visits vs))) (sym long) ∙ flat_back visit_numbers active_at active-later vs (λ a m. active-first a)

  pub visits-long : length (flat_visits vs) ≡ visits_length
  visits-long = let k = flat-long visit_numbers 2 (λ a. refl) vs in omega arith

  pub visits-below : ((a : Active) → In a vs → a.visit.0 < 65536) → Below 65536 (flat_visits vs)
  unfolding Below
  visits-below small = flat-below visit_numbers 65536 vs (λ a m. (small a m, (flag_small a.bears, tt)))

-- ── Scope entries ─────────────────────────────────────────────────────────────────────────────────────────────────────

abbrev entry_numbers : Scope → List ℕ
entry_numbers s = s.maker ∷ s.holder ∷ s.cell ∷ s.first ∷ s.last ∷ flag s.handed ∷ s.count ∷ []

abbrev pub flat_scopes : List Scope → List ℕ
flat_scopes ss = flat entry_numbers ss

-- the fields have the bits of their types
pub record EntryFits (s : Scope) : Type 0 where
  pub maker : s.maker < 65536
  pub holder : s.holder < 65536
  pub cell : s.cell < 256
  pub first : s.first < 65536
  pub last : s.last < 65536
  pub count : s.count < 65536

field-later : (s : Scope) (t : List ℕ) (i k : ℕ) → field_at (entry_numbers s ++ t) (suc i) k ≡ field_at t i k
field-later s t i k = let e : 7 * suc i + k ≡ suc (suc (suc (suc (suc (suc (suc (7 * i + k))))))) = omega arith in rw e

entry-later : (s : Scope) (t : List ℕ) (i : ℕ) → entry_at (entry_numbers s ++ t) (suc i) ≡ entry_at t i
entry-later s t i = λ j. record {
  maker = field-later s t i 0 j;
  holder = field-later s t i 1 j;
  cell = field-later s t i 2 j % 256;
  first = field-later s t i 3 j;
  last = field-later s t i 4 j;
  handed = not (eqb (field-later s t i 5 j) 0);
  count = field-later s t i 6 j;
}

entry_first : (s : Scope) → EntryFits s → (t : List ℕ) → entry_at (entry_numbers s ++ t) 0 ≡ s
entry_first s fit t =
    let h = fit.cell in
    let cell : s.cell % 256 ≡ s.cell = omega arith in
    λ i. record { maker = s.maker; holder = s.holder; cell = cell i; first = s.first; last = s.last; handed = flag-back s.handed i; count = s.count }

module _ (ss : List Scope) (long : length ss ≡ scope_limit) (fit : (s : Scope) → In s ss → EntryFits s) where
  pub scopes-back : entries (flat_scopes ss) ≡ ss
  unfolding entries
  scopes-back =
      ap (λ (n : ℕ). tabulate n 0 (entry_at (flat_scopes ss))) (sym long) ∙ flat_back entry_numbers entry_at entry-later ss (λ s m. entry_first s (fit s m))

  pub scopes_long : length (flat_scopes ss) ≡ flat_length
  scopes_long = let k = flat-long entry_numbers 7 (λ s. refl) ss in omega arith

  pub scopes-below : Below 65536 (flat_scopes ss)
  scopes-below = flat-below entry_numbers 65536 ss (λ s m. its s (fit s m) (flag_small s.handed))
    where
      its : (s : Scope) → EntryFits s → flag s.handed < 65536 → Below 65536 (entry_numbers s)
      its s f h = let c = f.cell in unfold Below in (f.maker, (f.holder, (omega arith, (f.first, (f.last, (h, (f.count, tt)))))))
