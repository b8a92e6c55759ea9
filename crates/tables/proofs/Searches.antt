-- Turns of the loops over the scope table, and that what its searches find is an entry in use. Assumes nothing.
use Rattle.std.proofs.Common.{◌≡◌, ℕ, suc, ◌+◌, ◌<◌, ◌≤◌, Bool, true, false, cond, ◌&&◌, eqb, ltb, List, [], ◌∷◌, length, get_or, take, refl, add-one, arith, length-take, le-ltb, Option, Some, None}
use Rattle.book.specs.Scopes.{Scope, unused}
use Rattle.tables_model.specs.declared.Whom.{Whom}
use Rattle.tables_model.specs.Layout.{entries}
use Rattle.tables_model.specs.Table.{find_from, find, covers, highest_from, highest, last_by, count_all}
use Rattle.tables.proofs.Loops.{left, left-next}
use Rattle.tables.proofs.Flat.{entries-length}

-- the highest open change so far is `last`, that of entry i; none where it is 0
abbrev pub found_at : ℕ → ℕ → Option ℕ
found_at last i = cond (eqb last 0) None (Some i)

-- a turn of the sum of the counts
pub count_next : (t : List ℕ) (used i : ℕ) → i < used → used ≤ 64
    → count_all (left used i (entries t)) ≡ (get_or (entries t) i unused).count + count_all (left used (i + 1) (entries t))
count_next t used i h k = rw (left-next used i (entries t) unused h (rw entries-length k))

-- a turn of the search for the highest open change
highest-by : (w : Whom) (t : List ℕ) (used i best : ℕ) (f : Option ℕ) (q : Bool) → i < used → used ≤ 64 → covers w (get_or (entries t) i unused).holder ≡ q
    → let x = last_by w (get_or (entries t) i unused) in
    let rest = left used (i + 1) (entries t) in
    highest_from w i best f (left used i (entries t)) ≡ cond (ltb best x) (highest_from w (i + 1) x (Some i) rest) (highest_from w (i + 1) best f rest)
highest-by w t used i best f true h k e = rw (left-next used i (entries t) unused h (rw entries-length k), e, add-one i)
highest-by w t used i best f false h k e = rw (left-next used i (entries t) unused h (rw entries-length k), e, add-one i, le-ltb best 0 (omega arith))

pub highest_next : (w : Whom) (t : List ℕ) (used i best : ℕ) (f : Option ℕ) → i < used → used ≤ 64
    → let x = last_by w (get_or (entries t) i unused) in
    let rest = left used (i + 1) (entries t) in
    highest_from w i best f (left used i (entries t)) ≡ cond (ltb best x) (highest_from w (i + 1) x (Some i) rest) (highest_from w (i + 1) best f rest)
highest_next w t used i best f h k = highest-by w t used i best f (covers w (get_or (entries t) i unused).holder) h k refl

same_place : (i j : ℕ) → Some i ≡ Some j → i ≡ j
same_place i j e = cc

no_place : (j : ℕ) → None ≡ Some j → ⊥
no_place j e = let z : ◌≡◌ {A = ℕ} 0 1 = cc in omega arith

find-one : (p : Scope → Bool) (i : ℕ) (s : Scope) (ss : List Scope) (j : ℕ) (b : Bool) → p s ≡ b
    → (find_from p (suc i) ss ≡ Some j → j < suc i + length ss) → find_from p i (s ∷ ss) ≡ Some j → j < i + length (s ∷ ss)
find-one p i s ss j true q h e = omega (arith, same_place i j (rw q at e))
find-one p i s ss j false q h e = omega (arith, h (rw q at e))

find-from : (p : Scope → Bool) (i : ℕ) (ss : List Scope) (j : ℕ) → find_from p i ss ≡ Some j → j < i + length ss
find-from p i [] j e = absurd (no_place j e)
find-from p i (s ∷ ss) j e = find-one p i s ss j (p s) refl (find-from p (suc i) ss j) e

-- the scope found is in use
pub find-below : (p : Scope → Bool) (used : ℕ) (ss : List Scope) (j : ℕ) → find p used ss ≡ Some j → j < used
unfolding find
find-below p used ss j e = omega (arith, find-from p 0 (take used ss) j e, length-take used ss)

highest-one : (w : Whom) (i best : ℕ) (f : Option ℕ) (s : Scope) (ss : List Scope) (j : ℕ) (b : Bool) → covers w s.holder && ltb best s.last ≡ b
    → (f ≡ Some j → j < i) → ((n : ℕ) (g : Option ℕ) → (g ≡ Some j → j < suc i) → highest_from w (suc i) n g ss ≡ Some j → j < suc i + length ss)
    → highest_from w i best f (s ∷ ss) ≡ Some j → j < i + length (s ∷ ss)
highest-one w i best f s ss j true q h k e = omega (arith, k s.last (Some i) (λ z. omega (arith, same_place i j z)) (rw q at e))
highest-one w i best f s ss j false q h k e = omega (arith, k best f (λ z. omega (arith, h z)) (rw q at e))

highest-from : (w : Whom) (i best : ℕ) (f : Option ℕ) (ss : List Scope) (j : ℕ) → (f ≡ Some j → j < i) → highest_from w i best f ss ≡ Some j → j < i + length ss
highest-from w i best f [] j h e = omega (arith, h e)
highest-from w i best f (s ∷ ss) j h e =
    highest-one w i best f s ss j (covers w s.holder && ltb best s.last) refl h (λ n g. highest-from w (suc i) n g ss j) e

-- the highest open change is that of an entry in use
pub highest-below : (w : Whom) (used : ℕ) (ss : List Scope) (j : ℕ) → highest w used ss ≡ Some j → j < used
unfolding highest
highest-below w used ss j e =
    omega (arith, highest-from w 0 0 None (take used ss) j (λ z. absurd (no_place j z)) e, length-take used ss)

-- what a function that goes on with an entry found goes by
pub ruleset in_use = (find-below, highest-below)
