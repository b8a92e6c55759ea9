-- The changes of a scope that no undo row names: who holds them, what an undo leaves of them, and that the scopes in use have all open changes.
use Prim.Native.Nat.{ℕ, ◌≤◌}
use native.Mathlib.Omega.{arith}
use mathlib.Core.Path.{◌≡◌, refl, ap, sym, ◌∙◌}
use mathlib.Core.Bool.{Bool, true, false, not, ◌&&◌, ◌||◌}
use mathlib.Core.List.Memᴰ
use mathlib.Core.List.{[], List, ◌∷◌}
use lib.Dec.{eqb, leb, ltb}
use borrow.Author.Tests.{eqb-true, eq-eqb, eqb-false, ne_eqb, leb-true, le-leb, ltb-true, ltb-false}
use Rattle.book.specs.Lists.{In, keep}
use Rattle.book.specs.Ledger.{Change, Ledger, after}
use Rattle.book.specs.Rules.{is_active, is_undone, is_open_change, starts_in_use}
use Rattle.book.specs.Scopes.{standing}
use Rattle.book.specs.Book.{undo_of}
use Rattle.book.proofs.Lists.{clash, and_i, and_l, and_r, not_is, not-or-l, not-or-r, is_false, here, in-keep, keep-in, keep_same, keep_all, keep-keep}
use Rattle.book.proofs.Invariant.{Inv, Falling, same_row, falling-keep}
use Rattle.book.proofs.Scoped.{Alike, Scoped}
use Rattle.book.proofs.SameScope.{alike-start, same-scope}
use Rattle.book.proofs.Top.{Top}
use Rattle.book.proofs.Ordered.{Ordered, above-undone}

-- ── Scopes in use and open changes ────────────────────────────────────────────────────────────────────────────────────

-- the changes that start the scopes in use
abbrev pub starts : Ledger → List Change
starts l = keep (starts_in_use l) l.changes

-- one of them
pub record InUse (l : Ledger) (s : Change) : Type 0 where
  pub mem : In s l.changes
  pub start : s.scope ≡ s.row
  pub active : is_active l s.holder ≡ true

pub in_use_lem : (l : Ledger) (s : Change) → In s (starts l) → InUse l s
in_use_lem l s m =
    let k = in-keep (starts_in_use l) l.changes s m in
    record { mem = k.0; start = eqb-true s.scope s.row (and_l _ (is_active l s.holder) k.1); active = and_r (eqb s.scope s.row) _ k.1 }

-- the change is of the scope, and no undo row names it
abbrev pub stands : Ledger → ℕ → Change → Bool
stands l n y = eqb y.scope n && not (is_undone l y)

module _ (l : Ledger) (i : Inv l) (S : Scoped l.changes) where
  -- a change that stands in a scope in use is an open one of the scope's holder
  pub record Stands (s y : Change) : Type 0 where
    pub mem : In y l.changes
    pub scope : y.scope ≡ s.row
    pub alike : Alike y s
    pub opened : is_open_change l y ≡ true

  pub standing-open : (s y : Change) → In s (starts l) → In y (standing l s.row) → Stands s y
  standing-open s y m n =
      let u = in_use_lem l s m in
      let k = in-keep (stands l s.row) l.changes y n in
      let scope = eqb-true y.scope s.row (and_l _ (not (is_undone l y)) k.1) in
      let same = same-scope l.changes y s i.falling S k.0 u.mem (scope ∙ sym u.start) in
      record {
        mem = k.0;
        scope = scope;
        alike = same;
        opened = and_i _ _ (ap (is_active l) same.holder ∙ u.active) (and_r (eqb y.scope s.row) _ k.1);
      }

  -- an open change stands in a scope in use
  pub record StandsIn (y : Change) : Type 0 where
    pub s : Change
    pub mem : In s (starts l)
    pub stand : In y (standing l s.row)
    pub alike : Alike s y

  pub open-standing : (y : Change) → In y l.changes → is_open_change l y ≡ true → StandsIn y
  open-standing y m o =
      let d = S.started y m in
      record {
        s = d.s;
        mem = keep-in (starts_in_use l) d.mem
            (and_i _ _ (eq-eqb d.s.scope d.s.row d.start) (ap (is_active l) d.holder ∙ and_l _ (not (is_undone l y)) o));
        stand = keep-in (stands l d.s.row) m (and_i _ _ (eq-eqb y.scope d.s.row (sym d.row)) (and_r (is_active l y.holder) _ o));
        alike = alike-start l.changes y d;
      }

-- ── What an undo leaves ───────────────────────────────────────────────────────────────────────────────────────────────

-- all but the change undone
pub standing-undo : (l : Ledger) (x : Change) (n : ℕ) → standing (after l (undo_of x)) n ≡ keep (λ y. not (eqb y.row x.row)) (standing l n)
unfolding after
standing-undo l x n =
    keep_same _ _ l.changes (λ y m. bools (eqb y.scope n) (is_undone l y) (eqb y.row x.row)) ∙
    sym (keep-keep (λ y. not (eqb y.row x.row)) (stands l n) l.changes)
  where
    bools : (s u r : Bool) → (s && not (r || u)) ≡ (s && not u && not r)
    bools true true true = refl
    bools true true false = refl
    bools true false true = refl
    bools true false false = refl
    bools false u r = refl

-- a change with no higher one is the first
first_of : (xs : List Change) (x : Change) → Falling xs → In x xs → ((y : Change) → In y xs → y.row ≤ x.row)
    → xs ≡ x ∷ keep (λ y. not (eqb y.row x.row)) xs
first_of [] x f x5 h = elim x5 [ ]
first_of (z ∷ zs) x f (Memᴰ.head e) h =
    let row = ap (λ (w : Change). w.row) e in
    let rest : keep (λ y. not (eqb y.row x.row)) zs ≡ zs =
    keep_all _ zs (λ y m. ap not (ne_eqb y.row x.row (λ q. let k = f.0 y m in omega arith))) in
    rw (eq-eqb z.row x.row (sym row), rest, e)
first_of (z ∷ zs) x f (Memᴰ.tail m) h = let k = f.0 x m in let g = h z here in absurd (omega arith)

module _ (l : Ledger) (x : Change) (t : Top l x) (i : Inv l) (S : Scoped l.changes) where
  -- the change undone is the highest of its scope
  pub standing-first : standing l x.scope ≡ x ∷ standing (after l (undo_of x)) x.scope
  standing-first =
      first_of (standing l x.scope) x (falling-keep (stands l x.scope) l.changes i.falling)
      (keep-in (stands l x.scope) t.mem (and_i _ _ (eq-eqb x.scope x.scope refl) (and_r (is_active l x.holder) _ t.opened))) highest ∙
      ap (λ (ys : List Change). x ∷ ys) (sym (standing-undo l x x.scope))
    where
      highest : (y : Change) → In y (standing l x.scope) → y.row ≤ x.row
      highest y m =
          let k = in-keep (stands l x.scope) l.changes y m in
          let scope = eqb-true y.scope x.scope (and_l _ (not (is_undone l y)) k.1) in
          let holder = (same-scope l.changes y x i.falling S k.0 t.mem scope).holder in
          t.above y k.0 (and_i _ _ (ap (is_active l) holder ∙ and_l _ (not (is_undone l x)) t.opened) (and_r (eqb y.scope x.scope) _ k.1)) holder

  -- other scopes are as before
  pub standing-other : (n : ℕ) → (n ≡ x.scope → ⊥) → standing (after l (undo_of x)) n ≡ standing l n
  standing-other n ne =
      standing-undo l x n ∙
      keep_all _ (standing l n) (λ y m.
      let k = in-keep (stands l n) l.changes y m in
      ap not (ne_eqb y.row x.row (λ q. ne (sym (eqb-true y.scope n (and_l _ (not (is_undone l y)) k.1)) ∙
      ap (λ (w : Change). w.scope) (same_row l.changes y x i.falling k.0 t.mem q)))))

-- y is a change of x's cell by its maker, below x and not below the first row of x's scope
abbrev pub is_below : Change → Change → Bool
is_below x y = eqb y.maker x.maker && eqb y.cell x.cell && (leb x.scope y.row && ltb y.row x.row)

-- what is left in the scope of x are all these
module _ (l : Ledger) (x : Change) (t : Top l x) (i : Inv l) (S : Scoped l.changes) (O : Ordered l) where
  left : Change → Bool
  left y = eqb y.scope x.scope && not (eqb y.row x.row || is_undone l y)

  left_below : (y : Change) → In y l.changes → left y ≡ true → is_below x y ≡ true
  unfolding left
  left_below y m e =
      let scope = eqb-true y.scope x.scope (and_l _ (not (eqb y.row x.row || is_undone l y)) e) in
      let same = same-scope l.changes y x i.falling S m t.mem scope in
      let lo = O.low y m in
      and_i _ _ (and_i _ _ (eq-eqb y.maker x.maker same.maker) (eq-eqb y.cell x.cell same.cell))
      (and_i _ _ (le-leb x.scope y.row (omega arith)) (below (ltb y.row x.row) refl))
    where
      below : (b : Bool) → ltb y.row x.row ≡ b → b ≡ true
      below true q = refl
      below false q =
          let le = ltb-false y.row x.row q in
          let both = and_r (eqb y.scope x.scope) (not (eqb y.row x.row || is_undone l y)) e in
          let ne = eqb-false y.row x.row (not_is _ (not-or-l (eqb y.row x.row) (is_undone l y) both)) in
          clash _ (above-undone l x t i S O y m (eqb-true y.scope x.scope (and_l _ (not (eqb y.row x.row || is_undone l y)) e)) (omega arith))
          (not_is _ (not-or-r (eqb y.row x.row) (is_undone l y) both))

  below_left : (y : Change) → In y l.changes → is_below x y ≡ true → left y ≡ true
  unfolding left
  below_left y m e =
      let mk : eqb y.maker x.maker ≡ true = search (and_l, and_r) in
      let cl : eqb y.cell x.cell ≡ true = search (and_l, and_r) in
      let fr : leb x.scope y.row ≡ true = search (and_l, and_r) in
      let lt : ltb y.row x.row ≡ true = search (and_l, and_r) in
      let maker = eqb-true y.maker x.maker mk in
      let cell = eqb-true y.cell x.cell cl in
      let from = leb-true x.scope y.row fr in
      let less = ltb-true y.row x.row lt in
      let d = S.started x t.mem in
      let row = d.row in
      let start = d.start in
      let up = O.rises y x m t.mem (record { maker = maker; cell = cell }) (omega arith) in
      let down = O.rises d.s y d.mem m (record { maker = d.maker ∙ sym maker; cell = d.cell ∙ sym cell }) (omega arith) in
      let scope : y.scope ≡ x.scope = omega arith in
      let opened = not_is _ (and_r (is_active l x.holder) (not (is_undone l x)) t.opened) in
      let not-undone : is_undone l y ≡ false = is_false (is_undone l y) (λ u. clash _ (O.sinks y x m t.mem scope (omega arith) u) opened) in
      and_i _ _ (eq-eqb y.scope x.scope scope) (rw (ne_eqb y.row x.row (λ q. omega arith), not-undone))

  pub standing-below : standing (after l (undo_of x)) x.scope ≡ keep (is_below x) l.changes
  unfolding after left
  standing-below = keep_same left (is_below x) l.changes (λ y m. go y m (left y) refl (is_below x y) refl)
    where
      go : (y : Change) → In y l.changes → (a : Bool) → left y ≡ a → (b : Bool) → is_below x y ≡ b → a ≡ b
      go y m true p true q = refl
      go y m false p false q = refl
      go y m true p false q = clash _ (left_below y m p) q
      go y m false p true q = clash _ (below_left y m q) p
