-- A change in the table: it grows the scope that the ledger names, or starts one behind the last.
use Prim.Native.Nat.{ℕ, suc, ◌+◌, ◌<◌}
use native.Mathlib.Omega.{arith}
use mathlib.Core.Path.{◌≡◌, refl, ap, ap₂, sym, ◌∙◌, subst}
use mathlib.Core.Bool.{Bool, true, false, cond, not}
use mathlib.Core.List.Memᴰ
use mathlib.Core.List.{List, [], ◌∷◌, reverse}
use lib.ListN.{length, set, get_or, length-map}
use lib.IntN.{ℤ}
use borrow.Author.Tests.{eq-eqb}
use Rattle.std.specs.Prelude.{is_some, Option, Some, None}
use Rattle.std.specs.Cmp.{both_ways}
use Rattle.book.specs.Lists.{In, keep, any, pad_to}
use Rattle.book.specs.Limits.{scope_limit}
use Rattle.book.specs.Rows.{change}
use Rattle.book.specs.Ledger.{Change, Ledger, continues, new_change, starts_scope, after}
use Rattle.book.specs.Rules.{is_active, starts_in_use}
use Rattle.book.specs.Scopes.{Scope, unused, entry_of, scopes_of}
use Rattle.book.proofs.Lists.{clash, and_i, keep-in, any_none, any-in, any_some}
use Rattle.book.proofs.Invariant.{Inv}
use Rattle.book.proofs.Scoped.{Scoped, NewScope, new-scope, continued}
use Rattle.book.proofs.SameScope.{continues-if}
use Rattle.book.proofs.Standing.{starts, in_use_lem}
use Rattle.tables_model.specs.Table.{find_from, find, grows, grown, started, Scopes, changed_at, scopes_changed}
use Rattle.tables_model.specs.Rows.{grows_by}
use Rattle.tables_model.specs.Meaning.{tables_of, scope_table}
use Rattle.tables_model.specs.Lookup.{index_of}
use Rattle.tables_model.proofs.Reversed.{any-reverse, of_reverse, map-reverse}
use Rattle.tables_model.proofs.Padded.{take-pad, get_or-pad, get_or-in, push-pad, set-pad, one-reverse, replaced}
use Rattle.tables_model.proofs.Looking.{any-map}
use Rattle.tables_model.proofs.ScopesAfter.{starts_at, scopes-started, scopes-grown, one_entry}

-- ── What the search finds ─────────────────────────────────────────────────────────────────────────────────────────────

data Find (p : Scope → Bool) (i : ℕ) (ss : List Scope) (r : Option ℕ) : Type 0 where
  none : any p ss ≡ false → r ≡ None → Find p i ss r
  some : (k : ℕ) → k < length ss → p (get_or ss k unused) ≡ true → any p ss ≡ true → r ≡ Some (i + k) → Find p i ss r

find-all : (p : Scope → Bool) (i : ℕ) (ss : List Scope) → Find p i ss (find_from p i ss)
find-all p i [] = none refl refl
find-all p i (s ∷ ss) = go (p s) refl (find-all p (suc i) ss)
  where
    later : Find p (suc i) ss (find_from p (suc i) ss) → p s ≡ false → Find p i (s ∷ ss) (find_from p (suc i) ss)
    later (none a e) h = none (rw h a) e
    later (some k lt q a e) h = let same : suc i + k ≡ i + suc k = omega arith in some (suc k) (omega arith) q (rw h a) (e ∙ ap Some same)

    go : (t : Bool) → p s ≡ t → Find p (suc i) ss (find_from p (suc i) ss) → Find p i (s ∷ ss) (cond t (Some i) (find_from p (suc i) ss))
    go true h r = let same : i ≡ i + 0 = omega arith in some 0 (omega arith) h (rw h) (ap Some same)
    go false h r = later r h

-- ── The scope that grows ──────────────────────────────────────────────────────────────────────────────────────────────

find-is : (l : Ledger) (p : Scope → Bool) → find p (length (scopes_of l)) (scope_table l) ≡ find_from p 0 (reverse (scopes_of l))
unfolding find scope_table
find-is l p = ap (find_from p 0) (take-pad scope_limit unused (scopes_of l))

module _ (l : Ledger) (v c : ℕ) (S : Scoped l.changes) (act : is_active l v ≡ true) where
  -- an entry grows exactly when the ledger has a change that v may continue
  pub any-grows : any (grows v c) (reverse (scopes_of l)) ≡ any (continues v c) l.changes
  unfolding scopes_of
  any-grows = any-reverse (grows v c) (scopes_of l) ∙ any-map (grows v c) (entry_of l) (starts l) ∙ both_ways _ _ there back
    where
      there : any (continues v c) (starts l) ≡ true → any (continues v c) l.changes ≡ true
      there e = let k = any_some (continues v c) (starts l) e in any-in (continues v c) (in_use_lem l k.0 k.1).mem k.2

      back : any (continues v c) l.changes ≡ true → any (continues v c) (starts l) ≡ true
      back e =
          let k = any_some (continues v c) l.changes e in
          let f = continued v c k.0 k.2 in
          let d = S.started k.0 k.1 in
          any-in (continues v c)
          (keep-in (starts_in_use l) d.mem (and_i _ _ (eq-eqb d.s.scope d.s.row d.start)
          (ap (is_active l) (d.holder ∙ S.own k.0 k.1 f.2 ∙ f.0) ∙ act)))
          (continues-if v c d.s (d.maker ∙ f.0) (d.cell ∙ f.1) (d.handed ∙ f.2))

  -- 01: the change starts no scope
  pub grows-by : grows_by (index_of l) v c ≡ not (starts_scope l v c)
  unfolding grows_by tables_of
  grows-by =
      ap is_some (find-is l (grows v c)) ∙ go (find-all (grows v c) 0 (reverse (scopes_of l))) ∙ any-grows ∙ sym (twice (any (continues v c) l.changes))
    where
      go : {r : Option ℕ} → Find (grows v c) 0 (reverse (scopes_of l)) r → is_some r ≡ any (grows v c) (reverse (scopes_of l))
      go (none a e) = ap is_some e ∙ sym a
      go (some k lt q a e) = ap is_some e ∙ sym a

      twice : (b : Bool) → not (not b) ≡ b
      twice true = refl
      twice false = refl

-- ── The table after the change ────────────────────────────────────────────────────────────────────────────────────────

abbrev pub scopes_record : Ledger → Scopes
scopes_record l = record { used = length (scopes_of l); entries = scope_table l }

module _ (l : Ledger) (v c : ℕ) (a : ℤ) (i : Inv l) (S : Scoped l.changes) (act : is_active l v ≡ true) where
  table-started : keep (continues v c) l.changes ≡ [] → length (scopes_of l) < scope_limit
      → record { used = suc (length (scopes_of l)); entries = set (scope_table l) (length (scopes_of l)) (started (suc l.rows) v c) }
      ≡ scopes_record (after l (change v c a))
  unfolding scope_table
  table-started e lt =
      let is = scopes-started l v c a i S act e in
      ap₂ (λ (n : ℕ) (ss : List Scope). record { used = n; entries = ss }) (ap length (sym is))
      (push-pad scope_limit unused (started (suc l.rows) v c) (scopes_of l) lt ∙ ap (λ (ss : List Scope). pad_to scope_limit unused (reverse ss)) (sym is))

  table-grown : (y : Change) → In y l.changes → continues v c y ≡ true → (new_change l v c a).scope ≡ y.scope
      → (k : ℕ) → k < length (reverse (scopes_of l)) → grows v c (get_or (reverse (scopes_of l)) k unused) ≡ true
      → record { used = length (scopes_of l); entries = set (scope_table l) k (grown (suc l.rows) (get_or (scope_table l) k unused)) }
      ≡ scopes_record (after l (change v c a))
  unfolding scope_table scopes_of
  table-grown y m q e k lt g =
      let s = Memᴰ.of_map (entry_of l) (starts l)
      (of_reverse (get_or (reverse (scopes_of l)) k unused) (scopes_of l) (get_or-in unused (reverse (scopes_of l)) k lt)) in
      let u = in_use_lem l s.0 s.1 in
      let f = subst (λ (t : Scope). grows v c t ≡ true) (sym s.2) g in
      let scope : s.0.row ≡ (new_change l v c a).scope = sym u.start ∙ S.single v c s.0 y u.mem m f q ∙ sym e in
      let at : starts_at (new_change l v c a).scope (get_or (reverse (scopes_of l)) k unused) ≡ true =
      subst (λ (t : Scope). starts_at (new_change l v c a).scope t ≡ true) s.2 (eq-eqb s.0.row (new_change l v c a).scope scope) in
      let is = scopes-grown l v c a i S act y m e in
      ap₂ (λ (n : ℕ) (ss : List Scope). record { used = n; entries = ss })
      (sym (ap length is ∙ length-map (scopes_of l) (replaced (starts_at (new_change l v c a).scope) (grown (suc l.rows)))))
      (ap (λ (t : Scope). set (pad_to scope_limit unused (reverse (scopes_of l))) k (grown (suc l.rows) t))
      (get_or-pad scope_limit unused unused (reverse (scopes_of l)) k lt) ∙
      set-pad scope_limit (starts_at (new_change l v c a).scope) (grown (suc l.rows)) unused unused (reverse (scopes_of l)) k
      (one-reverse (starts_at (new_change l v c a).scope) (scopes_of l) (one_entry l (new_change l v c a).scope i)) lt at ∙
      ap (pad_to scope_limit unused) (map-reverse (replaced (starts_at (new_change l v c a).scope) (grown (suc l.rows))) (scopes_of l) ∙ ap reverse (sym is)))

  pub scopes-changed : (starts_scope l v c ≡ true → length (scopes_of l) < scope_limit)
      → scopes_changed (length (scopes_of l)) (suc l.rows) v c (scope_table l) ≡ scopes_record (after l (change v c a))
  unfolding scopes_changed
  scopes-changed room =
      ap (λ (r : Option ℕ). changed_at (length (scopes_of l)) (suc l.rows) v c r (scope_table l)) (find-is l (grows v c)) ∙
      go (find-all (grows v c) 0 (reverse (scopes_of l))) (new-scope l v c)
    where
      go : {r : Option ℕ} → Find (grows v c) 0 (reverse (scopes_of l)) r → NewScope l v c (new_change l v c a).scope
          → changed_at (length (scopes_of l)) (suc l.rows) v c r (scope_table l) ≡ scopes_record (after l (change v c a))
      go (none f e) (NewScope.grows y m k q) = clash _ (any-in (continues v c) m k) (sym (any-grows l v c S act) ∙ f)
      go (none f e) (NewScope.starts k q) =
          ap (λ (r : Option ℕ). changed_at (length (scopes_of l)) (suc l.rows) v c r (scope_table l)) e ∙
          table-started k (room (ap not (any_none (continues v c) l.changes k)))
      go (some k lt g f e) (NewScope.grows y m j q) =
          let same : 0 + k ≡ k = omega arith in
          ap (λ (r : Option ℕ). changed_at (length (scopes_of l)) (suc l.rows) v c r (scope_table l)) (e ∙ ap Some same) ∙ table-grown y m j q k lt g
      go (some k lt g f e) (NewScope.starts j q) = clash _ (sym (any-grows l v c S act) ∙ f) (any_none (continues v c) l.changes j)
