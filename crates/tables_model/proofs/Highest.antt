-- The entry with the greatest last row is that of the highest open change: a take-back finds in the table the change that the ledger names.
use Prim.Native.Nat.{ℕ, suc, ◌+◌, ◌≤◌, ◌<◌}
use native.Mathlib.Omega.{arith}
use mathlib.Core.Path.{◌≡◌, refl, ap, sym, ◌∙◌, subst}
use mathlib.Core.Bool.{Bool, true, false, cond, ◌&&◌}
use mathlib.Core.List.Memᴰ
use mathlib.Core.List.{List, [], ◌∷◌, reverse}
use lib.ListN.{length, get_or, length-reverse}
use lib.Dec.{ltb}
use borrow.Author.Tests.{ltb-true, ltb-false}
use Rattle.std.specs.Prelude.{Option, Some, None}
use Rattle.book.specs.Lists.{In}
use Rattle.book.specs.Limits.{scope_limit}
use Rattle.book.specs.Ledger.{Change, Ledger}
use Rattle.book.specs.Rules.{is_open_change, open_changes, open_held}
use Rattle.book.specs.Scopes.{Scope, unused, first_row, standing, entry_of, scopes_of}
use Rattle.book.proofs.Lists.{clash, here, in-cons, keep-in}
use Rattle.book.proofs.Invariant.{Inv, Falling, same_row, falling-keep}
use Rattle.book.proofs.Scoped.{Alike, Scoped}
use Rattle.book.proofs.Top.{held-open, first-highest}
use Rattle.book.proofs.Standing.{starts, stands, Stands, standing-open, open-standing}
use Rattle.tables_model.specs.declared.Whom.{Whom}
use Rattle.tables_model.specs.Table.{covers, highest_from, highest}
use Rattle.tables_model.specs.Meaning.{scope_table}
use Rattle.tables_model.proofs.Reversed.{of_reverse, in-reverse}
use Rattle.tables_model.proofs.Padded.{take-pad, get_or-in}

-- ── What the search finds ─────────────────────────────────────────────────────────────────────────────────────────────

-- no entry of these visits has a greater last row than n
abbrev Below : Whom → ℕ → List Scope → Type 0
Below w n ss = (s : Scope) → In s ss → covers w s.holder ≡ true → s.last ≤ n

data Search (w : Whom) (i best : ℕ) (found : Option ℕ) (ss : List Scope) (r : Option ℕ) : Type 0 where
  none : Below w best ss → r ≡ found → Search w i best found ss r
  some : (k : ℕ) → k < length ss → covers w (get_or ss k unused).holder ≡ true → best < (get_or ss k unused).last → Below w (get_or ss k unused).last ss
      → r ≡ Some (i + k) → Search w i best found ss r

search-all : (w : Whom) (i best : ℕ) (found : Option ℕ) (ss : List Scope) → Search w i best found ss (highest_from w i best found ss)
search-all w i best found [] = none (λ s m. absurd (Memᴰ.not-nil m)) refl
search-all w i best found (s ∷ ss) =
    go (covers w s.holder) refl (ltb best s.last) refl (search-all w (suc i) s.last (Some i) ss) (search-all w (suc i) best found ss)
  where
    -- an entry that is not better
    passes : Search w (suc i) best found ss (highest_from w (suc i) best found ss) → (covers w s.holder ≡ true → s.last ≤ best)
        → Search w i best found (s ∷ ss) (highest_from w (suc i) best found ss)
    passes (none b e) le = none (in-cons le b) e
    passes (some k lt c up b e) le =
        let same : suc i + k ≡ i + suc k = omega arith in
        some (suc k) (omega arith) c up (in-cons (λ h. let f = le h in omega arith) b) (e ∙ ap Some same)

    -- one that is
    takes : Search w (suc i) s.last (Some i) ss (highest_from w (suc i) s.last (Some i) ss) → covers w s.holder ≡ true → best < s.last
        → Search w i best found (s ∷ ss) (highest_from w (suc i) s.last (Some i) ss)
    takes (none b e) c lt = let same : i ≡ i + 0 = omega arith in some 0 (omega arith) c lt (in-cons (λ h. omega arith) b) (e ∙ ap Some same)
    takes (some k in-range d up b e) c lt =
        let same : suc i + k ≡ i + suc k = omega arith in
        some (suc k) (omega arith) d (omega arith) (in-cons (λ h. omega arith) b) (e ∙ ap Some same)

    go : (c : Bool) → covers w s.holder ≡ c → (b : Bool) → ltb best s.last ≡ b
        → Search w (suc i) s.last (Some i) ss (highest_from w (suc i) s.last (Some i) ss)
        → Search w (suc i) best found ss (highest_from w (suc i) best found ss)
        → Search w i best found (s ∷ ss) (cond (c && b) (highest_from w (suc i) s.last (Some i) ss) (highest_from w (suc i) best found ss))
    go true p true q better rest = takes better p (ltb-true best s.last q)
    go true p false q better rest = passes rest (λ h. ltb-false best s.last q)
    go false p b q better rest = passes rest (λ h. clash _ h p)

-- ── The entries and the open changes ──────────────────────────────────────────────────────────────────────────────────

-- no row of a list in descending order is above the first
pub row-le : (xs : List Change) (y : Change) → Falling xs → In y xs → y.row ≤ first_row xs
row-le [] y f m = absurd (Memᴰ.not-nil m)
row-le (x ∷ xs) y f m = first-highest x xs f y m

module _ (l : Ledger) (w : Whom) (i : Inv l) (S : Scoped l.changes) where
  open-falling : Falling (open_held (covers w) l)
  open-falling = falling-keep (λ x. covers w x.holder) (open_changes l) (falling-keep (is_open_change l) l.changes i.falling)

  -- the last row of an entry of these visits is not above their highest open change
  entry-below : (s : Change) → In s (starts l) → covers w s.holder ≡ true → first_row (standing l s.row) ≤ first_row (open_held (covers w) l)
  entry-below s m c = go (standing l s.row) (λ y n. standing-open l i S s y m n)
    where
      go : (ys : List Change) → ((y : Change) → In y ys → Stands l i S s y) → first_row ys ≤ first_row (open_held (covers w) l)
      go [] f = omega arith
      go (y ∷ ys) f =
          let d = f y here in
          row-le (open_held (covers w) l) y open-falling
          (keep-in (λ z. covers w z.holder) (keep-in (is_open_change l) d.mem d.opened) (ap (covers w) d.alike.holder ∙ c))

  all-below : Below w (first_row (open_held (covers w) l)) (reverse (scopes_of l))
  unfolding scopes_of
  all-below s m c =
      let k = Memᴰ.of_map (entry_of l) (starts l) (of_reverse s (scopes_of l) m) in
      subst (λ (t : Scope). t.last ≤ first_row (open_held (covers w) l)) k.2
      (entry-below k.0 k.1 (ap (λ (t : Scope). covers w t.holder) k.2 ∙ c))

  -- the last row of the highest change's scope is not below it
  top_above : (n : ℕ) → Below w n (reverse (scopes_of l)) → (x : Change) → In x (open_held (covers w) l) → x.row ≤ n
  unfolding scopes_of
  top_above n b x m =
      let h = held-open (covers w) l x m in
      let d = open-standing l i S x h.0 h.1 in
      let le = row-le (standing l d.s.row) x (falling-keep (stands l d.s.row) l.changes i.falling) d.stand in
      let up = b (entry_of l d.s) (in-reverse (entry_of l d.s) (scopes_of l) (Memᴰ.map (entry_of l) d.mem)) (ap (covers w) d.alike.holder ∙ h.2) in
      omega arith

  highest-is : highest w (length (scopes_of l)) (scope_table l) ≡ highest_from w 0 0 None (reverse (scopes_of l))
  unfolding highest scope_table
  highest-is = ap (highest_from w 0 0 None) (take-pad scope_limit unused (scopes_of l))

  -- nothing is open
  pub highest-none : open_held (covers w) l ≡ [] → highest w (length (scopes_of l)) (scope_table l) ≡ None
  highest-none e = highest-is ∙ go (search-all w 0 0 None (reverse (scopes_of l)))
    where
      go : {r : Option ℕ} → Search w 0 0 None (reverse (scopes_of l)) r → r ≡ None
      go (none b q) = q
      go (some k lt c up b q) =
          let le = all-below (get_or (reverse (scopes_of l)) k unused) (get_or-in unused (reverse (scopes_of l)) k lt) c in
          let zero_row = ap first_row e in absurd (omega arith)

  -- the entry found for x, the highest open change
  pub record TopEntry (x : Change) : Type 0 where
    pub at : ℕ
    pub is : highest w (length (scopes_of l)) (scope_table l) ≡ Some at
    pub within : at < length (scopes_of l)
    -- the change that starts its scope
    pub s : Change
    pub mem : In s (starts l)
    pub entry : get_or (reverse (scopes_of l)) at unused ≡ entry_of l s
    pub scope : x.scope ≡ s.row
    pub alike : Alike x s
    pub last : first_row (standing l s.row) ≡ x.row

  pub highest-some : (x : Change) (xs : List Change) → open_held (covers w) l ≡ x ∷ xs → TopEntry x
  unfolding scopes_of
  highest-some x xs e = go highest-is (search-all w 0 0 None (reverse (scopes_of l)))
    where
      mem : In x (open_held (covers w) l)
      mem = rw e here

      low : 1 ≤ x.row
      low = (i.good x (held-open (covers w) l x mem).0).low

      go : {r : Option ℕ} → highest w (length (scopes_of l)) (scope_table l) ≡ r → Search w 0 0 None (reverse (scopes_of l)) r → TopEntry x
      go f (none b q) = let le = top_above 0 b x mem in let lo = low in absurd (omega arith)
      go f (some k lt c up b q) =
          let m = get_or-in unused (reverse (scopes_of l)) k lt in
          let s = Memᴰ.of_map (entry_of l) (starts l) (of_reverse (get_or (reverse (scopes_of l)) k unused) (scopes_of l) m) in
          let ge = top_above (get_or (reverse (scopes_of l)) k unused).last b x mem in
          let le = all-below (get_or (reverse (scopes_of l)) k unused) m c in
          let top = ap first_row e in
          let row : (get_or (reverse (scopes_of l)) k unused).last ≡ x.row = omega arith in
          let last : first_row (standing l s.0.row) ≡ x.row = ap (λ (t : Scope). t.last) s.2 ∙ row in
          let d = first-stands s.0 s.1 (standing l s.0.row) refl last in
          let same : 0 + k ≡ k = omega arith in
          record {
            at = k;
            is = f ∙ q ∙ ap Some same;
            within = rw (length-reverse (scopes_of l)) at lt;
            s = s.0;
            mem = s.1;
            entry = sym s.2;
            scope = d.scope;
            alike = d.alike;
            last = last;
          }
        where
          -- the change with the last row of the scope is x
          first-stands : (s : Change) → In s (starts l) → (ys : List Change) → standing l s.row ≡ ys → first_row ys ≡ x.row → Stands l i S s x
          first-stands s m [] p q = let lo = low in absurd (omega arith)
          first-stands s m (y ∷ ys) p q =
              let d = standing-open l i S s y m (rw p here) in
              subst (λ (z : Change). Stands l i S s z) (same_row l.changes y x i.falling d.mem (held-open (covers w) l x mem).0 q) d
