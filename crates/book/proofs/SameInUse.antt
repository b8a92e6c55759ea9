-- Two ledgers that are the same but for commit rows, visits that bear undo rows, and changes whose holder has ended (`SameInUse`): the calls find the same in
-- both. Every allowed row keeps it so.
use Prim.Native.Nat.{ℕ, suc}
use mathlib.Core.Bool.{Bool, true, false, and-false}
use mathlib.Core.Path.{◌≡◌, refl, ap, sym, ◌∙◌}
use mathlib.Core.Logic.{◌⊎◌, inl, inr}
use mathlib.Core.List.{List, [], ◌∷◌, map, Forall₂}
use lib.ListN.{length}
use lib.IntN.{ℤ}
use lib.Dec.{eqb}
use borrow.Author.Tests.{ne_eqb}
use Rattle.book.specs.Lists.{In, keep, any, foldl}
use Rattle.book.specs.Rows.{Row, begin, change, hand_over, undo, commit, abort, hand_over_all}
use Rattle.book.specs.Ledger.{Change, Ledger, continues, new_change, only, every, holds, pass, begun_after, active_after, undone_after, changes_after, after}
use Rattle.book.specs.Rules.{is_active, is_open_change, open_changes, reserve, room, starts_in_use, scopes_in_use, scope_fits, holds_any, lawful, allowed, all_allowed}
use Rattle.book.specs.Book.{take_back}
use Rattle.book.proofs.Lists.{clash, is_false, and_l, and_r}
use Rattle.book.proofs.Fate.{Over, over-after, pass-over}
use Rattle.book.proofs.Scoped.{continued}
use Rattle.book.proofs.Pairs.{pairs-imp, pairs-map, pairs-same}
use Rattle.book.proofs.SameOpen.{OpenAlike, neither, open-alike, SameOpen, SameRows, end, next}

-- ── Two ledgers ───────────────────────────────────────────────────────────────────────────────────────────────────────

-- the holder of the change has ended; where the change was not handed over that is its maker
pub record HolderOver (l : Ledger) (x : Change) : Type 0 where
  pub holder : Over l x.holder
  pub own : x.handed ≡ false → x.holder ≡ x.maker

-- one and the same change, or two whose holders have ended
abbrev pub SameOrOver : Ledger → Change → Change → Type 0
SameOrOver l x y = (x ≡ y) ⊎ (HolderOver l x × HolderOver l y)

pub record SameInUse (l l' : Ledger) : Type 0 where
  pub rows : l'.rows ≡ l.rows
  pub begun : l'.begun ≡ l.begun
  pub active : l'.active ≡ l.active
  pub undone : l'.undone ≡ l.undone
  pub changes : Forall₂ (SameOrOver l) l.changes l'.changes

pub same-in-use-refl : (l : Ledger) → SameInUse l l
same-in-use-refl l = record { rows = refl; begun = refl; active = refl; undone = refl; changes = pairs-same l.changes (λ x. inl refl) }

-- ── What is kept by a test that no such change passes ─────────────────────────────────────────────────────────────────

module _ (l : Ledger) (p : Change → Bool) (fails : (x : Change) → HolderOver l x → p x ≡ false) where
  kept_same : {xs ys : List Change} → Forall₂ (SameOrOver l) xs ys → keep p ys ≡ keep p xs
  kept_same Forall₂.nil = refl
  kept_same (Forall₂.cons {a = x} {b = y} (inl e) t) = rw (e, kept_same t)
  kept_same (Forall₂.cons {a = x} {b = y} (inr o) t) = rw (fails x o.0, fails y o.1, kept_same t)

  any_same : {xs ys : List Change} → Forall₂ (SameOrOver l) xs ys → any p ys ≡ any p xs
  any_same Forall₂.nil = refl
  any_same (Forall₂.cons {a = x} {b = y} (inl e) t) = rw (e, any_same t)
  any_same (Forall₂.cons {a = x} {b = y} (inr o) t) = rw (fails x o.0, fails y o.1, any_same t)

module _ (l : Ledger) (x : Change) (o : HolderOver l x) where
  -- it is not open
  over-shut : is_open_change l x ≡ false
  over-shut = rw o.holder.over

  -- its scope is not in use
  over-unused : starts_in_use l x ≡ false
  over-unused = rw o.holder.over (and-false (eqb x.scope x.row))

  -- no active visit holds it
  over-unheld : (v : ℕ) (cs : ℕ → Bool) → is_active l v ≡ true → holds v cs x ≡ false
  over-unheld v cs a = rw (ne_eqb x.holder v (λ q. clash _ a (rw (← q) o.holder.over)))

  -- and none continues it
  over-uncontinued : (v c : ℕ) → is_active l v ≡ true → continues v c x ≡ false
  over-uncontinued v c a = is_false _ (λ e. let k = continued v c x e in clash _ a (rw (sym (o.own k.2 ∙ k.0)) o.holder.over))

-- ── What the calls ask for ────────────────────────────────────────────────────────────────────────────────────────────

module _ (l l' : Ledger) (s : SameInUse l l') where
  -- what is kept of the changes, and whether there is any, by a test that no such change passes
  keeps_same : (p : Change → Bool) → ((x : Change) → HolderOver l x → p x ≡ false) → keep p l'.changes ≡ keep p l.changes
  keeps_same p fails = kept_same l p fails s.changes

  has_same : (p : Change → Bool) → ((x : Change) → HolderOver l x → p x ≡ false) → any p l'.changes ≡ any p l.changes
  has_same p fails = any_same l p fails s.changes

  pub same-open-changes : open_changes l' ≡ open_changes l
  same-open-changes = rw (s.active, s.undone) (keeps_same (is_open_change l) (over-shut l))

  pub same-take-back : (who : ℕ → Bool) → take_back who l' ≡ take_back who l
  unfolding take_back
  same-take-back who = rw (same-open-changes, s.active)

  pub same-room : (n : ℕ) → room l' n ≡ room l n
  unfolding reserve
  same-room n = rw (same-open-changes, s.active, s.rows)

  same-scopes : scopes_in_use l' ≡ scopes_in_use l
  unfolding scopes_in_use
  same-scopes = rw s.active (ap length (keeps_same (starts_in_use l) (over-unused l)))

  -- of a visit that is active
  pub same-scope-fits : (v c : ℕ) → is_active l v ≡ true → scope_fits l' v c ≡ scope_fits l v c
  same-scope-fits v c a = rw (has_same (continues v c) (λ x o. over-uncontinued l x o v c a), same-scopes)

  pub same-held : (g : ℕ) (cs : ℕ → Bool) → is_active l g ≡ true → holds_any l' g cs ≡ holds_any l g cs
  same-held g cs a = has_same (holds g cs) (λ x o. over-unheld l x o g cs a)

  -- an opening finds the same too
  pub in-use-open : SameOpen l l'
  in-use-open = record { rows = s.rows; begun = s.begun; active = s.active; undone = s.undone; changes = pairs-imp alike s.changes }
    where
      at-l : (y : Change) → is_open_change l' y ≡ is_open_change l y
      at-l y = rw (s.active, s.undone)

      alike : (x y : Change) → In x l.changes → In y l'.changes → SameOrOver l x y → OpenAlike l l' x y
      alike x y m n (inl e) = open-alike l l' x y (at-l y ∙ ap (is_open_change l) (sym e))
          (record { row = ap (λ (z : Change). z.row) (sym e); cell = ap (λ (z : Change). z.cell) (sym e); amount = ap (λ (z : Change). z.amount) (sym e) })
      alike x y m n (inr o) = neither (over-shut l x o.0) (at-l y ∙ over-shut l y o.1)

-- ── One row more ──────────────────────────────────────────────────────────────────────────────────────────────────────

module _ (l l' : Ledger) (s : SameInUse l l') where
  -- a holder that has ended before a row has ended after it
  still-over : (row : Row) → allowed l row ≡ true → (x : Change) → HolderOver l x → HolderOver (after l row) x
  still-over row e x o = record { holder = over-after l row x.holder e o.holder; own = o.own }

  still : (row : Row) → allowed l row ≡ true → Forall₂ (SameOrOver (after l row)) l.changes l'.changes
  still row e = pairs-imp go s.changes
    where
      go : (x y : Change) → In x l.changes → In y l'.changes → SameOrOver l x y → SameOrOver (after l row) x y
      go x y m n (inl q) = inl q
      go x y m n (inr o) = inr (still-over row e x o.0, still-over row e y o.1)

  same_new : (v c : ℕ) (a : ℤ) → is_active l v ≡ true → new_change l v c a ≡ new_change l' v c a
  same_new v c a act = rw (s.rows, keeps_same l l' s (continues v c) (λ x o. over-uncontinued l x o v c act))

  -- an active visit hands over none of them
  same-passed : (row : Row) → allowed l row ≡ true → (g r : ℕ) (cs : ℕ → Bool) → is_active l g ≡ true
      → Forall₂ (SameOrOver (after l row)) (map (pass g r cs) l.changes) (map (pass g r cs) l'.changes)
  same-passed row e g r cs act = pairs-map (pass g r cs) (pass g r cs) go s.changes
    where
      go : (x y : Change) → SameOrOver l x y → SameOrOver (after l row) (pass g r cs x) (pass g r cs y)
      go x y (inl q) = inl (ap (pass g r cs) q)
      go x y (inr o) =
          rw (pass-over l g r cs x act o.0.holder, pass-over l g r cs y act o.1.holder) (inr (still-over row e x o.0, still-over row e y o.1))

  same-changes : (row : Row) → allowed l row ≡ true → Forall₂ (SameOrOver (after l row)) (changes_after l row) (changes_after l' row)
  unfolding allowed lawful
  same-changes (begin v) e = still (begin v) e
  same-changes (change v c a) e =
      let act : is_active l v ≡ true = search (and_l, and_r) depth 8 in Forall₂.cons (inl (same_new v c a act)) (still (change v c a) e)
  same-changes (hand_over g r c) e = same-passed (hand_over g r c) e g r (only c) (search (and_l, and_r) depth 8)
  same-changes (undo h c n a) e = still (undo h c n a) e
  same-changes (commit v) e = still (commit v) e
  same-changes (abort v) e = still (abort v) e
  same-changes (hand_over_all g r) e = same-passed (hand_over_all g r) e g r every (search (and_l, and_r) depth 8)

same_after : (l l' : Ledger) (row : Row) → SameInUse l l' → allowed l row ≡ true → SameInUse (after l row) (after l' row)
unfolding after
same_after l l' row s e = record {
  rows = ap suc s.rows;
  begun = ap (λ (n : ℕ). begun_after n row) s.begun;
  active = ap (λ (vs : List ℕ). active_after vs row) s.active;
  undone = ap (λ (ns : List ℕ). undone_after ns row) s.undone;
  changes = same-changes l l' s row e;
}

-- rows that are allowed after the one ledger
pub same_rows : (rs : List Row) (l l' : Ledger) → SameInUse l l' → all_allowed l rs ≡ true
    → SameRows l l' rs rs × SameInUse (foldl after l rs) (foldl after l' rs)
same_rows [] l l' s e = (end (in-use-open l l' s), s)
same_rows (row ∷ rs) l l' s e =
    let one = same_after l l' row s (and_l (allowed l row) _ e) in
    let more = same_rows rs (after l row) (after l' row) one (and_r (allowed l row) _ e) in
    (next (in-use-open l l' s) refl more.0, more.1)
