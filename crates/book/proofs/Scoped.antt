-- Scopes by the ledger: each change belongs to a scope that one of the changes starts, with the same maker, cell, holder and hand-over (`Scoped`).
-- Every row keeps that, allowed or not.
use Prim.Native.Nat.{ℕ, suc}
use mathlib.Core.Path.{◌≡◌, refl, ap, ap₂, sym, ◌∙◌, subst}
use mathlib.Core.Bool.{Bool, true, false, cond, not, ◌&&◌}
use mathlib.Core.List.Memᴰ
use mathlib.Core.List.{List, [], ◌∷◌, map}
use mathlib.Core.Logic.{◌⊎◌, inl, inr}
use lib.IntN.{ℤ}
use lib.Dec.{eqb}
use borrow.Author.Tests.{eqb-true}
use Rattle.book.specs.Lists.{In, keep, foldl}
use Rattle.book.specs.Rows.{Row, begin, change, hand_over, undo, commit, abort, hand_over_all}
use Rattle.book.specs.Ledger.{Change, Ledger, empty, continues, scope_from, new_change, only, every, holds, given, pass, after, ledger}
use Rattle.book.proofs.Lists.{clash, not_is, and_l, and_r, here, there, in-cons, in-keep, keep-in}
use Rattle.book.proofs.Invariant.{pass-cases, pass-row}

-- the change `s` starts the scope of x
pub record Started (xs : List Change) (x : Change) : Type 0 where
  pub s : Change
  pub mem : In s xs
  pub start : s.scope ≡ s.row
  pub row : s.row ≡ x.scope
  pub maker : s.maker ≡ x.maker
  pub cell : s.cell ≡ x.cell
  pub holder : s.holder ≡ x.holder
  pub handed : s.handed ≡ x.handed

pub record Scoped (xs : List Change) : Type 0 where
  pub started : (x : Change) → In x xs → Started xs x
  -- the changes of a cell that a visit made since it last handed the cell over are of one scope
  pub single : (v c : ℕ) (x y : Change) → In x xs → In y xs → continues v c x ≡ true → continues v c y ≡ true → x.scope ≡ y.scope
  -- a change that was not handed over is its maker's
  pub own : (x : Change) → In x xs → x.handed ≡ false → x.holder ≡ x.maker

pub scoped-empty : Scoped []
scoped-empty = record {
  started = λ x m. absurd (Memᴰ.not-nil m);
  single = λ v c x y m. absurd (Memᴰ.not-nil m);
  own = λ x m. absurd (Memᴰ.not-nil m);
}

-- ── A change ──────────────────────────────────────────────────────────────────────────────────────────────────────────

-- a change that v made of c, and has not handed over since
pub continued : (v c : ℕ) (x : Change) → continues v c x ≡ true → (x.maker ≡ v) × (x.cell ≡ c) × (x.handed ≡ false)
continued v c x e =
    let p : eqb x.maker v ≡ true = search (and_l, and_r) in
    let q : eqb x.cell c ≡ true = search (and_l, and_r) in
    let r : not x.handed ≡ true = search (and_l, and_r) in
    (eqb-true x.maker v p, eqb-true x.cell c q, not_is _ r)

-- the scope of a new change: that of a change which it continues, or its own
pub data NewScope (l : Ledger) (v c n : ℕ) : Type 0 where
  grows : (y : Change) → In y l.changes → continues v c y ≡ true → n ≡ y.scope → NewScope l v c n
  starts : keep (continues v c) l.changes ≡ [] → n ≡ suc l.rows → NewScope l v c n

pub new-scope : (l : Ledger) (v c : ℕ) → NewScope l v c (scope_from (suc l.rows) (keep (continues v c) l.changes))
new-scope l v c = go (keep (continues v c) l.changes) refl
  where
    go : (ys : List Change) → keep (continues v c) l.changes ≡ ys → NewScope l v c (scope_from (suc l.rows) ys)
    go [] e = starts e refl
    go (y ∷ ys) e = let m = in-keep (continues v c) l.changes y (rw e here) in grows y m.0 m.1 refl

module _ (l : Ledger) (v c : ℕ) (a : ℤ) (S : Scoped l.changes) where
  abbrev newest : Change
  newest = new_change l v c a

  started-there : (x : Change) → Started l.changes x → Started (newest ∷ l.changes) x
  started-there x d = record {
    s = d.s;
    mem = there d.mem;
    start = d.start;
    row = d.row;
    maker = d.maker;
    cell = d.cell;
    holder = d.holder;
    handed = d.handed;
  }

  new-started : Started (newest ∷ l.changes) newest
  new-started = go (new-scope l v c)
    where
      go : NewScope l v c newest.scope → Started (newest ∷ l.changes) newest
      go (grows y m k e) =
          let d = S.started y m in let f = continued v c y k in record {
            s = d.s;
            mem = there d.mem;
            start = d.start;
            row = d.row ∙ sym e;
            maker = d.maker ∙ f.0;
            cell = d.cell ∙ f.1;
            holder = d.holder ∙ S.own y m f.2 ∙ f.0;
            handed = d.handed ∙ f.2;
          }
      go (starts k e) = record { s = newest; mem = here; start = e; row = sym e; maker = refl; cell = refl; holder = refl; handed = refl }

  -- a change that it continues is of its scope
  new-single : (y : Change) → In y l.changes → continues v c y ≡ true → newest.scope ≡ y.scope
  new-single y m k = go (new-scope l v c)
    where
      go : NewScope l v c newest.scope → newest.scope ≡ y.scope
      go (grows z n f e) = e ∙ S.single v c z y n m f k
      go (starts f e) = absurd (Memᴰ.not-nil (rw f at (keep-in (continues v c) m k)))

  new-and-old : (u k : ℕ) (x y : Change) → x ≡ newest → In y l.changes → continues u k x ≡ true → continues u k y ≡ true → x.scope ≡ y.scope
  new-and-old u k x y e n p q =
      let f = continued u k newest (rw e at p) in ap (λ (z : Change). z.scope) e ∙ new-single y n (rw (f.0, f.1) q)

  both : (u k : ℕ) (x y : Change) → (x ≡ newest) ⊎ In x l.changes → (y ≡ newest) ⊎ In y l.changes → continues u k x ≡ true
      → continues u k y ≡ true → x.scope ≡ y.scope
  both u k x y (inl e) (inl f) p q = ap (λ (z : Change). z.scope) (e ∙ sym f)
  both u k x y (inl e) (inr n) p q = new-and-old u k x y e n p q
  both u k x y (inr m) (inl f) p q = sym (new-and-old u k y x f m q p)
  both u k x y (inr m) (inr n) p q = S.single u k x y m n p q

  scoped-change : Scoped (newest ∷ l.changes)
  scoped-change = record {
    started = in-cons new-started (λ x m. started-there x (S.started x m));
    single = λ u k x y m n. both u k x y (Memᴰ.cases_cons m) (Memᴰ.cases_cons n);
    own = in-cons (λ h. refl) S.own;
  }

-- ── A hand-over ───────────────────────────────────────────────────────────────────────────────────────────────────────

pub pass-scope : (g r : ℕ) (cs : ℕ → Bool) (x : Change) → (pass g r cs x).scope ≡ x.scope
pass-scope g r cs x = pass-cases (λ (y : Change). y.scope ≡ x.scope) g r cs x (λ e. refl) refl

-- changes that agree in these are passed on alike
pub record Alike (x y : Change) : Type 0 where
  pub maker : x.maker ≡ y.maker
  pub cell : x.cell ≡ y.cell
  pub holder : x.holder ≡ y.holder
  pub handed : x.handed ≡ y.handed

pub alike : (g r : ℕ) (cs : ℕ → Bool) (x y : Change) → Alike x y → Alike (pass g r cs x) (pass g r cs y)
alike g r cs x y h = go (holds g cs x) (holds g cs y) (ap₂ (λ (u k : ℕ). eqb u g && cs k) h.holder h.cell)
  where
    go : (s t : Bool) → s ≡ t → Alike (cond s (given r x) x) (cond t (given r y) y)
    go true true e = record { maker = h.maker; cell = h.cell; holder = refl; handed = refl }
    go false false e = h
    go true false e = clash true refl e
    go false true e = clash true refl (sym e)

-- what was not handed over afterwards was not passed on
pub unpassed : (g r : ℕ) (cs : ℕ → Bool) (x : Change) → (pass g r cs x).handed ≡ false → pass g r cs x ≡ x
unpassed g r cs x = pass-cases (λ (y : Change). y.handed ≡ false → y ≡ x) g r cs x (λ e h. clash true refl h) (λ h. refl)

scoped-pass : (g r : ℕ) (cs : ℕ → Bool) (xs : List Change) → Scoped xs → Scoped (map (pass g r cs) xs)
scoped-pass g r cs xs S = record {
  started = λ x m. let k = Memᴰ.of_map (pass g r cs) xs m in subst (λ (z : Change). Started (map (pass g r cs) xs) z) k.2 (passed k.0 k.1);
  single = λ u k x y m n p q. S.single u k x y (back u k x m p) (back u k y n q) p q;
  own = λ x m h.
      let k = Memᴰ.of_map (pass g r cs) xs m in
      let e = unpassed g r cs k.0 (rw k.2 h) in
      subst (λ (z : Change). z.holder ≡ z.maker) k.2 (subst (λ (z : Change). z.holder ≡ z.maker) (sym e) (S.own k.0 k.1 (rw (← e, k.2) h)));
}
  where
    -- a change that its maker may continue was not passed on
    back : (u k : ℕ) (x : Change) → In x (map (pass g r cs) xs) → continues u k x ≡ true → In x xs
    back u k x m p =
        let w = Memᴰ.of_map (pass g r cs) xs m in
        let e = unpassed g r cs w.0 (rw w.2 (continued u k x p).2) in Memᴰ.cast (sym w.2 ∙ e) w.1

    passed : (x : Change) → In x xs → Started (map (pass g r cs) xs) (pass g r cs x)
    passed x m =
        let d = S.started x m in
        let a = alike g r cs d.s x (record { maker = d.maker; cell = d.cell; holder = d.holder; handed = d.handed }) in record {
          s = pass g r cs d.s;
          mem = Memᴰ.map (pass g r cs) d.mem;
          start = pass-scope g r cs d.s ∙ d.start ∙ sym (pass-row g r cs d.s);
          row = pass-row g r cs d.s ∙ d.row ∙ sym (pass-scope g r cs x);
          maker = a.maker;
          cell = a.cell;
          holder = a.holder;
          handed = a.handed;
        }

-- ── Every log ─────────────────────────────────────────────────────────────────────────────────────────────────────────

pub scoped-after : (l : Ledger) (r : Row) → Scoped l.changes → Scoped (after l r).changes
unfolding after
scoped-after l (begin v) S = S
scoped-after l (change v c a) S = scoped-change l v c a S
scoped-after l (hand_over g r c) S = scoped-pass g r (only c) l.changes S
scoped-after l (undo h c n a) S = S
scoped-after l (commit v) S = S
scoped-after l (abort v) S = S
scoped-after l (hand_over_all g r) S = scoped-pass g r every l.changes S

pub scoped-all : (l : Ledger) (rs : List Row) → Scoped l.changes → Scoped (foldl after l rs).changes
scoped-all l [] S = S
scoped-all l (r ∷ rs) S = scoped-all (after l r) rs (scoped-after l r S)

pub scoped-log : (rs : List Row) → Scoped (ledger rs).changes
scoped-log rs = scoped-all empty rs scoped-empty
