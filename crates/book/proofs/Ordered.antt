-- In which order scopes and undo rows come in every ledger that allowed rows make (`Ordered`): later changes of a maker and cell are of later scopes,
-- and in a scope the later changes are undone first. `Standing` draws from it what an undo leaves of a scope.
use Prim.Native.Nat.{ℕ, suc, ◌≤◌, ◌<◌}
use native.Mathlib.Omega.{arith}
use mathlib.Core.Path.{◌≡◌, refl, ap, sym, ◌∙◌, subst}
use mathlib.Core.Bool.{Bool, true, false, cond, not, ◌||◌}
use mathlib.Core.Logic.{◌⊎◌, inl, inr}
use mathlib.Core.List.Memᴰ
use mathlib.Core.List.{List, [], ◌∷◌, map}
use lib.IntN.{ℤ}
use lib.Dec.{eqb}
use borrow.Author.Tests.{eqb-true, eq-eqb}
use Rattle.book.specs.Lists.{In, foldl, member}
use Rattle.book.specs.Rows.{Row, begin, change, hand_over, undo, commit, abort, hand_over_all}
use Rattle.book.specs.Ledger.{Change, Ledger, empty, new_change, holds, given, pass, only, every, after, ledger}
use Rattle.book.specs.Rules.{is_active, bears_undo, is_undone, lawful, allowed, all_allowed, allowed_log}
use Rattle.book.specs.Book.{undo_of}
use Rattle.book.proofs.Lists.{clash, and_i, and_l, and_r, or_r, not_is}
use Rattle.book.proofs.Invariant.{Inv, same_row, pass-cases, pass-row}
use Rattle.book.proofs.InvariantKept.{inv-after, inv-empty}
use Rattle.book.proofs.Scoped.{Scoped, NewScope, grows, starts, new-scope, continued, pass-scope, unpassed, scoped-after, scoped-empty}
use Rattle.book.proofs.SameScope.{same-scope, continues-if}
use Rattle.book.proofs.Top.{Top, top-first, undoes}

-- two changes of one cell by one maker
pub record SameOrigin (x y : Change) : Type 0 where
  pub maker : x.maker ≡ y.maker
  pub cell : x.cell ≡ y.cell

pub record Ordered (l : Ledger) : Type 0 where
  -- a scope starts with its lowest row
  pub low : (x : Change) → In x l.changes → x.scope ≤ x.row
  -- the later of two is of the same scope or of a later one
  pub rises : (x y : Change) → In x l.changes → In y l.changes → SameOrigin x y → x.row ≤ y.row → x.scope ≤ y.scope
  -- what was handed over is older than what was not
  pub newer : (x y : Change) → In x l.changes → In y l.changes → SameOrigin x y → x.handed ≡ true → y.handed ≡ false → x.row < y.row
  -- in a scope the later changes are undone first
  pub sinks : (x y : Change) → In x l.changes → In y l.changes → x.scope ≡ y.scope → x.row < y.row → is_undone l x ≡ true → is_undone l y ≡ true

pub ordered-empty : Ordered empty
ordered-empty = record {
  low = λ x m. absurd (Memᴰ.not-nil m);
  rises = λ x y m. absurd (Memᴰ.not-nil m);
  newer = λ x y m. absurd (Memᴰ.not-nil m);
  sinks = λ x y m. absurd (Memᴰ.not-nil m);
}

-- ── A change ──────────────────────────────────────────────────────────────────────────────────────────────────────────

module _ (l : Ledger) (v c : ℕ) (a : ℤ) (clean : bears_undo l v ≡ false) (i : Inv l) (S : Scoped l.changes) (O : Ordered l) where
  new-low : (new_change l v c a).scope ≤ suc l.rows
  new-low = go (new-scope l v c)
    where
      go : NewScope l v c (new_change l v c a).scope → (new_change l v c a).scope ≤ suc l.rows
      go (grows y m k e) = let p = O.low y m in let r = (i.good y m).row in omega arith
      go (starts k e) = omega arith

  -- an older change of the cell by v is of no later scope
  new-rises : (x : Change) → In x l.changes → x.maker ≡ v → x.cell ≡ c → x.scope ≤ (new_change l v c a).scope
  new-rises x m p q = go (new-scope l v c)
    where
      go : NewScope l v c (new_change l v c a).scope → x.scope ≤ (new_change l v c a).scope
      go (starts k e) = let lo = O.low x m in let r = (i.good x m).row in omega arith
      go (grows y n k e) = its x.handed refl
        where
          its : (t : Bool) → x.handed ≡ t → x.scope ≤ (new_change l v c a).scope
          its false h = let s = S.single v c x y m n (continues-if v c x p q h) k in omega arith
          its true h =
              let f = continued v c y k in
              let origin : SameOrigin x y = record { maker = p ∙ sym f.0; cell = q ∙ sym f.1 } in
              let r = O.newer x y m n origin h f.2 in
              let s = O.rises x y m n origin (omega arith) in omega arith

  -- no undone change is of its scope
  new-clean : (x : Change) → In x l.changes → x.scope ≡ (new_change l v c a).scope → is_undone l x ≡ true → ⊥
  new-clean x m e u = go (new-scope l v c)
    where
      go : NewScope l v c (new_change l v c a).scope → ⊥
      go (starts k s) = let lo = O.low x m in let r = (i.good x m).row in omega arith
      go (grows y n k s) =
          let f = continued v c y k in
          let holder : x.holder ≡ v = (same-scope l.changes x y i.falling S m n (e ∙ s)).holder ∙ S.own y n f.2 ∙ f.0 in
          clash _ ((i.good x m).bears u) (rw holder clean)

  ordered-change : Ordered (after l (change v c a))
  unfolding after
  ordered-change = record {
    low = λ x m. low (Memᴰ.cases_cons m);
    rises = λ x y m n. rises x y (Memᴰ.cases_cons m) (Memᴰ.cases_cons n);
    newer = λ x y m n. newer x y (Memᴰ.cases_cons m) (Memᴰ.cases_cons n);
    sinks = λ x y m n. sinks x y (Memᴰ.cases_cons m) (Memᴰ.cases_cons n);
  }
    where
      low : {x : Change} → (x ≡ new_change l v c a) ⊎ In x l.changes → x.scope ≤ x.row
      low {x} (inl e) = subst (λ (w : Change). w.scope ≤ w.row) (sym e) new-low
      low {x} (inr m) = O.low x m

      rises : (x y : Change) → (x ≡ new_change l v c a) ⊎ In x l.changes → (y ≡ new_change l v c a) ⊎ In y l.changes
          → SameOrigin x y → x.row ≤ y.row → x.scope ≤ y.scope
      rises x y (inl e) (inl f) p h = let s = ap (λ (w : Change). w.scope) (e ∙ sym f) in omega arith
      rises x y (inl e) (inr n) p h = let r = (i.good y n).row in let s = ap (λ (w : Change). w.row) e in absurd (omega arith)
      rises x y (inr m) (inl f) p h =
          let k = new-rises x m (p.maker ∙ ap (λ (w : Change). w.maker) f) (p.cell ∙ ap (λ (w : Change). w.cell) f) in
          let s = ap (λ (w : Change). w.scope) f in omega arith
      rises x y (inr m) (inr n) p h = O.rises x y m n p h

      newer : (x y : Change) → (x ≡ new_change l v c a) ⊎ In x l.changes → (y ≡ new_change l v c a) ⊎ In y l.changes
          → SameOrigin x y → x.handed ≡ true → y.handed ≡ false → x.row < y.row
      newer x y (inl e) g p h k = clash _ h (ap (λ (w : Change). w.handed) e)
      newer x y (inr m) (inl f) p h k = let r = (i.good x m).row in let s = ap (λ (w : Change). w.row) f in omega arith
      newer x y (inr m) (inr n) p h k = O.newer x y m n p h k

      sinks : (x y : Change) → (x ≡ new_change l v c a) ⊎ In x l.changes → (y ≡ new_change l v c a) ⊎ In y l.changes
          → x.scope ≡ y.scope → x.row < y.row → is_undone l x ≡ true → is_undone l y ≡ true
      sinks x y (inl e) (inl f) s h u = let r = ap (λ (w : Change). w.row) (e ∙ sym f) in absurd (omega arith)
      sinks x y (inl e) (inr n) s h u = let r = (i.good y n).row in let k = ap (λ (w : Change). w.row) e in absurd (omega arith)
      sinks x y (inr m) (inl f) s h u = absurd (new-clean x m (s ∙ ap (λ (w : Change). w.scope) f) u)
      sinks x y (inr m) (inr n) s h u = O.sinks x y m n s h u

-- ── A hand-over ───────────────────────────────────────────────────────────────────────────────────────────────────────

-- a change that is handed over is one of the giver's and of the cells, or was handed over before
passed : (g r : ℕ) (cs : ℕ → Bool) (x : Change) → (pass g r cs x).handed ≡ true → (x.handed ≡ true) ⊎ ((x.holder ≡ g) × (cs x.cell ≡ true))
passed g r cs x = go (holds g cs x) refl
  where
    go : (t : Bool) → holds g cs x ≡ t → (cond t (given r x) x).handed ≡ true → (x.handed ≡ true) ⊎ ((x.holder ≡ g) × (cs x.cell ≡ true))
    go true e h = inr (eqb-true x.holder g (and_l _ (cs x.cell) e), and_r (eqb x.holder g) _ e)
    go false e h = inl h

-- a change of the giver's and of the cells is handed over
does-pass : (g r : ℕ) (cs : ℕ → Bool) (x : Change) → x.holder ≡ g → cs x.cell ≡ true → (pass g r cs x).handed ≡ true
does-pass g r cs x p q = rw (eq-eqb x.holder g p, q)

module _ (l : Ledger) (g r : ℕ) (cs : ℕ → Bool) (S : Scoped l.changes) (O : Ordered l) where
  newer-pass : (x y : Change) → In x l.changes → In y l.changes → SameOrigin x y → (pass g r cs x).handed ≡ true → (pass g r cs y).handed ≡ false
      → x.row < y.row
  newer-pass x y m n p h k = go (passed g r cs x h)
    where
      kept : y.handed ≡ false
      kept = subst (λ (w : Change). w.handed ≡ false) (unpassed g r cs y k) k

      go : (x.handed ≡ true) ⊎ ((x.holder ≡ g) × (cs x.cell ≡ true)) → x.row < y.row
      go (inl e) = O.newer x y m n p e kept
      go (inr e) = its x.handed refl
        where
          its : (t : Bool) → x.handed ≡ t → x.row < y.row
          its true f = O.newer x y m n p f kept
          its false f = clash _ (does-pass g r cs y (S.own y n kept ∙ sym p.maker ∙ sym (S.own x m f) ∙ e.0) (ap cs (sym p.cell) ∙ e.1)) k

  -- what a passed change was
  record Earlier (x : Change) : Type 0 where
    w : Change
    mem : In w l.changes
    is : pass g r cs w ≡ x
    row : x.row ≡ w.row
    scope : x.scope ≡ w.scope
    origin : SameOrigin w x

  earlier : (x : Change) → In x (map (pass g r cs) l.changes) → Earlier x
  earlier x m =
      let k = Memᴰ.of_map (pass g r cs) l.changes m in
      record {
        w = k.0;
        mem = k.1;
        is = k.2;
        row = ap (λ (z : Change). z.row) (sym k.2) ∙ pass-row g r cs k.0;
        scope = ap (λ (z : Change). z.scope) (sym k.2) ∙ pass-scope g r cs k.0;
        origin = subst (λ (z : Change). SameOrigin k.0 z) k.2
            (pass-cases (λ (z : Change). SameOrigin k.0 z) g r cs k.0 (λ e. record { maker = refl; cell = refl }) (record { maker = refl; cell = refl }));
      }

  earlier-origin : (x y : Change) (p : Earlier x) (q : Earlier y) → SameOrigin x y → SameOrigin p.w q.w
  earlier-origin x y p q k = record {
    maker = p.origin.maker ∙ k.maker ∙ sym q.origin.maker;
    cell = p.origin.cell ∙ k.cell ∙ sym q.origin.cell;
  }

  ordered-pass : (n : ℕ) → Ordered (record {
    rows = n;
    begun = l.begun;
    active = l.active;
    committed = l.committed;
    undoing = l.undoing;
    undone = l.undone;
    changes = map (pass g r cs) l.changes;
  })
  ordered-pass n₀ = record {
    low = λ x m. let p = earlier x m in let k = O.low p.w p.mem in let s = p.scope in let t = p.row in omega arith;
    rises = λ x y m n k h.
        let p = earlier x m in let q = earlier y n in
        let s = p.scope in let t = q.scope in let a = p.row in let b = q.row in
        let le = O.rises p.w q.w p.mem q.mem (earlier-origin x y p q k) (omega arith) in omega arith;
    newer = λ x y m n k h f.
        let p = earlier x m in let q = earlier y n in
        let a = p.row in let b = q.row in
        let lt = newer-pass p.w q.w p.mem q.mem (earlier-origin x y p q k)
        (ap (λ (z : Change). z.handed) p.is ∙ h) (ap (λ (z : Change). z.handed) q.is ∙ f) in omega arith;
    sinks = λ x y m n s h u.
        let p = earlier x m in let q = earlier y n in
        let a = p.row in let b = q.row in
        let un = O.sinks p.w q.w p.mem q.mem (sym p.scope ∙ s ∙ q.scope) (omega arith)
        (subst (λ (t : ℕ). member t l.undone ≡ true) a u) in subst (λ (t : ℕ). member t l.undone ≡ true) (sym b) un;
  }

-- ── An undo ───────────────────────────────────────────────────────────────────────────────────────────────────────────

module _ (l : Ledger) (x : Change) (t : Top l x) (i : Inv l) (S : Scoped l.changes) (O : Ordered l) where
  -- a change of the scope of x with a higher row is undone already
  pub above-undone : (y : Change) → In y l.changes → y.scope ≡ x.scope → x.row < y.row → is_undone l y ≡ true
  above-undone y m e lt = go (is_undone l y) refl
    where
      go : (t : Bool) → is_undone l y ≡ t → t ≡ true
      go true q = refl
      go false q =
          let holder = (same-scope l.changes y x i.falling S m t.mem e).holder in
          let active : is_active l y.holder ≡ true = ap (is_active l) holder ∙ and_l _ (not (is_undone l x)) t.opened in
          let le = t.above y m (and_i _ _ active (ap not q)) holder in absurd (omega arith)

  ordered-undo : Ordered (after l (undo_of x))
  unfolding after
  ordered-undo = record {
    low = O.low;
    rises = O.rises;
    newer = O.newer;
    sinks = λ y z m n s lt u. or_r (eqb z.row x.row) _ (sinks y z m n s lt (eqb y.row x.row) refl u);
  }
    where
      sinks : (y z : Change) → In y l.changes → In z l.changes → y.scope ≡ z.scope → y.row < z.row
          → (b : Bool) → eqb y.row x.row ≡ b → (b || is_undone l y) ≡ true → is_undone l z ≡ true
      sinks y z m n s lt true q u =
          let e = eqb-true y.row x.row q in
          above-undone z n (sym s ∙ ap (λ (k : Change). k.scope) (same_row l.changes y x i.falling m t.mem e)) (omega arith)
      sinks y z m n s lt false q u = O.sinks y z m n s lt u

-- ── Every ledger that allowed rows make ───────────────────────────────────────────────────────────────────────────────

pub ordered-after : (l : Ledger) (r : Row) → allowed l r ≡ true → Inv l → Scoped l.changes → Ordered l → Ordered (after l r)
unfolding after allowed lawful
ordered-after l (begin v) e i S O = record { low = O.low; rises = O.rises; newer = O.newer; sinks = O.sinks }
ordered-after l (change v c a) e i S O = let clean : not (bears_undo l v) ≡ true = search (and_l, and_r) in ordered-change l v c a (not_is _ clean) i S O
ordered-after l (hand_over g r c) e i S O = ordered-pass l g r (only c) S O (suc l.rows)
ordered-after l (undo h c n a) e i S O =
    let law : lawful l (undo h c n a) ≡ true = search (and_l, and_r) in
    let u = undoes l h c n a law in
    subst (λ (r : Row). Ordered (after l r)) (sym u.is) (ordered-undo l u.x (top-first _ l u.x u.rest i.falling u.first) i S O)
ordered-after l (commit v) e i S O = record { low = O.low; rises = O.rises; newer = O.newer; sinks = O.sinks }
ordered-after l (abort v) e i S O = record { low = O.low; rises = O.rises; newer = O.newer; sinks = O.sinks }
ordered-after l (hand_over_all g r) e i S O = ordered-pass l g r every S O (suc l.rows)

pub ordered-all : (l : Ledger) (rs : List Row) → all_allowed l rs ≡ true → Inv l → Scoped l.changes → Ordered l → Ordered (foldl after l rs)
ordered-all l [] e i S O = O
ordered-all l (r ∷ rs) e i S O =
    let al = and_l (allowed l r) _ e in
    ordered-all (after l r) rs (and_r (allowed l r) _ e) (inv-after l r al i) (scoped-after l r S) (ordered-after l r al i S O)

pub ordered-log : (rs : List Row) → allowed_log rs ≡ true → Ordered (ledger rs)
ordered-log rs e = ordered-all empty rs e inv-empty scoped-empty ordered-empty
