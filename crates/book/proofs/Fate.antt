-- What becomes of changes and visits. A change whose holder has ended keeps its holder; one that is kept stays kept; once no visit is active a change
-- is undone exactly when its last holder has no commit row; no change is undone twice and no visit aborted twice.
use Prim.Native.Nat.{ℕ, suc, ◌≤◌}
use native.Mathlib.Omega.{arith}
use mathlib.Core.Path.{◌≡◌, refl, sym, ◌∙◌, subst}
use mathlib.Core.Bool.{Bool, true, false, cond, not, ◌||◌, or-false}
use mathlib.Core.List.Memᴰ
use mathlib.Core.List.{List, [], ◌∷◌}
use lib.ListN.{length}
use lib.Dec.{eqb}
use borrow.Author.Tests.{eqb-true, ne_eqb}
use Rattle.book.specs.Lists.{In, keep, any, foldl, StartsWith, member}
use Rattle.book.specs.Rows.{Row, begin, change, hand_over, undo, commit, abort, hand_over_all}
use Rattle.book.specs.Ledger.{Change, Ledger, empty, pass, only, every, after, ledger}
use Rattle.book.specs.Rules.{is_active, is_undone, lawful, allowed, all_allowed, allowed_log}
use Rattle.book.specs.Cells.{is_kept}
use Rattle.book.specs.Logs.{Logged, InSum, undoes, aborts, Once}
use Rattle.book.proofs.Lists.{clash, is_false, not_is, and_l, and_r, or_r, eqb-sym, there, goes, stays_out}
use Rattle.book.proofs.Invariant.{Inv, names}
use Rattle.book.proofs.InvariantKept.{inv-after, inv-empty, inv-log}
use Rattle.book.proofs.Logs.{allowed-start, allowed-rest, ledger-later}

-- ── A visit that has ended ────────────────────────────────────────────────────────────────────────────────────────────

-- the visit has begun and is no longer active: it has a commit or an abort row
pub record Over (l : Ledger) (v : ℕ) : Type 0 where
  pub old : v ≤ l.begun
  pub over : is_active l v ≡ false

pub over-after : (l : Ledger) (r : Row) (v : ℕ) → allowed l r ≡ true → Over l v → Over (after l r) v
unfolding after allowed lawful
over-after l (begin u) v e o =
    let is : eqb u (suc l.begun) ≡ true = search (and_l, and_r) in
    let new = eqb-true u (suc l.begun) is in
    let old = o.old in
    record { old = omega arith; over = rw (ne_eqb v u (λ q. omega arith)) o.over }
over-after l (change u c a) v e o = record { old = o.old; over = o.over }
over-after l (hand_over g r c) v e o = record { old = o.old; over = o.over }
over-after l (undo h c n a) v e o = record { old = o.old; over = o.over }
over-after l (commit u) v e o = record { old = o.old; over = stays_out v u l.active o.over }
over-after l (abort u) v e o = record { old = o.old; over = stays_out v u l.active o.over }
over-after l (hand_over_all g r) v e o = record { old = o.old; over = o.over }

pub abort-active : (l : Ledger) (v : ℕ) → allowed l (abort v) ≡ true → is_active l v ≡ true
unfolding allowed lawful
abort-active l v e = search (and_l, and_r)

abort-over : (l : Ledger) (v : ℕ) → allowed l (abort v) ≡ true → Inv l → Over (after l (abort v)) v
unfolding after
abort-over l v e i = record { old = i.old v (abort-active l v e); over = goes v l.active }

-- ── A change whose holder has ended ───────────────────────────────────────────────────────────────────────────────────

-- no hand-over passes it on
pub pass-over : (l : Ledger) (g r : ℕ) (cs : ℕ → Bool) (x : Change) → is_active l g ≡ true → Over l x.holder → pass g r cs x ≡ x
pass-over l g r cs x a o = rw (ne_eqb x.holder g (λ q. clash _ (rw q a) o.over))

-- one row more leaves it as it is
keeps-holder : (l : Ledger) (r : Row) (x : Change) → allowed l r ≡ true → In x l.changes → Over l x.holder → In x (after l r).changes
unfolding after allowed lawful
keeps-holder l (begin v) x e m o = m
keeps-holder l (change v c a) x e m o = there m
keeps-holder l (hand_over g r c) x e m o =
    let a : is_active l g ≡ true = search (and_l, and_r) depth 8 in
    Memᴰ.cast (sym (pass-over l g r (only c) x a o)) (Memᴰ.map (pass g r (only c)) m)
keeps-holder l (undo h c n a) x e m o = m
keeps-holder l (commit v) x e m o = m
keeps-holder l (abort v) x e m o = m
keeps-holder l (hand_over_all g r) x e m o =
    let a : is_active l g ≡ true = search (and_l, and_r) depth 8 in Memᴰ.cast (sym (pass-over l g r every x a o)) (Memᴰ.map (pass g r every) m)

-- and so does every list of rows
ended-all : (l : Ledger) (rs : List Row) (x : Change) → all_allowed l rs ≡ true → In x l.changes → Over l x.holder
    → In x (foldl after l rs).changes
ended-all l [] x e m o = m
ended-all l (r ∷ rs) x e m o =
    let a = and_l (allowed l r) _ e in ended-all (after l r) rs x (and_r (allowed l r) _ e) (keeps-holder l r x a m o) (over-after l r x.holder a o)

-- A change whose holder has ended, by a commit or by an abort, keeps its holder: it stands as it is in every later log.
pub ended-keeps-holder : (rs later : List Row) (x : Change) → StartsWith rs later → allowed_log later ≡ true → Logged rs x
    → is_active (ledger rs) x.holder ≡ false
    → Logged later x
ended-keeps-holder rs later x p e m a =
    let i = inv-log rs (allowed-start rs later p e) in
    let o : Over (ledger rs) x.holder = record { old = (i.good x m).held; over = a } in
    subst (λ (l : Ledger). In x l.changes) (sym (ledger-later rs later p e)) (ended-all (ledger rs) p.0 x (allowed-rest rs later p e) m o)

-- ── A change that is kept ─────────────────────────────────────────────────────────────────────────────────────────────

kept-after : (l : Ledger) (r : Row) (x : Change) → is_kept l x ≡ true → is_kept (after l r) x ≡ true
unfolding after
kept-after l (begin v) x k = k
kept-after l (change v c a) x k = k
kept-after l (hand_over g r c) x k = k
kept-after l (undo h c n a) x k = k
kept-after l (commit v) x k = or_r (eqb x.holder v) _ k
kept-after l (abort v) x k = k
kept-after l (hand_over_all g r) x k = k

kept-all : (l : Ledger) (rs : List Row) (x : Change) → is_kept l x ≡ true → is_kept (foldl after l rs) x ≡ true
kept-all l [] x k = k
kept-all l (r ∷ rs) x k = kept-all (after l r) rs x (kept-after l r x k)

-- A change whose last holder has a commit row is in the sum of every later log.
pub kept-stays : (rs later : List Row) (x : Change) → StartsWith rs later → allowed_log later ≡ true → InSum rs x → InSum later x
kept-stays rs later x p e s =
    let i = inv-log rs (allowed-start rs later p e) in (
      ended-keeps-holder rs later x p e s.0 (i.ended x.holder s.1).over,
      subst (λ (l : Ledger). is_kept l x ≡ true) (sym (ledger-later rs later p e)) (kept-all (ledger rs) p.0 x s.1),
    )

-- ── Undone exactly when not kept ──────────────────────────────────────────────────────────────────────────────────────

pub undone-not-kept : (l : Ledger) (x : Change) → Inv l → In x l.changes → is_undone l x ≡ true → is_kept l x ≡ false
undone-not-kept l x i m u = is_false _ (λ k. clash _ ((i.good x m).bears u) (i.ended x.holder k).clean)

pub fate-ended : (l : Ledger) (x : Change) → Inv l → In x l.changes → is_active l x.holder ≡ false → is_undone l x ≡ not (is_kept l x)
fate-ended l x i m a = go (is_undone l x) refl (is_kept l x) refl
  where
    go : (u : Bool) → is_undone l x ≡ u → (k : Bool) → is_kept l x ≡ k → u ≡ not k
    go true p true q = clash _ q (undone-not-kept l x i m p)
    go true p false q = refl
    go false p true q = refl
    go false p false q = rw (a, q, p) at (i.good x m).fate

-- no row has the number 0, and no visit
not-zero : (n : ℕ) → 1 ≤ n → eqb 0 n ≡ false
not-zero n h = ne_eqb 0 n (λ q. omega arith)

-- the undo rows of row n are what the ledger has of it
undoes-after : (l : Ledger) (r : Row) (n : ℕ) (a : Bool) → 1 ≤ n → (a || member n (after l r).undone) ≡ (undoes n r || a || member n l.undone)
unfolding after
undoes-after l (begin v) n a h = rw (not-zero n h)
undoes-after l (change v c x) n a h = rw (not-zero n h)
undoes-after l (hand_over g r c) n a h = rw (not-zero n h)
undoes-after l (undo u c k x) n a h = rw (eqb-sym n k) (shuffle a (eqb k n) (member n l.undone))
  where
    shuffle : (a q m : Bool) → (a || (q || m)) ≡ (q || a || m)
    shuffle true true m = refl
    shuffle true false m = refl
    shuffle false true m = refl
    shuffle false false m = refl
undoes-after l (commit v) n a h = rw (not-zero n h)
undoes-after l (abort v) n a h = rw (not-zero n h)
undoes-after l (hand_over_all g r) n a h = rw (not-zero n h)

undoes-all : (l : Ledger) (rs : List Row) (n : ℕ) → 1 ≤ n → member n (foldl after l rs).undone ≡ (any (undoes n) rs || member n l.undone)
undoes-all l [] n h = refl
undoes-all l (r ∷ rs) n h = undoes-all (after l r) rs n h ∙ undoes-after l r n (any (undoes n) rs) h

pub undoes-is : (rs : List Row) (n : ℕ) → 1 ≤ n → member n (ledger rs).undone ≡ any (undoes n) rs
undoes-is rs n h = undoes-all empty rs n h ∙ or-false (any (undoes n) rs)

-- With no visit active a change has an undo row exactly when its last holder has no commit row.
pub undone-exactly : (rs : List Row) (x : Change) → allowed_log rs ≡ true → (ledger rs).active ≡ [] → Logged rs x
    → any (undoes x.row) rs ≡ not (is_kept (ledger rs) x)
undone-exactly rs x al e m = let i = inv-log rs al in sym (undoes-is rs x.row (i.good x m).low) ∙ fate-ended (ledger rs) x i m (rw e)

-- ── Once ──────────────────────────────────────────────────────────────────────────────────────────────────────────────

-- at most one, and none where it was before
record AtMostOne (before : Type 0) (k : ℕ) : Type 0 where
  none : before → k ≡ 0
  one : k ≤ 1

undo-once : (l : Ledger) (rs : List Row) (n : ℕ) → 1 ≤ n → all_allowed l rs ≡ true
    → AtMostOne (member n l.undone ≡ true) (length (keep (undoes n) rs))
unfolding after
undo-once l [] n z e = record { none = λ h. refl; one = omega arith }
undo-once l (r ∷ rs) n z e = go r (and_l (allowed l r) _ e) (undo-once (after l r) rs n z (and_r (allowed l r) _ e))
  where
    go : (r : Row) → allowed l r ≡ true → AtMostOne (member n (after l r).undone ≡ true) (length (keep (undoes n) rs))
        → AtMostOne (member n l.undone ≡ true) (length (keep (undoes n) (r ∷ rs)))
    go (begin v) al ih = rw (not-zero n z) ih
    go (change v c a) al ih = rw (not-zero n z) ih
    go (hand_over g u c) al ih = rw (not-zero n z) ih
    go (commit v) al ih = rw (not-zero n z) ih
    go (abort v) al ih = rw (not-zero n z) ih
    go (hand_over_all g u) al ih = rw (not-zero n z) ih
    go (undo h c m a) al ih = let k = names l h c m a al in its (eqb n m) refl (not_is _ (and_r (is_active l k.x.holder) _ k.opened)) k.row ih
      where
        its : (t : Bool) → eqb n m ≡ t → {x : ℕ} → member x l.undone ≡ false → x ≡ m
            → AtMostOne ((t || member n l.undone) ≡ true) (length (keep (undoes n) rs))
            → AtMostOne (member n l.undone ≡ true) (length (keep (undoes n) (undo h c m a ∷ rs)))
        its true q f r ih =
            let k = ih.none refl in
            rw (eqb-sym m n, q) (record { none = λ w. clash _ w (rw (eqb-true n m q, ← r) f); one = omega arith })
        its false q f r ih = rw (eqb-sym m n, q) ih

abort-once : (l : Ledger) (rs : List Row) (v : ℕ) → 1 ≤ v → all_allowed l rs ≡ true → Inv l → AtMostOne (Over l v) (length (keep (aborts v) rs))
abort-once l [] v z e i = record { none = λ h. refl; one = omega arith }
abort-once l (r ∷ rs) v z e i =
    let al = and_l (allowed l r) _ e in go r al (abort-once (after l r) rs v z (and_r (allowed l r) _ e) (inv-after l r al i))
  where
    step : (r : Row) (k : ℕ) → allowed l r ≡ true → AtMostOne (Over (after l r) v) k → AtMostOne (Over l v) k
    step r k al a = record { none = λ o. a.none (over-after l r v al o); one = a.one }

    go : (r : Row) → allowed l r ≡ true → AtMostOne (Over (after l r) v) (length (keep (aborts v) rs))
        → AtMostOne (Over l v) (length (keep (aborts v) (r ∷ rs)))
    go (begin u) al ih = rw (not-zero v z) (step (begin u) _ al ih)
    go (change u c a) al ih = rw (not-zero v z) (step (change u c a) _ al ih)
    go (hand_over g u c) al ih = rw (not-zero v z) (step (hand_over g u c) _ al ih)
    go (undo h c n a) al ih = rw (not-zero v z) (step (undo h c n a) _ al ih)
    go (commit u) al ih = rw (not-zero v z) (step (commit u) _ al ih)
    go (hand_over_all g u) al ih = rw (not-zero v z) (step (hand_over_all g u) _ al ih)
    go (abort u) al ih = its (eqb u v) refl
      where
        its : (t : Bool) → eqb u v ≡ t → AtMostOne (Over l v) (length (cond t (abort u ∷ keep (aborts v) rs) (keep (aborts v) rs)))
        its true q = let is = eqb-true u v q in record {
          none = λ o. clash _ (rw (← is) (abort-active l u al)) o.over;
          one = let k = ih.none (subst (λ (w : ℕ). Over (after l (abort u)) w) is (abort-over l u al i)) in omega arith;
        }
        its false q = step (abort u) _ al ih

-- 00: no log has two undo rows for a change or two abort rows for a visit
pub once : (rs : List Row) → allowed_log rs ≡ true → Once rs
once rs e = record { undos = λ n h. (undo-once empty rs n h e).one; aborted = λ v h. (abort-once empty rs v h e inv-empty).one }
