-- What a visit's abort and an opening add: undo rows for the open changes of some visits, then abort rows for those visits. One law for both, for any
-- set `who` of visits: the rows are allowed, those visits end, and nothing else changes.
use Prim.Native.Nat.{ℕ}
use native.Mathlib.Omega.{arith}
use mathlib.Core.Path.{◌≡◌, refl, ap, ap₂, sym, ◌∙◌}
use mathlib.Core.Bool.{Bool, true, false, cond, not, ◌&&◌, and-false}
use mathlib.Core.List.Memᴰ
use mathlib.Core.List.{List, [], ◌∷◌, ◌++◌, map}
use lib.Dec.{eqb}
use borrow.Author.Tests.{eqb-true, eq-eqb, ne_eqb, le-leb}
use Rattle.book.specs.Lists.{In, keep, foldl, member, without}
use Rattle.book.specs.Limits.{row_limit, visit_limit}
use Rattle.book.specs.Rows.{Row, is_visit, is_cell, is_row_number, fits}
use Rattle.book.specs.Ledger.{Change, Ledger, after, ledger}
use Rattle.book.specs.Rules.{is_active, bears_undo, is_undone, is_open_change, open_changes, open_held, just, is_first, lawful, within_limits, allowed, all_allowed, allowed_log}
use Rattle.book.specs.Book.{undo_of, take_back, everyone, closing}
use Rattle.book.proofs.Lists.{clash, is_false, not_is, and_l, and_r, and_i, and-not-or, eqb-sym, eq_z-refl, foldl-append, here, in-keep, keep-in, keep_same, keep_all, keep-none, keep-keep, keep-swap, any_none, member-in, stays-in, goes}
use Rattle.book.proofs.Logs.{allowed-append, ledger-append}
use Rattle.book.proofs.Invariant.{Inv, Falling, Sinking, same_row, falling-keep, sinking-keep}
use Rattle.book.proofs.InvariantKept.{inv-after, inv-log}

-- ── One row ───────────────────────────────────────────────────────────────────────────────────────────────────────────

-- a holder's highest open change may be undone
undo-allowed : (l : Ledger) (x : Change) (ys : List Change) → Inv l → open_held (just x.holder) l ≡ x ∷ ys → allowed l (undo_of x) ≡ true
unfolding allowed fits lawful within_limits
undo-allowed l x ys i e =
    let k = in-keep (λ y. just x.holder y.holder) (open_changes l) x (rw e here) in
    let d = i.good x (in-keep (is_open_change l) l.changes x k.0).0 in
    let sp = i.space in let ct = i.count in let hd = d.held in let rw' = d.row in
    let visit : is_visit x.holder ≡ true = and_i _ _ (le-leb 1 x.holder d.first) (le-leb x.holder visit_limit (omega arith)) in
    let number : is_row_number x.row ≡ true = and_i _ _ (le-leb 1 x.row d.low) (le-leb x.row row_limit (omega arith)) in
    let first : is_first (open_held (just x.holder) l) x.row x.cell x.amount ≡ true =
    rw e (and_i _ _ (and_i _ _ (eq-eqb x.row x.row refl) (eq-eqb x.cell x.cell refl)) (eq_z-refl x.amount)) in
    let fit : fits (undo_of x) ≡ true =
    and_i _ _ (and_i _ _ (and_i _ _ visit (and_l (is_cell x.cell) _ d.fit)) number) (and_r (is_cell x.cell) _ d.fit) in
    and_i _ _ (and_i _ _ fit first) refl

-- the open changes after it: all others
undo-open : (l : Ledger) (x : Change) → open_changes (after l (undo_of x)) ≡ keep (λ y. not (eqb y.row x.row)) (open_changes l)
unfolding after
undo-open l x =
    keep_same _ _ l.changes (λ y m. and-not-or (is_active l y.holder) (eqb y.row x.row) (is_undone l y)) ∙
    sym (keep-keep _ (is_open_change l) l.changes)

-- an active visit with no open change may end by an abort row
abort-allowed : (l : Ledger) (v : ℕ) → Inv l → is_active l v ≡ true → open_held (just v) l ≡ [] → allowed l (Row.abort v) ≡ true
unfolding allowed fits lawful within_limits
abort-allowed l v i a e =
    let ct = i.count in let od = i.old v a in
    let visit : is_visit v ≡ true = and_i _ _ (le-leb 1 v (i.first v a)) (le-leb v visit_limit (omega arith)) in
    and_i _ _ (and_i _ _ visit (and_i _ _ a (rw (any_none (λ x. just v x.holder) (open_changes l) e)))) refl

-- the open changes after it: the same, since none was the visit's
pub abort-open : (l : Ledger) (v : ℕ) → open_held (just v) l ≡ [] → open_changes (after l (Row.abort v)) ≡ open_changes l
unfolding after
abort-open l v e = keep_same _ _ l.changes (λ x m. go x m (eqb x.holder v) refl)
  where
    go : (x : Change) → In x l.changes → (t : Bool) → eqb x.holder v ≡ t
        → (member x.holder (without v l.active) && not (is_undone l x)) ≡ is_open_change l x
    go x m true q =
        let none : is_open_change l x ≡ false = is_false _ (λ o.
        Memᴰ.not-nil (rw e at (keep-in (λ y. just v y.holder) (keep-in (is_open_change l) m o) q))) in
        let out : member x.holder (without v l.active) ≡ false = rw (eqb-true x.holder v q) (goes v l.active) in
        ap (λ (t : Bool). t && not (is_undone l x)) out ∙ sym none
    go x m false q = rw (stays-in x.holder v l.active (eqb-sym v x.holder ∙ q))

-- ── All of them ───────────────────────────────────────────────────────────────────────────────────────────────────────

module _ (who : ℕ → Bool) where
  abbrev others : Change → Bool
  others x = not (who x.holder)

  -- what such rows leave as it was, and which open changes they leave
  record Left (l : Ledger) (rs : List Row) : Type 0 where
    good : all_allowed l rs ≡ true
    inv : Inv (foldl after l rs)
    still : keep others (open_changes (foldl after l rs)) ≡ keep others (open_changes l)
    none : open_held who (foldl after l rs) ≡ []
    bears : (u : ℕ) → who u ≡ false → bears_undo (foldl after l rs) u ≡ bears_undo l u
    begun : (foldl after l rs).begun ≡ l.begun
    committed : (foldl after l rs).committed ≡ l.committed
    changes : (foldl after l rs).changes ≡ l.changes

  -- the undo rows
  undo-all : (xs : List Change) (l : Ledger) → open_held who l ≡ xs → Inv l
      → Left l (map undo_of xs) × ((foldl after l (map undo_of xs)).active ≡ l.active)
  unfolding after
  undo-all [] l e i = (record { good = refl; inv = i; still = refl; none = e; bears = λ u q. refl; begun = refl; committed = refl; changes = refl }, refl)
  undo-all (x ∷ xs) l e i =
      let k = in-keep (λ y. who y.holder) (open_changes l) x (rw e here) in
      let f = rw e at (falling-keep (λ y. who y.holder) (open_changes l) (falling-keep (is_open_change l) l.changes i.falling)) in
      let al = undo-allowed l x _ i (own k.1) in
      let r = undo-all xs (after l (undo_of x)) (next f) (inv-after l (undo_of x) al i) in
      let s = r.0 in (
        record {
          good = and_i _ _ al s.good;
          inv = s.inv;
          still = s.still ∙ rest k.0 k.1;
          none = s.none;
          bears = λ u q. s.bears u q ∙ rw (ne_eqb u x.holder (λ p. clash _ k.1 (rw (← p) q)));
          begun = s.begun;
          committed = s.committed;
          changes = s.changes;
        },
        r.1,
      )
    where
      -- it is the first of its holder's too
      own : who x.holder ≡ true → open_held (just x.holder) l ≡ x ∷ keep (λ y. just x.holder y.holder) xs
      own w =
          keep_same _ _ (open_changes l) (λ y m. its y (eqb y.holder x.holder) refl) ∙
          sym (keep-keep (λ y. just x.holder y.holder) (λ y. who y.holder) (open_changes l)) ∙
          ap (keep (λ y. just x.holder y.holder)) e ∙ rw (eq-eqb x.holder x.holder refl)
        where
          its : (y : Change) (t : Bool) → eqb y.holder x.holder ≡ t → t ≡ (who y.holder && t)
          its y true q = let h : who y.holder ≡ true = ap who (eqb-true y.holder x.holder q) ∙ w in rw h
          its y false q = sym (and-false (who y.holder))

      -- the open changes of `who` that are left are the others of the list
      next : Falling (x ∷ xs) → open_held who (after l (undo_of x)) ≡ xs
      next f =
          ap (keep (λ y. who y.holder)) (undo-open l x) ∙ keep-swap _ _ (open_changes l) ∙ ap (keep (λ y. not (eqb y.row x.row))) e ∙
          rw (eq-eqb x.row x.row refl) (keep_all _ xs (λ y m. let k = f.0 y m in rw (ne_eqb y.row x.row (λ q. omega arith))))

      -- the open changes of the other visits are left as they were
      rest : In x (open_changes l) → who x.holder ≡ true → keep others (open_changes (after l (undo_of x))) ≡ keep others (open_changes l)
      rest m w =
          ap (keep others) (undo-open l x) ∙ keep-swap _ _ (open_changes l) ∙
          keep_all _ (keep others (open_changes l)) (λ y n. its y (in-keep others (open_changes l) y n))
        where
          its : (y : Change) → In y (open_changes l) × (others y ≡ true) → not (eqb y.row x.row) ≡ true
          its y k = rw (ne_eqb y.row x.row (λ q. clash _ w (sym (ap (λ (z : Change). who z.holder)
              (same_row (open_changes l) y x (falling-keep (is_open_change l) l.changes i.falling) k.0 m q)) ∙ not_is _ k.1)))

  -- the abort rows
  abort-all : (vs : List ℕ) (l : Ledger) → keep who l.active ≡ vs → open_held who l ≡ [] → Inv l
      → Left l (map Row.abort vs) × ((foldl after l (map Row.abort vs)).active ≡ keep (λ v. not (who v)) l.active)
  unfolding after
  abort-all [] l e o i = (
    record { good = refl; inv = i; still = refl; none = o; bears = λ u q. refl; begun = refl; committed = refl; changes = refl },
    sym (keep_all _ l.active (λ v m. out v m (who v) refl)),
  )
    where
      out : (v : ℕ) → In v l.active → (t : Bool) → who v ≡ t → not t ≡ true
      out v m true q = absurd (Memᴰ.not-nil (rw e at (keep-in who m q)))
      out v m false q = refl
  abort-all (v ∷ vs) l e o i =
      let k = in-keep who l.active v (rw e here) in
      let al = abort-allowed l v i (member-in v l.active k.0) (own k.1) in
      let r = abort-all vs (after l (Row.abort v)) next (left k.1) (inv-after l (Row.abort v) al i) in
      let s = r.0 in (
        record {
          good = and_i _ _ al s.good;
          inv = s.inv;
          still = s.still ∙ ap (keep others) (abort-open l v (own k.1));
          none = s.none;
          bears = s.bears;
          begun = s.begun;
          committed = s.committed;
          changes = s.changes;
        },
        r.1 ∙ same k.1,
      )
    where
      -- the visit holds no open change
      own : who v ≡ true → open_held (just v) l ≡ []
      own w = keep-none _ (open_changes l) (λ x m. is_false _ (λ q.
          Memᴰ.not-nil (rw o at (keep-in (λ y. who y.holder) m (ap who (eqb-true x.holder v q) ∙ w)))))

      left : who v ≡ true → open_held who (after l (Row.abort v)) ≡ []
      left w = ap (keep (λ y. who y.holder)) (abort-open l v (own w)) ∙ o

      next : keep who (without v l.active) ≡ vs
      next =
          let s = rw e at (sinking-keep who l.active i.order) in
          keep-swap who _ l.active ∙ ap (without v) e ∙
          rw (eq-eqb v v refl) (keep_all _ vs (λ u m. let k = s.0 u (member-in u vs m) in rw (ne_eqb v u (λ q. omega arith))))

      same : who v ≡ true → keep (λ u. not (who u)) (without v l.active) ≡ keep (λ u. not (who u)) l.active
      same w = keep-swap _ _ l.active ∙ keep_all (λ z. not (eqb v z)) (keep (λ u. not (who u)) l.active) (λ u m.
          let k = in-keep (λ z. not (who z)) l.active u m in
          rw (ne_eqb v u (λ q. clash _ w (rw q (not_is _ k.1)))))

-- ── The law ───────────────────────────────────────────────────────────────────────────────────────────────────────────

-- what the rows of `take_back who l` come to
abbrev pub taken_back : (ℕ → Bool) → Ledger → Ledger
taken_back who l = foldl after l (take_back who l)

pub record TakenBack (who : ℕ → Bool) (l : Ledger) : Type 0 where
  pub good : all_allowed l (take_back who l) ≡ true
  pub inv : Inv (taken_back who l)
  -- active are those that are not in `who`
  pub active : (taken_back who l).active ≡ keep (λ v. not (who v)) l.active
  -- and open are their changes: none that `who` holds
  pub left : open_changes (taken_back who l) ≡ keep (others who) (open_changes l)
  pub none : open_held who (taken_back who l) ≡ []
  -- no other visit bears an undo row of these
  pub bears : (u : ℕ) → who u ≡ false → bears_undo (taken_back who l) u ≡ bears_undo l u
  pub begun : (taken_back who l).begun ≡ l.begun
  pub committed : (taken_back who l).committed ≡ l.committed
  pub changes : (taken_back who l).changes ≡ l.changes

pub take_back_lem : (who : ℕ → Bool) (l : Ledger) → Inv l → TakenBack who l
unfolding take_back
take_back_lem who l i =
    let xs = open_held who l in
    let vs = keep who l.active in
    let mid = foldl after l (map undo_of xs) in
    let u = undo-all who xs l refl i in
    let a = abort-all who vs mid (ap (keep who) u.1) u.0.none u.0.inv in
    let is : foldl after l (map undo_of xs ++ map Row.abort vs) ≡ foldl after mid (map Row.abort vs) =
    foldl-append after l (map undo_of xs) (map Row.abort vs) in
    record {
      good = rw (allowed-append l (map undo_of xs) (map Row.abort vs)) (and_i _ _ u.0.good a.0.good);
      inv = rw is a.0.inv;
      active = rw is (a.1 ∙ ap (keep (λ v. not (who v))) u.1);
      left = rw is (sym (all (foldl after mid (map Row.abort vs)) a.0.none) ∙ a.0.still ∙ u.0.still);
      none = rw is a.0.none;
      bears = λ w q. rw is (a.0.bears w q ∙ u.0.bears w q);
      begun = rw is (a.0.begun ∙ u.0.begun);
      committed = rw is (a.0.committed ∙ u.0.committed);
      changes = rw is (a.0.changes ∙ u.0.changes);
    }
  where
    -- where `who` holds none, all are the others'
    all : (m : Ledger) → open_held who m ≡ [] → keep (others who) (open_changes m) ≡ open_changes m
    all m e = keep_all _ (open_changes m) (λ x n. its x n (who x.holder) refl)
      where
        its : (x : Change) → In x (open_changes m) → (t : Bool) → who x.holder ≡ t → not t ≡ true
        its x n true q = absurd (Memᴰ.not-nil (rw e at (keep-in (λ y. who y.holder) n q)))
        its x n false q = refl

-- ── Their order ───────────────────────────────────────────────────────────────────────────────────────────────────────

-- undo rows in descending number of the row undone, then abort rows in descending number of the visit
pub record InOrder (rs : List Row) : Type 0 where
  pub undone : List Change
  pub aborted : List ℕ
  pub is : rs ≡ map undo_of undone ++ map Row.abort aborted
  pub falling : Falling undone
  pub sinking : Sinking aborted

pub take-back-order : (who : ℕ → Bool) (l : Ledger) → Inv l → InOrder (take_back who l)
unfolding take_back
take-back-order who l i = record {
  undone = open_held who l;
  aborted = keep who l.active;
  is = refl;
  falling = falling-keep (λ x. who x.holder) (open_changes l) (falling-keep (is_open_change l) l.changes i.falling);
  sinking = sinking-keep who l.active i.order;
}

-- ── One visit: abort ──────────────────────────────────────────────────────────────────────────────────────────────────

-- v alone of a descending list
alone : (v : ℕ) (xs : List ℕ) → Sinking xs → member v xs ≡ true → keep (just v) xs ≡ v ∷ []
alone v [] s m = clash false m refl
alone v (x ∷ xs) s m = go (eqb x v) refl (alone v xs s.1)
  where
    go : (t : Bool) → eqb x v ≡ t → (member v xs ≡ true → keep (just v) xs ≡ v ∷ []) → cond t (x ∷ keep (just v) xs) (keep (just v) xs) ≡ v ∷ []
    go true q ih =
        let e = eqb-true x v q in
        ap₂ ◌∷◌ e (keep-none (just v) xs (λ u n. let k = s.0 u (member-in u xs n) in ne_eqb u v (λ p. omega arith)))
    go false q ih = ih (rw (eqb-sym v x, q) at m)

-- a visit's own rows: its undo rows and one abort row
pub abort-rows : (l : Ledger) (v : ℕ) → Inv l → is_active l v ≡ true → take_back (just v) l ≡ map undo_of (open_held (just v) l) ++ (Row.abort v ∷ [])
unfolding take_back
abort-rows l v i a = ap (λ (vs : List ℕ). map undo_of (open_held (just v) l) ++ map Row.abort vs) (alone v l.active i.order a)

-- after them all active visits but v are active
pub abort-leaves : (l : Ledger) (v : ℕ) → Inv l → (taken_back (just v) l).active ≡ without v l.active
abort-leaves l v i = (take_back_lem (just v) l i).active ∙ keep_same _ _ l.active (λ u m. ap not (eqb-sym u v))

-- ── All visits: opening ───────────────────────────────────────────────────────────────────────────────────────────────

-- after an opening's rows no visit is active
pub closing-closes : (l : Ledger) → Inv l → (foldl after l (closing l)).active ≡ []
closing-closes l i = (take_back_lem everyone l i).active ∙ keep-none _ l.active (λ v m. refl)

module _ (rs : List Row) (al : allowed_log rs ≡ true) where
  pub closed-allowed : allowed_log (rs ++ closing (ledger rs)) ≡ true
  closed-allowed = allowed-append _ rs (closing (ledger rs)) ∙ and_i _ _ al (take_back_lem everyone (ledger rs) (inv-log rs al)).good

  pub closed_none : (ledger (rs ++ closing (ledger rs))).active ≡ []
  closed_none = rw (ledger-append rs (closing (ledger rs))) (closing-closes (ledger rs) (inv-log rs al))
