-- Each allowed row keeps the invariant, so it holds of every allowed log; with it the log has room for all that is open.
use Prim.Native.Nat.{ℕ, suc, ◌+◌, ◌≤◌}
use native.Mathlib.Omega.{arith}
use mathlib.Core.Path.{◌≡◌, refl, ap, ◌∙◌}
use mathlib.Core.Bool.{Bool, true, false, not, ◌&&◌, ◌||◌}
use mathlib.Core.List.Memᴰ
use mathlib.Core.List.{List, [], ◌∷◌, map}
use lib.ListN.{length, length-map}
use lib.IntN.{ℤ}
use lib.Dec.{eqb, leb}
use borrow.Author.Tests.{eqb-true, ne_eqb, leb-true}
use Rattle.book.specs.Lists.{In, keep, any, foldl, member, without}
use Rattle.book.specs.Limits.{row_limit, visit_limit}
use Rattle.book.specs.Rows.{Row, begin, change, hand_over, undo, commit, abort, hand_over_all, is_cell, is_amount, fits}
use Rattle.book.specs.Ledger.{Change, Ledger, empty, pass, only, every, handed_over, after, ledger}
use Rattle.book.specs.Rules.{is_active, bears_undo, is_undone, is_open_change, open_changes, just, reserve, free, room, may_hand_over, lawful, within_limits, allowed, all_allowed, allowed_log}
use Rattle.book.specs.Cells.{is_kept}
use Rattle.book.proofs.Lists.{clash, not_is, and_l, and_r, and_i, or_l, or_r, eqb-sym, in-cons, keep-in, keep_same, keep-map, any_false, length-keep, stays, stays-in, stays_out, goes, length_without}
use Rattle.book.proofs.Invariant.{Good, Ended, Inv, fresh, sinking-keep, pass-cases, falling-pass}
use Rattle.book.proofs.InvariantUndo.{inv-undo}

-- ── Begin, change, hand-over ──────────────────────────────────────────────────────────────────────────────────────────

inv-begin : (l : Ledger) (v : ℕ) → allowed l (begin v) ≡ true → Inv l → Inv (after l (begin v))
unfolding after allowed lawful within_limits fits reserve
inv-begin l v e i =
    let is : eqb v (suc l.begun) ≡ true = search (and_l, and_r) in
    let last : leb v visit_limit ≡ true = search (and_l, and_r) in
    let byte = leb-true v visit_limit last in
    let new = eqb-true v (suc l.begun) is in
    let rm : room l 2 ≡ true = search (and_l, and_r) in
    let le = leb-true (reserve l + 2) (free l) rm in
    let other : (u : ℕ) → u ≤ l.begun → eqb u v ≡ false = λ u h. ne_eqb u v (λ q. omega arith) in
    let same : keep (is_open_change (after l (begin v))) l.changes ≡ open_changes l =
    keep_same _ _ l.changes (λ x m. rw (other x.holder (i.good x m).held)) in
    record {
      old = λ u. old' u new (eqb u v) refl;
      first = λ u. first' u new (eqb u v) refl;
      count = omega arith;
      few = let f = i.few in omega arith;
      order = (λ u h. let d = i.old u h in omega arith, i.order);
      borne = λ u h. let d = i.borne u h in omega arith;
      ended = λ u h. let d = i.ended u h in record { old = let o = d.old in omega arith; over = rw (other u d.old) d.over; clean = d.clean };
      named = λ n h. let d = i.named n h in omega arith;
      good = λ y m. let d = i.good y m in record {
        row = let r = d.row in omega arith;
        low = d.low;
        held = let r = d.held in omega arith;
        first = d.first;
        fit = d.fit;
        bears = d.bears;
        fate = rw (other y.holder d.held) d.fate;
      };
      falling = i.falling;
      space = rw same (omega arith);
    }
  where
    old' : (u : ℕ) → v ≡ suc l.begun → (t : Bool) → eqb u v ≡ t → (t || is_active l u) ≡ true → u ≤ suc l.begun
    old' u new true q h = let is = eqb-true u v q in omega arith
    old' u new false q h = let d = i.old u h in omega arith

    first' : (u : ℕ) → v ≡ suc l.begun → (t : Bool) → eqb u v ≡ t → (t || is_active l u) ≡ true → 1 ≤ u
    first' u new true q h = let is = eqb-true u v q in omega arith
    first' u new false q h = i.first u h

inv-change : (l : Ledger) (v c : ℕ) (a : ℤ) → allowed l (change v c a) ≡ true → Inv l → Inv (after l (change v c a))
unfolding after allowed lawful within_limits fits reserve
inv-change l v c a e i =
    let act : is_active l v ≡ true = search (and_l, and_r) in
    let cell : is_cell c ≡ true = search (and_l, and_r) in
    let amount : is_amount a ≡ true = search (and_l, and_r) in
    let rm : room l 2 ≡ true = search (and_l, and_r) in
    let le = leb-true (reserve l + 2) (free l) rm in
    record {
      old = i.old;
      first = i.first;
      count = i.count;
      few = let f = i.few in omega arith;
      order = i.order;
      borne = i.borne;
      ended = λ u h. let d = i.ended u h in record { old = d.old; over = d.over; clean = d.clean };
      named = λ n h. let d = i.named n h in omega arith;
      good = in-cons
          (record {
            row = omega arith;
            low = omega arith;
            held = i.old v act;
            first = i.first v act;
            fit = and_i _ _ cell amount;
            bears = λ h. clash _ h (fresh l i);
            fate = rw act;
          })
          (λ y m. let d = i.good y m in record {
            row = let r = d.row in omega arith;
            low = d.low;
            held = d.held;
            first = d.first;
            fit = d.fit;
            bears = d.bears;
            fate = d.fate;
          });
      falling = (λ y m. let r = (i.good y m).row in omega arith, i.falling);
      space = rw (act, fresh l i) (omega arith);
    }

-- a hand-over between active visits leaves as many changes open
pub handed-open : (l : Ledger) (g r : ℕ) (cs : ℕ → Bool) → is_active l g ≡ true → is_active l r ≡ true
    → length (keep (is_open_change l) (map (pass g r cs) l.changes)) ≡ length (open_changes l)
handed-open l g r cs actg actr =
    ap length (keep-map (is_open_change l) (pass g r cs) l.changes) ∙
    length-map (keep (λ x. is_open_change l (pass g r cs x)) l.changes) (pass g r cs) ∙
    ap length (keep_same _ _ l.changes (λ x m.
    pass-cases (λ (z : Change). is_open_change l z ≡ is_open_change l x) g r cs x (λ q. rw (q, actg, actr)) refl))

inv-handed : (l : Ledger) (g r : ℕ) (cs : ℕ → Bool) → (may_hand_over l g r cs && room l 1) ≡ true → Inv l → Inv (handed_over l g r cs)
unfolding reserve
inv-handed l g r cs e i =
    let actg : is_active l g ≡ true = search (and_l, and_r) depth 8 in
    let actr : is_active l r ≡ true = search (and_l, and_r) depth 8 in
    let clean : not (bears_undo l g) ≡ true = search (and_l, and_r) depth 8 in
    let rm : room l 1 ≡ true = search (and_l, and_r) depth 8 in
    let le = leb-true (reserve l + 1) (free l) rm in
    let passed : (x : Change) → In x l.changes → Good (handed_over l g r cs) (pass g r cs x) =
    λ x m. let d = i.good x m in pass-cases (Good (handed_over l g r cs)) g r cs x
    (λ q. record {
      row = let k = d.row in omega arith;
      low = d.low;
      held = i.old r actr;
      first = i.first r actr;
      fit = d.fit;
      bears = λ h. clash _ (d.bears h) (rw q (not_is _ clean));
      fate = rw actr;
    })
    (record { row = let k = d.row in omega arith; low = d.low; held = d.held; first = d.first; fit = d.fit; bears = d.bears; fate = d.fate }) in
    let same = handed-open l g r cs actg actr in
    record {
      old = i.old;
      first = i.first;
      count = i.count;
      few = let f = i.few in omega arith;
      order = i.order;
      borne = i.borne;
      ended = λ u h. let d = i.ended u h in record { old = d.old; over = d.over; clean = d.clean };
      named = λ n h. let d = i.named n h in omega arith;
      good = λ y m. let k = Memᴰ.of_map (pass g r cs) l.changes m in rw (← k.2) (passed k.0 k.1);
      falling = falling-pass g r cs l.changes i.falling;
      space = rw same (omega arith);
    }

-- ── Commit and abort ──────────────────────────────────────────────────────────────────────────────────────────────────

-- the open changes of a visit that ends fall away
pub ends-less : (l : Ledger) (v : ℕ)
    → length (keep (λ x. member x.holder (without v l.active) && not (is_undone l x)) l.changes) ≤ length (open_changes l)
ends-less l v = length-keep _ _ l.changes (λ x m h.
    let act = and_l (member x.holder (without v l.active)) (not (is_undone l x)) h in
    and_i _ _ (stays x.holder v l.active act).1 (and_r (member x.holder (without v l.active)) (not (is_undone l x)) h))

inv-commit : (l : Ledger) (v : ℕ) → allowed l (commit v) ≡ true → Inv l → Inv (after l (commit v))
unfolding after allowed lawful reserve
inv-commit l v e i =
    let act : is_active l v ≡ true = search (and_l, and_r) in
    let clean : not (bears_undo l v) ≡ true = search (and_l, and_r) in
    let fewer = length_without v l.active act in
    let less = ends-less l v in
    record {
      old = λ u h. i.old u (stays u v l.active h).1;
      first = λ u h. i.first u (stays u v l.active h).1;
      count = i.count;
      few = let f = i.few in omega arith;
      order = sinking-keep _ l.active i.order;
      borne = i.borne;
      ended = λ u. ended' u act (not_is _ clean) (eqb u v) refl;
      named = λ n h. let d = i.named n h in omega arith;
      good = λ y m. let d = i.good y m in record {
        row = let k = d.row in omega arith;
        low = d.low;
        held = d.held;
        first = d.first;
        fit = d.fit;
        bears = d.bears;
        fate = fate' y d.fate (eqb y.holder v) refl;
      };
      falling = i.falling;
      space = let sp = i.space in omega arith;
    }
  where
    ended' : (u : ℕ) → is_active l v ≡ true → bears_undo l v ≡ false → (t : Bool) → eqb u v ≡ t → (t || member u l.committed) ≡ true
        → Ended (after l (commit v)) u
    ended' u act clean true q h = let is = eqb-true u v q in record { old = rw is (i.old v act); over = rw is (goes v l.active); clean = rw is clean }
    ended' u act clean false q h = let d = i.ended u h in record { old = d.old; over = stays_out u v l.active d.over; clean = d.clean }

    fate' : (y : Change) → (is_active l y.holder || is_kept l y || is_undone l y) ≡ true → (t : Bool) → eqb y.holder v ≡ t
        → (member y.holder (without v l.active) || (t || is_kept l y) || is_undone l y) ≡ true
    fate' y h true q = search (or_l, or_r)
    fate' y h false q = rw (stays-in y.holder v l.active (eqb-sym v y.holder ∙ q)) h

inv-abort : (l : Ledger) (v : ℕ) → allowed l (abort v) ≡ true → Inv l → Inv (after l (abort v))
unfolding after allowed lawful reserve
inv-abort l v e i =
    let act : is_active l v ≡ true = search (and_l, and_r) in
    let none : not (any (λ x. just v x.holder) (open_changes l)) ≡ true = search (and_l, and_r) in
    let fewer = length_without v l.active act in
    let less = ends-less l v in
    record {
      old = λ u h. i.old u (stays u v l.active h).1;
      first = λ u h. i.first u (stays u v l.active h).1;
      count = i.count;
      few = let f = i.few in omega arith;
      order = sinking-keep _ l.active i.order;
      borne = i.borne;
      ended = λ u h. let d = i.ended u h in record { old = d.old; over = stays_out u v l.active d.over; clean = d.clean };
      named = λ n h. let d = i.named n h in omega arith;
      good = λ y m. let d = i.good y m in record {
        row = let k = d.row in omega arith;
        low = d.low;
        held = d.held;
        first = d.first;
        fit = d.fit;
        bears = d.bears;
        fate = fate' y act (any_false _ (open_changes l) (not_is _ none) y) (keep-in (is_open_change l) m) d.fate (eqb y.holder v) refl;
      };
      falling = i.falling;
      space = let sp = i.space in omega arith;
    }
  where
    fate' : (y : Change) → is_active l v ≡ true → (In y (open_changes l) → eqb y.holder v ≡ false) → (is_open_change l y ≡ true → In y (open_changes l))
        → (is_active l y.holder || is_kept l y || is_undone l y) ≡ true → (t : Bool) → eqb y.holder v ≡ t
        → (member y.holder (without v l.active) || is_kept l y || is_undone l y) ≡ true
    fate' y act f g h true q = or_r (member y.holder (without v l.active) || is_kept l y) (is_undone l y) (done (is_undone l y) refl)
      where
        done : (t : Bool) → is_undone l y ≡ t → is_undone l y ≡ true
        done true k = k
        done false k = clash _ q (f (g (rw (eqb-true y.holder v q, act, k))))
    fate' y act f g h false q = rw (stays-in y.holder v l.active (eqb-sym v y.holder ∙ q)) h

-- ── Every allowed log ─────────────────────────────────────────────────────────────────────────────────────────────────

-- one allowed row more keeps the invariant
pub inv-after : (l : Ledger) (r : Row) → allowed l r ≡ true → Inv l → Inv (after l r)
unfolding after allowed lawful within_limits
inv-after l (begin v) = inv-begin l v
inv-after l (change v c a) = inv-change l v c a
inv-after l (hand_over g r c) = λ e. inv-handed l g r (only c) (search (and_l, and_r, and_i))
inv-after l (undo h c n a) = inv-undo l h c n a
inv-after l (commit v) = inv-commit l v
inv-after l (abort v) = inv-abort l v
inv-after l (hand_over_all g r) = λ e. inv-handed l g r every (search (and_l, and_r, and_i))

pub inv-all : (l : Ledger) (rs : List Row) → all_allowed l rs ≡ true → Inv l → Inv (foldl after l rs)
inv-all l [] e i = i
inv-all l (r ∷ rs) e i = inv-all (after l r) rs (and_r (allowed l r) _ e) (inv-after l r (and_l (allowed l r) _ e) i)

pub inv-empty : Inv empty
unfolding reserve
inv-empty = record {
  old = λ v h. clash false h refl;
  first = λ v h. clash false h refl;
  count = omega arith;
  few = omega arith;
  order = tt;
  borne = λ v h. clash false h refl;
  ended = λ v h. clash false h refl;
  named = λ n h. clash false h refl;
  good = λ x m. absurd (Memᴰ.not-nil m);
  falling = tt;
  space = omega arith;
}

pub inv-log : (rs : List Row) → allowed_log rs ≡ true → Inv (ledger rs)
inv-log rs e = inv-all empty rs e inv-empty

-- 01: free is at least reserve after every allowed log, so commit, abort and opening never lack space
pub free-reserve : (rs : List Row) → allowed_log rs ≡ true → reserve (ledger rs) ≤ free (ledger rs)
free-reserve rs e = let s = (inv-log rs e).space in omega arith

-- ── The number of rows ────────────────────────────────────────────────────────────────────────────────────────────────

rows-count : (l : Ledger) (rs : List Row) → (foldl after l rs).rows ≡ l.rows + length rs
rows-count l [] = omega arith
rows-count l (r ∷ rs) = let k = rows-count (after l r) rs in let o = one in omega arith
  where
    one : (after l r).rows ≡ suc l.rows
    one = unfold after in refl

pub rows-length : (rs : List Row) → (ledger rs).rows ≡ length rs
rows-length rs = let k = rows-count empty rs in omega arith

-- 01: an allowed log has at most 4,096 rows
pub few-rows : (rs : List Row) → allowed_log rs ≡ true → length rs ≤ row_limit
few-rows rs e = let s = (inv-log rs e).space in let k = rows-length rs in omega arith
