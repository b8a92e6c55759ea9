-- An allowed undo row keeps the invariant: the longest of the cases, since the row names one change among all.
use Prim.Native.Nat.{ℕ, suc, ◌≤◌}
use native.Mathlib.Omega.{arith}
use mathlib.Core.Path.{◌≡◌, refl, ap, sym, ◌∙◌}
use mathlib.Core.Bool.{Bool, true, false, not, ◌||◌}
use lib.IntN.{ℤ}
use lib.Dec.{eqb}
use borrow.Author.Tests.{eqb-true, eq-eqb, ne_eqb}
use Rattle.book.specs.Lists.{In, member}
use Rattle.book.specs.Rows.{undo}
use Rattle.book.specs.Ledger.{Change, Ledger, after}
use Rattle.book.specs.Rules.{is_active, bears_undo, is_undone, is_open_change, reserve, allowed}
use Rattle.book.specs.Cells.{is_kept}
use Rattle.book.proofs.Lists.{clash, is_false, not_is, and_l, and_r, and_i, or_l, or_r, not-or-l, not-or-r, length-keep-less}
use Rattle.book.proofs.Invariant.{Inv, names, same_row}

pub inv-undo : (l : Ledger) (h c n : ℕ) (a : ℤ) → allowed l (undo h c n a) ≡ true → Inv l → Inv (after l (undo h c n a))
unfolding after reserve
inv-undo l h c n a e i =
    let k = names l h c n a e in
    let act : is_active l h ≡ true = rw (← k.holder) (and_l _ (not (is_undone l k.x)) k.opened) in
    let less = length-keep-less (is_open_change (after l (undo h c n a))) (is_open_change l) l.changes k.x
    (λ x m q. still x q) k.mem (falls k.x k.row) k.opened in
    let held : (y : Change) → In y l.changes → y.row ≡ n → y.holder ≡ h =
    λ y m r. ap (λ (x : Change). x.holder) (same_row l.changes y k.x i.falling m k.mem (r ∙ sym k.row)) ∙ k.holder in
    record {
      old = i.old;
      first = i.first;
      count = i.count;
      few = let f = i.few in omega arith;
      order = i.order;
      borne = λ u. borne' u act (eqb u h) refl;
      ended = λ u q. let d = i.ended u q in record { old = d.old; over = d.over; clean = rw (ne_eqb u h (λ p. clash _ (rw p act) d.over)) d.clean };
      named = λ m. named' m k.x k.mem k.row (eqb m n) refl;
      good = λ y m. let d = i.good y m in record {
        row = let r = d.row in omega arith;
        low = d.low;
        held = d.held;
        first = d.first;
        fit = d.fit;
        bears = bears' y (held y m) d.bears (eqb y.row n) refl;
        fate = fate' y d.fate (eqb y.row n);
      };
      falling = i.falling;
      space = let sp = i.space in omega arith;
    }
  where
    -- a change that is open afterwards was open
    still : (x : Change) → is_open_change (after l (undo h c n a)) x ≡ true → is_open_change l x ≡ true
    still x q =
        let act = and_l (is_active l x.holder) (not (eqb x.row n || is_undone l x)) q in
        let no = and_r (is_active l x.holder) (not (eqb x.row n || is_undone l x)) q in
        and_i _ _ act (not-or-r (eqb x.row n) (is_undone l x) no)

    -- and the named one is not
    falls : (x : Change) → x.row ≡ n → is_open_change (after l (undo h c n a)) x ≡ false
    falls x r = is_false _ (λ q.
        let no = and_r (is_active l x.holder) (not (eqb x.row n || is_undone l x)) q in
        clash _ (eq-eqb x.row n r) (not_is _ (not-or-l (eqb x.row n) (is_undone l x) no)))

    borne' : (u : ℕ) → is_active l h ≡ true → (t : Bool) → eqb u h ≡ t → (t || bears_undo l u) ≡ true → u ≤ l.begun
    borne' u act true q w = rw (eqb-true u h q) (i.old h act)
    borne' u act false q w = i.borne u w

    bears' : (y : Change) → (y.row ≡ n → y.holder ≡ h) → (is_undone l y ≡ true → bears_undo l y.holder ≡ true) → (t : Bool) → eqb y.row n ≡ t
        → (t || is_undone l y) ≡ true → (eqb y.holder h || bears_undo l y.holder) ≡ true
    bears' y f g true q w = or_l (eqb y.holder h) (bears_undo l y.holder) (eq-eqb y.holder h (f (eqb-true y.row n q)))
    bears' y f g false q w = or_r (eqb y.holder h) (bears_undo l y.holder) (g w)

    fate' : (y : Change) → (is_active l y.holder || is_kept l y || is_undone l y) ≡ true → (t : Bool)
        → (is_active l y.holder || is_kept l y || (t || is_undone l y)) ≡ true
    fate' y f true = or_r (is_active l y.holder || is_kept l y) true refl
    fate' y f false = f

    named' : (m : ℕ) (x : Change) → In x l.changes → x.row ≡ n → (t : Bool) → eqb m n ≡ t → (t || member m l.undone) ≡ true → m ≤ suc l.rows
    named' m x p r true q w = let d = (i.good x p).row in let s = eqb-true m n q in omega arith
    named' m x p r false q w = let d = i.named m w in omega arith
