-- The rows that an accepted call adds are allowed, and leave no active visit that bears an undo row: "Refusals by place" refuses enough.
use Prim.Native.Nat.{ℕ, suc}
use native.Mathlib.Omega.{arith}
use mathlib.Core.Path.{◌≡◌, refl, ap, ◌∙◌}
use mathlib.Core.Bool.{Bool, true, false, cond, not, ◌||◌}
use mathlib.Core.List.{List, [], ◌∷◌}
use lib.ListN.{length}
use lib.Dec.{T, eqb, leb}
use borrow.Author.Tests.{eqb-true, eq-eqb, leb-false, le-leb, lt-ltb, not-false}
use Rattle.book.specs.Lists.{foldl}
use Rattle.book.specs.Limits.{visit_limit, active_limit}
use Rattle.book.specs.Rows.{Row, is_visit, is_cell, fits}
use Rattle.book.specs.Ledger.{Ledger, only, every, after}
use Rattle.book.specs.Rules.{is_active, bears_undo, just, room, scope_fits, holds_any, may_hand_over, lawful, within_limits, allowed, all_allowed}
use Rattle.book.specs.Calls.{Call, Typed}
use Rattle.book.specs.Power.{Book, ledger_of}
use Rattle.book.specs.Book.{refusal, adds}
use Rattle.book.proofs.Lists.{is_false, and_i, eqb-sym, stays}
use Rattle.book.proofs.Invariant.{Inv}
use Rattle.book.proofs.TakeBack.{take_back_lem, abort-leaves}

-- a check of the table that does not refuse
pub passes : (t : Bool) (n m : ℕ) → cond t (suc n) m ≡ 0 → (t ≡ false) × (m ≡ 0)
passes true n m e = let z : ◌≡◌ {A = ℕ} 0 1 = cc in absurd (omega arith)
passes false n m e = (refl, e)

T_true : (t : Bool) → T t → t ≡ true
T_true true h = refl
T_true false h = absurd h

-- no active visit bears an undo row
abbrev pub Whole : Ledger → Type 0
Whole l = (v : ℕ) → is_active l v ≡ true → bears_undo l v ≡ false

-- the rows are allowed, and no active visit bears an undo row after them
pub record Fine (l : Ledger) (rs : List Row) : Type 0 where
  pub good : all_allowed l rs ≡ true
  pub whole : Whole (foldl after l rs)

alone : (l : Ledger) (r : Row) → allowed l r ≡ true → Whole (after l r) → Fine l (r ∷ [])
alone l r e w = record { good = and_i _ _ e refl; whole = w }

is-visit : (l : Ledger) (v : ℕ) → Inv l → is_active l v ≡ true → is_visit v ≡ true
is-visit l v i a = let ct = i.count in let od = i.old v a in and_i _ _ (le-leb 1 v (i.first v a)) (le-leb v visit_limit (omega arith))

may-hand-over : (l : Ledger) (g r : ℕ) (cs : ℕ → Bool) → Whole l → is_active l g ≡ true → is_active l r ≡ true → eqb g r ≡ false → holds_any l g cs ≡ true
    → may_hand_over l g r cs ≡ true
may-hand-over l g r cs w ag ar ne h = and_i _ _ (and_i _ _ (and_i _ _ (and_i _ _ (and_i _ _ (ap not ne) ag) ar) (ap not (w g ag))) (ap not (w r ar))) h

-- what a single hand-over needs, by the ledger
pub record Needs (l : Ledger) (g r c : ℕ) : Type 0 where
  pub giver : is_active l g ≡ true
  pub receiver : is_active l r ≡ true
  pub two : eqb g r ≡ false
  pub cell : is_cell c ≡ true
  pub held : holds_any l g (only c) ≡ true
  pub free : room l 1 ≡ true

pub needs : (b : Book) (g r c : ℕ) → refusal b (Call.hand_over g r c) ≡ 0 → Needs (ledger_of b) g r c
unfolding refusal
needs b g r c e =
    let l = ledger_of b in
    let p = passes (not (is_active l g)) 8 _ e in
    let q = passes (not (is_active l r)) 8 _ p.1 in
    let s = passes (eqb g r) 11 _ q.1 in
    let u = passes (not (is_cell c)) 9 _ s.1 in
    let x = passes (not (holds_any l g (only c))) 12 _ u.1 in
    let y = passes (not (room l 1)) 7 _ x.1 in
    record {
      giver = not-false _ p.0;
      receiver = not-false _ q.0;
      two = s.0;
      cell = not-false _ u.0;
      held = not-false _ x.0;
      free = not-false _ y.0;
    }

pub fine-adds : (b : Book) (k : Call) → Inv (ledger_of b) → Whole (ledger_of b) → Typed k → refusal b k ≡ 0 → Fine (ledger_of b) (adds b k)
unfolding refusal adds allowed fits lawful within_limits after
fine-adds b Call.begin i w t e =
    let l = ledger_of b in
    let p = passes (leb visit_limit l.begun) 5 _ e in
    let q = passes (leb active_limit (length l.active)) 6 _ p.1 in
    let r = passes (not (room l 2)) 7 _ q.1 in
    let few = leb-false visit_limit l.begun p.0 in
    let act = leb-false active_limit (length l.active) q.0 in
    let fit : is_visit (suc l.begun) ≡ true = and_i _ _ (le-leb 1 (suc l.begun) (omega arith)) (le-leb (suc l.begun) visit_limit (omega arith)) in
    alone l (Row.begin (suc l.begun))
    (and_i _ _ (and_i _ _ fit (eq-eqb (suc l.begun) (suc l.begun) refl))
    (and_i _ _ (lt-ltb (length l.active) active_limit (omega arith)) (not-false _ r.0)))
    (λ v. other v (eqb v (suc l.begun)) refl)
  where
    other : (v : ℕ) (t : Bool) → eqb v (suc (ledger_of b).begun) ≡ t → (t || is_active (ledger_of b) v) ≡ true → bears_undo (ledger_of b) v ≡ false
    other v true q h = is_false _ (λ u. let o = i.borne v u in let is = eqb-true v (suc (ledger_of b).begun) q in omega arith)
    other v false q h = w v h
fine-adds b (Call.change v c a) i w t e =
    let l = ledger_of b in
    let p = passes (not (is_active l v)) 8 _ e in
    let q = passes (not (is_cell c)) 9 _ p.1 in
    let r = passes (not (scope_fits l v c)) 10 _ q.1 in
    let s = passes (not (room l 2)) 7 _ r.1 in
    let act = not-false (is_active l v) p.0 in
    let fit : fits (Row.change v c a) ≡ true = and_i _ _ (and_i _ _ (is-visit l v i act) (not-false _ q.0)) (T_true _ t) in
    let limits = and_i (scope_fits l v c) (room l 2) (not-false _ r.0) (not-false _ s.0) in
    alone l (Row.change v c a) (and_i _ _ (and_i _ _ fit (and_i _ _ act (ap not (w v act)))) limits) w
fine-adds b (Call.hand_over g r c) i w t e =
    let l = ledger_of b in
    let n = needs b g r c e in
    let fit : fits (Row.hand_over g r c) ≡ true = and_i _ _ (and_i _ _ (is-visit l g i n.giver) (is-visit l r i n.receiver)) n.cell in
    let may = may-hand-over l g r (only c) w n.giver n.receiver n.two n.held in
    alone l (Row.hand_over g r c) (and_i _ _ (and_i _ _ fit may) n.free) w
fine-adds b (Call.commit v) i w t e =
    let l = ledger_of b in
    let act = not-false (is_active l v) (passes (not (is_active l v)) 8 _ e).0 in
    alone l (Row.commit v) (and_i _ _ (and_i _ _ (is-visit l v i act) (and_i _ _ act (ap not (w v act)))) refl) (λ u h. w u (stays u v l.active h).1)
fine-adds b (Call.abort v) i w t e =
    let l = ledger_of b in
    let a = take_back_lem (just v) l i in record {
      good = a.good;
      whole = λ u h. let k = stays u v l.active (rw (abort-leaves l v i) at h) in a.bears u (eqb-sym u v ∙ k.0) ∙ w u k.1;
    }
fine-adds b Call.force i w t e = record { good = refl; whole = w }
fine-adds b (Call.flush p) i w t e = record { good = refl; whole = w }
fine-adds b (Call.read c) i w t e = record { good = refl; whole = w }
fine-adds b (Call.hand_over_all g r) i w t e =
    let l = ledger_of b in
    let p = passes (not (is_active l g)) 8 _ e in
    let q = passes (not (is_active l r)) 8 _ p.1 in
    let s = passes (eqb g r) 11 _ q.1 in
    let x = passes (not (holds_any l g every)) 12 _ s.1 in
    let y = passes (not (room l 1)) 7 _ x.1 in
    let ag = not-false (is_active l g) p.0 in
    let ar = not-false (is_active l r) q.0 in
    let fit : fits (Row.hand_over_all g r) ≡ true = and_i _ _ (is-visit l g i ag) (is-visit l r i ar) in
    alone l (Row.hand_over_all g r) (and_i _ _ (and_i _ _ fit (may-hand-over l g r every w ag ar s.0 (not-false _ x.0))) (not-false _ y.0)) w
