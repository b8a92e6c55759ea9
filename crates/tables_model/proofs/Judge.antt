-- A row judged by the tables is judged by the row rules (`judge-by`). First come what a hand-over asks of holders, and an undo of the highest open
-- change.
use Prim.Native.Nat.{ℕ, zero, suc, ◌+◌, ◌-◌, ◌≤◌}
use native.Mathlib.Omega.{arith}
use mathlib.Core.Path.{◌≡◌, refl, ap, ap₂, sym, ◌∙◌}
use mathlib.Core.Bool.{Bool, true, false, not, ◌&&◌, ◌||◌}
use mathlib.Core.List.{List, [], ◌∷◌}
use lib.ListN.{length}
use lib.IntN.{ℤ}
use lib.Dec.{eqb, leb, ltb}
use borrow.Author.Tests.{eqb-true, eq-eqb, ne_eqb, le-leb}
use Rattle.std.specs.Prelude.{Option}
use Rattle.std.specs.Cmp.{both_ways}
use Rattle.book.specs.Lists.{any, eq_z}
use Rattle.book.specs.Limits.{row_limit, active_limit, scope_limit}
use Rattle.book.specs.Rows.{Row, begin, change, hand_over, undo, commit, abort, hand_over_all, undone_by}
use Rattle.book.specs.Ledger.{Change, Ledger, only, every, holds, ledger}
use Rattle.book.specs.Rules.{is_active, bears_undo, open_changes, open_held, just, room, starts_in_use, scope_fits, holds_any, is_first, lawful, within_limits, allowed_log}
use Rattle.book.specs.Rules as book
use Rattle.book.specs.Scopes.{unused, first_row, entry_of, scopes_of}
use Rattle.book.specs.Pages.{row_at}
use Rattle.book.proofs.Lists.{and_i, and_l, and_r, here, in-keep, keep-in, any_none, any-in, any_some}
use Rattle.book.proofs.InvariantKept.{inv-log, rows-length}
use Rattle.book.proofs.Scoped.{Scoped, scoped-log}
use Rattle.book.proofs.Counts.{scopes-count}
use Rattle.book.proofs.Top.{held-open}
use Rattle.book.proofs.Standing.{starts, in_use_lem}
use Rattle.tables_model.specs.declared.Whom.TheVariants.{One}
use Rattle.tables_model.specs.Visits.{is_listed, is_bearing}
use Rattle.tables_model.specs.Table.{is_held, holds_cell, last_at}
use Rattle.tables_model.specs.Rows.{room_by, highest_of, grows_by, holds_by, is_change, may_hand_over_by, lawful_by, within_limits_by, verdict, judge_by}
use Rattle.tables_model.specs.Meaning.{tables_of, scope_table}
use Rattle.tables_model.specs.Lookup.{index_of}
use Rattle.tables_model.proofs.Reversed.{any-reverse}
use Rattle.tables_model.proofs.Padded.{take-pad}
use Rattle.tables_model.proofs.Looking.{any-map}
use Rattle.tables_model.proofs.ActiveVisits.{is-listed, is-bearing}
use Rattle.tables_model.proofs.Reserve.{reserve-by}
use Rattle.tables_model.proofs.Growing.{grows-by}
use Rattle.tables_model.proofs.Undoing.{used-is, nothing-open, highest-open}

-- ── Holders ───────────────────────────────────────────────────────────────────────────────────────────────────────────

-- an active visit holds changes of these cells exactly when an entry says so
pub holds_by_lem : (l : Ledger) (v : ℕ) (cs : ℕ → Bool) → Scoped l.changes → is_active l v ≡ true → holds_by (index_of l) v cs ≡ holds_any l v cs
unfolding holds_cell tables_of scope_table scopes_of
holds_by_lem l v cs S act =
    ap (any (is_held v cs)) (take-pad scope_limit unused (scopes_of l)) ∙ any-reverse (is_held v cs) (scopes_of l) ∙ any-map (is_held v cs) (entry_of l) (starts l) ∙
    both_ways _ _ there back
  where
    there : any (holds v cs) (starts l) ≡ true → holds_any l v cs ≡ true
    there e = let k = any_some (holds v cs) (starts l) e in any-in (holds v cs) (in_use_lem l k.0 k.1).mem k.2

    back : holds_any l v cs ≡ true → any (holds v cs) (starts l) ≡ true
    back e =
        let k = any_some (holds v cs) l.changes e in
        let d = S.started k.0 k.1 in
        let holder = d.holder ∙ eqb-true k.0.holder v (and_l _ (cs k.0.cell) k.2) in
        let cell = ap cs d.cell ∙ and_r (eqb k.0.holder v) _ k.2 in
        any-in (holds v cs)
        (keep-in (starts_in_use l) d.mem (and_i _ _ (eq-eqb d.s.scope d.s.row d.start) (ap (is_active l) holder ∙ act)))
        (and_i _ _ (eq-eqb d.s.holder v holder) cell)

-- ── The rules ─────────────────────────────────────────────────────────────────────────────────────────────────────────

module _ (rs : List Row) (al : allowed_log rs ≡ true) where
  -- the row of the highest open change of one visit, 0 for none
  pub highest-of : (v : ℕ) → highest_of (index_of (ledger rs)) v ≡ first_row (open_held (just v) (ledger rs))
  unfolding highest_of
  highest-of v = go (open_held (just v) (ledger rs)) refl
    where
      go : (xs : List Change) → open_held (just v) (ledger rs) ≡ xs → highest_of (index_of (ledger rs)) v ≡ first_row xs
      go [] e = ap (λ (r : Option ℕ). last_at r (scope_table (ledger rs))) (nothing-open rs (One (record { 0 = v })) al e)
      go (x ∷ xs) e =
          let k = highest-open rs (One (record { 0 = v })) al x xs e in
          ap (λ (r : Option ℕ). last_at r (scope_table (ledger rs))) k.is ∙ k.last

  -- an active visit without an undo row
  clean-by : (v : ℕ) → (is_listed (tables_of (ledger rs)) v && not (is_bearing (tables_of (ledger rs)) v))
      ≡ (is_active (ledger rs) v && not (bears_undo (ledger rs) v))
  clean-by v = rw (is-listed (ledger rs) v, is-bearing (ledger rs) v) (bools (is_active (ledger rs) v) (bears_undo (ledger rs) v))
    where
      bools : (a b : Bool) → (a && not (a && b)) ≡ (a && not b)
      bools true b = refl
      bools false b = refl

  lawful-begin : (named : Row) (v : ℕ) → lawful_by (index_of (ledger rs)) named (begin v) ≡ lawful (ledger rs) (begin v)
  unfolding lawful_by lawful tables_of
  lawful-begin named v = refl

  lawful-change : (named : Row) (v c : ℕ) (a : ℤ) → lawful_by (index_of (ledger rs)) named (change v c a) ≡ lawful (ledger rs) (change v c a)
  unfolding lawful_by lawful
  lawful-change named v c a = clean-by v

  lawful-commit : (named : Row) (v : ℕ) → lawful_by (index_of (ledger rs)) named (commit v) ≡ lawful (ledger rs) (commit v)
  unfolding lawful_by lawful
  lawful-commit named v = clean-by v

  may-hand-over-by : (g r : ℕ) (cs : ℕ → Bool) → may_hand_over_by (index_of (ledger rs)) g r cs ≡ book.may_hand_over (ledger rs) g r cs
  may-hand-over-by g r cs =
      rw (is-listed (ledger rs) g, is-bearing (ledger rs) g, is-listed (ledger rs) r, is-bearing (ledger rs) r)
      (bools (not (eqb g r)) (is_active (ledger rs) g) (is_active (ledger rs) r) (bears_undo (ledger rs) g) (bears_undo (ledger rs) r)
      (holds_by (index_of (ledger rs)) g cs) (holds_any (ledger rs) g cs) (λ act. holds_by_lem (ledger rs) g cs (scoped-log rs) act))
    where
      bools : (n a b p q h k : Bool) → (a ≡ true → h ≡ k) → (n && a && b && not (a && p) && not (b && q) && h) ≡ (n && a && b && not p && not q && k)
      bools true true true p q h k f = ap (λ (t : Bool). not p && not q && t) (f refl)
      bools true true false p q h k f = refl
      bools true false b p q h k f = refl
      bools false a b p q h k f = refl

  lawful-hand_over : (named : Row) (g r c : ℕ) → lawful_by (index_of (ledger rs)) named (hand_over g r c) ≡ lawful (ledger rs) (hand_over g r c)
  unfolding lawful_by lawful
  lawful-hand_over named g r c = may-hand-over-by g r (only c)

  lawful-hand_over_all : (named : Row) (g r : ℕ) → lawful_by (index_of (ledger rs)) named (hand_over_all g r) ≡ lawful (ledger rs) (hand_over_all g r)
  unfolding lawful_by lawful
  lawful-hand_over_all named g r = may-hand-over-by g r every

  lawful-undo : (named : Row) (h c n : ℕ) (a : ℤ) → (1 ≤ n → n ≤ length rs → named ≡ row_at rs n)
      → lawful_by (index_of (ledger rs)) named (undo h c n a) ≡ lawful (ledger rs) (undo h c n a)
  unfolding lawful_by lawful
  lawful-undo named h c n a agree = rw (highest-of h) (go (open_held (just h) (ledger rs)) refl)
    where
      none : (k : ℕ) → (leb 1 k && eqb 0 k && is_change named c a) ≡ false
      none zero = refl
      none (suc k) = rw (le-leb 1 (suc k) (omega arith), ne_eqb 0 (suc k) (λ q. omega arith))

      go : (xs : List Change) → open_held (just h) (ledger rs) ≡ xs → (leb 1 n && eqb (first_row xs) n && is_change named c a) ≡ is_first xs n c a
      go [] e = none n
      go (x ∷ xs) e = its (eqb x.row n) refl
        where
          its : (t : Bool) → eqb x.row n ≡ t → (leb 1 n && t && is_change named c a) ≡ (t && eqb x.cell c && eq_z x.amount a)
          its true q =
              let is = eqb-true x.row n q in
              let k = highest-open rs (One (record { 0 = h })) al x xs e in
              let low = k.low in
              let high = k.high in
              let row : named ≡ change x.maker x.cell x.amount = agree (omega arith) (omega arith) ∙ ap (row_at rs) (sym is) ∙ k.row in
              rw (le-leb 1 n (omega arith)) (ap (λ (r : Row). is_change r c a) row)
          its false q = never (leb 1 n)
            where
              never : (t : Bool) → (t && false && is_change named c a) ≡ false
              never true = refl
              never false = refl

  lawful-abort : (named : Row) (v : ℕ) → lawful_by (index_of (ledger rs)) named (abort v) ≡ lawful (ledger rs) (abort v)
  unfolding lawful_by lawful
  lawful-abort named v = ap₂ ◌&&◌ (is-listed (ledger rs) v) (ap (λ (n : ℕ). eqb n 0) (highest-of v) ∙ go (open_held (just v) (ledger rs)) refl)
    where
      go : (xs : List Change) → open_held (just v) (ledger rs) ≡ xs → eqb (first_row xs) 0 ≡ not (any (λ x. just v x.holder) (open_changes (ledger rs)))
      go [] e = sym (ap not (any_none _ (open_changes (ledger rs)) e))
      go (x ∷ xs) e =
          let k = in-keep (λ y. just v y.holder) (open_changes (ledger rs)) x (rw e here) in
          let low = ((inv-log rs al).good x (held-open (just v) (ledger rs) x (rw e here)).0).low in
          ne_eqb x.row 0 (λ q. omega arith) ∙ sym (ap not (any-in (λ y. just v y.holder) k.0 k.1))

  -- 01: free is at least reserve + n
  pub room_by_lem : (n : ℕ) → room_by (index_of (ledger rs)) (length rs) n ≡ room (ledger rs) n
  unfolding room_by
  room_by_lem n = ap₂ (λ (k m : ℕ). leb (k + n) (row_limit - m)) (reserve-by (ledger rs) (inv-log rs al) (scoped-log rs)) (sym (rows-length rs))

  -- 01: the change of an active visit starts no scope, or fewer than 64 are in use
  pub fits_by : (v c : ℕ) → is_active (ledger rs) v ≡ true
      → (grows_by (index_of (ledger rs)) v c || ltb (tables_of (ledger rs)).used scope_limit) ≡ scope_fits (ledger rs) v c
  fits_by v c act =
      ap₂ ◌||◌ (grows-by (ledger rs) v c (scoped-log rs) act) (ap (λ (n : ℕ). ltb n scope_limit) (used-is (ledger rs) ∙ scopes-count (ledger rs)))

  -- 01: the limits, by the tables
  within_by : (r : Row) → lawful (ledger rs) r ≡ true → within_limits_by (index_of (ledger rs)) (length rs) r ≡ within_limits (ledger rs) r
  unfolding within_limits_by within_limits lawful tables_of
  within_by (begin v) e = ap (λ (t : Bool). ltb (length (ledger rs).active) active_limit && t) (room_by_lem 2)
  within_by (change v c a) e = ap₂ ◌&&◌ (fits_by v c (and_l _ (not (bears_undo (ledger rs) v)) e)) (room_by_lem 2)
  within_by (hand_over g r c) e = room_by_lem 1
  within_by (undo h c n a) e = refl
  within_by (commit v) e = refl
  within_by (abort v) e = refl
  within_by (hand_over_all g r) e = room_by_lem 1

  -- the row that r names is looked up right, if it is one of the list
  module _ (r : Row) (named : Row) (agree : 1 ≤ undone_by r → undone_by r ≤ length rs → named ≡ row_at rs (undone_by r)) where
    -- 01: the rules, by the tables
    lawful-by : lawful_by (index_of (ledger rs)) named r ≡ lawful (ledger rs) r
    lawful-by = go r agree
      where
        go : (r : Row) → (1 ≤ undone_by r → undone_by r ≤ length rs → named ≡ row_at rs (undone_by r))
            → lawful_by (index_of (ledger rs)) named r ≡ lawful (ledger rs) r
        go (begin v) f = lawful-begin named v
        go (change v c a) f = lawful-change named v c a
        go (hand_over g r c) f = lawful-hand_over named g r c
        go (undo h c n a) f = lawful-undo named h c n a f
        go (commit v) f = lawful-commit named v
        go (abort v) f = lawful-abort named v
        go (hand_over_all g r) f = lawful-hand_over_all named g r

    pub judge-by : judge_by (index_of (ledger rs)) (length rs) named r ≡ verdict (lawful (ledger rs) r) (within_limits (ledger rs) r)
    unfolding judge_by
    judge-by = ap (λ (t : Bool). verdict t (within_limits_by (index_of (ledger rs)) (length rs) r)) lawful-by ∙ go (lawful (ledger rs) r) refl
      where
        go : (t : Bool) → lawful (ledger rs) r ≡ t
            → verdict t (within_limits_by (index_of (ledger rs)) (length rs) r) ≡ verdict t (within_limits (ledger rs) r)
        go true e = ap (verdict true) (within_by r e)
        go false e = refl
