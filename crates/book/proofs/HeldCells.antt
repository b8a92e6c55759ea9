-- 02, L2: a row of kind 7 "means the hand-over of every cell of which the giver holds a change": these cells as a list, each once, and their single hand-overs.
-- In what they need of visits, cells, holders and undo rows (`lawful`) these may follow one another wherever a row of kind 7 may stand; the free rows are left
-- out, since they take one row each.
use Prim.Native.Nat.{ℕ, zero, suc, ◌+◌, ◌≤◌}
use native.Mathlib.Omega.{arith}
use mathlib.Core.Bool.{Bool, true, false, cond, ◌&&◌, ◌||◌}
use mathlib.Core.Path.{◌≡◌, refl, ap, ap₂, sym, ◌∙◌}
use mathlib.Core.Logic.{◌≢◌}
use mathlib.Core.List.Memᴰ
use mathlib.Core.List.{List, [], ◌∷◌, ◌++◌, map}
use lib.IntN.{ℤ}
use lib.Dec.{eqb, ltb}
use borrow.Author.Tests.{eqb-true, eq-eqb, ne_eqb, eqb-false, lt-ltb, le-ltb}
use Rattle.book.specs.Lists.{In, any, member, tabulate}
use Rattle.book.specs.Limits.{cell_limit}
use Rattle.book.specs.Rows.{Row, hand_over, hand_over_all, is_cell}
use Rattle.book.specs.Ledger.{Change, Ledger, only, holds, given, pass, after, ledger}
use Rattle.book.specs.Rules.{holds_any, may_pass, lawful, allowed_log}
use Rattle.book.specs.Cells.{kept_sum}
use Rattle.book.specs.HandOverAll.{singles, HasHeld, held_from, held_cells, all_lawful, MeansSingles}
use Rattle.book.proofs.Lists.{not_is, and_i, and_l, in-cons, any-in, keep_same, member-keep}
use Rattle.book.proofs.Invariant.{Inv}
use Rattle.book.proofs.InvariantKept.{inv-log}
use Rattle.book.proofs.HandOverAll.{hand-over-all-is-singles, hand-over-all-sum}

-- ── The cells of which a visit holds a change ─────────────────────────────────────────────────────────────────────────

-- n cells from `from` on, ascending
abbrev cells_from : ℕ → ℕ → List ℕ
cells_from n from = tabulate n from (λ c. c)

-- a number from `from` on is among the n cells exactly when it is below their end
among-cells : (n from c : ℕ) → from ≤ c → member c (cells_from n from) ≡ ltb c (from + n)
among-cells zero from c a = sym (le-ltb c (from + zero) (omega arith))
among-cells (suc n) from c a = go (eqb c from) refl (λ k. among-cells n (suc from) c k)
  where
    go : (t : Bool) → eqb c from ≡ t → (suc from ≤ c → member c (cells_from n (suc from)) ≡ ltb c (suc from + n))
        → (t || member c (cells_from n (suc from))) ≡ ltb c (from + suc n)
    go true e ih = let k = eqb-true c from e in sym (lt-ltb c (from + suc n) (omega arith))
    go false e ih =
        let k = eqb-false c from e in
        let end : suc from + n ≡ from + suc n = omega arith in ih (omega arith) ∙ ap (ltb c) end

-- those from `from` on are not below it
not-below : (n from c : ℕ) → In c (cells_from n from) → from ≤ c
not-below zero from c m = absurd (Memᴰ.not-nil m)
not-below (suc n) from c m = in-cons {P = λ y. from ≤ y} (omega arith) (λ y k. let b = not-below n (suc from) y k in omega arith) c m

pub held-cells : (l : Ledger) (g c : ℕ) → member c (held_cells l g) ≡ (holds_any l g (only c) && is_cell c)
held-cells l g c = member-keep (λ k. holds_any l g (only k)) c (cells_from cell_limit 0) ∙ ap (λ (t : Bool). holds_any l g (only c) && t) (among-cells cell_limit 0 c (omega arith))

-- the list has each cell of which the visit holds a change
pub has-held : (l : Ledger) (g : ℕ) → Inv l → HasHeld l g (held_cells l g)
has-held l g i x m h =
    held-cells l g x.cell ∙
    and_i (holds_any l g (only x.cell)) _
    (any-in (holds g (only x.cell)) m (and_i (eqb x.holder g) _ (eq-eqb x.holder g h) (eq-eqb x.cell x.cell refl)))
    (and_l (is_cell x.cell) _ (i.good x m).fit)

-- ── Their single hand-overs, one after another ────────────────────────────────────────────────────────────────────────

-- a hand-over of one cell leaves the giver what it holds of another
other-held : (g r c k : ℕ) (xs : List Change) → g ≢ r → c ≢ k → any (holds g (only k)) (map (pass g r (only c)) xs) ≡ any (holds g (only k)) xs
other-held g r c k [] ne d = refl
other-held g r c k (x ∷ xs) ne d = ap₂ ◌||◌ (go (eqb x.holder g) (eqb x.cell c) refl refl) (other-held g r c k xs ne d)
  where
    go : (h e : Bool) → eqb x.holder g ≡ h → eqb x.cell c ≡ e → holds g (only k) (cond (h && e) (given r x) x) ≡ holds g (only k) x
    go true true p q =
        let other : eqb x.cell k ≡ false = ne_eqb x.cell k (λ s. d (sym (eqb-true x.cell c q) ∙ s)) in
        let gone : eqb r g ≡ false = ne_eqb r g (λ s. ne (sym s)) in
        rw (other, gone, p)
    go true false p q = refl
    go false e p q = refl

module _ (g r : ℕ) (ne : g ≢ r) where
  lawful-from : (n from : ℕ) (l : Ledger) → may_pass l g r ≡ true → all_lawful l (singles g r (held_from l g n from)) ≡ true
  unfolding lawful after
  lawful-from zero from l e = refl
  lawful-from (suc n) from l e =
      go (holds_any l g (only from)) refl (lawful-from n (suc from) l e) (lawful-from n (suc from) (after l (hand_over g r from)) e)
    where
      rest : Ledger → List ℕ
      rest m = held_from m g n (suc from)

      same : rest l ≡ rest (after l (hand_over g r from))
      same = keep_same _ _ (cells_from n (suc from))
          (λ c m. sym (other-held g r from c l.changes ne (λ s. let k = not-below n (suc from) c m in omega arith)))

      go : (t : Bool) → holds_any l g (only from) ≡ t → all_lawful l (singles g r (rest l)) ≡ true
          → all_lawful (after l (hand_over g r from)) (singles g r (rest (after l (hand_over g r from)))) ≡ true
          → all_lawful l (singles g r (cond t (from ∷ rest l) (rest l))) ≡ true
      go true h stays goes =
          and_i (may_pass l g r && holds_any l g (only from)) _ (and_i (may_pass l g r) _ e h)
          (ap (λ (cs : List ℕ). all_lawful (after l (hand_over g r from)) (singles g r cs)) same ∙ goes)
      go false h stays goes = stays

-- ── What a row of kind 7 means ────────────────────────────────────────────────────────────────────────────────────────

-- after an allowed log, where a row of kind 7 is lawful
module _ (rs : List Row) (g r : ℕ) (al : allowed_log rs ≡ true) (e : lawful (ledger rs) (hand_over_all g r) ≡ true) where
  two : g ≢ r
  unfolding lawful
  two = eqb-false g r (not_is (eqb g r) (search (and_l) depth 8))

  may : may_pass (ledger rs) g r ≡ true
  unfolding lawful
  may = and_l (may_pass (ledger rs) g r) _ e

  pub hand-over-all-means : MeansSingles (ledger rs) g r
  hand-over-all-means =
      let l = ledger rs in
      record {
        cells = held-cells l g;
        follow = lawful-from g r two cell_limit 0 l may;
        same = hand-over-all-is-singles l g r (held_cells l g) two (has-held l g (inv-log rs al));
      }

  -- the sum over last holders, whatever rows follow
  pub hand-over-all-kept : (cells : ℕ → ℤ) (c : ℕ) (later : List Row)
      → kept_sum cells (rs ++ (hand_over_all g r ∷ later)) c ≡ kept_sum cells (rs ++ (singles g r (held_cells (ledger rs) g) ++ later)) c
  hand-over-all-kept cells c later = hand-over-all-sum cells c rs g r (held_cells (ledger rs) g) later two (has-held (ledger rs) g (inv-log rs al))
