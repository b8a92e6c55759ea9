-- Two single hand-overs of different cells, by the ledger: what they need they need in either order, after one of them the same changes are open whichever
-- it was, and after both of them the ledger is the same.
use Prim.Native.Nat.{ℕ, ◌+◌}
use native.Mathlib.Omega.{arith}
use mathlib.Core.Bool.{Bool, true, false, and-false}
use mathlib.Core.Path.{◌≡◌, refl, ap, sym, ◌∙◌, subst}
use mathlib.Core.Logic.{◌≢◌}
use mathlib.Core.List.{List, [], ◌∷◌, map}
use lib.ListN.{length, length-map}
use lib.Dec.{eqb}
use borrow.Author.Tests.{eqb-true, ne_eqb, leb-true, le-leb}
use Rattle.book.specs.Lists.{keep, any}
use Rattle.book.specs.Rows.{Row, hand_over}
use Rattle.book.specs.Ledger.{Change, Ledger, only, holds, pass, after}
use Rattle.book.specs.Rules.{is_active, is_open_change, reserve, free}
use Rattle.book.specs.Power.{Book, ledger_of}
use Rattle.book.specs.Book.{refusal}
use Rattle.book.specs.Swapped.{Single, call_for}
use Rattle.book.proofs.Lists.{keep_same, keep-map}
use Rattle.book.proofs.Invariant.{pass-cases, pass-row}
use Rattle.book.proofs.Swap.{pass-other, pass-cell, hand-overs-swap}
use Rattle.book.proofs.Adds.{Needs}
use Rattle.book.proofs.Pairs.{pairs-maps}
use Rattle.book.proofs.SameOpen.{SameChange, open-alike, SameOpen, same-open-refl, SameRows, end, next}

-- ── One hand-over of the two ──────────────────────────────────────────────────────────────────────────────────────────

pass-amount : (g r : ℕ) (cs : ℕ → Bool) (x : Change) → (pass g r cs x).amount ≡ x.amount
pass-amount g r cs x = pass-cases (λ (y : Change). y.amount ≡ x.amount) g r cs x (λ e. refl) refl

-- it keeps what is open
open-passed : (l : Ledger) (g r : ℕ) (cs : ℕ → Bool) → is_active l g ≡ true → is_active l r ≡ true → (x : Change)
    → is_open_change l (pass g r cs x) ≡ is_open_change l x
open-passed l g r cs ag ar x = pass-cases (λ (z : Change). is_open_change l z ≡ is_open_change l x) g r cs x (λ q. rw (q, ag, ar)) refl

reserve-passed : (l : Ledger) (g r c : ℕ) → is_active l g ≡ true → is_active l r ≡ true → reserve (after l (hand_over g r c)) ≡ reserve l
unfolding after reserve
reserve-passed l g r c ag ar = ap (λ (n : ℕ). length l.active + n)
    (ap length (keep-map (is_open_change l) (pass g r (only c)) l.changes) ∙
    length-map (keep (λ x. is_open_change l (pass g r (only c) x)) l.changes) (pass g r (only c)) ∙
    ap length (keep_same _ _ l.changes (λ x m. open-passed l g r (only c) ag ar x)))

-- and what anybody holds of another cell
held-passed : (g r c v d : ℕ) → c ≢ d → (xs : List Change) → any (holds v (only d)) (map (pass g r (only c)) xs) ≡ any (holds v (only d)) xs
held-passed g r c v d ne [] = refl
held-passed g r c v d ne (x ∷ xs) = rw (held-passed g r c v d ne xs, one (eqb x.cell c) refl)
  where
    other : (y : Change) → eqb y.cell d ≡ false → holds v (only d) y ≡ false
    other y q = rw q (and-false (eqb y.holder v))

    one : (t : Bool) → eqb x.cell c ≡ t → holds v (only d) (pass g r (only c) x) ≡ holds v (only d) x
    one true e =
        let q : eqb x.cell d ≡ false = ne_eqb x.cell d (λ z. ne (sym (eqb-true x.cell c e) ∙ z)) in
        other (pass g r (only c) x) (ap (λ (k : ℕ). eqb k d) (pass-cell g r (only c) x) ∙ q) ∙ sym (other x q)
    one false e = ap (holds v (only d)) (pass-other g r c x e)

abbrev pub row_of : Single → Row
row_of h = hand_over h.giver h.receiver h.cell

-- what it needs
abbrev pub NeedsOf : Ledger → Single → Type 0
NeedsOf l h = Needs l h.giver h.receiver h.cell

pub unrefused : (b : Book) (h : Single) → NeedsOf (ledger_of b) h → refusal b (call_for h) ≡ 0
unfolding refusal
unrefused b h n = rw (n.giver, n.receiver, n.two, n.cell, n.held, n.free)

-- ── Both, in either order ─────────────────────────────────────────────────────────────────────────────────────────────

module _ (l : Ledger) (h k : Single) (ne : h.cell ≢ k.cell) (n : NeedsOf l h) (m : NeedsOf (after l (row_of h)) k) where
  -- the second needs no more before the first
  pub needs-first : NeedsOf l k
  unfolding after
  needs-first = record {
    giver = m.giver;
    receiver = m.receiver;
    two = m.two;
    cell = m.cell;
    held = sym (held-passed h.giver h.receiver h.cell k.giver k.cell ne l.changes) ∙ m.held;
    free =
        let same = reserve-passed l h.giver h.receiver h.cell n.giver n.receiver in
        let le = leb-true (reserve (after l (row_of h)) + 1) (free (after l (row_of h))) m.free in
        le-leb (reserve l + 1) (free l) (omega arith);
  }

  -- nor the first after the second
  pub needs-second : NeedsOf (after l (row_of k)) h
  unfolding after
  needs-second = record {
    giver = n.giver;
    receiver = n.receiver;
    two = n.two;
    cell = n.cell;
    held = held-passed k.giver k.receiver k.cell h.giver h.cell (λ e. ne (sym e)) l.changes ∙ n.held;
    free =
        let same = reserve-passed l h.giver h.receiver h.cell n.giver n.receiver in
        let same' = reserve-passed l k.giver k.receiver k.cell m.giver m.receiver in
        let le = leb-true (reserve (after l (row_of h)) + 1) (free (after l (row_of h))) m.free in
        le-leb (reserve (after l (row_of k)) + 1) (free (after l (row_of k))) (omega arith);
  }

  -- after one of the two the open changes are the same, whichever it was
  after_one : SameOpen (after l (row_of h)) (after l (row_of k))
  unfolding after
  after_one = record {
    rows = refl;
    begun = refl;
    active = refl;
    undone = refl;
    changes = pairs-maps one other l.changes (λ x. open-alike (after l (row_of h)) (after l (row_of k)) (one x) (other x) (is_open_lem x) (is_same x));
  }
    where
      one : Change → Change
      one = pass h.giver h.receiver (only h.cell)

      other : Change → Change
      other = pass k.giver k.receiver (only k.cell)

      is_open_lem : (x : Change) → is_open_change (after l (row_of k)) (other x) ≡ is_open_change (after l (row_of h)) (one x)
      is_open_lem x =
          open-passed l k.giver k.receiver (only k.cell) m.giver m.receiver x ∙
          sym (open-passed l h.giver h.receiver (only h.cell) n.giver n.receiver x)

      is_same : (x : Change) → SameChange (one x) (other x)
      is_same x = record {
        row = pass-row k.giver k.receiver (only k.cell) x ∙ sym (pass-row h.giver h.receiver (only h.cell) x);
        cell = pass-cell k.giver k.receiver (only k.cell) x ∙ sym (pass-cell h.giver h.receiver (only h.cell) x);
        amount = pass-amount k.giver k.receiver (only k.cell) x ∙ sym (pass-amount h.giver h.receiver (only h.cell) x);
      }

  pub after_both : after (after l (row_of k)) (row_of h) ≡ after (after l (row_of h)) (row_of k)
  after_both = sym (hand-overs-swap l h.giver h.receiver k.giver k.receiver h.cell k.cell ne)

  pub one_of_two : SameRows l l (row_of h ∷ []) (row_of k ∷ [])
  one_of_two = next (same-open-refl l) refl (end after_one)

  pub both-rows : SameRows l l (row_of h ∷ row_of k ∷ []) (row_of k ∷ row_of h ∷ [])
  both-rows = next (same-open-refl l) refl (next after_one refl (end (subst (SameOpen (after (after l (row_of h)) (row_of k))) (sym after_both)
      (same-open-refl (after (after l (row_of h)) (row_of k))))))
