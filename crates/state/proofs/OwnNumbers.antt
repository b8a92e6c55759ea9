-- The numbers of a call's own row of 01's table (specs/CallContracts). 5 is none of them, so a 5 says that the store was closed or that the power failed.
use Prim.Native.Nat.{ℕ}
use mathlib.Core.Path.{◌≡◌, refl, ap, sym, ◌∙◌}
use mathlib.Core.Bool.{Bool, true, false, cond, not, ◌||◌}
use mathlib.Core.Logic.{◌≢◌}
use mathlib.Core.List.{◌∷◌}
use lib.ListN.{length}
use lib.Dec.{eqb, leb, ltb}
use Rattle.book.specs.Lists.{member}
use Rattle.book.specs.Limits.{visit_limit, active_limit, page_limit}
use Rattle.book.specs.Rows.{is_cell}
use Rattle.book.specs.Ledger.{only, every}
use Rattle.book.specs.Rules.{is_active, scope_fits, room, holds_any}
use Rattle.book.specs.Calls.{Call}
use Rattle.book.specs.Power.{Book, ledger_of}
use Rattle.book.specs.Book.{refusal}
use Rattle.book.proofs.Lists.{clash}
use Rattle.state.specs.CallContracts.{own_numbers, numbers}

-- 0, where no check refuses, or a number of the call's own row
pub record Own (k : Call) (n : ℕ) : Type 0 where
  pub is : member n (0 ∷ own_numbers k) ≡ true

pub own : {k : Call} {n : ℕ} → member n (0 ∷ own_numbers k) ≡ true → Own k n
own e = record { is = e }

-- a check whose number is one of them, and later ones whose numbers are
pub check : {k : Call} {n m : ℕ} (t : Bool) → Own k n → Own k m → Own k (cond t n m)
check true p q = p
check false p q = q

-- each is one of the numbers that the call may answer with
pub own-listed : (k : Call) (n : ℕ) → Own k n → member n (numbers k) ≡ true
own-listed k n o = go (eqb n 0) (eqb n 1) (eqb n 5) (member n (own_numbers k)) o.is
  where
    go : (s t u v : Bool) → (s || v) ≡ true → (s || (t || (u || v))) ≡ true
    go true t u v e = refl
    go false true u v e = refl
    go false false true v e = refl
    go false false false v e = e

without-five : (k : Call) → member 5 (0 ∷ own_numbers k) ≡ false
without-five Call.begin = refl
without-five (Call.change v c a) = refl
without-five (Call.hand_over g r c) = refl
without-five (Call.commit v) = refl
without-five (Call.abort v) = refl
without-five Call.force = refl
without-five (Call.flush p) = refl
without-five (Call.read c) = refl
without-five (Call.hand_over_all g r) = refl

pub own-not-five : (k : Call) (n : ℕ) → Own k n → n ≢ 5
own-not-five k n o e = clash _ (ap (λ (m : ℕ). member m (0 ∷ own_numbers k)) (sym e) ∙ o.is) (without-five k)

-- what the book's checks of a call come to
pub refusal-own : (b : Book) (k : Call) → Own k (refusal b k)
unfolding refusal
refusal-own b Call.begin =
    check (leb visit_limit (ledger_of b).begun) (own refl) (check (leb active_limit (length (ledger_of b).active)) (own refl)
    (check (not (room (ledger_of b) 2)) (own refl) (own refl)))
refusal-own b (Call.change v c a) =
    check (not (is_active (ledger_of b) v)) (own refl) (check (not (is_cell c)) (own refl) (check (not (scope_fits (ledger_of b) v c)) (own refl)
    (check (not (room (ledger_of b) 2)) (own refl) (own refl))))
refusal-own b (Call.hand_over g r c) =
    check (not (is_active (ledger_of b) g)) (own refl) (check (not (is_active (ledger_of b) r)) (own refl) (check (eqb g r) (own refl)
    (check (not (is_cell c)) (own refl) (check (not (holds_any (ledger_of b) g (only c))) (own refl) (check (not (room (ledger_of b) 1)) (own refl) (own refl))))))
refusal-own b (Call.commit v) = check (not (is_active (ledger_of b) v)) (own refl) (own refl)
refusal-own b (Call.abort v) = check (not (is_active (ledger_of b) v)) (own refl) (own refl)
refusal-own b Call.force = own refl
refusal-own b (Call.flush p) = check (not (ltb p page_limit)) (own refl) (own refl)
refusal-own b (Call.read c) = check (not (is_cell c)) (own refl) (own refl)
refusal-own b (Call.hand_over_all g r) =
    check (not (is_active (ledger_of b) g)) (own refl) (check (not (is_active (ledger_of b) r)) (own refl) (check (eqb g r) (own refl)
    (check (not (holds_any (ledger_of b) g every)) (own refl) (check (not (room (ledger_of b) 1)) (own refl) (own refl)))))
