-- 02, L6: for each n up to 2,048 a log of n rows whose opening writes n rows (specs/OpeningCost): one visit that changes one cell over and over (OneVisit).
use Prim.Native.Nat.{ℕ, zero, suc, ◌+◌, ◌≤◌}
use native.Mathlib.Omega.{arith}
use mathlib.Core.Path.{◌≡◌, refl, ap, sym, subst}
use mathlib.Core.Bool.{true}
use mathlib.Core.List.Memᴰ
use lib.ListN.{replicate, length-replicate}
use Rattle.book.specs.Limits.{cost_limit}
use Rattle.book.specs.Rows.{Row, fits}
use Rattle.book.specs.Ledger.{Ledger, empty, after}
use Rattle.book.specs.Rules.{reserve, lawful, within_limits, allowed, all_allowed}
use Rattle.book.specs.OpeningCost.{BeginsAndChanges, costliest, Costliest}
use Rattle.book.proofs.Lists.{and_i, in-cons}
use Rattle.book.proofs.OneVisit.{one_row, come, come-after, scope-fits, has_room}

-- one change more is allowed up to the 2,047th
one-allowed : (i : ℕ) → i ≤ 2046 → allowed (come i) one_row ≡ true
unfolding allowed fits lawful within_limits
one-allowed i h = rw (scope-fits i, has_room i h)

more-allowed : (n i : ℕ) → n + i ≤ 2047 → all_allowed (come i) (replicate n one_row) ≡ true
more-allowed zero i h = refl
more-allowed (suc n) i h =
    and_i _ _ (one-allowed i (omega arith))
    (subst (λ (l : Ledger). all_allowed l (replicate n one_row) ≡ true) (sym (come-after i)) (more-allowed n (suc i) (omega arith)))

begin-allowed : allowed empty (Row.begin 1) ≡ true
unfolding allowed fits lawful within_limits reserve
begin-allowed = refl

begin-comes : after empty (Row.begin 1) ≡ come 0
unfolding after
begin-comes = refl

each_same : (n : ℕ) → BeginsAndChanges (replicate n one_row)
each_same zero = λ r m. absurd (Memᴰ.not-nil m)
each_same (suc n) = in-cons refl (each_same n)

pub costliest-log : (n : ℕ) → n ≤ cost_limit → Costliest n (costliest n)
unfolding costliest
costliest-log zero h = record { long = refl; allowed = refl; each = λ r m. absurd (Memᴰ.not-nil m) }
costliest-log (suc i) h = record {
  long = ap suc (length-replicate i one_row);
  allowed = and_i _ _ begin-allowed (subst (λ (l : Ledger). all_allowed l (replicate i one_row) ≡ true) (sym begin-comes) (more-allowed i 0 (omega arith)));
  each = in-cons refl (each_same i);
}
