-- The costliest logs one after another (book/specs/OpeningCost): each has one row more than the one before, and its bytes are those of that one with the
-- row's bytes behind its rows. Assumes nothing.
use Prim.Native.Nat.{ℕ, zero, suc, ◌<◌}
use native.Mathlib.Omega.{arith}
use mathlib.Core.Path.{◌≡◌, refl, ap, sym, ◌∙◌, subst}
use mathlib.Core.List.{List, [], ◌∷◌, ◌++◌}
use lib.ListN.{replicate}
use Rattle.book.specs.Limits.{cost_limit, log_length}
use Rattle.book.specs.Rows.{Row}
use Rattle.book.specs.RowBytes.{row_bytes}
use Rattle.book.specs.LogBytes.{log_bytes}
use Rattle.book.specs.OpeningCost.{costliest}
use Rattle.book.proofs.CostliestLogs.{costliest-log}
use Rattle.journal.specs.Writes.{put_row}
use Rattle.journal.proofs.RowsInBytes.{log-next}
use Rattle.costliest.specs.NextRow.{costliest_row}

same-last : (n : ℕ) (r : Row) → replicate (suc n) r ≡ replicate n r ++ (r ∷ [])
same-last zero r = refl
same-last (suc n) r = ap (λ (rs : List Row). r ∷ rs) (same-last n r)

one_more_lem : (k : ℕ) → costliest (suc k) ≡ costliest k ++ (costliest_row k ∷ [])
unfolding costliest
one_more_lem zero = refl
one_more_lem (suc k) = ap (λ (rs : List Row). Row.begin 1 ∷ rs) (same-last k _)

pub row-behind : (k : ℕ) → k < cost_limit → put_row (log_bytes (costliest k)) k (row_bytes (suc k) (costliest_row k)) ≡ log_bytes (costliest (suc k))
row-behind k h =
    let long = (costliest-log k (omega arith)).long in
    subst (λ (n : ℕ). put_row (log_bytes (costliest k)) n (row_bytes (suc n) (costliest_row k)) ≡ log_bytes (costliest (suc k))) long
    (log-next (costliest k) (costliest_row k) (omega arith) ∙ ap log_bytes (sym (one_more_lem k)))

-- a log of zeros is that of no row
pub no_row : replicate log_length 0 ≡ log_bytes (costliest 0)
unfolding costliest log_bytes
no_row = refl
