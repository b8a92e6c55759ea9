-- An opening of the log that `write_log` leaves, beside charts of zeros and with power for n stored writes, reports as many rows as the log has. Assumes nothing.
use Prim.Native.Nat.{ℕ, ◌≤◌}
use native.Mathlib.Omega.{arith}
use mathlib.Core.Path.{◌≡◌, refl, subst, ◌∙◌}
use mathlib.Core.List.{List}
use lib.ListN.{replicate}
use borrow.Author.Tests.{le-leb}
use Rattle.book.specs.Limits.{log_length, charts_length, page_limit, cost_limit}
use Rattle.book.specs.Rows.{Row}
use Rattle.book.specs.Power.{left}
use Rattle.book.specs.LogBytes.{log_bytes}
use Rattle.book.specs.Pages.{page_of, is_page}
use Rattle.book.specs.Opening.{bad_page}
use Rattle.book.specs.OpeningCost.{costliest}
use Rattle.book.proofs.InvariantKept.{few-rows}
use Rattle.book.proofs.LogBytes.{log-long}
use Rattle.book.proofs.CostliestLogs.{costliest-log}
use Rattle.tables_model.specs.declared.Scope.{Scope}
use Rattle.state.specs.declared.answers.Reply.{Reply}
use Rattle.state.specs.declared.ram.Fuse.TheVariants.{Left}
use Rattle.state.specs.declared.ram.State.{State}
use Rattle.state.specs.World.{World, world, closed_state}
use Rattle.state.specs.CallContracts.{Returned, returned, answered_by}
use Rattle.state.specs.Functions.{Opens}
use Rattle.state.specs.OpeningCost.{Reported}
use Rattle.state.proofs.OpeningCost.{costliest-opening}
use Rattle.cores.specs.Lent.{blanks}
use Rattle.costliest.specs.Log.{log_after}
use Rattle.costliest.specs.Opened.{lent_for, OpeningResult}

-- pages of zeros pass beside any log
zeros-pass : (rs : List Row) → bad_page rs (replicate charts_length 0) ≡ page_limit
unfolding is_page page_of
zeros-pass rs = refl

written : (n : ℕ) → n ≤ cost_limit → log_after n (replicate log_length 0) ≡ log_bytes (costliest n)
written n h = rw (le-leb n cost_limit h)

-- power for n writes is enough
reports : (n : ℕ) → n ≤ cost_limit → (x : Returned) → Opens (Left n) (lent_for n) x → Reported n (answered_by x)
reports n h x o =
    let size = log-long (costliest n) (few-rows (costliest n) (costliest-log n h).allowed) in
    costliest-opening.reported n h (left n) (lent_for n) (answered_by x) refl o.post
    (record { lengths = rw size; pages = zeros-pass (costliest n); power = omega arith })

-- what the public call promises of the buffers as they are lent
pub opening_of_lem : (n : ℕ) → n ≤ cost_limit → (s : State) (log : List ℕ) (scopes : List Scope) (r : Reply) (log' charts' copy' : List ℕ) (scopes' : List Scope)
    → s ≡ closed_state → log ≡ log_after n (replicate log_length 0) → scopes ≡ blanks
    → Opens (Left n) (world s log (replicate charts_length 0) (replicate charts_length 0) scopes) (returned r log' charts' copy' scopes') → OpeningResult n r
opening_of_lem n h s log scopes r log' charts' copy' scopes' closed left_in blank o =
    let x = returned r log' charts' copy' scopes' in
    let given : world s log (replicate charts_length 0) (replicate charts_length 0) scopes ≡ lent_for n = rw (closed, left_in ∙ written n h, blank) in
    let opens = subst (λ (w : World). Opens (Left n) w x) given o in
    record { log = log'; charts = charts'; copy = copy'; scopes = scopes'; opens = opens; reported = reports n h x opens }
