-- Document 02, L6, "The costliest opening", of whatever functions meet the contract of open: those for Rattle and those for C do.
use Rattle.std.specs.Prelude.{ℕ, ◌-◌, ◌≤◌, true, ◌≡◌, ◌↔◌, ◌⊎◌, List, length, pos}
use Rattle.book.specs.Limits.{row_limit, page_limit, cost_limit}
use Rattle.book.specs.Rows.{Row}
use Rattle.book.specs.Rules.{allowed_log}
use Rattle.book.specs.Power.{Fuse, PowerHolds}
use Rattle.book.specs.Book.{done}
use Rattle.book.specs.LogBytes.{log_bytes}
use Rattle.book.specs.Opening.{bad_page}
use Rattle.book.specs.OpeningCost.{BeginsAndChanges, Cost, costliest, Costliest}
use Rattle.state.specs.World.{World, right_lengths, LogIs, allowance}
use Rattle.state.specs.CallContracts.{Answered, OpenPost, Returned, answered_by}
use Rattle.state.specs.Functions.{Opens}
use Rattle.state.specs.declared.ram.Fuse as ram

-- an opening whose lent buffers have 01's lengths, whose pages pass, and whose power holds for so many writes
pub record Powered (f : Fuse) (given : World) (rs : List Row) (writes : ℕ) : Type 0 where
  pub lengths : right_lengths given ≡ true
  pub pages : bad_page rs given.charts ≡ page_limit
  pub power : PowerHolds f writes

-- what an opening costs that is given this fuse and finds the log of these rows, n of them
pub record CostOfOpening (f : Fuse) (given : World) (rs : List Row) (x : Answered) : Type 0 where
  -- 02: "no opening writes more than n rows", and all else that `Cost` has: whatever it is lent besides, ready, cut or refused
  pub cost : Cost rs x.answer x.writes
  -- power for n writes is enough, and so is power for 4,096 - n, and power for 2,048 whatever n is
  pub ready : (m : ℕ) → (length rs ≤ m) ⊎ (row_limit - length rs ≤ m) → Powered f given rs m → x.answer.number ≡ 0
  pub ready-any : Powered f given rs cost_limit → x.answer.number ≡ 0
  -- 02: "A log of n rows reaches n exactly when each of its rows is a begin or a change": with power for n writes
  pub reaches : Powered f given rs (length rs) → (x.writes.rows ≡ length rs) ↔ BeginsAndChanges rs

-- what an opening has reported and stored where it wrote n rows and ended ready
pub record Reported (n : ℕ) (x : Answered) : Type 0 where
  pub answer : x.answer ≡ done (pos n)
  pub writes : x.writes ≡ record { rows = n; pages = 0 }

pub record CostliestOpening : Type 0 where
  -- 02: "Among all allowed logs of n rows": of every opening of their bytes
  pub opening : (f : Fuse) (given : World) (rs : List Row) (x : Answered) → LogIs given rs → OpenPost f given x → CostOfOpening f given rs x
  -- 02: "Produce one such log for each n, with the number of rows that the opening itself reported"
  pub log : (n : ℕ) → n ≤ cost_limit → Costliest n (costliest n)
  pub reported : (n : ℕ) → n ≤ cost_limit → (f : Fuse) (given : World) (x : Answered) → given.log ≡ log_bytes (costliest n) → OpenPost f given x →
      Powered f given (costliest n) n → Reported n x
  -- 02: "n from 0 to 2,048": with more rows there is none
  pub log-most : (rs : List Row) → allowed_log rs ≡ true → BeginsAndChanges rs → length rs ≤ cost_limit

-- of the public function `open`, by its contract
unfoldable pub CostOfOpen : Type 0
CostOfOpen = (fuse : ram.Fuse) (given : World) (rs : List Row) (x : Returned) → LogIs given rs → Opens fuse given x →
    CostOfOpening (allowance fuse) given rs (answered_by x)
