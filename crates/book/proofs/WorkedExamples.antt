-- Words of the cases and the worked examples: logs, and what a call is answered where they are stored.
use Prim.Native.Nat.{ℕ}
use mathlib.Core.Bool.{true}
use mathlib.Core.List.{List, [], ◌∷◌}
use lib.IntN.{pos}
use Rattle.book.specs.Lists.{tabulate, join}
use Rattle.book.specs.Rows.{Row, fits}
use Rattle.book.specs.Ledger.{after}
use Rattle.book.specs.Rules.{reserve, scopes_in_use, lawful, within_limits, allowed}
use Rattle.book.specs.Calls.{Call}
use Rattle.book.specs.Power.{none, force, add}
use Rattle.book.specs.Book.{Answer, take_back, refusal, adds, through, value, accepted, call, starting, reopened, reopen, opening}
use Rattle.book.specs.Cells.{zeros}
use Rattle.book.specs.RowBytes.{row_bytes}
use Rattle.book.specs.LogBytes.{log_bytes, judge, read_log}
use Rattle.book.specs.Pages.{page_bytes, chart_bytes, page_of, page_after, is_page, redone}
use Rattle.book.specs.Opening.{open_bytes}

-- Named on the `unfolding` line of an example, it opens every definition that an example computes with.
unfoldable pub computes : Unit {0}
unfolding after reserve scopes_in_use fits lawful within_limits allowed force add take_back refusal adds through value accepted call reopened reopen opening
    row_bytes log_bytes judge read_log page_bytes chart_bytes page_of page_after is_page redone open_bytes
computes = tt

-- n visits, all active
abbrev pub visits : ℕ → List Row
visits n = tabulate n 1 Row.begin

-- n visits, all committed
abbrev pub committed_visits : ℕ → List Row
committed_visits n = join (tabulate n 1 (λ v. Row.begin v ∷ Row.commit v ∷ []))

-- two visits, and n changes by the first, each of a cell of its own: n scopes
abbrev pub scopes : ℕ → List Row
scopes n = Row.begin 1 ∷ Row.begin 2 ∷ tabulate n 0 (λ c. Row.change 1 c (pos 1))

-- the answer to a call where these rows are stored, none waits and there is no fuse
abbrev pub asked : List Row → Call → Answer
asked rs k = (call zeros (starting none rs) true k).answer

-- the number of 01's table for a call where these rows are stored and none waits; 0 where none applies
abbrev pub refusal_after : List Row → Call → ℕ
refusal_after rs k = refusal (starting none rs) k
