-- What the public functions promise: result, state, log, charts, copy and scopes, by equation, refusals too.
use Rattle.std.specs.Prelude.{ℕ, ◌+◌, ◌-◌, ◌*◌, ◌≤◌, true, false, cond, not, ◌&&◌, ◌≡◌, ◌≢◌, List, [], ◌∷◌, ◌++◌, length, get_or, take, drop, ℤ, pos, ltb, eqb}
use Rattle.book.specs.Lists.{first_failing, member}
use Rattle.book.specs.Limits.{cell_limit, format_bound, page_length, row_limit}
use Rattle.book.specs.Calls.{Call, Ending, waits, forces, flushes, ending}
use Rattle.book.specs.Power.{Book, Fuse, rows_of}
use Rattle.book.specs.Book.{Answer, answer, Outcome, call}
use Rattle.book.specs.Writes.{Writes, no_writes, pages_of, call_writes}
use Rattle.book.specs.Numbers.{within}
use Rattle.book.specs.LogBytes.{log_bytes}
use Rattle.book.specs.Pages.{page_bytes, chart_bytes, page_after}
use Rattle.book.specs.Opening.{Opened, open_bytes}
use Rattle.tables_model.specs.declared.Scope.{Scope}
use Rattle.state.specs.declared.answers.Reply.{Reply}
use Rattle.state.specs.Answers.{number_and_value, rows_and_pages}
use Rattle.state.specs.World.{World, world, right_lengths, works, state_of, table_of, cleared, world_of, Represents}

-- what a call gives back and leaves
pub record Answered : Type 0 where
  pub answer : Answer
  pub world : World
  pub writes : Writes  -- 02, L1: the stored writes that it landed

-- what a function gives back, and what the lent buffers are after it
pub record Returned : Type 0 where
  pub result : Reply
  pub log : List ℕ
  pub charts : List ℕ
  pub copy : List ℕ
  pub scopes : List Scope

-- by its parts
abbrev pub returned : Reply → List ℕ → List ℕ → List ℕ → List Scope → Returned
returned r log charts copy scopes = record { result = r; log = log; charts = charts; copy = copy; scopes = scopes }

-- with the refusal number and the value of the answer
abbrev pub answered_by : Returned → Answered
answered_by x = record {
  answer = number_and_value x.result.answer;
  world = world x.result.state x.log x.charts x.copy x.scopes;
  writes = rows_and_pages x.result.writes;
}

-- by number, value, world and counts
abbrev pub answered_with : ℕ → ℤ → World → Writes → Answered
answered_with n v w u = record { answer = answer n v; world = w; writes = u }

-- nothing was stored
abbrev pub answered : ℕ → ℤ → World → Answered
answered n v w = answered_with n v w no_writes

-- 01, "Power": the power failed after so many rows were stored; no page was, since it is the last write of a call
abbrev pub failed_after : ℕ → World → Answered
failed_after rows w = answered_with 5 (pos 0) w (record { rows = rows; pages = 0 })

-- ── Format and open: for whatever they are handed ─────────────────────────────────────────────────────────────────────

-- the first of the 224 values beyond ±1,000,000, or 224
abbrev pub bad_cell : List ℤ → ℕ
bad_cell values = first_failing cell_limit 0 (λ c. within format_bound (get_or values c (pos 0)))

-- the formatted value of each cell
abbrev pub cells_of : List ℤ → ℕ → ℤ
cells_of values c = get_or values c (pos 0)

-- 01: format. The 224 values are lent too, so their number counts for refusal 1.
unfoldable pub formats : List ℤ → World → Answered
formats values w =
    let at : ℕ = bad_cell values in
    cond (not (right_lengths w && eqb (length values) cell_limit)) (answered 1 (pos 0) w)
    (cond (ltb at cell_limit) (answered 2 (pos at) w)
    (answered 0 (pos 0) (cleared (log_bytes []) (chart_bytes (page_after (cells_of values) [])))))

-- what an opening of the stored bytes comes to in the store; it writes no page
abbrev pub opened_world : List ℕ → Opened → Answered
opened_world charts o = record {
  answer = o.answer;
  world = record { state = state_of o.book; log = o.log; charts = charts; copy = o.copy; scopes = table_of o.book };
  writes = o.writes;
}

-- 01: open. Nothing is taken from state, copy or scopes but their lengths.
unfoldable pub opens : Fuse → World → Answered
opens f w = cond (right_lengths w) (opened_world w.charts (open_bytes f w.log w.charts)) (answered 1 (pos 0) w)

-- what format promises
pub record FormatPost (values : List ℤ) (given : World) (x : Answered) : Type 0 where
  pub is : x ≡ formats values given

-- what open promises
pub record OpenPost (f : Fuse) (given : World) (x : Answered) : Type 0 where
  pub is : x ≡ opens f given

-- ── The other calls: for what stands for a book ───────────────────────────────────────────────────────────────────────

-- page p of the charts replaced by these bytes
abbrev pub with_page : ℕ → List ℕ → List ℕ → List ℕ
with_page p page charts = take (page_length * p) charts ++ page ++ drop (page_length * p + page_length) charts

-- 01: flush writes the page's 32 bytes, if the power holds; no other call writes a page
abbrev pub charts_after : (ℕ → ℤ) → Book → Ending → ℕ → List ℕ → List ℕ
charts_after cells b waits n charts = charts
charts_after cells b forces n charts = charts
charts_after cells b (flushes p) n charts = cond (eqb n 0) (with_page p (page_bytes (page_after cells (rows_of b) p)) charts) charts

-- what the book's outcome of a call comes to in the values, with these stored charts before it
abbrev pub outcome_in : (ℕ → ℤ) → Book → Call → List ℕ → Outcome → Answered
outcome_in cells b k charts o = record {
  answer = o.answer;
  world = world_of cells o.book (charts_after cells b (ending k) o.answer.number charts);
  writes = call_writes b k o;
}

-- what the book makes of the call, and of the values that stand for it
unfoldable pub by_book : (ℕ → ℤ) → Book → Call → World → Answered
by_book cells b k w = outcome_in cells b k w.charts (call cells b true k)

-- 01, "Refusals by place", and 02, L2: the numbers of the call's own row
abbrev pub own_numbers : Call → List ℕ
own_numbers Call.begin = 6 ∷ 7 ∷ 8 ∷ []
own_numbers (Call.change v c a) = 9 ∷ 10 ∷ 11 ∷ 8 ∷ []
own_numbers (Call.hand_over g r c) = 9 ∷ 12 ∷ 10 ∷ 13 ∷ 8 ∷ []
own_numbers (Call.commit v) = 9 ∷ []
own_numbers (Call.abort v) = 9 ∷ []
own_numbers Call.force = []
own_numbers (Call.flush p) = 14 ∷ []
own_numbers (Call.read c) = 10 ∷ []
own_numbers (Call.hand_over_all g r) = 9 ∷ 12 ∷ 13 ∷ 8 ∷ []

-- the numbers that a call may answer with, whatever it is handed: done, 1 and 5 as every call of an open store, and those of its own row
abbrev pub numbers : Call → List ℕ
numbers k = 0 ∷ 1 ∷ 5 ∷ own_numbers k

-- what each of the other calls promises
pub record CallPost (k : Call) (given : World) (x : Answered) : Type 0 where
  -- 01: one of the numbers of the call's row of the table
  pub table : member x.answer.number (numbers k) ≡ true
  -- a lent buffer has another length: refused by 1, and nothing changes
  pub lengths : right_lengths given ≡ false → x ≡ answered 1 (pos 0) given
  -- the store is closed, or its counters (of the host's making) are beyond their limits: refused by 5, and nothing changes
  pub shut : right_lengths given ≡ true → works given.state ≡ false → x ≡ answered 5 (pos 0) given
  -- 00, demand 1: a refusal changes no byte, whatever the call was handed
  pub keeps : x.answer.number ≢ 0 → x.answer.number ≢ 5 → x ≡ answered x.answer.number (pos 0) given
  -- 01, "Power": a 5 of a store that calls work on is a power failure, which leaves the charts, and copy, tail and scopes cleared
  pub cut : works given.state ≡ true → x.answer.number ≡ 5 → x ≡ failed_after x.writes.rows (cleared x.world.log given.charts)
  -- 02, L1: a call that is done has stored as many rows as the state counts more than before; no call stores more than the log has
  pub rows : x.answer.number ≡ 0 → x.writes.rows ≡ x.world.state.stored - given.state.stored
  pub few : x.writes.rows ≤ row_limit
  -- and a page exactly where a flush is done
  pub pages : x.writes.pages ≡ pages_of (ending k) x.answer.number
  -- what stands for a book becomes what stands for the book after the call
  pub is : right_lengths given ≡ true → (cells : ℕ → ℤ) (b : Book) → Represents cells b given → x ≡ by_book cells b k given
