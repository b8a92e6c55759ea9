-- What a call is handed and leaves: the state and the four lent buffers. What a book comes to in them, and which of them stand for a book
-- (document 01, "Questions a contract has to settle").
use Rattle.std.specs.Prelude.{ℕ, suc, ◌+◌, ◌≤◌, ◌<◌, Bool, true, false, cond, ◌&&◌, ◌≡◌, List, map, length, take, replicate, ℤ, eqb, leb}
use Rattle.book.specs.Lists.{pad_to}
use Rattle.book.specs.Limits.{row_limit, log_length, charts_length, active_limit, scope_limit, tail_limit, cell_limit, chart_bound, move_bound}
use Rattle.book.specs.Rows.{Row}
use Rattle.book.specs.Rules.{allowed_log}
use Rattle.book.specs.Cells.{last_on}
use Rattle.book.specs.Scopes.{unused}
use Rattle.book.specs.Power.{Book, Fuse as Allowance, none, left, rows_of, ledger_of}
use Rattle.book.specs.Numbers.{within}
use Rattle.book.specs.LogBytes.{rows_bytes, log_bytes}
use Rattle.book.specs.Pages.{chart_bytes, page_after}
use Rattle.book.specs.Opening.{no_copy}
use Rattle.book.specs.Logs.{Sound}
use Rattle.tables_model.specs.declared.Scope.{Scope}
use Rattle.tables_model.specs.Meaning.{scope_of, no_tables, tables_of, scope_table}
use Rattle.state.specs.declared.ram.Phase.{Phase}
use Rattle.state.specs.declared.ram.Phase.TheVariants.{Open, Closed}
use Rattle.state.specs.declared.ram.Fuse.{Fuse}
use Rattle.state.specs.declared.ram.Fuse.TheVariants.{Unlimited, Left}
use Rattle.state.specs.declared.ram.State.{State}

-- all that a call is handed
pub record World : Type 0 where
  pub state : State
  pub log : List ℕ
  pub charts : List ℕ
  pub copy : List ℕ
  pub scopes : List Scope

-- by its parts
abbrev pub world : State → List ℕ → List ℕ → List ℕ → List Scope → World
world state log charts copy scopes = record { state = state; log = log; charts = charts; copy = copy; scopes = scopes }

-- 01: the lent buffers have their lengths
abbrev pub right_lengths : World → Bool
right_lengths w =
    eqb (length w.log) log_length && eqb (length w.charts) charts_length && eqb (length w.copy) charts_length &&
    eqb (length w.scopes) scope_limit

-- the bytes are those of this allowed log
abbrev pub LogIs : World → List Row → Type 0
LogIs w rs = (allowed_log rs ≡ true) × (w.log ≡ log_bytes rs)

-- the phase is open
abbrev pub is_open_phase : Phase → Bool
is_open_phase Open = true
is_open_phase Closed = false

-- 01's limits, of the counters: at most 64 rows wait, log and tail have at most 4,096 rows, at most 16 visits are active and 64 scope entries in use. A
-- state of the host's making may be beyond them.
abbrev pub in_limits : State → Bool
in_limits s =
    leb s.waiting tail_limit && leb (s.stored + s.waiting) row_limit && leb s.tables.count active_limit && leb s.tables.used scope_limit

-- a call works on it: the store is open, and the counters are within their limits
abbrev pub works : State → Bool
works s = is_open_phase s.phase && in_limits s

-- ── What a book comes to ──────────────────────────────────────────────────────────────────────────────────────────────

-- 01: a fuse, none or the number of stored writes that still land
abbrev pub fuse_of : Allowance → Fuse
fuse_of none = Unlimited
fuse_of (left n) = Left n

-- the book's fuse that is meant
abbrev pub allowance : Fuse → Allowance
allowance Unlimited = none
allowance (Left n) = left n

-- 01: in a run file 4294967295 is none, every other number that many writes; C hands over a fuse in the same way
abbrev pub no_fuse : ℕ
no_fuse = 4294967295

abbrev pub fuse_of_number : ℕ → Allowance
fuse_of_number n = cond (eqb n no_fuse) none (left n)

-- the length of the tail: 64 rows
abbrev pub tail_length : ℕ
tail_length = 1024

-- the one closed state: what a new store has, and a power failure leaves
abbrev pub closed_state : State
closed_state = record { phase = Closed; fuse = Unlimited; stored = 0; waiting = 0; tables = no_tables; tail = replicate tail_length 0 }

-- the state of an open book
abbrev pub open_state : Book → State
open_state b = record {
  phase = Open;
  fuse = fuse_of b.fuse;
  stored = length b.stored;
  waiting = length b.waiting;
  tables = tables_of (ledger_of b);
  tail = pad_to tail_length 0 (rows_bytes (suc (length b.stored)) b.waiting);
}

-- the state that a book comes to
unfoldable pub state_of : Book → State
state_of b = cond b.is_open (open_state b) closed_state

-- 01: the scope table; every entry of a closed store is unused
unfoldable pub table_of : Book → List Scope
table_of b = cond b.is_open (map scope_of (scope_table (ledger_of b))) (replicate scope_limit (scope_of unused))

-- 01: the copy of the charts has every row of log and tail applied; zero in a closed store. Nothing else depends on the cells that the rows start from.
unfoldable pub copy_of : (ℕ → ℤ) → Book → List ℕ
copy_of cells b = cond b.is_open (chart_bytes (page_after cells (rows_of b))) no_copy

-- the values that stand for the book, with these stored charts
unfoldable pub world_of : (ℕ → ℤ) → Book → List ℕ → World
world_of cells b charts = record { state = state_of b; log = log_bytes b.stored; charts = charts; copy = copy_of cells b; scopes = table_of b }

-- 01: what a power failure leaves, and a rejected store: copy, tail and scopes cleared, the store closed
abbrev pub cleared : List ℕ → List ℕ → World
cleared log charts = record { state = closed_state; log = log; charts = charts; copy = no_copy; scopes = replicate scope_limit (scope_of unused) }

-- ── The stored charts ─────────────────────────────────────────────────────────────────────────────────────────────────

-- Each stored page is the page as it was after the rows up to its mark, which are stored: write-ahead logging. Each page has a mark of its own.
pub record Charts (cells : ℕ → ℤ) (rs : List Row) (charts : List ℕ) : Type 0 where
  pub marks : ℕ → ℕ
  pub part : (p : ℕ) → marks p ≤ length rs
  pub own : (p : ℕ) → last_on p (take (marks p) rs) ≡ marks p
  pub are : charts ≡ chart_bytes (λ p. page_after cells (take (marks p) rs) p)

-- ── Which values stand for a book ─────────────────────────────────────────────────────────────────────────────────────

-- What a call other than format and open supposes of what it is handed. Every ready opening leaves such values, whatever store it was given: a stored
-- cell is within 200,000,000, and the rows up to its mark moved it by at most 134,217,728, so the cells that the rows start from are within the sum.
pub record Represents (cells : ℕ → ℤ) (b : Book) (w : World) : Type 0 where
  pub range : (c : ℕ) → c < cell_limit → within (chart_bound + move_bound) (cells c) ≡ true
  pub sound : Sound b
  pub charts : Charts cells b.stored w.charts
  pub is : w ≡ world_of cells b w.charts
