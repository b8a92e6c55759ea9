-- The book's rows under the fuse (document 01, "Power" and "Sessions and the book"): stored writes, force, adding a row.
-- A closed book does nothing in every step, so after a write that is not made the rest of a call does nothing.
use Rattle.std.specs.Prelude.{ℕ, zero, suc, ◌≤◌, Bool, true, false, cond, List, [], ◌∷◌, ◌++◌, length, leb}
use Rattle.book.specs.Lists.{foldl, times}
use Rattle.book.specs.Limits.{tail_limit}
use Rattle.book.specs.Rows.{Row}
use Rattle.book.specs.Ledger.{Ledger, ledger}

-- 01: a fuse, none or the number of stored writes that still land
pub data Fuse : Type 0 where
  none : Fuse
  left : (writes : ℕ) → Fuse

-- 01: the book
pub record Book : Type 0 where
  pub stored : List Row
  pub waiting : List Row
  pub fuse : Fuse
  pub is_open : Bool

-- all rows, the stored ones first
abbrev pub rows_of : Book → List Row
rows_of b = b.stored ++ b.waiting

-- what the rows of log and tail come to
abbrev pub ledger_of : Book → Ledger
ledger_of b = ledger (rows_of b)

-- closed, with these rows stored: what a power failure leaves
abbrev pub closed : List Row → Book
closed rs = record { stored = rs; waiting = []; fuse = none; is_open = false }

-- 01: the book after format
abbrev pub formatted : Book
formatted = closed []

-- ── Stored writes ─────────────────────────────────────────────────────────────────────────────────────────────────────

-- One write of an open book with the rows `old` stored. Where it lands `st` is stored and `wa` waits; a write beyond the fuse isn't made, and closes the book.
abbrev pub land : Fuse → List Row → List Row → List Row → Book
land none old st wa = record { stored = st; waiting = wa; fuse = none; is_open = true }
land (left zero) old st wa = closed old
land (left (suc n)) old st wa = record { stored = st; waiting = wa; fuse = left n; is_open = true }

-- the first of the waiting rows is written to the end of the stored ones; nothing where none waits
abbrev pub store_first : Book → List Row → Book
store_first b [] = b
store_first b (r ∷ rs) = land b.fuse b.stored (b.stored ++ (r ∷ [])) rs

-- 01: a stored write of one row
abbrev pub store_row : Book → Book
store_row b = store_first b b.waiting

-- 01: force, the waiting rows go in order to the end of the stored ones, one write each
unfoldable pub force : Book → Book
force b = times (length b.waiting) store_row b

-- 01: the page is one write
abbrev pub store_page : Book → Book
store_page b = cond b.is_open (land b.fuse b.stored b.stored b.waiting) b

-- 01: power holds if each of n writes lands
abbrev pub PowerHolds : Fuse → ℕ → Type 0
PowerHolds none n = Unit {0}
PowerHolds (left m) n = n ≤ m

-- ── Adding rows ───────────────────────────────────────────────────────────────────────────────────────────────────────

-- the row waits
abbrev pub append : Book → Row → Book
append b r = cond b.is_open (record { stored = b.stored; waiting = b.waiting ++ (r ∷ []); fuse = b.fuse; is_open = true }) b

-- 01: adding a row, if 64 wait a force comes first
unfoldable pub add : Book → Row → Book
add b r = append (cond (leb tail_limit (length b.waiting)) (force b) b) r

-- one row after another
abbrev pub add_all : Book → List Row → Book
add_all b rs = foldl add b rs
