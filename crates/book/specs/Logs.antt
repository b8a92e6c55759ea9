-- Words of the laws and of demand 3 about a log (document 00, demand 3).
use Rattle.std.specs.Prelude.{ℕ, ◌≤◌, Bool, true, false, ◌≡◌, List, [], length, eqb}
use Rattle.book.specs.Lists.{In, keep}
use Rattle.book.specs.Limits.{tail_limit}
use Rattle.book.specs.Rows.{Row, undone_by, aborted_by}
use Rattle.book.specs.Ledger.{Change, ledger}
use Rattle.book.specs.Rules.{is_active, bears_undo, allowed_log}
use Rattle.book.specs.Cells.{is_kept}
use Rattle.book.specs.Power.{Book, none, rows_of, ledger_of}

-- a logged change, as the rows leave it
abbrev pub Logged : List Row → Change → Type 0
Logged rs x = In x (ledger rs).changes

-- the change is in the log, and its last holder has a commit row there
abbrev pub InSum : List Row → Change → Type 0
InSum rs x = Logged rs x × (is_kept (ledger rs) x ≡ true)

-- an undo row of row n; an abort row of visit v. Rows and visits are numbered from 1.
abbrev pub undoes : ℕ → Row → Bool
undoes n r = eqb (undone_by r) n

abbrev pub aborts : ℕ → Row → Bool
aborts v r = eqb (aborted_by r) v

-- 00: no log has two undo rows for a change or two abort rows for a visit
pub record Once (rs : List Row) : Type 0 where
  pub undos : (n : ℕ) → 1 ≤ n → length (keep (undoes n) rs) ≤ 1
  pub aborted : (v : ℕ) → 1 ≤ v → length (keep (aborts v) rs) ≤ 1

-- What holds of every book that openings and calls make of a formatted one.
pub record Sound (b : Book) : Type 0 where
  pub allowed : allowed_log (rows_of b) ≡ true
  pub tail : length b.waiting ≤ tail_limit
  pub shut : b.is_open ≡ false → (b.waiting ≡ []) × (b.fuse ≡ none)
  -- between calls no active visit bears an undo row
  pub whole : b.is_open ≡ true → (v : ℕ) → is_active (ledger_of b) v ≡ true → bears_undo (ledger_of b) v ≡ false
