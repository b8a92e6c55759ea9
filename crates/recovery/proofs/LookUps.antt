-- The log as a part of the journal that begins with row 1: a row looked up in it, and the search in it for the change before another. Assumes nothing.
use Rattle.std.proofs.Common.{◌≡◌, ℕ, List}
use native.Mathlib.Nat.{sub-zero}
use Rattle.book.specs.Scopes.{Scope}
use Rattle.tables_model.specs.Lookup.{before_last}
use Rattle.wal.specs.Looking.{row_of_part}
use Rattle.wal.proofs.LookUps.{same-below}
use Rattle.recovery_model.specs.Scan.{row_in}

module _ (log : List ℕ) (k : ℕ) where
  pub row-of-log : (n : ℕ) → row_of_part log 0 k n ≡ row_in log k n
  row-of-log n = rw (sub-zero n)

  pub before-in-log : (s : Scope) → before_last (row_of_part log 0 k) s ≡ before_last (row_in log k) s
  before-in-log s = same-below (row_of_part log 0 k) (row_in log k) s.maker s.cell s.first s.last (λ n h. row-of-log n)
