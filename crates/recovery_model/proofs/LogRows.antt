-- The rows of a log, looked up where their bytes stand.
use Prim.Native.Nat.{ℕ, suc, ◌+◌, ◌-◌, ◌≤◌, ◌<◌}
use native.Mathlib.Omega.{arith}
use mathlib.Core.Path.{◌≡◌, refl, ap, sym, ◌∙◌}
use mathlib.Core.Bool.{Bool, true, false, cond, ◌&&◌}
use mathlib.Core.List.{List, [], ◌∷◌, ◌++◌}
use lib.ListN.{length, get_or, get_or-eq_default}
use lib.Dec.{leb}
use borrow.Author.Tests.{le-leb, leb-true, leb-false}
use Rattle.book.specs.Rows.{Row}
use Rattle.book.specs.Ledger.{empty}
use Rattle.book.specs.Rules.{allowed_log}
use Rattle.book.specs.RowBytes.{row_bytes, row_of}
use Rattle.book.specs.LogBytes.{rows_bytes}
use Rattle.book.specs.Pages.{row_at}
use Rattle.book.proofs.RowBytes.{row_back}
use Rattle.journal.proofs.RowsInBytes.{snoc-bytes}
use Rattle.wal.specs.Looking.{row_bytes_at}
use Rattle.wal.proofs.RowsLookedUp.{row-bytes-at, fits-at}
use Rattle.recovery_model.specs.Scan.{row_in}

-- the bytes of the next row, behind those of the rows before it
pub next_row : (rs : List Row) (r : Row) → rows_bytes 1 (rs ++ (r ∷ [])) ≡ rows_bytes 1 rs ++ row_bytes (suc (length rs)) r
next_row rs r = snoc-bytes 1 rs r ∙ ap (λ (m : ℕ). rows_bytes 1 rs ++ row_bytes m r) (omega arith)

-- row i of allowed rows, counted from 0
pub row_read : (rs : List Row) (rest : List ℕ) (i : ℕ) → allowed_log rs ≡ true → i < length rs
    → row_of (row_bytes_at (rows_bytes 1 rs ++ rest) i) ≡ get_or rs i (Row.begin 0)
row_read rs rest i al h =
    ap row_of (row-bytes-at rs 1 i rest (Row.begin 0) h) ∙ row_back (1 + i) (get_or rs i (Row.begin 0)) (fits-at empty rs i (Row.begin 0) al h)

-- row n of the rows at a log's start, counted from 1; of another number any will do, and both have the same
pub row-in : (rs : List Row) (rest : List ℕ) (n : ℕ) → allowed_log rs ≡ true → 1 ≤ n → row_in (rows_bytes 1 rs ++ rest) (length rs) n ≡ row_at rs n
row-in rs rest n al low = go (leb n (length rs)) refl
  where
    go : (t : Bool) → leb n (length rs) ≡ t → cond (leb 1 n && t) (row_of (row_bytes_at (rows_bytes 1 rs ++ rest) (n - 1))) (Row.begin 0) ≡ row_at rs n
    go true e = rw (le-leb 1 n low) (row_read rs rest (n - 1) al (omega (arith, leb-true n (length rs) e)))
    go false e = rw (le-leb 1 n low) (sym (get_or-eq_default rs (Row.begin 0) {n = n - 1} (omega (arith, leb-false n (length rs) e))))
