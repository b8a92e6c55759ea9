-- The stored log as bytes (document 01, "The store"), and what the check of an opening reads in it ("Refusals by place", open, log).
use Rattle.std.specs.Prelude.{ℕ, zero, suc, cond, not, ◌&&◌, List, [], ◌∷◌, ◌++◌, get_or, take, drop, replicate, eqb}
use Rattle.book.specs.Lists.{eq_bytes, pad_to}
use Rattle.book.specs.Limits.{row_limit, row_length, log_length}
use Rattle.book.specs.Rows.{Row, fits}
use Rattle.book.specs.Ledger.{Ledger, empty, after}
use Rattle.book.specs.Rules.{lawful, within_limits}
use Rattle.book.specs.Book.{◌else◌}
use Rattle.book.specs.RowBytes.{row_bytes, row_of, is_row_bytes}

-- the rows from number n on
abbrev pub rows_bytes : ℕ → List Row → List ℕ
rows_bytes n [] = []
rows_bytes n (r ∷ rs) = row_bytes n r ++ rows_bytes (suc n) rs

-- 01: the stored log, zero after the last row
unfoldable pub log_bytes : List Row → List ℕ
log_bytes rs = pad_to log_length 0 (rows_bytes 1 rs)

-- 02, L8: the refusal number of row n with these bytes, after the rows that come to `l`; 0 where it is allowed. "Checks: within a row first 3", for its bytes,
-- "then 16 for a visit, cell, holder or undo rule, then 17 for sixteen visits, the scopes or the free rows". A field out of its range breaks a rule.
unfoldable pub judge : Ledger → ℕ → List ℕ → ℕ
judge l n bs =
    let r = row_of bs in
    (3, not (is_row_bytes n bs)) else (16, not (fits r && lawful l r)) else (17, not (within_limits l r)) else 0

-- 01: what a check of the log finds: its rows, or the first row that is not allowed or has a byte after the end that is not zero, with the refusal number
pub data Log : Type 0 where
  good : (rows : List Row) → Log
  bad : (number row : ℕ) → Log

-- the row before what was found after it
abbrev pub cons_log : Row → Log → Log
cons_log r (good rs) = good (r ∷ rs)
cons_log r (bad k n) = bad k n

-- past the end: k rows from number n on have to be zero; 02, L8: 3 for "bytes after the end"
abbrev pub read_end : ℕ → ℕ → List ℕ → Log
read_end zero n bs = good []
read_end (suc k) n bs =
    let rest = read_end k (suc n) (drop row_length bs) in
    cond (eq_bytes (take row_length bs) (replicate row_length 0)) rest (bad 3 n)

-- k rows from number n on, after the rows that come to `l`. The log ends before the first row whose kind is 0.
abbrev pub read_rows : ℕ → ℕ → Ledger → List ℕ → Log
read_rows zero n l bs = good []
read_rows (suc k) n l bs =
    let r = row_of (take row_length bs) in
    let j = judge l n (take row_length bs) in
    let rest = cons_log r (read_rows k (suc n) (after l r) (drop row_length bs)) in
    cond (eqb (get_or bs 0 0) 0) (read_end (suc k) n bs) (cond (eqb j 0) rest (bad j n))

-- 01: what the check of the stored log finds
unfoldable pub read_log : List ℕ → Log
read_log bs = read_rows row_limit 1 empty bs
