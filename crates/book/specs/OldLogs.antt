-- Document 02, L7: "Old logs mean the same." The bytes and the ranges of rows before it: those of document 01, with the kind of 02, L2. A visit has one byte.
use Rattle.std.specs.Prelude.{ℕ, suc, Bool, true, ◌&&◌, ◌≡◌, List, [], ◌∷◌, ◌++◌, replicate, ℤ, pos, leb}
use Rattle.book.specs.Lists.{pad_to}
use Rattle.book.specs.Limits.{log_length}
use Rattle.book.specs.Rows.{Row, is_cell, is_row_number, is_amount}
use Rattle.book.specs.Ledger.{Ledger, empty, after}
use Rattle.book.specs.Rules.{lawful, within_limits, allowed_log}
use Rattle.book.specs.Numbers.{le, bits_of}
use Rattle.book.specs.RowBytes.{row_bytes}
use Rattle.book.specs.LogBytes.{log_bytes, good, read_log}

-- ── Which rows were allowed ───────────────────────────────────────────────────────────────────────────────────────────

-- 01: visit, 1 to 255
abbrev pub is_old_visit : ℕ → Bool
is_old_visit v = leb 1 v && leb v 255

-- every field of the row is in 01's range
unfoldable pub old_fits : Row → Bool
old_fits (Row.begin v) = is_old_visit v
old_fits (Row.change v c a) = is_old_visit v && is_cell c && is_amount a
old_fits (Row.hand_over g r c) = is_old_visit g && is_old_visit r && is_cell c
old_fits (Row.undo h c n a) = is_old_visit h && is_cell c && is_row_number n && is_amount a
old_fits (Row.commit v) = is_old_visit v
old_fits (Row.abort v) = is_old_visit v
old_fits (Row.hand_over_all g r) = is_old_visit g && is_old_visit r

-- the row rules are the same
abbrev pub old_all_allowed : Ledger → List Row → Bool
old_all_allowed l [] = true
old_all_allowed l (r ∷ rs) = old_fits r && lawful l r && within_limits l r && old_all_allowed (after l r) rs

abbrev pub old_allowed_log : List Row → Bool
old_allowed_log rs = old_all_allowed empty rs

-- ── Their bytes ───────────────────────────────────────────────────────────────────────────────────────────────────────

-- 01: the table of bytes: kind, visit, receiver, cell, the row's own number, row undone, change, and six zeros
abbrev pub old_fields : ℕ → ℕ → ℕ → ℕ → ℕ → ℕ → ℤ → List ℕ
old_fields kind v r c n u a = kind ∷ v ∷ r ∷ c ∷ le 2 n ++ le 2 u ++ le 2 (bits_of 16 a) ++ replicate 6 0

-- the bytes of row n
unfoldable pub old_row_bytes : ℕ → Row → List ℕ
old_row_bytes n (Row.begin v) = old_fields 1 v 0 0 n 0 (pos 0)
old_row_bytes n (Row.change v c a) = old_fields 2 v 0 c n 0 a
old_row_bytes n (Row.hand_over g r c) = old_fields 3 g r c n 0 (pos 0)
old_row_bytes n (Row.undo h c u a) = old_fields 4 h 0 c n u a
old_row_bytes n (Row.commit v) = old_fields 5 v 0 0 n 0 (pos 0)
old_row_bytes n (Row.abort v) = old_fields 6 v 0 0 n 0 (pos 0)
old_row_bytes n (Row.hand_over_all g r) = old_fields 7 g r 0 n 0 (pos 0)

-- the rows from number n on
abbrev pub old_rows_bytes : ℕ → List Row → List ℕ
old_rows_bytes n [] = []
old_rows_bytes n (r ∷ rs) = old_row_bytes n r ++ old_rows_bytes (suc n) rs

-- the stored log, zero after the last row
unfoldable pub old_log_bytes : List Row → List ℕ
old_log_bytes rs = pad_to log_length 0 (old_rows_bytes 1 rs)

-- ── What they are now ─────────────────────────────────────────────────────────────────────────────────────────────────

-- a row's bytes are those of before
unfoldable pub OldRows : Type 0
OldRows = (n : ℕ) (r : Row) → old_fits r ≡ true → row_bytes n r ≡ old_row_bytes n r

-- of a log that was allowed: it is allowed, its bytes are those of before, and an opening reads them as the same rows
pub record OldLog (rs : List Row) : Type 0 where
  pub allowed : allowed_log rs ≡ true
  pub bytes : log_bytes rs ≡ old_log_bytes rs
  pub read : read_log (old_log_bytes rs) ≡ good rs

unfoldable pub OldLogs : Type 0
OldLogs = (rs : List Row) → old_allowed_log rs ≡ true → OldLog rs
