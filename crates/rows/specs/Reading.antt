-- What 16 bytes are read as, by the book's own tests of a row's bytes and fields.
use Rattle.std.specs.Prelude.{ℕ, List, Bool, cond, replicate}
use Rattle.book.specs.Lists.{eq_bytes}
use Rattle.book.specs.Limits.{row_length}
use Rattle.book.specs.Rows.{fits}
use Rattle.book.specs.RowBytes.{row_of, is_row_bytes}
use Rattle.rows.specs.Meaning.{coded}
use Rattle.rows.specs.declared.Read.{Read}
use Rattle.rows.specs.declared.Read.TheVariants.{Valid, Blank, Malformed, OutOfRange}

-- all 16 bytes are zero
abbrev pub is_blank : List ℕ → Bool
is_blank bs = eq_bytes bs (replicate row_length 0)

-- what bytes other than zeros are: not as the table of bytes has them, or a row by whether every field is in its range
abbrev pub read_by : (bytes ranges : Bool) → List ℕ → Read
read_by bytes ranges bs = cond bytes (cond ranges (Valid (coded (row_of bs))) OutOfRange) Malformed

-- what the bytes of row n are: the tests of the bytes come before those of the ranges
unfoldable pub read_of : ℕ → List ℕ → Read
read_of n bs = cond (is_blank bs) Blank (read_by (is_row_bytes n bs) (fits (row_of bs)) bs)
