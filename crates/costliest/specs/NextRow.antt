-- The costliest logs row by row.
use Rattle.std.specs.Prelude.{ℕ, zero, suc, pos}
use Rattle.book.specs.Rows.{Row}

-- the row after k others
abbrev pub costliest_row : ℕ → Row
costliest_row zero = Row.begin 1
costliest_row (suc k) = Row.change 1 0 (pos 1)
