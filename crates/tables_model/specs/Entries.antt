-- What the functions over single entries of the flat scope table (specs/Layout) ask and give.
use Rattle.std.specs.Prelude.{ℕ, ◌≤◌, ◌<◌, ◌≡◌, Bool, true, false}
use Rattle.book.specs.Limits.{scope_limit}
use Rattle.book.specs.Scopes.{Scope}
use Rattle.tables_model.specs.declared.Scope.{Scope as Entry}
use Rattle.tables_model.specs.Layout.{flat_length}

-- what the code's struct says
abbrev pub scope_in : Entry → Scope
scope_in e = record {
  maker = e.maker.0;
  holder = e.holder.0;
  cell = e.cell.0;
  first = e.first.0;
  last = e.last.0;
  handed = e.handed;
  count = e.count;
}

-- the number that `handed` is written as
abbrev pub flag : Bool → ℕ
flag true = 1
flag false = 0

-- the table has its length, and the first `used` entries lie within it
pub record Sized (size used : ℕ) : Type 0 where
  pub long : size ≡ flat_length
  pub within : used ≤ scope_limit

-- the table has its length, and entry i lies within it
pub record Inside (size i : ℕ) : Type 0 where
  pub long : size ≡ flat_length
  pub below : i < scope_limit
