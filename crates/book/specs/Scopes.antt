-- The scope table (document 01, "The store" and "Row rules"): its entries, by the ledger.
use Rattle.std.specs.Prelude.{ℕ, Bool, false, not, ◌&&◌, List, [], ◌∷◌, map, length, eqb}
use Rattle.book.specs.Lists.{keep}
use Rattle.book.specs.Ledger.{Change, Ledger}
use Rattle.book.specs.Rules.{is_undone, starts_in_use}

-- 01: an entry of the scope table (maker, holder, cell, first, last), with two fields more: `handed` and `count`.
pub record Scope : Type 0 where
  pub maker : ℕ
  pub holder : ℕ
  pub cell : ℕ
  pub first : ℕ  -- the row of its first change
  pub last : ℕ  -- its highest change that no undo row names, 0 for none
  pub handed : Bool  -- it was handed over, so a change starts a scope of its own
  pub count : ℕ  -- its changes that no undo row names

-- 01: an unused entry, all fields zero
abbrev pub unused : Scope
unused = record { maker = 0; holder = 0; cell = 0; first = 0; last = 0; handed = false; count = 0 }

-- the row of the first change of the list, 0 for none
abbrev pub first_row : List Change → ℕ
first_row [] = 0
first_row (x ∷ xs) = x.row

-- the changes of a scope that no undo row names, highest row first
abbrev pub standing : Ledger → ℕ → List Change
standing l scope = keep (λ y. eqb y.scope scope && not (is_undone l y)) l.changes

-- the entry of the scope that the change starts
abbrev pub entry_of : Ledger → Change → Scope
entry_of l x = record {
  maker = x.maker;
  holder = x.holder;
  cell = x.cell;
  first = x.row;
  last = first_row (standing l x.row);
  handed = x.handed;
  count = length (standing l x.row);
}

-- The scopes in use, the newest first. The lent table has them the other way round, by ascending first row, and unused entries after them.
unfoldable pub scopes_of : Ledger → List Scope
scopes_of l = map (entry_of l) (keep (starts_in_use l) l.changes)
