-- What the tables are for a list of rows: the ledger's active visits and scopes in use, in ascending order.
use Rattle.std.specs.Prelude.{ℕ, false, List, map, reverse, length, replicate}
use Rattle.book.specs.Lists.{pad_to}
use Rattle.book.specs.Limits.{active_limit, scope_limit}
use Rattle.book.specs.Ledger.{Ledger}
use Rattle.book.specs.Rules.{bears_undo}
use Rattle.book.specs.Scopes.{Scope, unused, scopes_of}
use Rattle.tables_model.specs.declared.Active.{Active}
use Rattle.tables_model.specs.declared.Scope.{Scope as Entry}
use Rattle.tables_model.specs.declared.Tables.{Tables}

-- a vacant place
abbrev pub vacant : Active
vacant = record { visit = record { 0 = 0 }; bears = false }

-- before the first row
abbrev pub no_tables : Tables
no_tables = record { begun = 0; active = replicate active_limit vacant; count = 0; used = 0 }

-- 01: an active visit, and whether an undo row bears it
abbrev pub active_of : Ledger → ℕ → Active
active_of l v = record { visit = record { 0 = v }; bears = bears_undo l v }

-- the visits, and how many scopes are in use
unfoldable pub tables_of : Ledger → Tables
tables_of l = record {
  begun = l.begun;
  active = pad_to active_limit vacant (reverse (map (active_of l) l.active));
  count = length l.active;
  used = length (scopes_of l);
}

-- 01: the scope table, 64 entries
unfoldable pub scope_table : Ledger → List Scope
scope_table l = pad_to scope_limit unused (reverse (scopes_of l))

-- the entry as the struct that the lent table has
abbrev pub scope_of : Scope → Entry
scope_of s = record {
  maker = record { 0 = s.maker };
  holder = record { 0 = s.holder };
  cell = record { 0 = s.cell };
  first = record { 0 = s.first };
  last = record { 0 = s.last };
  handed = s.handed;
  count = s.count;
}
