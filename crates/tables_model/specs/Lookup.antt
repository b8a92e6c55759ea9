-- What is looked up in the rows before an undo row, by the tables.
use Rattle.std.specs.Prelude.{ℕ, zero, suc, Bool, false, cond, ◌&&◌, List, get_or, eqb, leb, Option, Some, None}
use Rattle.book.specs.Rows.{Row, begin, change, hand_over, undo, commit, abort, hand_over_all}
use Rattle.book.specs.Ledger.{Ledger}
use Rattle.book.specs.Scopes.{Scope, unused}
use Rattle.tables_model.specs.declared.Whom.{Whom}
use Rattle.tables_model.specs.declared.Whom.TheVariants.{One}
use Rattle.tables_model.specs.Meaning.{tables_of, scope_table}
use Rattle.tables_model.specs.Table.{highest}
use Rattle.tables_model.specs.Rows.{Index}

-- both tables, as the ledger has them
abbrev pub index_of : Ledger → Index
index_of l = record { tables = tables_of l; scopes = scope_table l }

-- the row is a change of the cell by the maker
abbrev pub is_change_by : ℕ → ℕ → Row → Bool
is_change_by maker cell (begin v) = false
is_change_by maker cell (change v c a) = eqb v maker && eqb c cell
is_change_by maker cell (hand_over g r c) = false
is_change_by maker cell (undo h c n a) = false
is_change_by maker cell (commit v) = false
is_change_by maker cell (abort v) = false
is_change_by maker cell (hand_over_all g r) = false

-- the highest row below n and not below `first` that is a change of the cell by the maker, 0 for none: a search downwards, by the rows alone
abbrev pub previous : (ℕ → Row) → ℕ → ℕ → ℕ → ℕ → ℕ
previous look maker cell first zero = 0
previous look maker cell first (suc n) =
    let below = previous look maker cell first n in
    cond (leb first n && leb 1 n) (cond (is_change_by maker cell (look n)) n below) 0

-- the change before the scope's last one
abbrev pub before_last : (ℕ → Row) → Scope → ℕ
before_last look s = previous look s.maker s.cell s.first s.last

-- that of the entry found, 0 for none
abbrev pub before_found : (ℕ → Row) → Option ℕ → List Scope → ℕ
before_found look (Some i) ss = before_last look (get_or ss i unused)
before_found look None ss = 0

-- that of the highest open change of these visits
abbrev pub before_highest : (ℕ → Row) → Whom → Index → ℕ
before_highest look w x = before_found look (highest w x.tables.used x.scopes) x.scopes

-- what a row needs: that of its holder's highest open change for an undo row, 0 for every other row
abbrev pub before_undone : (ℕ → Row) → Index → Row → ℕ
before_undone look x (begin v) = 0
before_undone look x (change v c a) = 0
before_undone look x (hand_over g r c) = 0
before_undone look x (undo h c n a) = before_highest look (One (record { 0 = h })) x
before_undone look x (commit v) = 0
before_undone look x (abort v) = 0
before_undone look x (hand_over_all g r) = 0
