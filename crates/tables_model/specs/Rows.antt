-- A row judged by the tables, and what the tables are after it. Two things are looked up in the log by the caller: `named`, the row that an undo row
-- names, and `before`, the change before that one in its scope.
use Rattle.std.specs.Prelude.{ℕ, suc, ◌+◌, ◌-◌, ◌≡◌, Bool, true, false, not, ◌&&◌, ◌||◌, List, ℤ, length, eqb, leb, ltb, is_some, Result, Ok, Err}
use Rattle.book.specs.Lists.{eq_z}
use Rattle.book.specs.Limits.{row_limit, active_limit, scope_limit}
use Rattle.book.specs.Rows.{Row, begin, change, hand_over, undo, commit, abort, hand_over_all}
use Rattle.book.specs.Ledger.{only, every}
use Rattle.book.specs.Scopes.{Scope}
use Rattle.tables_model.specs.declared.Tables.{Tables}
use Rattle.tables_model.specs.declared.Counts.{Counts}
use Rattle.tables_model.specs.declared.Whom.TheVariants.{One}
use Rattle.tables_model.specs.declared.Breach.{Breach}
use Rattle.tables_model.specs.declared.Breach.TheVariants.{Rule, Limit}
use Rattle.tables_model.specs.Layout.{flat_length, entries, visits_length}
use Rattle.tables_model.specs.Visits.{tables_in, InRange, Begins, is_listed, is_bearing, with_begun, with_undo, with_ended, with_used}
use Rattle.tables_model.specs.Table.{find, grows, holds_cell, highest, last_at, open_count, Scopes, scopes_changed, scopes_handed, scopes_ended, scopes_undone}

-- both tables
pub record Index : Type 0 where
  pub tables : Tables
  pub scopes : List Scope

-- 01: reserve
unfoldable pub reserve_by : Index → ℕ
reserve_by x = x.tables.count + open_count x.tables.used x.scopes

-- 01: free is at least reserve + n, after so many rows
unfoldable pub room_by : Index → ℕ → ℕ → Bool
room_by x rows n = leb (reserve_by x + n) (row_limit - rows)

-- the highest open change of one visit
unfoldable pub highest_of : Index → ℕ → ℕ
highest_of x v = last_at (highest (One (record { 0 = v })) x.tables.used x.scopes) x.scopes

-- the change would grow a scope
unfoldable pub grows_by : Index → ℕ → ℕ → Bool
grows_by x v c = is_some (find (grows v c) x.tables.used x.scopes)

-- the visit holds changes of these cells
abbrev pub holds_by : Index → ℕ → (ℕ → Bool) → Bool
holds_by x v cs = holds_cell x.tables.used v cs x.scopes

-- the row is a change with this cell and amount
abbrev pub is_change : Row → ℕ → ℤ → Bool
is_change (begin v) c a = false
is_change (change v k z) c a = eqb k c && eq_z z a
is_change (hand_over g r k) c a = false
is_change (undo h k n z) c a = false
is_change (commit v) c a = false
is_change (abort v) c a = false
is_change (hand_over_all g r) c a = false

-- the visit is active, and no undo row bears it
abbrev pub may_act : Tables → ℕ → Bool
may_act t v = is_listed t v && not (is_bearing t v)

-- giver and receiver are two active visits that no undo row bears, and the giver holds changes of these cells
abbrev pub may_hand_over_by : Index → ℕ → ℕ → (ℕ → Bool) → Bool
may_hand_over_by x g r cs =
    not (eqb g r) && is_listed x.tables g && is_listed x.tables r && not (is_bearing x.tables g) && not (is_bearing x.tables r) && holds_by x g cs

abbrev pub may_undo : Index → Row → ℕ → ℕ → ℕ → ℤ → Bool
may_undo x named h c n a = leb 1 n && eqb (highest_of x h) n && is_change named c a

abbrev pub may_abort : Index → ℕ → Bool
may_abort x v = is_listed x.tables v && eqb (highest_of x v) 0

-- 01: what a row needs of visits, cells, holders and undo rows
unfoldable pub lawful_by : Index → Row → Row → Bool
lawful_by x named (begin v) = eqb v (suc x.tables.begun)
lawful_by x named (change v c a) = may_act x.tables v
lawful_by x named (hand_over g r c) = may_hand_over_by x g r (only c)
lawful_by x named (undo h c n a) = may_undo x named h c n a
lawful_by x named (commit v) = may_act x.tables v
lawful_by x named (abort v) = may_abort x v
lawful_by x named (hand_over_all g r) = may_hand_over_by x g r every

abbrev pub room_to_begin : Index → ℕ → Bool
room_to_begin x rows = ltb x.tables.count active_limit && room_by x rows 2

-- a change grows a scope, or an entry is vacant
abbrev pub has_entry : Index → ℕ → ℕ → Bool
has_entry x v c = grows_by x v c || ltb x.tables.used scope_limit

abbrev pub room_to_change : Index → ℕ → ℕ → ℕ → Bool
room_to_change x rows v c = has_entry x v c && room_by x rows 2

-- 01: what a row needs of the sixteen visits, the scopes and the free rows
unfoldable pub within_limits_by : Index → ℕ → Row → Bool
within_limits_by x rows (begin v) = room_to_begin x rows
within_limits_by x rows (change v c a) = room_to_change x rows v c
within_limits_by x rows (hand_over g r c) = room_by x rows 1
within_limits_by x rows (undo h c n a) = true
within_limits_by x rows (commit v) = true
within_limits_by x rows (abort v) = true
within_limits_by x rows (hand_over_all g r) = room_by x rows 1

-- what is said of a row, by whether it is lawful and within limits: the rules come first
abbrev pub verdict : Bool → Bool → Result (Unit {0}) Breach
verdict true true = Ok tt
verdict true false = Err Limit
verdict false within = Err Rule

unfoldable pub judge_by : Index → ℕ → Row → Row → Result (Unit {0}) Breach
judge_by x rows named r = verdict (lawful_by x named r) (within_limits_by x rows r)

-- ── The tables after an allowed row ───────────────────────────────────────────────────────────────────────────────────

-- a change in row n
abbrev pub after_change : Index → ℕ → ℕ → ℕ → Index
after_change x n v c =
    let s : Scopes = scopes_changed x.tables.used n v c x.scopes in
    record { tables = with_used x.tables s.used; scopes = s.entries }

abbrev pub after_hand_over : Index → ℕ → ℕ → (ℕ → Bool) → Index
after_hand_over x g r cs = record { tables = x.tables; scopes = scopes_handed x.tables.used g r cs x.scopes }

-- an undo of the holder's highest open change
abbrev pub after_undo : Index → ℕ → ℕ → Index
after_undo x h before =
    record { tables = with_undo x.tables h; scopes = scopes_undone (One (record { 0 = h })) x.tables.used before x.scopes }

-- a commit or an abort
abbrev pub after_end : Index → ℕ → Index
after_end x v =
    let s : Scopes = scopes_ended x.tables.used v x.scopes in
    record { tables = with_ended x.tables v s.used; scopes = s.entries }

-- the row has number n
unfoldable pub step_by : Index → ℕ → ℕ → Row → Index
step_by x n before (begin v) = record { tables = with_begun x.tables v; scopes = x.scopes }
step_by x n before (change v c a) = after_change x n v c
step_by x n before (hand_over g r c) = after_hand_over x g r (only c)
step_by x n before (undo h c k a) = after_undo x h before
step_by x n before (commit v) = after_end x v
step_by x n before (abort v) = after_end x v
step_by x n before (hand_over_all g r) = after_hand_over x g r every

-- ── What the functions ask ────────────────────────────────────────────────────────────────────────────────────────────

-- the counters, the flat visits and the flat scope table
abbrev pub index : Counts → List ℕ → List ℕ → Index
index t vs s = record { tables = tables_in t vs; scopes = entries s }

-- the counters are within the arrays, and the flat scope table has its length
pub record Ranged (t : Counts) (scopes : ℕ) : Type 0 where
  pub range : InRange t.count t.used
  pub long : scopes ≡ flat_length

-- and the flat visits theirs
pub record Ready (t : Counts) (visits scopes : ℕ) : Type 0 where
  pub range : InRange t.count t.used
  pub visits-long : visits ≡ visits_length
  pub long : scopes ≡ flat_length

-- a change of the cell by the visit grows a scope, or has a vacant entry
pub record Changes (t : Counts) (s : List ℕ) (v c : ℕ) : Type 0 where
  pub ranged : Ranged t (length s)
  pub entry : (vs : List ℕ) → has_entry (index t vs s) v c ≡ true

-- the tables have room for what the row adds to them: an allowed row has it
abbrev pub Takes : Index → Row → Type 0
Takes x (begin v) = Begins x.tables v
Takes x (change v c a) = has_entry x v c ≡ true
Takes x (hand_over g r c) = Unit {0}
Takes x (undo h c k a) = Unit {0}
Takes x (commit v) = Unit {0}
Takes x (abort v) = Unit {0}
Takes x (hand_over_all g r) = Unit {0}

pub record Steps (t : Counts) (vs s : List ℕ) (r : Row) : Type 0 where
  pub ready : Ready t (length vs) (length s)
  pub takes : Takes (index t vs s) r
