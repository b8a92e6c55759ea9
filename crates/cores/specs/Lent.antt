-- What the core of a call promises, which has the scope table by value.
use Rattle.std.specs.Prelude.{ℕ, ◌≡◌, ◌≢◌, List, length, replicate}
use Rattle.tables_model.specs.Meaning.{scope_of}
use Rattle.book.specs.Limits.{scope_limit}
use Rattle.book.specs.Scopes.{unused}
use Rattle.tables_model.specs.declared.Counts.{Counts}
use Rattle.tables_model.specs.declared.Scope.{Scope}
use Rattle.tables_model.specs.declared.Tables.{Tables}
use Rattle.state.specs.World.{World}
use Rattle.state.specs.CallContracts.{Returned}

-- an entry that is not in use
abbrev pub zero_scope : Scope
zero_scope = scope_of unused

abbrev pub blanks : List Scope
blanks = replicate scope_limit zero_scope

-- the counters of the tables
abbrev pub counts_in : Tables → Counts
counts_in t = record { begun = t.begun; count = t.count; used = t.used }

-- The promise P of a call as its core keeps it. The core has the number n of entries that are lent, and the table by value, of 64 entries.
-- At 64 entries the two tables are the lent one before and after; at any other number the lent table stays.
abbrev pub ByValue : (World → Returned → Type 0) → (List Scope → World) → ℕ → List Scope → (List Scope → Returned) → List Scope → Type 0
ByValue P given n t leaves t' =
    (n ≡ scope_limit → P (given t) (leaves t')) × (n ≢ scope_limit → (ys : List Scope) → length ys ≡ n → P (given ys) (leaves ys))
