-- The lent scope table against the table by value: `loaded` is what a core works on, `stored` what the call leaves. A table of another length than 64 counts as blank, and stays.
use Rattle.std.specs.Prelude.{ℕ, cond, List, eqb, length}
use Rattle.cores.specs.Lent.{blanks}
use Rattle.tables_model.specs.declared.Scope.{Scope}

-- the entries that are copied: all 64, or none of a table of another length
abbrev pub limit_of : ℕ → ℕ
limit_of n = cond (eqb n 64) 64 0

abbrev pub loaded : List Scope → List Scope
loaded xs = cond (eqb (length xs) 64) xs blanks

abbrev pub stored : List Scope → List Scope → List Scope
stored xs t = cond (eqb (length xs) 64) t xs
