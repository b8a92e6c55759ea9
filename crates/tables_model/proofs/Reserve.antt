-- 01's reserve, by the tables: the entries count as many changes as are open.
use Prim.Native.Nat.{ℕ, ◌+◌}
use mathlib.Core.Path.{◌≡◌, refl, ap, ◌∙◌}
use mathlib.Core.List.{List, [], ◌∷◌}
use lib.ListN.{length}
use Rattle.book.specs.Limits.{scope_limit}
use Rattle.book.specs.Ledger.{Ledger}
use Rattle.book.specs.Rules.{open_changes, reserve}
use Rattle.book.specs.Scopes.{Scope, unused, scopes_of}
use Rattle.book.proofs.Invariant.{Inv}
use Rattle.book.proofs.Scoped.{Scoped}
use Rattle.book.proofs.Counts.{sum_by, counts-open}
use Rattle.tables_model.specs.Table.{count_all, open_count}
use Rattle.tables_model.specs.Rows.{reserve_by}
use Rattle.tables_model.specs.Meaning.{tables_of, scope_table}
use Rattle.tables_model.specs.Lookup.{index_of}
use Rattle.tables_model.proofs.Reversed.{count-reverse}
use Rattle.tables_model.proofs.Padded.{take-pad}

count-sum : (ss : List Scope) → count_all ss ≡ sum_by (λ (s : Scope). s.count) ss
count-sum [] = refl
count-sum (s ∷ ss) = ap (λ (n : ℕ). s.count + n) (count-sum ss)

module _ (l : Ledger) (i : Inv l) (S : Scoped l.changes) where
  pub count-open : count_all (scopes_of l) ≡ length (open_changes l)
  count-open = count-sum (scopes_of l) ∙ counts-open l i S

  pub reserve-by : reserve_by (index_of l) ≡ reserve l
  unfolding reserve_by reserve open_count tables_of scope_table
  reserve-by = ap (λ (n : ℕ). length l.active + n) (ap count_all (take-pad scope_limit unused (scopes_of l)) ∙ count-reverse (scopes_of l) ∙ count-open)
