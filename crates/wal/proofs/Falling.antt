-- The turns of a take-back: which change falls next, and what is left to fall after it. Assumes nothing.
use Prim.Native.Nat.{ℕ, suc, ◌+◌, ◌-◌, ◌≤◌, ◌<◌}
use native.Mathlib.Omega.{arith}
use mathlib.Core.Path.{◌≡◌, sym}
use mathlib.Core.List.{List}
use Rattle.std.specs.Prelude.{Option, Some, None}
use Rattle.book.specs.Scopes.{Scope}
use Rattle.tables_model.specs.declared.Whom.{Whom}
use Rattle.tables_model.specs.Table.{highest}
use Rattle.tables.proofs.Searches.{highest-below}
use Rattle.wal.specs.TakeBack.{Taking, Reach, fallen, next_to_fall, fall_all}

-- the entry that falls next stands in the table
pub reach : (f : Option ℕ) (w : Whom) (used : ℕ) (ss : List Scope) → used ≤ 64 → f ≡ highest w used ss → Reach f
reach (Some i) w used ss h e = omega (arith, highest-below w used ss i (sym e))
reach None w used ss h e = tt

module _ (w : Whom) (used : ℕ) (t : Taking) (m n : ℕ) where
  -- a change falls
  pub turn : n < m → (i : ℕ) → next_to_fall w used t ≡ Some i → fall_all (m - n) w used t ≡ fall_all (m - (n + 1)) w used (fallen i t)
  unfolding fall_all
  turn h i e = let k : m - n ≡ suc (m - (n + 1)) = omega arith in rw (k, e)

  -- none is left
  pub turns-stop : n < m → next_to_fall w used t ≡ None → fall_all (m - n) w used t ≡ t
  unfolding fall_all
  turns-stop h e = let k : m - n ≡ suc (m - (n + 1)) = omega arith in rw (k, e)

  -- as many have fallen as there were rows
  pub turns-end : m ≤ n → fall_all (m - n) w used t ≡ t
  unfolding fall_all
  turns-end h = let k : m - n ≡ 0 = omega arith in rw k
