-- The arrays of RAM after a call that took them.
use Rattle.std.specs.Prelude.{ℕ, List}
use Rattle.std.specs.Borrow.{MutBor}

pub record Arrays : Type 0 where
  pub copy : List ℕ
  pub tail : List ℕ
  pub visits : List ℕ
  pub scopes : List ℕ

-- by the references as they are left, in the order of the struct `Ram`
abbrev pub left : MutBor (List ℕ) × (MutBor (List ℕ) × (MutBor (List ℕ) × (MutBor (List ℕ) × Unit {0}))) → Arrays
left r = record { copy = r.0.now; tail = r.1.0.now; visits = r.1.1.0.now; scopes = r.1.1.1.0.now }
