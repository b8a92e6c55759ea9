-- What stays when a visit ends: the other visits, and the entries that another visit holds. Assumes nothing.
use Rattle.std.proofs.Common.{ℕ, Bool, not, eqb}
use Rattle.book.specs.Scopes.{Scope}
use Rattle.tables_model.specs.declared.Active.{Active}
use Rattle.tables_model.specs.Visits.{is_of}

-- the visits that stay
abbrev pub stays : ℕ → Active → Bool
stays v a = not (is_of v a)

-- the entries that another visit holds
abbrev pub held_by_other : ℕ → Scope → Bool
held_by_other v s = not (eqb s.holder v)
