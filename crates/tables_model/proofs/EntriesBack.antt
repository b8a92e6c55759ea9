-- An entry goes over into the code's struct and back. Assumes nothing.
use mathlib.Core.Path.{◌≡◌, refl, ap}
use mathlib.Core.List.{List, [], ◌∷◌, map}
use Rattle.book.specs.Scopes.{Scope}
use Rattle.tables_model.specs.Entries.{scope_in}
use Rattle.tables_model.specs.Meaning.{scope_of}

pub entries-back : (ss : List Scope) → map scope_in (map scope_of ss) ≡ ss
entries-back [] = refl
entries-back (s ∷ ss) = ap (λ (ts : List Scope). s ∷ ts) (entries-back ss)
