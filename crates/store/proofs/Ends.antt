-- What is loaded and what is stored, as so many entries of one table before the rest of another: all 64 of a table of 64 entries, and of any other none.
-- Assumes nothing.
use mathlib.Core.Path.{◌≡◌, refl}
use mathlib.Core.Bool.{Bool, true, false, cond}
use mathlib.Core.List.{List}
use lib.Dec.{eqb}
use lib.ListN.{length, length-replicate}
use borrow.Author.Tests.{eqb-true}
use Rattle.tables_model.specs.declared.Scope.{Scope}
use Rattle.cores.specs.Lent.{zero_scope, blanks}
use Rattle.store.specs.Table.{limit_of, loaded, stored}
use Rattle.store.proofs.Fill.{part, part-all}

pub load-end : (ys : List Scope) → part ys blanks (limit_of (length ys)) ≡ loaded ys
load-end ys = go (eqb (length ys) 64) refl
  where
    go : (t : Bool) → eqb (length ys) 64 ≡ t → part ys blanks (cond t 64 0) ≡ cond t ys blanks
    go true e = part-all ys blanks 64 (eqb-true (length ys) 64 e) (length-replicate 64 zero_scope)
    go false e = refl

pub store-end : (ys t : List Scope) → length t ≡ 64 → part t ys (limit_of (length ys)) ≡ stored ys t
store-end ys t f = go (eqb (length ys) 64) refl
  where
    go : (s : Bool) → eqb (length ys) 64 ≡ s → part t ys (cond s 64 0) ≡ cond s t ys
    go true e = part-all t ys 64 f (eqb-true (length ys) 64 e)
    go false e = refl
