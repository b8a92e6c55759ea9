-- The code's rows and the book's are the same rows, and so are their effects. Assumes nothing.
use mathlib.Core.Path.{◌≡◌, refl}
use Rattle.book.specs.Rows as book
use Rattle.rows.specs.Meaning.{meant, coded, effect_of, effect_meant}
use Rattle.rows.specs.declared.Row.{Row}
use Rattle.rows.specs.declared.Row.TheVariants.{Begin, Change, HandOver, Undo, Commit, Abort, HandOverAll}

pub meant-coded : (r : book.Row) → meant (coded r) ≡ r
meant-coded (book.Row.begin v) = refl
meant-coded (book.Row.change v c a) = refl
meant-coded (book.Row.hand_over g r c) = refl
meant-coded (book.Row.undo h c n a) = refl
meant-coded (book.Row.commit v) = refl
meant-coded (book.Row.abort v) = refl
meant-coded (book.Row.hand_over_all g r) = refl

pub coded-meant : (r : Row) → coded (meant r) ≡ r
coded-meant (Begin v) = refl
coded-meant (Change v c a) = refl
coded-meant (HandOver g r c) = refl
coded-meant (Undo h c n a) = refl
coded-meant (Commit v) = refl
coded-meant (Abort v) = refl
coded-meant (HandOverAll g r) = refl

pub effect-meant : (r : Row) → effect_meant (effect_of r) ≡ book.effect (meant r)
effect-meant (Begin v) = refl
effect-meant (Change v c a) = refl
effect-meant (HandOver g r c) = refl
effect-meant (Undo h c n a) = refl
effect-meant (Commit v) = refl
effect-meant (Abort v) = refl
effect-meant (HandOverAll g r) = refl
