-- The cases of document 01 that are marked *. All but one hold by computing.
use native.Mathlib.Omega.{arith}
use mathlib.Core.Path.{refl}
use Rattle.book.specs.Cases.{EmptyOpens, TwoVisits, HandedSurvives, LaterChangeStays, HandedBack, LowestUndone, LastCell, ToOneself, Untouched, OneVisitFills, SixteenActive, UndoneOnce, first_opening, second_opening, UndoneOnceInBytes, Cases}
use Rattle.book.proofs.OneVisit.{filled, takes-one-more, takes-no-more}
use Rattle.book.proofs.WorkedExamples.{computes}

empty-opens : EmptyOpens
unfolding computes
empty-opens = refl

two-visits : TwoVisits
unfolding computes
two-visits = refl

handed-survives : HandedSurvives
unfolding computes
handed-survives = refl

later-change-stays : LaterChangeStays
unfolding computes
later-change-stays = refl

handed-back : HandedBack
unfolding computes
handed-back = refl

lowest-undone : LowestUndone
unfolding computes
lowest-undone = refl

last-cell : LastCell
unfolding computes
last-cell = refl

to-oneself : ToOneself
unfolding computes
to-oneself = refl

untouched : Untouched
unfolding computes
untouched = refl

-- by induction: computing 2,047 changes would take too many steps
one-visit-fills : OneVisitFills
one-visit-fills = (takes-one-more _ 2046 (filled 2046 (omega arith)) (omega arith), takes-no-more _ 2047 (filled 2047 (omega arith)) (omega arith))

sixteen-active : SixteenActive
unfolding computes
sixteen-active = refl

undone-once : UndoneOnce
unfolding computes
undone-once = (refl, refl)

undone-once-in-bytes : UndoneOnceInBytes
unfolding computes first_opening second_opening
undone-once-in-bytes = record { first = refl; cell = refl; second = refl; again = refl }

pub cases : Cases
cases = (
  empty-opens,
  two-visits,
  handed-survives,
  later-change-stays,
  handed-back,
  lowest-undone,
  last-cell,
  to-oneself,
  untouched,
  one-visit-fills,
  sixteen-active,
  (undone-once, undone-once-in-bytes),
)
