-- The whole example of document 01's run file, with both fuses, by computing.
use Prim.Native.Nat.{ℕ}
use mathlib.Core.Bool.{true}
use mathlib.Core.Path.{◌≡◌, refl}
use mathlib.Core.List.{List, [], ◌∷◌, map}
use lib.IntN.{pos, negsuc}
use Rattle.book.specs.Calls.{Call}
use Rattle.book.specs.Power.{Fuse, none, left, formatted}
use Rattle.book.specs.Book.{done, refused_by}
use Rattle.book.specs.Events.{Event, opens, calls}
use Rattle.book.specs.Writes.{Writes}
use Rattle.book.specs.SessionWrites.{writes}
use Rattle.book.specs.Cases.{Gives}
use Rattle.book.specs.Cells.{zeros}
use Rattle.book.proofs.WorkedExamples.{computes}

-- session 1 with the fuse: begin, begin, visit 1 adds -200 to cell 0, hands it to 2, abort 1, commit 2; session 2 with no fuse: read 0
abbrev pub example : Fuse → List Event
example f =
    opens true f ∷ calls true Call.begin ∷ calls true Call.begin ∷ calls true (Call.change 1 0 (negsuc 199)) ∷ calls true (Call.hand_over 1 2 0) ∷
    calls true (Call.abort 1) ∷ calls true (Call.commit 2) ∷ opens true none ∷ calls true (Call.read 0) ∷ []

-- the fourth write does not land, the second of the commit: it answers 5, and the opening takes the change back
pub with-fuse-3 : Gives zeros (example (left 3))
    (done (pos 0) ∷ done (pos 1) ∷ done (pos 2) ∷ done (pos 3) ∷ done (pos 4) ∷ done (pos 5) ∷ refused_by 5 ∷ done (pos 3) ∷ done (pos 0) ∷ [])
unfolding computes
with-fuse-3 = refl

-- all six land: the change is kept
pub with-fuse-6 : Gives zeros (example (left 6))
    (done (pos 0) ∷ done (pos 1) ∷ done (pos 2) ∷ done (pos 3) ∷ done (pos 4) ∷ done (pos 5) ∷ done (pos 6) ∷ done (pos 0) ∷ done (negsuc 199) ∷ [])
unfolding computes
with-fuse-6 = refl

-- the rows that each opening and call stores; no page is
abbrev pub rows_stored : Fuse → List ℕ
rows_stored f = map (λ (w : Writes). w.rows) (writes zeros formatted (example f))

-- 02, L4: "each begin there now counts one row, and the commit one instead of three"
pub counts-with-fuse-3 : rows_stored (left 3) ≡ 0 ∷ 1 ∷ 1 ∷ 0 ∷ 0 ∷ 0 ∷ 1 ∷ 3 ∷ 0 ∷ []
unfolding computes
counts-with-fuse-3 = refl

pub counts-with-fuse-6 : rows_stored (left 6) ≡ 0 ∷ 1 ∷ 1 ∷ 0 ∷ 0 ∷ 0 ∷ 4 ∷ 0 ∷ 0 ∷ []
unfolding computes
counts-with-fuse-6 = refl
