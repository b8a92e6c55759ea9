-- A begin answered done, as 02's L4 speaks of it: its row is in the log after it and after whatever happens later, and a later begin has a higher number.
use Prim.Native.Nat.{ℕ}
use native.Mathlib.Omega.{arith}
use mathlib.Core.Path.{◌≡◌}
use mathlib.Core.Bool.{Bool}
use mathlib.Core.List.{List}
use lib.IntN.{ℤ}
use Rattle.book.specs.Rows.{Row}
use Rattle.book.specs.Calls.{Call}
use Rattle.book.specs.Power.{Book}
use Rattle.book.specs.Book.{call}
use Rattle.book.specs.Events.{Event, book_after}
use Rattle.book.specs.Logs.{Sound}
use Rattle.book.proofs.Sound.{TypedEvents, sound-call, sound-events}
use Rattle.book.proofs.Claims.{row-lasts}
use Rattle.book.proofs.Begins.{next_visit, begin-done, begin-starts, numbers-rise}
use Rattle.sessions.specs.Demand3.{Begun, Rises}

module _ (cells : ℕ → ℤ) (b : Book) (lengths : Bool) (s : Sound b) (e : (call cells b lengths Call.begin).answer.number ≡ 0) (es : List Event) (t : TypedEvents es) where
  -- the book after it and after what happens later
  abbrev later : Book
  later = book_after cells (call cells b lengths Call.begin).book es

  pub begin-stays : Begun b (call cells b lengths Call.begin).answer later.stored
  begin-stays =
      let r = row-lasts b (Row.begin (next_visit b)) later.stored (begin-starts cells b lengths s e es t) in
      record { visit = next_visit b; value = (begin-done cells b lengths s e).value; row = record { from = omega arith; to = r.long; is = r.row } }

  pub begin-rises : (lengths' : Bool) → (call cells later lengths' Call.begin).answer.number ≡ 0
      → Rises (call cells b lengths Call.begin).answer (call cells later lengths' Call.begin).answer
  begin-rises lengths' e' =
      let s' = sound-events cells (call cells b lengths Call.begin).book es (sound-call cells b lengths Call.begin s tt) t in
      record {
        visit = next_visit b;
        next = next_visit later;
        value = (begin-done cells b lengths s e).value;
        next-value = (begin-done cells later lengths' s' e').value;
        higher = numbers-rise cells b lengths s e es t;
      }
