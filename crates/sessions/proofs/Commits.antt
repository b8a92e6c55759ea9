-- A commit answered done, as demand 3 speaks of it: its row is in the log after it and after whatever happens later, and so is in the sum each change that
-- its visit held.
use Prim.Native.Nat.{ℕ, suc}
use native.Mathlib.Omega.{arith}
use mathlib.Core.Path.{◌≡◌, subst}
use mathlib.Core.Bool.{Bool, true}
use mathlib.Core.List.{List, [], ◌∷◌, ◌++◌}
use lib.ListN.{length}
use lib.IntN.{ℤ}
use Rattle.book.specs.Lists.{StartsWith}
use Rattle.book.specs.Rows.{Row}
use Rattle.book.specs.Rules.{allowed_log}
use Rattle.book.specs.Calls.{Call}
use Rattle.book.specs.Power.{Book, rows_of}
use Rattle.book.specs.Book.{call}
use Rattle.book.specs.Events.{Event, book_after}
use Rattle.book.specs.Logs.{Sound}
use Rattle.book.proofs.Sound.{stored-allowed, sound-call, sound-events, TypedEvents}
use Rattle.book.proofs.Claims.{grows-events, CommitDone, commit-done, CommitLasts, commit-lasts}
use Rattle.sessions.specs.Demand3.{Lasts}

module _ (cells : ℕ → ℤ) (b : Book) (lengths : Bool) (v : ℕ) (s : Sound b) (e : (call cells b lengths (Call.commit v)).answer.number ≡ 0) where
  -- the book after it
  abbrev after : Book
  after = (call cells b lengths (Call.commit v)).book

  done : CommitDone b v (call cells b lengths (Call.commit v))
  done = commit-done cells b lengths v s e

  pub commit-stays : (es : List Event) → TypedEvents es → Lasts b v (call cells b lengths (Call.commit v)).answer (book_after cells after es).stored
  commit-stays es t = record {
    number = suc (length (rows_of b));
    value = done.value;
    row = record { from = omega arith; to = in-log.long; is = in-log.row };
    sum = in-log.sum;
  }
    where
      sound : Sound after
      sound = sound-call cells b lengths (Call.commit v) s tt

      starts : StartsWith (rows_of b ++ (Row.commit v ∷ [])) (book_after cells after es).stored
      starts = subst (λ (l : List Row). StartsWith l (book_after cells after es).stored) done.stored (grows-events cells after es sound t)

      allowed : allowed_log (book_after cells after es).stored ≡ true
      allowed = stored-allowed (book_after cells after es) (sound-events cells after es sound t)

      in-log : CommitLasts b v (book_after cells after es).stored
      in-log = commit-lasts b v (book_after cells after es).stored starts allowed
