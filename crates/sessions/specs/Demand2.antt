-- Demand 2 (document 00): "The rows are those that the ARIES/RH report's hand-over, commit and abort define: each call writes exactly its rows, and an
-- opening reads every log that the row rules allow as those events and refuses every other."
use Rattle.std.specs.Prelude.{ℕ, suc, ◌<◌, true, ◌≡◌, ◌↔◌, List, ◌++◌, length, ℤ, pos}
use Rattle.book.specs.Lists.{StartsWith, pad_to, member}
use Rattle.book.specs.Limits.{page_limit}
use Rattle.book.specs.Rows.{Row}
use Rattle.book.specs.Ledger.{ledger}
use Rattle.book.specs.Calls.{Call, Typed}
use Rattle.book.specs.Power.{Book, Fuse, rows_of}
use Rattle.book.specs.Book.{answer, closing, adds, call, reopen}
use Rattle.book.specs.Numbers.{AreBytes}
use Rattle.book.specs.LogBytes.{rows_bytes, log_bytes}
use Rattle.book.specs.Opening.{bad_page}
use Rattle.book.specs.Reading.{FirstBad, log_numbers, BadFor}
use Rattle.state.specs.World.{World, right_lengths, LogIs, tail_length, cleared, Represents}
use Rattle.state.specs.CallContracts.{Answered, answered, OpenPost, CallPost}

-- ── Each call writes exactly its rows ─────────────────────────────────────────────────────────────────────────────────

-- the stored log and the tail are those of the book, and its rows are these; the waiting ones are numbered after the stored ones
pub record HasRows (w : World) (b : Book) (rows : List Row) : Type 0 where
  pub all : rows_of b ≡ rows
  pub log : w.log ≡ log_bytes b.stored
  pub tail : w.state.tail ≡ pad_to tail_length 0 (rows_bytes (suc (length b.stored)) b.waiting)

-- the rows `old` are stored, and after them a first part of `next`, in order
pub record Landed (w : World) (old next : List Row) : Type 0 where
  pub landed : List Row
  pub part : StartsWith landed next
  pub log : w.log ≡ log_bytes (old ++ landed)

-- a call of a store that stands for the book `b`. (What a refusal by another number than 5 leaves is demand 1's.)
pub record WritesRows (cells : ℕ → ℤ) (b : Book) (k : Call) (x : Answered) : Type 0 where
  -- its answer is the book's, so a store that always says 5 or 8 is shut out
  pub answer : x.answer ≡ (call cells b true k).answer
  -- done: the rows of log and tail, and then its rows; the book says which are stored
  pub done : x.answer.number ≡ 0 → HasRows x.world (call cells b true k).book (rows_of b ++ adds b k)
  -- the power failed: of the rows that waited and its rows the first ones landed
  pub failed : x.answer.number ≡ 5 → Landed x.world b.stored (b.waiting ++ adds b k)

-- ── An opening reads, and refuses ─────────────────────────────────────────────────────────────────────────────────────

-- an opening with this fuse
pub record Reads (f : Fuse) (given : World) (x : Answered) : Type 0 where
  -- refused by 3, 16 or 17 exactly when the bytes are those of no allowed log
  pub refuses : (member x.answer.number log_numbers ≡ true) ↔ ((rs : List Row) → LogIs given rs → ⊥)
  -- with the first bad row, and log and charts unchanged
  pub place : member x.answer.number log_numbers ≡ true →
      (n : ℕ) × FirstBad given.log n × (x ≡ answered x.answer.number (pos n) (cleared given.log given.charts))
  -- 02, L8: by this number with this row exactly when the row is the first bad one and the number that of the reason
  pub reason : AreBytes given.log → (k n : ℕ) →
      ((x.answer ≡ answer k (pos n)) × (member k log_numbers ≡ true)) ↔ BadFor given.log k n
  -- an allowed log beside a bad page is refused by 4 with the first such page, and log and charts unchanged
  pub pages : (rs : List Row) → LogIs given rs → bad_page rs given.charts < page_limit →
      x ≡ answered 4 (pos (bad_page rs given.charts)) (cleared given.log given.charts)
  -- an allowed log beside good pages is read as its rows: answer and log are those of the book's opening of these rows
  pub reads : (rs : List Row) → LogIs given rs → bad_page rs given.charts ≡ page_limit →
      (x.answer ≡ (reopen f rs).answer) × (x.world.log ≡ log_bytes (reopen f rs).book.stored)
  -- ready: the log has the undo and abort rows that Open names, and no others, after its rows
  pub done : (rs : List Row) → LogIs given rs → x.answer.number ≡ 0 → x.world.log ≡ log_bytes (rs ++ closing (ledger rs))
  -- the power failed: of these the first ones landed
  pub failed : (rs : List Row) → LogIs given rs → x.answer.number ≡ 5 → Landed x.world rs (closing (ledger rs))

-- both halves, whatever functions meet the contracts
pub record Demand2 : Type 0 where
  pub writes : (cells : ℕ → ℤ) (b : Book) (k : Call) (given : World) (x : Answered) → Represents cells b given → Typed k → CallPost k given x →
      WritesRows cells b k x
  pub reads : (f : Fuse) (given : World) (x : Answered) → OpenPost f given x → right_lengths given ≡ true → Reads f given x
