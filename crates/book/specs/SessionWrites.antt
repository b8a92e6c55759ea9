-- The stored writes of openings and calls in a row, and what they add up to over a session (document 02, L1).
use Rattle.std.specs.Prelude.{ℕ, suc, ◌+◌, Bool, true, false, cond, ◌&&◌, ◌≡◌, List, [], ◌∷◌, length, ℤ, eqb}
use Rattle.book.specs.Rows.{Row}
use Rattle.book.specs.Calls.{Call}
use Rattle.book.specs.Power.{Book, Fuse, none, left}
use Rattle.book.specs.Book.{call, opening}
use Rattle.book.specs.Events.{Event, opens, calls, happens}
use Rattle.book.specs.Writes.{Writes, no_writes, call_writes, opening_writes}

-- of an event
abbrev pub event_writes : (ℕ → ℤ) → Book → Event → Writes
event_writes cells b (opens lengths f) = opening_writes b.stored (opening b lengths f)
event_writes cells b (calls lengths k) = call_writes b k (call cells b lengths k)

-- of each of a list of events
abbrev pub writes : (ℕ → ℤ) → Book → List Event → List Writes
writes cells b [] = []
writes cells b (e ∷ es) = event_writes cells b e ∷ writes cells (happens cells b e).book es

-- ── Sums, and the fuse ────────────────────────────────────────────────────────────────────────────────────────────────

abbrev pub plus : Writes → Writes → Writes
plus v w = record { rows = v.rows + w.rows; pages = v.pages + w.pages }

-- the sum of the counts
abbrev pub summed : List Writes → Writes
summed [] = no_writes
summed (w ∷ ws) = plus w (summed ws)

-- 01: a fuse counts rows and pages together
abbrev pub together : Writes → ℕ
together w = w.rows + w.pages

-- a fuse with n writes more
abbrev pub more_by : ℕ → Fuse → Fuse
more_by n none = none
more_by n (left m) = left (n + m)

-- the fuse `f` against what landed under it up to the book: where the book is open, what is left of it; where it burnt, as many writes as it had
pub record Counted (f : Fuse) (w : Writes) (b : Book) : Type 0 where
  pub held : b.is_open ≡ true → f ≡ more_by (together w) b.fuse
  pub burnt : b.is_open ≡ false → f ≡ left (together w)

-- ── Sessions ──────────────────────────────────────────────────────────────────────────────────────────────────────────

-- an opening that is not refused by 1 starts a session and sets its fuse; after one that is refused by 1 the old fuse runs on
abbrev pub starts : Event → Bool
starts (opens lengths f) = lengths
starts (calls lengths k) = false

-- the events after such an opening, up to the next one
abbrev pub NoStart : List Event → Type 0
NoStart [] = Unit {0}
NoStart (e ∷ es) = (starts e ≡ false) × NoStart es

-- 01: flush page
abbrev pub is_flush : Call → Bool
is_flush Call.begin = false
is_flush (Call.change v c a) = false
is_flush (Call.hand_over g r c) = false
is_flush (Call.commit v) = false
is_flush (Call.abort v) = false
is_flush Call.force = false
is_flush (Call.flush p) = true
is_flush (Call.read c) = false
is_flush (Call.hand_over_all g r) = false

-- a flush that is done
abbrev pub flush_done : Event → ℕ → Bool
flush_done (opens lengths f) n = false
flush_done (calls lengths k) n = is_flush k && eqb n 0

-- how many of the events are
abbrev pub flushes_done : (ℕ → ℤ) → Book → List Event → ℕ
flushes_done cells b [] = 0
flushes_done cells b (e ∷ es) = let o = happens cells b e in let rest = flushes_done cells o.book es in cond (flush_done e o.answer.number) (suc rest) rest

-- 02, L1: "Over a session the counts add up to the writes that landed, whether or not the fuse burnt." `old` is the log before the session, `b` the book
-- after its events so far, `done` how many of its flushes were done.
pub record SessionCounts (f : Fuse) (old : List Row) (w : Writes) (done : ℕ) (b : Book) : Type 0 where
  pub rows : length b.stored ≡ length old + w.rows
  pub pages : w.pages ≡ done
  pub fuse : Counted f w b

-- And over any stretch of it, from the book `b` on up to the book `c`, under what is left of the fuse where the book is open. That is so whatever came before, and
-- also if an opening refused by 1 is in it. Nothing lands where the book is closed, as after a format and after a power failure.
pub record StretchCounts (b : Book) (w : Writes) (done : ℕ) (c : Book) : Type 0 where
  pub running : b.is_open ≡ true → SessionCounts b.fuse b.stored w done c
  pub idle : b.is_open ≡ false → (w ≡ no_writes) × (done ≡ 0) × (c ≡ b)
