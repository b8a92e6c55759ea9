-- Demand 3 of the functions for C leaves no list of events out: each one that a host in C can make is that of some sessions. The contracts can be met from
-- the first call to the last, by arrays of the functions' types.
use Rattle.std.specs.Prelude.{ℕ, ◌<◌, Bool, true, ◌≡◌, List, [], ◌∷◌, map, length, ℤ, T}
use Rattle.book.specs.Limits.{cell_limit}
use Rattle.book.specs.Rows.{is_amount}
use Rattle.book.specs.Calls.{Call}
use Rattle.book.specs.Power.{Fuse, none, left}
use Rattle.book.specs.Events.{Event}
use Rattle.state.specs.World.{right_lengths, no_fuse}
use Rattle.state.specs.CallContracts.{bad_cell}
use Rattle.sessions.specs.Host.{steps, event_of}
use Rattle.embed_model.specs.Arrays.{Arrays, world_in, RamLengths}
use Rattle.embed_model.specs.Packed.{answer_in}
use Rattle.embed_model.specs.Host.{FormatMade, SessionMade, StepMade, opens, calls, steps_made, session_of_c, HostOfC}

-- ── The types of the functions ────────────────────────────────────────────────────────────────────────────────────────

-- each number is below n
unfoldable pub Below : ℕ → List ℕ → Type 0
Below n [] = Unit {0}
Below n (x ∷ xs) = (x < n) × Below n xs

-- arrays of 32 bits, of 16, and of bytes
pub record ArraysOfC (x : Arrays) : Type 0 where
  pub head : Below 4294967296 x.head
  pub visits : Below 65536 x.visits
  pub scopes : Below 65536 x.scopes
  pub tail : Below 256 x.tail
  pub copy : Below 256 x.copy
  pub log : Below 256 x.log
  pub charts : Below 256 x.charts

-- a fuse has 32 bits, and the greatest number is none: C cannot name a fuse of that many writes or more
abbrev pub FuseOfC : Fuse → Type 0
FuseOfC none = Unit {0}
FuseOfC (left n) = n < no_fuse

-- a visit has 16 bits, a cell and a page have 8, and an amount is a signed number of 16
abbrev pub CallOfC : Call → Type 0
CallOfC Call.begin = Unit {0}
CallOfC (Call.change v c a) = (v < 65536) × (c < 256) × T (is_amount a)
CallOfC (Call.hand_over g r c) = (g < 65536) × (r < 65536) × (c < 256)
CallOfC (Call.commit v) = v < 65536
CallOfC (Call.abort v) = v < 65536
CallOfC Call.force = Unit {0}
CallOfC (Call.flush p) = p < 256
CallOfC (Call.read c) = c < 256
CallOfC (Call.hand_over_all g r) = (g < 65536) × (r < 65536)

-- what a function was lent, the number of 64 bits that it gave back, and what it left
pub record MadeOfC (x : Arrays) (r : ℕ) (y : Arrays) : Type 0 where
  pub given : ArraysOfC x
  pub number : r < 18446744073709551616
  pub leaves : ArraysOfC y

abbrev pub StepOfC : StepMade → Type 0
StepOfC (opens o) = (o.fuse < 4294967296) × MadeOfC o.given o.number o.leaves
StepOfC (calls c) = CallOfC c.call × MadeOfC c.given c.number c.leaves

abbrev pub StepsOfC : List StepMade → Type 0
StepsOfC [] = Unit {0}
StepsOfC (s ∷ ss) = StepOfC s × StepsOfC ss

-- ── Every list ────────────────────────────────────────────────────────────────────────────────────────────────────────

-- the events that a host in C can make
abbrev pub EventOfC : Event → Type 0
EventOfC (Event.opens lengths f) = FuseOfC f
EventOfC (Event.calls lengths k) = CallOfC k

abbrev pub EventsOfC : List Event → Type 0
EventsOfC [] = Unit {0}
EventsOfC (e ∷ es) = EventOfC e × EventsOfC es

-- sessions of a host that keeps to 01, from these arrays on, with these events
pub record SessionsOfC (own : Arrays) (es : List Event) : Type 0 where
  pub sessions : List SessionMade
  pub events : map event_of (steps (map session_of_c sessions)) ≡ es
  pub host : HostOfC own true (steps_made sessions)
  pub typed : StepsOfC (steps_made sessions)

-- 01: 224 values within ±1,000,000 are formatted, whatever RAM is lent
unfoldable pub AnyFormatOfC : Type 0
AnyFormatOfC =
    (values : List ℤ) → length values ≡ cell_limit → bad_cell values ≡ cell_limit →
    (given : Arrays) → RamLengths given → right_lengths (world_in given) ≡ true →
    (format : FormatMade) × (format.cells ≡ values) × (format.given ≡ given) × ((answer_in format.number).number ≡ 0)

-- after a format that was done, every list of events that starts with an opening
unfoldable pub EveryListOfC : Type 0
EveryListOfC =
    (format : FormatMade) → (answer_in format.number).number ≡ 0 →
    (lengths : Bool) (f : Fuse) (es : List Event) → EventsOfC (Event.opens lengths f ∷ es) → SessionsOfC format.leaves (Event.opens lengths f ∷ es)
