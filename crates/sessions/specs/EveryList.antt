-- Demand 3 of the functions `format`, `open` and `call` of crate `store` leaves out no list of events that starts with an opening and whose amounts have 16 bits:
-- each is that of some sessions made with them. The contracts can be met from the first call to the last.
use Rattle.std.specs.Prelude.{Bool, true, ◌≡◌, List, [], ◌∷◌, map, length, ℤ}
use Rattle.book.specs.Limits.{cell_limit}
use Rattle.book.specs.Calls.{Typed}
use Rattle.book.specs.Power.{Fuse}
use Rattle.book.specs.Events.{Event, opens, calls}
use Rattle.state.specs.World.{World, right_lengths}
use Rattle.state.specs.CallContracts.{answered_by, bad_cell}
use Rattle.sessions.specs.Host.{steps, event_of, Host}
use Rattle.sessions.specs.Made.{FormatCall, Made, session_of}

-- the calls' amounts are signed 16-bit numbers; the other numbers are any at all, those of the requests' types among them
abbrev pub EventOfCalls : Event → Type 0
EventOfCalls (opens lengths f) = Unit {0}
EventOfCalls (calls lengths k) = Typed k

abbrev pub EventsOfCalls : List Event → Type 0
EventsOfCalls [] = Unit {0}
EventsOfCalls (e ∷ es) = EventOfCalls e × EventsOfCalls es

-- sessions of a host that keeps to 01, from this store on, with these events
pub record SessionsOfCalls (own : World) (es : List Event) : Type 0 where
  pub sessions : List Made
  pub events : map event_of (steps (map session_of sessions)) ≡ es
  pub host : Host own true (steps (map session_of sessions))

-- 01: 224 values within ±1,000,000 are formatted, whatever buffers of 01's lengths are lent
unfoldable pub AnyFormat : Type 0
AnyFormat =
    (values : List ℤ) → length values ≡ cell_limit → bad_cell values ≡ cell_limit → (given : World) → right_lengths given ≡ true →
    (format : FormatCall) × (format.cells ≡ values) × (format.given ≡ given) × ((answered_by format.return).answer.number ≡ 0)

-- after a format that was done, every list of events that starts with an opening
unfoldable pub EveryListOfCalls : Type 0
EveryListOfCalls =
    (format : FormatCall) → (answered_by format.return).answer.number ≡ 0 →
    (lengths : Bool) (f : Fuse) (es : List Event) → EventsOfCalls es → SessionsOfCalls (answered_by format.return).world (opens lengths f ∷ es)
