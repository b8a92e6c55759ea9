-- The functions for C as they were called: each with its arguments, the arrays it was lent, the number it gave back, the arrays it left, and a proof of the
-- function's `ensures`. What the host may do with them (document 01, "Sessions and the book").
use Rattle.std.specs.Prelude.{ℕ, Bool, true, ◌≡◌, List, [], ◌∷◌, ◌++◌, map, ℤ}
use Rattle.book.specs.Limits.{log_length, charts_length}
use Rattle.book.specs.Calls.{Call, Typed}
use Rattle.state.specs.World.{fuse_of_number}
use Rattle.sessions.specs.Host.{Opening, Called, Session, Step, opened, called, back, Lent, calls_follow}
use Rattle.embed_model.specs.Arrays.{Arrays, arrays, world_in, RamLengths}
use Rattle.embed_model.specs.Called.{answered_in, FormatsOfC, OpensOfC, CallsOfC}

-- ── The calls ─────────────────────────────────────────────────────────────────────────────────────────────────────────

-- of `chart_format_on`
pub record FormatMade : Type 0 where
  pub cells : List ℤ
  pub given : Arrays
  pub long : RamLengths given
  pub number : ℕ
  pub leaves : Arrays
  pub ensures : FormatsOfC cells given number leaves

-- of `chart_open_on`
pub record OpeningMade : Type 0 where
  pub fuse : ℕ
  pub as_left : Bool  -- it gets the RAM that the call before it left
  pub given : Arrays
  pub long : RamLengths given
  pub number : ℕ
  pub leaves : Arrays
  pub ensures : OpensOfC fuse given number leaves

-- of one of the others
pub record CallMade : Type 0 where
  pub call : Call
  pub given : Arrays
  pub long : RamLengths given
  pub number : ℕ
  pub leaves : Arrays
  pub ensures : CallsOfC call given number leaves

-- 01: a session, an opening, then any list of calls
pub record SessionMade : Type 0 where
  pub opening : OpeningMade
  pub calls : List CallMade

pub data StepMade : Type 0 where
  opens : OpeningMade → StepMade
  calls : CallMade → StepMade

-- the openings and calls of a list of sessions, in order
abbrev pub steps_made : List SessionMade → List StepMade
steps_made [] = []
steps_made (s ∷ ss) = opens s.opening ∷ map calls s.calls ++ steps_made ss

-- ── What they are in worlds ───────────────────────────────────────────────────────────────────────────────────────────

abbrev pub opening_of : OpeningMade → Opening
opening_of o = record { fuse = fuse_of_number o.fuse; as_left = o.as_left; given = world_in o.given; result = answered_in o.number o.leaves }

abbrev pub called_of : CallMade → Called
called_of c = record { call = c.call; given = world_in c.given; result = answered_in c.number c.leaves }

abbrev pub session_of_c : SessionMade → Session
session_of_c s = record { opening = opening_of s.opening; calls = map called_of s.calls }

abbrev pub step_of : StepMade → Step
step_of (opens o) = opened (opening_of o)
step_of (calls c) = called (called_of c)

-- ── What the host may do ──────────────────────────────────────────────────────────────────────────────────────────────

-- the host's own arrays after a call: RAM as the call left it; log and charts too, unless others were lent
abbrev pub after_call : Arrays → Arrays → Arrays → Arrays
after_call own given leaves =
    arrays leaves.head leaves.visits leaves.scopes leaves.tail leaves.copy (back log_length own.log given.log leaves.log)
    (back charts_length own.charts given.charts leaves.charts)

abbrev pub after_step : Arrays → StepMade → Arrays
after_step own (opens o) = after_call own o.given o.leaves
after_step own (calls c) = after_call own c.given c.leaves

-- 01: each opening gets the stored log and charts as last left; any call may, for itself alone, be lent one of a wrong length
pub record LendsStored (own given : Arrays) : Type 0 where
  pub log : Lent log_length own.log given.log
  pub charts : Lent charts_length own.charts given.charts

-- 01: each later call gets what the call before it left
pub record LendsRam (own given : Arrays) : Type 0 where
  pub head : given.head ≡ own.head
  pub visits : given.visits ≡ own.visits
  pub scopes : given.scopes ≡ own.scopes
  pub tail : given.tail ≡ own.tail
  pub copy : given.copy ≡ own.copy

-- 01: an opening may get any RAM and any fuse; calls follow it as `calls_follow` says. A change is a signed 16-bit number, as its type has it.
abbrev pub HostLends : Arrays → Bool → StepMade → Type 0
HostLends own follow (opens o) = LendsStored own o.given × (o.as_left ≡ true → LendsRam own o.given)
HostLends own follow (calls c) = (follow ≡ true) × Typed c.call × LendsStored own c.given × LendsRam own c.given

-- the host keeps to this from the first call to the last
abbrev pub HostOfC : Arrays → Bool → List StepMade → Type 0
HostOfC own follow [] = Unit {0}
HostOfC own follow (s ∷ ss) = HostLends own follow s × HostOfC (after_step own s) (calls_follow follow (step_of s)) ss
