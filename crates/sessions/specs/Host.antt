-- Lists of sessions (document 01, "Sessions and the book"): what happens in them, what the host may do, and what the functions' contracts say of it.
use Rattle.std.specs.Prelude.{ℕ, Bool, true, cond, ◌&&◌, ◌≡◌, ◌≢◌, ◌⊎◌, List, [], ◌∷◌, ◌++◌, map, length, eqb}
use Rattle.book.specs.Lists.{foldl}
use Rattle.book.specs.Limits.{log_length, charts_length, scope_limit}
use Rattle.book.specs.Calls.{Call, Typed}
use Rattle.book.specs.Power.{Fuse}
use Rattle.book.specs.Book.{Answer}
use Rattle.book.specs.Events.{Event, opens, calls}
use Rattle.book.specs.Writes.{Writes}
use Rattle.state.specs.World.{World, right_lengths}
use Rattle.state.specs.CallContracts.{Answered, OpenPost, CallPost}

-- ── What happens ──────────────────────────────────────────────────────────────────────────────────────────────────────

-- an opening or a call: what it is given, and what it answers and leaves of it
pub record Opening : Type 0 where
  pub fuse : Fuse
  pub as_left : Bool  -- it gets the state, copy and scopes that the call before it returned or left
  pub given : World
  pub result : Answered

pub record Called : Type 0 where
  pub call : Call
  pub given : World
  pub result : Answered

-- 01: a session, an opening, then any list of calls
pub record Session : Type 0 where
  pub opening : Opening
  pub calls : List Called

-- an opening, or a call after it
pub data Step : Type 0 where
  opened : Opening → Step
  called : Called → Step

-- the openings and calls of a list of sessions, in order
abbrev pub steps : List Session → List Step
steps [] = []
steps (s ∷ ss) = opened s.opening ∷ map called s.calls ++ steps ss

-- what the step was given, answered, stored and left
abbrev pub given_to : Step → World
given_to (opened o) = o.given
given_to (called c) = c.given

abbrev pub answer_of : Step → Answer
answer_of (opened o) = o.result.answer
answer_of (called c) = c.result.answer

abbrev pub writes_of : Step → Writes
writes_of (opened o) = o.result.writes
writes_of (called c) = c.result.writes

abbrev pub left_by : Step → World
left_by (opened o) = o.result.world
left_by (called c) = c.result.world

-- the step as the book sees it: its fuse or its call, and whether the buffers had 01's lengths
abbrev pub event_of : Step → Event
event_of (opened o) = opens (right_lengths o.given) o.fuse
event_of (called c) = calls (right_lengths c.given) c.call

-- ── What the store's own values are ───────────────────────────────────────────────────────────────────────────────────

-- the store's own buffer after a step: as the step left it, unless another one was lent
abbrev pub back : {A : Type 0} → ℕ → List A → List A → List A → List A
back n own given leaves = cond (eqb (length given) n) leaves own

-- the store's own values after a step
abbrev pub world_after : World → Step → World
world_after own s = record {
  state = (left_by s).state;
  log = back log_length own.log (given_to s).log (left_by s).log;
  charts = back charts_length own.charts (given_to s).charts (left_by s).charts;
  copy = back charts_length own.copy (given_to s).copy (left_by s).copy;
  scopes = back scope_limit own.scopes (given_to s).scopes (left_by s).scopes;
}

-- and after several
abbrev pub world_after_all : World → List Step → World
world_after_all own ss = foldl world_after own ss

-- ── What the host may do ──────────────────────────────────────────────────────────────────────────────────────────────

-- 01: any call may, for itself alone, be lent a buffer of a wrong length
abbrev pub Lent : {A : Type 0} → ℕ → List A → List A → Type 0
Lent n own given = (given ≡ own) ⊎ (length given ≢ n)

-- 01: each opening gets the stored log and charts as last left
pub record GetsStored (own given : World) : Type 0 where
  pub log : Lent log_length own.log given.log
  pub charts : Lent charts_length own.charts given.charts

-- 01: each later call gets what the call before it returned or left
pub record GetsRam (own given : World) : Type 0 where
  pub state : given.state ≡ own.state
  pub copy : Lent charts_length own.copy given.copy
  pub scopes : Lent scope_limit own.scopes given.scopes

-- 01: after an opening refused by 1, calls follow only if that opening too got what the call before it returned or left. That is asked of every opening
-- back to the last one that was not refused by 1: read of one opening alone the demand is false. (An opening with an open, empty state of the host's
-- making and a short buffer is refused by 1 and leaves that state; a second one gets it as left, with a short buffer, and is refused by 1; a begin would
-- then be accepted where the book says 5.)
abbrev pub calls_follow : Bool → Step → Bool
calls_follow follow (opened o) = cond (eqb o.result.answer.number 1) (follow && o.as_left) true
calls_follow follow (called c) = follow

-- what the host may hand to a step
abbrev pub HostDoes : World → Bool → Step → Type 0
HostDoes own follow (opened o) = GetsStored own o.given × (o.as_left ≡ true → GetsRam own o.given)
HostDoes own follow (called c) = (follow ≡ true) × Typed c.call × GetsStored own c.given × GetsRam own c.given

-- the host keeps to this from the first step to the last
abbrev pub Host : World → Bool → List Step → Type 0
Host own follow [] = Unit {0}
Host own follow (s ∷ ss) = HostDoes own follow s × Host (world_after own s) (calls_follow follow s) ss

-- ── What the contracts say ────────────────────────────────────────────────────────────────────────────────────────────

-- the contract of the function that made the step
abbrev pub Contract : Step → Type 0
Contract (opened o) = OpenPost o.fuse o.given o.result
Contract (called c) = CallPost c.call c.given c.result

-- of every step
abbrev pub Contracts : List Step → Type 0
Contracts [] = Unit {0}
Contracts (s ∷ ss) = Contract s × Contracts ss
