-- The arrays that a function for C is lent, and the world that they are. Total: any numbers are some world.
use Rattle.std.specs.Prelude.{ℕ, ◌%◌, Bool, true, false, not, ◌≡◌, List, map, length, get_or, replicate, eqb}
use Rattle.book.specs.Limits.{charts_length}
use Rattle.tables_model.specs.Layout.{visits_length, actives, flat_length, entries}
use Rattle.tables_model.specs.Meaning.{scope_of}
use Rattle.state.specs.declared.ram.Phase.{Phase}
use Rattle.state.specs.declared.ram.Phase.TheVariants.{Open, Closed}
use Rattle.state.specs.declared.ram.Fuse.{Fuse}
use Rattle.state.specs.declared.ram.Fuse.TheVariants.{Unlimited, Left}
use Rattle.state.specs.declared.ram.State.{State}
use Rattle.state.specs.World.{World, world, tail_length}

-- five arrays of RAM, the stored log and the stored charts
pub record Arrays : Type 0 where
  pub head : List ℕ
  pub visits : List ℕ
  pub scopes : List ℕ
  pub tail : List ℕ
  pub copy : List ℕ
  pub log : List ℕ
  pub charts : List ℕ

abbrev pub arrays : List ℕ → List ℕ → List ℕ → List ℕ → List ℕ → List ℕ → List ℕ → Arrays
arrays head visits scopes tail copy log charts =
    record { head = head; visits = visits; scopes = scopes; tail = tail; copy = copy; log = log; charts = charts }

-- ── The head ──────────────────────────────────────────────────────────────────────────────────────────────────────────

-- the phase, the kind of the fuse, the stored writes that still land, the rows stored and the rows waiting; then the begin rows so far, the active visits
-- and the scope entries in use
abbrev pub head_length : ℕ
head_length = 8

-- whatever is not 0 is true
abbrev pub is_set : ℕ → Bool
is_set x = not (eqb x 0)

-- 0 is closed
abbrev pub phase_by : Bool → Phase
phase_by true = Open
phase_by false = Closed

-- 0 is none
abbrev pub fuse_by : Bool → ℕ → Fuse
fuse_by true n = Left n
fuse_by false n = Unlimited

-- ── The world ─────────────────────────────────────────────────────────────────────────────────────────────────────────

-- the state: what the head says, the visits and the tail; the begin rows are a number of 16 bits
abbrev pub state_in : List ℕ → List ℕ → List ℕ → State
state_in head visits tail = record {
  phase = phase_by (is_set (get_or head 0 0));
  fuse = fuse_by (is_set (get_or head 1 0)) (get_or head 2 0);
  stored = get_or head 3 0;
  waiting = get_or head 4 0;
  tables = record { begun = get_or head 5 0 % 65536; active = actives visits; count = get_or head 6 0; used = get_or head 7 0 };
  tail = tail;
}

-- the world that the arrays are
unfoldable pub world_in : Arrays → World
world_in x = world (state_in x.head x.visits x.tail) x.log x.charts x.copy (map scope_of (entries x.scopes))

-- the lengths of the arrays of RAM, which their types fix; log and charts are lent with a length of their own
pub record RamLengths (x : Arrays) : Type 0 where
  pub head : length x.head ≡ head_length
  pub visits : length x.visits ≡ visits_length
  pub scopes : length x.scopes ≡ flat_length
  pub tail : length x.tail ≡ tail_length
  pub copy : length x.copy ≡ charts_length

-- every number of RAM is 0: what a format, a power failure and a rejected store leave of it
pub record Zero (x : Arrays) : Type 0 where
  pub head : x.head ≡ replicate head_length 0
  pub visits : x.visits ≡ replicate visits_length 0
  pub scopes : x.scopes ≡ replicate flat_length 0
  pub tail : x.tail ≡ replicate tail_length 0
  pub copy : x.copy ≡ replicate charts_length 0
