-- What the arrays are as a world: each number of the head by its place, the head read as it was written, the lengths, arrays of zeros, and what a call
-- comes to.
use Prim.Native.Nat.{ℕ, ◌%◌, ◌<◌}
use native.Mathlib.Omega.{arith}
use mathlib.Core.Bool.{Bool, true, false, ◌&&◌}
use mathlib.Core.Path.{◌≡◌, refl, ◌∙◌}
use mathlib.Core.List.{List, [], ◌∷◌, map}
use lib.ListN.{length, replicate}
use lib.Dec.{eqb}
use borrow.Author.Tests.{eq-eqb}
use Rattle.book.specs.Limits.{log_length, charts_length, scope_limit}
use Rattle.tables_model.specs.Layout.{entries, actives}
use Rattle.tables_model.specs.Meaning.{scope_of}
use Rattle.tables_model.specs.Visits.{tables_in}
use Rattle.tables_model.specs.declared.Counts.{Counts}
use Rattle.state.specs.declared.ram.Phase.TheVariants.{Open, Closed}
use Rattle.state.specs.declared.ram.Fuse.TheVariants.{Unlimited, Left}
use Rattle.state.specs.World.{world, right_lengths, cleared}
use Rattle.state.specs.declared.ram.Fuse.{Fuse}
use Rattle.state.specs.declared.ram.Phase.{Phase}
use Rattle.state.specs.Answers.{number_and_value, rows_and_pages}
use Rattle.journal.specs.declared.Control.{Control}
use Rattle.journal.specs.declared.Outcome.{Outcome}
use Rattle.journal.specs.Outcomes.{state_after, outcome, Zeroed}
use Rattle.embed_model.specs.Arrays.{Arrays, arrays, head_length, is_set, phase_by, fuse_by, world_in, RamLengths, Zero}
use Rattle.embed_model.specs.Head.{control_by, counts_by, phase_number, kind_number, left_number, head_of}
use Rattle.embed_model.specs.Packed.{answer_in, writes_in}
use Rattle.embed_model.specs.Called.{answered_in}

-- the numbers of the head, each at its place
pub head_read : (phase kind left stored waiting begun count used : ℕ) (visits scopes tail copy log charts : List ℕ)
    → (world_in (arrays (phase ∷ kind ∷ left ∷ stored ∷ waiting ∷ begun ∷ count ∷ used ∷ []) visits scopes tail copy log charts)).state ≡ record {
      phase = phase_by (is_set phase);
      fuse = fuse_by (is_set kind) left;
      stored = stored;
      waiting = waiting;
      tables = record { begun = begun % 65536; active = actives visits; count = count; used = used };
      tail = tail;
    }
unfolding world_in
head_read phase kind left stored waiting begun count used visits scopes tail copy log charts = refl

-- an open store without a fuse, as the numbers of the head
pub open-head : (x : Arrays) (stored waiting begun count used : ℕ) → x.head ≡ 1 ∷ 0 ∷ 0 ∷ stored ∷ waiting ∷ begun ∷ count ∷ used ∷ []
    → ((world_in x).state.phase ≡ Open) × ((world_in x).state.fuse ≡ Unlimited)
unfolding world_in
open-head x stored waiting begun count used e = (rw e, rw e)

-- a head that was written is read again
phase-back : (p : Phase) → phase_by (is_set (phase_number p)) ≡ p
phase-back Open = refl
phase-back Closed = refl

fuse-back : (f : Fuse) → fuse_by (is_set (kind_number f)) (left_number f) ≡ f
fuse-back (Left n) = refl
fuse-back Unlimited = refl

pub control-back : (c : Control) (t : Counts) → control_by (head_of c t) ≡ c
control-back c t = λ i. record { phase = phase-back c.phase i; fuse = fuse-back c.fuse i; stored = c.stored; waiting = c.waiting }

pub counts-back : (c : Control) (t : Counts) → t.begun < 65536 → counts_by (head_of c t) ≡ t
counts-back c t h = let e : t.begun % 65536 ≡ t.begun = omega arith in λ i. record { begun = e i; count = t.count; used = t.used }

-- the scope table has 64 entries, whatever the numbers are
pub table-long : (x : Arrays) → length (world_in x).scopes ≡ scope_limit
unfolding world_in entries
table-long x = refl

-- so that only log and charts can be of a wrong length
pub only-stored : (x : Arrays) → RamLengths x → right_lengths (world_in x) ≡ (eqb (length x.log) log_length && eqb (length x.charts) charts_length)
unfolding world_in entries
only-stored x l = rw (eq-eqb (length x.copy) charts_length l.copy) (go _)
  where
    go : (t : Bool) → ((t && true) && true) ≡ t
    go true = refl
    go false = refl

-- zeros are the world that a power failure leaves
pub zero-cleared : (x : Arrays) → Zero x → world_in x ≡ cleared x.log x.charts
unfolding world_in entries actives
zero-cleared x z = rw (z.head, z.visits, z.scopes, z.tail, z.copy)

-- ── What a call comes to (`Outcomes` of crate `journal`) ──────────────────────────────────────────────────────────────

module _ (r : Outcome) (head visits scopes tail copy log charts : List ℕ) where
  -- the head that a call writes says where the journal stands and what the counters are: then the arrays are its outcome
  pub outcome-is : (n : ℕ) → answer_in n ≡ number_and_value r.answer → writes_in n ≡ rows_and_pages r.writes → control_by head ≡ r.control → counts_by head ≡ r.counts
      → answered_in n (arrays head visits scopes tail copy log charts) ≡ outcome r log charts copy tail visits scopes
  unfolding world_in
  outcome-is n a u c t =
      λ i. record { answer = a i; world = world (state_after (c i) (tables_in (t i) visits) tail) log charts copy (map scope_of (entries scopes)); writes = u i }

  -- and after a power failure they are zeros
  pub zeroed : Zeroed r copy tail visits scopes → head ≡ head_of r.control r.counts → Zero (arrays head visits scopes tail copy log charts)
  zeroed z h =
      let nothing : head_of r.control r.counts ≡ replicate head_length 0 = rw (z.control, z.counts) in
      record { head = h ∙ nothing; visits = z.visits-zero; scopes = z.flat-zero; tail = z.tail-zero; copy = z.copy-zero }
