-- A call for C keeps its contract, by what its checks answered and what it came to on the arrays. Assumes nothing.
use Prim.Native.Nat.{ℕ}
use native.Mathlib.Omega.{arith}
use mathlib.Core.Path.{◌≡◌, refl, sym, ap, ◌∙◌, subst}
use mathlib.Core.Logic.{◌≢◌, ◌⊎◌, inl, inr}
use mathlib.Core.Bool.{Bool, true, false, cond, ◌&&◌}
use mathlib.Core.List.{List}
use lib.IntN.{ℤ, pos}
use lib.ListN.{length}
use lib.Dec.{eqb}
use borrow.Author.Tests.{eqb-true}
use Rattle.book.specs.Writes.{Writes, no_writes}
use Rattle.book.specs.Limits.{log_length, charts_length}
use Rattle.book.specs.Calls.{Call, Typed}
use Rattle.book.specs.Book.{Answer, refused_by}
use Rattle.book.proofs.Lists.{and_l, and_r, clash}
use Rattle.tables_model.specs.Layout.{entries}
use Rattle.tables_model.specs.Visits.{tables_in}
use Rattle.tables_model.proofs.EntriesBack.{entries-back}
use Rattle.state.specs.declared.answers.Refusal.{Refusal}
use Rattle.state.specs.Answers.{number_and_value, refusal_answer, rows_and_pages}
use Rattle.state.specs.World.{right_lengths, is_open_phase, works, cleared}
use Rattle.state.specs.CallContracts.{Answered, CallPost, answered_with}
use Rattle.state.proofs.Cases.{refusal-case}
use Rattle.journal.specs.declared.Outcome.{Outcome}
use Rattle.journal.specs.Outcomes.{outcome}
use Rattle.wal.specs.Writing.{is_running}
use Rattle.calls_model.specs.Acts.{Core, core, acted, value_by, Accepts}
use Rattle.calls_model.specs.Perform.{core_of, world_of_core as world_left, settled, number_by, number_of, performed, accepted_by, Accepted, writes_by}
use Rattle.calls_model.proofs.AnyWorld.{works-not-five, zero-works}
use Rattle.calls_model.proofs.Post.{performed-post}
use Rattle.calls.proofs.Performing.{passed, when-refused, refuses}
use Rattle.embed_model.specs.Arrays.{Arrays, arrays, world_in, RamLengths, Zero}
use Rattle.embed_model.specs.Head.{control_by, counts_by, head_of}
use Rattle.embed_model.specs.Packed.{answer_in, writes_in}
use Rattle.embed_model.specs.Called.{answered_in, CallsOfC}
use Rattle.embed_model.proofs.Arrays.{only-stored, control-back, outcome-is, zeroed}

-- ── RamLengths ───────────────────────────────────────────────────────────────────────────────────────────────────────────

-- the log or the charts have another length
pub wrong-stored : (x : Arrays) → RamLengths x → eqb (length x.log) log_length && eqb (length x.charts) charts_length ≡ false → right_lengths (world_in x) ≡ false
wrong-stored x long e = only-stored x long ∙ e

-- they have theirs
pub right-stored : (x : Arrays) → RamLengths x → eqb (length x.log) log_length && eqb (length x.charts) charts_length ≡ true → right_lengths (world_in x) ≡ true
right-stored x long e = only-stored x long ∙ e

pub stored-lengths : (x : Arrays) → eqb (length x.log) log_length && eqb (length x.charts) charts_length ≡ true
    → (length x.log ≡ log_length) × (length x.charts ≡ charts_length)
stored-lengths x e =
    let p = eqb (length x.log) log_length in (eqb-true _ _ (and_l p _ e), eqb-true _ _ (and_r p _ e))

-- ── The checks ────────────────────────────────────────────────────────────────────────────────────────────────────────

-- the phase that the head says
phase-in : (x : Arrays) → is_open_phase (control_by x.head).phase ≡ is_open_phase (world_in x).state.phase
unfolding world_in
phase-in x = refl

-- what the checks of a call answer
abbrev pub number_in : Arrays → Call → ℕ
number_in x k = number_by (control_by x.head) (tables_in (counts_by x.head) x.visits) (entries x.scopes) k

abbrev pub core_in : Arrays → Core
core_in x = core (control_by x.head) (counts_by x.head) x.visits x.log x.charts x.copy x.tail x.scopes

module _ (k : Call) (x : Arrays) (right : right_lengths (world_in x) ≡ true) where
  numbered : number_of (world_in x) k ≡ number_in x k
  unfolding number_of world_in
  numbered = rw (right, entries-back (entries x.scopes))

  -- one of them refuses it
  pub refused_call : Typed k → RamLengths x → (why : Refusal) (r : ℕ) → (answer_in r ≡ refusal_answer why) × (writes_in r ≡ no_writes) → refusal_answer why ≡ refused_by (number_in x k)
      → CallsOfC k x r x
  unfolding performed
  refused_call typed long why r says e =
      let n = sym numbered in
      let number = ap (λ (b : Answer). b.number) (says.0 ∙ e) in
      let other = refuses why (number_in x k) e in
      let is = when-refused (world_in x) k (refusal_answer why) (number_of (world_in x) k) (e ∙ ap refused_by n) (λ z. other (n ∙ z)) in
      record {
        does = rw (says.0, says.1) (subst (CallPost k (world_in x)) (sym is) (performed-post (world_in x) k typed));
        keeps = λ p q. refl;
        shut = λ p. refl;
        cut = λ t p. absurd (works-not-five (world_in x) k t (numbered ∙ sym number ∙ p));
        done = λ z. absurd (other (sym number ∙ z));
        sized = long;
      }

-- ── An accepted call ──────────────────────────────────────────────────────────────────────────────────────────────────

-- no check refuses it: the store is open, and its counters are within their limits
is_open : (k : Call) (x : Arrays) → number_in x k ≡ 0 → is_open_phase (world_in x).state.phase ≡ true
is_open k x free = sym (phase-in x) ∙ (passed (control_by x.head) (counts_by x.head) x.visits (entries x.scopes) k free).running

is-working : (k : Call) (x : Arrays) → right_lengths (world_in x) ≡ true → number_in x k ≡ 0 → works (world_in x).state ≡ true
is-working k x right free = zero-works (world_in x) k (numbered k x right ∙ free)

-- what the work of a call asks
pub accepts : (k : Call) (x : Arrays) → RamLengths x → length x.log ≡ log_length → number_in x k ≡ 0
    → Accepts (control_by x.head) (counts_by x.head) (length x.log) (length x.copy) (length x.tail) x.visits x.scopes k
accepts k x long log free =
    let p = passed (control_by x.head) (counts_by x.head) x.visits (entries x.scopes) k free in
    record {
      fits = record {
        sizes = record { log-long = log; tail-long = long.tail; few = p.within.few; room = p.within.room };
        copy-long = long.copy;
      };
      ready = record { range = p.within.range; visits-long = long.visits; long = long.scopes };
      running = p.running;
      free = p.free;
    }

-- it answers 0 or 5
zero-or-five : (x : Core) (v : ℤ) (u : Writes) → ((settled x v u).answer.number ≡ 0) ⊎ ((settled x v u).answer.number ≡ 5)
unfolding settled
zero-or-five x v u = go (is_running x.ram.journal)
  where
    go : (t : Bool) → ((cond t (answered_with 0 v (world_left x) u) (answered_with 5 (pos 0) (cleared x.ram.journal.log x.charts) u)).answer.number ≡ 0)
        ⊎ ((cond t (answered_with 0 v (world_left x) u) (answered_with 5 (pos 0) (cleared x.ram.journal.log x.charts) u)).answer.number ≡ 5)
    go true = inl refl
    go false = inr refl

-- it leaves the store open where it is done, and nowhere else
open_done : (x : Core) (v : ℤ) (u : Writes) → is_open_phase (settled x v u).world.state.phase ≡ eqb (settled x v u).answer.number 0
unfolding settled world_left
open_done x v u = go (is_running x.ram.journal) refl
  where
    go : (t : Bool) → is_running x.ram.journal ≡ t → is_open_phase (settled x v u).world.state.phase ≡ eqb (settled x v u).answer.number 0
    go true e = rw e e
    go false e = rw e

module _ (k : Call) (typed : Typed k) (x : Arrays) (right : right_lengths (world_in x) ≡ true) (free : number_in x k ≡ 0)
    (r : Outcome) (visits scopes tail copy log charts : List ℕ) (A : Accepted (core_in x) k r log charts copy tail visits scopes)
    (n : ℕ) (says : (answer_in n ≡ number_and_value r.answer) × (writes_in n ≡ rows_and_pages r.writes)) where
  is-performed : outcome r log charts copy tail visits scopes ≡ performed (world_in x) k
  unfolding performed world_in core_of
  is-performed =
      A.is ∙ rw (numbered k x right, free, entries-back (entries x.scopes))

  -- it leaves the store open where it answers 0
  open_after : (y : Arrays) → answered_in n y ≡ outcome r log charts copy tail visits scopes → is_open_phase (world_in y).state.phase ≡ eqb (answer_in n).number 0
  open_after y left =
      let z = acted (core_in x) k in
      let same = left ∙ A.is in
      ap (λ (w : Answered). is_open_phase w.world.state.phase) same ∙ open_done z (value_by (core_in x) z k) (writes_by (core_in x) z k) ∙
      ap (λ (w : Answered). eqb w.answer.number 0) (sym same)

  -- with a head that says where the journal stands and what the counters are
  module _ (head : List ℕ) (control : control_by head ≡ r.control) (counts : counts_by head ≡ r.counts) where
    abbrev leaves : Arrays
    leaves = arrays head visits scopes tail copy log charts

    left : answered_in n leaves ≡ outcome r log charts copy tail visits scopes
    left = outcome-is r head visits scopes tail copy log charts n says.0 says.1 control counts

    number_is : (answer_in n).number ≡ (accepted_by (core_in x) k).answer.number
    number_is = ap (λ (y : Answered). y.answer.number) (left ∙ A.is)

    neither : (answer_in n).number ≢ 0 → (answer_in n).number ≢ 5 → leaves ≡ x
    neither p q = go (zero-or-five (acted (core_in x) k) (value_by (core_in x) (acted (core_in x) k) k) (writes_by (core_in x) (acted (core_in x) k) k))
      where
        go : ((accepted_by (core_in x) k).answer.number ≡ 0) ⊎ ((accepted_by (core_in x) k).answer.number ≡ 5) → leaves ≡ x
        go (inl z) = absurd (p (number_is ∙ z))
        go (inr z) = absurd (q (number_is ∙ z))

    call-with : RamLengths leaves → ((answer_in n).number ≡ 5 → Zero leaves) → CallsOfC k x n leaves
    call-with long cut = record {
      does = subst (CallPost k (world_in x)) (sym (left ∙ is-performed)) (performed-post (world_in x) k typed);
      keeps = neither;
      shut = λ p. clash _ (is-working k x right free) p;
      cut = λ o. cut;
      done = λ z. open_after leaves left ∙ ap (λ (m : ℕ). eqb m 0) z;
      sized = long;
    }

  -- with the head that was written
  pub accepted-call : (head : List ℕ) → head ≡ head_of r.control r.counts → counts_by head ≡ r.counts → RamLengths (arrays head visits scopes tail copy log charts)
      → CallsOfC k x n (arrays head visits scopes tail copy log charts)
  accepted-call head written counted long =
      call-with head (rw written (control-back r.control r.counts)) counted long (λ p. zeroed r head visits scopes tail copy log charts
      (A.zero (refusal-case r.answer (λ z. let five = sym p ∙ ap (λ (b : Answer). b.number) says.0 ∙ z in omega arith))) written)

  -- with the head as it was: a call that changes neither
  pub call-without-head : control_by x.head ≡ r.control → counts_by x.head ≡ r.counts → RamLengths (arrays x.head visits scopes tail copy log charts)
      → CallsOfC k x n (arrays x.head visits scopes tail copy log charts)
  unfolding world_in
  call-without-head control counts long =
      let y : Arrays = arrays x.head visits scopes tail copy log charts in
      let open_still : is_open_phase (world_in y).state.phase ≡ true = is_open k x free in
      call-with x.head control counts long (λ p. clash _ open_still (open_after y (left x.head control counts) ∙ ap (λ (m : ℕ). eqb m 0) p))
