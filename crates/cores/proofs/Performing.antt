-- The checks and the work of a call on flat copies of the tables, against its promise. Assumes nothing.
use Prim.Native.Nat.{ℕ}
use mathlib.Core.Path.{◌≡◌, refl, ap, sym, subst, ◌∙◌}
use mathlib.Core.Logic.{inr}
use mathlib.Core.Bool.{false}
use mathlib.Core.List.{List, map}
use lib.ListN.{length}
use borrow.Author.Tests.{eq-eqb}
use Rattle.std.specs.Prelude.{Result}
use Rattle.book.specs.Book.{refused_by}
use Rattle.book.specs.Calls.{Call, Typed, returns}
use Rattle.tables_model.specs.declared.Scope.{Scope}
use Rattle.tables_model.specs.Entries.{scope_in}
use Rattle.tables_model.specs.Layout.{entries, actives}
use Rattle.tables_model.specs.Visits.{tables_in}
use Rattle.state.specs.declared.ram.State.{State}
use Rattle.state.specs.declared.requests.Request.{Request}
use Rattle.state.specs.declared.answers.Refusal.{Refusal}
use Rattle.state.specs.Answers.{done_case, HasCase, checked}
use Rattle.state.specs.Requests.{call_of}
use Rattle.state.specs.World.{World, world, right_lengths}
use Rattle.state.specs.CallContracts.{Returned, answered_by, CallPost}
use Rattle.state.specs.Functions.{Calls}
use Rattle.calls_model.specs.Acts.{core}
use Rattle.calls_model.specs.Perform.{control_in, core_of, decided, number_by, number_of, performed, accepted_by, LentLengths}
use Rattle.calls_model.proofs.AnyWorld.{wrong-lengths}
use Rattle.calls_model.proofs.Post.{performed-post}
use Rattle.cores.specs.Lent.{counts_in}
use Rattle.cores.proofs.Lengths.{wrong_length}

-- ── On flat copies ────────────────────────────────────────────────────────────────────────────────────────────────────

module _ (s : State) (log charts copy : List ℕ) (table : List Scope) (visits flat : List ℕ) (k : Call)
    (places : actives visits ≡ s.tables.active) (scopes : entries flat ≡ map scope_in table) where
  -- the lengths are right: the number of every check is that of the others
  right-number : LentLengths (length log) (length charts) (length copy) → length table ≡ 64
      → number_by (control_in s) (tables_in (counts_in s.tables) visits) (entries flat) k ≡ number_of (world s log charts copy table) k
  unfolding number_of
  right-number lent long =
      rw (eq-eqb _ _ lent.log-long, eq-eqb _ _ lent.charts-long, eq-eqb _ _ lent.copy-long, eq-eqb _ _ long, places, scopes)

  -- so what the others give is what all give
  pub all-checked : (r : Result (Unit {0}) Refusal) → LentLengths (length log) (length charts) (length copy) → length table ≡ 64
      → checked r ≡ refused_by (number_by (control_in s) (tables_in (counts_in s.tables) visits) (entries flat) k)
      → checked r ≡ refused_by (number_of (world s log charts copy table) k)
  all-checked r lent long e = e ∙ ap refused_by (right-number lent long)

  -- no check refuses
  pub when-accepted : (n : ℕ) → n ≡ 0
      → accepted_by (core (control_in s) (counts_in s.tables) visits log charts copy s.tail flat) k ≡ decided (world s log charts copy table) k n
  unfolding core_of
  when-accepted n e = rw (e, places, scopes)

-- ── The promise ───────────────────────────────────────────────────────────────────────────────────────────────────────

module _ (request : Request) (typed : Typed (call_of request)) (w : World) where
  pub call-wrong : right_lengths w ≡ false → Calls request w (wrong_length w)
  call-wrong e = record {
    post = subst (CallPost (call_of request) w) (wrong-lengths w (call_of request) e) (performed-post w (call_of request) typed);
    case = inr refl;
  }

  pub called : (x : Returned) → answered_by x ≡ performed w (call_of request) → HasCase (done_case (returns (call_of request))) x.result.answer → Calls request w x
  called x e case = record { post = subst (CallPost (call_of request) w) (sym e) (performed-post w (call_of request) typed); case = case }
