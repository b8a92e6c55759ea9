-- What an accepted call leaves, by what its work left and how that was settled. Assumes nothing.
use Prim.Native.Nat.{ℕ, ◌+◌, ◌-◌, ◌≤◌}
use native.Mathlib.Omega.{arith}
use mathlib.Core.Path.{◌≡◌, refl, ap, sym, ◌∙◌, subst}
use mathlib.Core.Logic.{◌⊎◌, inl, inr, ◌≢◌}
use mathlib.Core.Bool.{true}
use mathlib.Core.List.{List, map}
use lib.IntN.{pos}
use lib.ListN.{length}
use Rattle.book.specs.Writes.{pages_of}
use Rattle.book.proofs.Writes.{no-page, one-page}
use Rattle.book.specs.Calls.{Call, ending, Return, the_visit, the_row, the_cell, zero_value, returns}
use Rattle.book.specs.Rows.{Row}
use Rattle.tables_model.specs.declared.Counts.{Counts}
use Rattle.tables_model.specs.Meaning.{scope_of}
use Rattle.tables_model.specs.Visits.{InRange}
use Rattle.tables_model.specs.Rows.{step_by}
use Rattle.tables.proofs.Ranges.{step_range}
use Rattle.std.specs.Prelude.{Ok}
use Rattle.state.specs.declared.answers.Done.{Done}
use Rattle.state.specs.declared.ram.Phase.{Phase}
use Rattle.state.specs.declared.ram.Phase.TheVariants.{Open, Closed}
use Rattle.state.specs.Answers.{refusal, number_and_value, done_value, done_with, done_case}
use Rattle.state.specs.World.{world, is_open_phase, cleared}
use Rattle.state.specs.CallContracts.{Answered, answered_with, failed_after}
use Rattle.journal.specs.declared.Control.{Control}
use Rattle.journal.specs.declared.Outcome.{Outcome}
use Rattle.journal.specs.Outcomes.{state_after, Bounded}
use Rattle.wal.specs.Writing.{row_count}
use Rattle.wal.proofs.Clearing.{zeroed-outcome}
use Rattle.wal.proofs.Counters.{counters}
use Rattle.calls_model.specs.Acts.{Core, core, acted, fell, value_from, value_by, Accepts}
use Rattle.calls_model.specs.Refusals.{refusal_by}
use Rattle.calls_model.specs.Perform.{world_of_core, settled, writes_by, accepted_by, Accepted, Held, Failed}
use Rattle.calls.proofs.CallSteps.{index_in}
use Rattle.calls_model.proofs.CountersAfter.{counters-acted}
use Rattle.calls.proofs.NoRefusal.{free-begin, free-change}

-- ── The tables' counters ──────────────────────────────────────────────────────────────────────────────────────────────

ranges-acted : (x : Core) (k : Call) → InRange x.tables.count x.tables.used → refusal_by (index_in x) (row_count x.ram.journal) k ≡ 0
    → InRange (acted x k).tables.count (acted x k).tables.used
unfolding acted step_by
ranges-acted x Call.begin h e =
    let free = free-begin (index_in x) _ e in step_range (index_in x) 0 0 (Row.begin _) h (record { room = free.1; next = refl })
ranges-acted x (Call.change v c a) h e = step_range (index_in x) _ 0 (Row.change v c a) h (free-change (index_in x) _ v c a e)
ranges-acted x (Call.hand_over g r c) h e = h
ranges-acted x (Call.commit v) h e = step_range (index_in x) 0 0 (Row.commit v) h tt
ranges-acted x (Call.abort v) h e = step_range (index_in (fell x v)) 0 0 (Row.abort v) h tt
ranges-acted x Call.force h e = h
ranges-acted x (Call.flush p) h e = h
ranges-acted x (Call.read c) h e = h
ranges-acted x (Call.hand_over_all g r) h e = h

-- ── The answer ────────────────────────────────────────────────────────────────────────────────────────────────────────

-- the copy that a read returns a cell of is as it was
value-now : (x : Core) (k : Call) (rows : ℕ) → value_from x.tables.begun rows (acted x k).ram.copy (returns k) ≡ value_from x.tables.begun rows x.ram.copy (returns k)
unfolding acted
value-now x Call.begin rows = refl
value-now x (Call.change v c a) rows = refl
value-now x (Call.hand_over g r c) rows = refl
value-now x (Call.commit v) rows = refl
value-now x (Call.abort v) rows = refl
value-now x Call.force rows = refl
value-now x (Call.flush p) rows = refl
value-now x (Call.read c) rows = refl
value-now x (Call.hand_over_all g r) rows = refl

-- what a done call answers with is no refusal
apart : (r : Return) → done_case r ≢ refusal
apart the_visit e = let z : ◌≡◌ {A = ℕ} 0 1 = cc in omega arith
apart the_row e = let z : ◌≡◌ {A = ℕ} 0 1 = cc in omega arith
apart (the_cell c) e = let z : ◌≡◌ {A = ℕ} 0 1 = cc in omega arith
apart zero_value e = let z : ◌≡◌ {A = ℕ} 0 1 = cc in omega arith

-- ── What is left ──────────────────────────────────────────────────────────────────────────────────────────────────────

module _ (x y : Core) (k : Call) (is : y ≡ acted x k) where
  -- the power failed
  when-cut : y.ram.journal.control.phase ≡ Closed
      → failed_after (y.ram.journal.control.stored - x.ram.journal.control.stored) (cleared y.ram.journal.log y.charts) ≡ accepted_by x k
  unfolding settled writes_by
  when-cut e = rw (← is, e) (ap (λ (p : ℕ). answered_with 5 (pos 0) (cleared y.ram.journal.log y.charts)
      (record { rows = y.ram.journal.control.stored - x.ram.journal.control.stored; pages = p })) (sym (no-page (ending k) 4)))

  -- it held
  when-done : (a : Done) → y.ram.journal.control.phase ≡ Open
      → done_value a ≡ value_from x.tables.begun (row_count y.ram.journal) y.ram.copy (returns k)
      → ◌≡◌ {A = Answered} (record {
        answer = number_and_value (Ok a);
        world = world (state_after y.ram.journal.control y.tables y.ram.journal.tail) y.ram.journal.log y.charts y.ram.copy (map scope_of y.scopes);
        writes = record { rows = y.ram.journal.control.stored - x.ram.journal.control.stored; pages = pages_of (ending k) 0 };
      }) (accepted_by x k)
  unfolding settled world_of_core value_by writes_by
  when-done a e p = rw (p, is, value-now x k) (rw (rw is at e))

module _ (c : Control) (t : Counts) (visits log charts copy tail scopes : List ℕ) (k : Call) (A : Accepts c t (length log) (length copy) (length tail) visits scopes k) where
  abbrev given : Core
  given = core c t visits log charts copy tail scopes

  module _ (d : Control) (u : Counts) (visits₁ log₁ charts₁ copy₁ tail₁ scopes₁ : List ℕ) (is : core d u visits₁ log₁ charts₁ copy₁ tail₁ scopes₁ ≡ acted given k) where
    pub rows-by : d.stored + d.waiting ≤ 4096
    rows-by = subst (λ (y : Core). row_count y.ram.journal ≤ 4096) (sym is) (counters-acted given k (counters A.fits)).room

    bounded-by : Bounded d u
    bounded-by =
        let n = counters-acted given k (counters A.fits) in
        let r = ranges-acted given k A.ready.range A.free in
        let few = rw (← is) at n in
        let range : InRange u.count u.used = subst (λ (y : Core). InRange y.tables.count y.tables.used) (sym is) r in
        record { stored = omega (arith, few.room); waiting = few.few; count = range.count; used = range.used }

    pub accepted-by : (a : Done) → done_value a ≡ value_from t.begun (d.stored + d.waiting) copy₁ (returns k) → done_with a ≡ done_case (returns k)
        → (r : Outcome) (copy₂ tail₂ visits₂ scopes₂ : List ℕ)
        → Held d u a (d.stored - c.stored) (pages_of (ending k) 0) copy₁ tail₁ visits₁ scopes₁ r copy₂ tail₂ visits₂ scopes₂ ⊎ Failed d (d.stored - c.stored) r copy₂ tail₂ visits₂ scopes₂
        → Accepted given k r log₁ charts₁ copy₂ tail₂ visits₂ scopes₂
    accepted-by a v q r copy₂ tail₂ visits₂ scopes₂ (inl h) = record {
      is = rw (h.is, h.copy-same, h.tail-same, h.visits-same, h.flat-same) (when-done given (core d u visits₁ log₁ charts₁ copy₁ tail₁ scopes₁) k is a h.running v);
      case = inl (rw h.is q);
      zero = λ e. absurd (apart (returns k) (sym q ∙ (rw h.is at e)));
      bounded = rw h.is bounded-by;
      few = rw h.is (let n = bounded-by.stored in (omega arith, one-page (ending k) 0));
    }
    accepted-by a v q r copy₂ tail₂ visits₂ scopes₂ (inr f) = record {
      is = zeroed-outcome r log₁ charts₁ copy₂ tail₂ visits₂ scopes₂ f.zero ∙ rw (f.answer, f.writes) (when-cut given (core d u visits₁ log₁ charts₁ copy₁ tail₁ scopes₁) k is f.stopped);
      case = inr (rw f.answer);
      zero = λ e. f.zero;
      bounded = rw (f.zero.control, f.zero.counts) (record { stored = omega arith; waiting = omega arith; count = omega arith; used = omega arith });
      few = rw f.writes (let n = bounded-by.stored in (omega arith, omega arith));
    }

-- a read leaves all as it was
pub nothing-done : (c : Control) (t : Counts) (a : Done) (copy tail visits flat : List ℕ) → is_open_phase c.phase ≡ true
    → Held c t a (c.stored - c.stored) 0 copy tail visits flat (record { answer = Ok a; control = c; counts = t; writes = record { rows = 0; pages = 0 } }) copy tail visits flat
nothing-done c t a copy tail visits flat e =
    let none : c.stored - c.stored ≡ 0 = omega arith in
    record { running = go c.phase e; is = rw none; copy-same = refl; tail-same = refl; visits-same = refl; flat-same = refl }
  where
    go : (p : Phase) → is_open_phase p ≡ true → p ≡ Open
    go Open e = refl
    go Closed e = let z : ◌≡◌ {A = ℕ} 0 1 = cc in absurd (omega arith)
