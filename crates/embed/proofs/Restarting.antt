-- A format and an opening for C keep their contracts, by what they came to on the arrays. Assumes nothing.
use Prim.Native.Nat.{ℕ}
use native.Mathlib.Omega.{arith}
use mathlib.Core.Path.{◌≡◌, refl, sym, ap, ◌∙◌, subst}
use mathlib.Core.Logic.{◌≢◌}
use mathlib.Core.Bool.{Bool, true, false, cond, not}
use mathlib.Core.List.{List}
use lib.IntN.{ℤ, pos}
use lib.ListN.{length}
use lib.Dec.{eqb, ltb}
use Rattle.book.specs.Writes.{no_writes}
use Rattle.book.specs.Limits.{cell_limit, page_limit}
use Rattle.book.specs.Book as book
use Rattle.book.specs.Numbers.{AreBytes}
use Rattle.std.specs.Prelude.{Result, Ok, Err, Option, Some, None}
use Rattle.state.specs.declared.answers.Done.TheVariants.{Nothing}
use Rattle.state.specs.declared.answers.Refusal.{Refusal}
use Rattle.state.specs.declared.ram.Fuse.{Fuse}
use Rattle.state.specs.Answers.{number_and_value, refusal_answer, rows_and_pages}
use Rattle.state.specs.World.{right_lengths, allowance, fuse_of_number, cleared}
use Rattle.state.specs.CallContracts.{Answered, answered, bad_cell}
use Rattle.state.proofs.Cases.{refusal-case}
use Rattle.calls.proofs.Performing.{numbered}
use Rattle.journal.specs.declared.Outcome.{Outcome}
use Rattle.journal.specs.Outcomes.{outcome, Zeroed, Bounded}
use Rattle.wal.specs.Writing.{Ram, is_running}
use Rattle.recovery_model.specs.declared.BadRow.{BadRow}
use Rattle.recovery_model.specs.declared.Reason.{Reason}
use Rattle.recovery_model.specs.declared.Reason.TheVariants.{Bytes, Rule, Limit}
use Rattle.recovery_model.specs.Scan.{number_of_reason, Scanned, scanned}
use Rattle.recovery_model.specs.Charts.{bad_page_by}
use Rattle.recovery_model.specs.Openings.{no_index, settled_opening, unless_bad, recovered_by, checked_by, opens_by}
use Rattle.recovery_model.specs.Answering.{Formatted, formatted_as, format_bytes, OpenOutcome}
use Rattle.recovery_model.proofs.Formats.{format-done, format-refused}
use Rattle.recovery_model.proofs.Post.{opens_by_lem}
use Rattle.embed_model.specs.Arrays.{Arrays, arrays, world_in, RamLengths, Zero}
use Rattle.embed_model.specs.Head.{counts_by, head_of}
use Rattle.embed_model.specs.Packed.{answer_in, writes_in}
use Rattle.embed_model.specs.Called.{answered_in, FormatsOfC, OpensOfC}
use Rattle.embed_model.proofs.Arrays.{control-back, zero-cleared, outcome-is, zeroed}

-- zeros have their lengths
zero-long : (x : Arrays) → Zero x → RamLengths x
zero-long x z = record { head = rw z.head; visits = rw z.visits; scopes = rw z.scopes; tail = rw z.tail; copy = rw z.copy }

-- counters of zeros are within their limits
pub zero-bounded : (r : Outcome) (copy tail visits scopes : List ℕ) → Zeroed r copy tail visits scopes → Bounded r.control r.counts
zero-bounded r copy tail visits scopes z =
    rw (z.control, z.counts) (record { stored = omega arith; waiting = omega arith; count = omega arith; used = omega arith })

-- ── Format ────────────────────────────────────────────────────────────────────────────────────────────────────────────

-- a refusal leaves log and charts
unchanged : (values : List ℤ) (log charts : List ℕ) → (format_bytes values log charts).answer.number ≢ 0
    → ((format_bytes values log charts).log ≡ log) × ((format_bytes values log charts).charts ≡ charts)
unfolding format_bytes
unchanged values log charts = go (eqb (length values) cell_limit) (ltb (bad_cell values) cell_limit) _ _
  where
    kept : book.Answer → Formatted
    kept a = record { answer = a; log = log; charts = charts }

    comes_to : Bool → Bool → List ℕ → List ℕ → Formatted
    comes_to t u l c =
        cond (not t) (kept (book.answer 1 (pos 0)))
        (cond u (kept (book.answer 2 (pos (bad_cell values)))) (record { answer = book.answer 0 (pos 0); log = l; charts = c }))

    go : (t u : Bool) (l c : List ℕ) → (comes_to t u l c).answer.number ≢ 0 → ((comes_to t u l c).log ≡ log) × ((comes_to t u l c).charts ≡ charts)
    go false u l c ne = (refl, refl)
    go true true l c ne = (refl, refl)
    go true false l c ne = absurd (ne refl)

module _ (values : List ℤ) (x : Arrays) (right : right_lengths (world_in x) ≡ true) (log charts : List ℕ) where
  -- what a refused format leaves
  abbrev left : Arrays
  left = arrays x.head x.visits x.scopes x.tail x.copy log charts

  pub refused-format : (why : Refusal) → formatted_as (Err why) log charts ≡ format_bytes values x.log x.charts → RamLengths x
      → (n : ℕ) → (answer_in n ≡ refusal_answer why) × (writes_in n ≡ no_writes) → FormatsOfC values x n left
  unfolding world_in
  refused-format why is long n says =
      let ne = numbered why in
      let u = unchanged values x.log x.charts (λ z. ne (ap (λ (f : Formatted). f.answer.number) is ∙ z)) in
      let l : log ≡ x.log = ap (λ (f : Formatted). f.log) is ∙ u.0 in
      let c : charts ≡ x.charts = ap (λ (f : Formatted). f.charts) is ∙ u.1 in
      let same : left ≡ x = λ i. arrays x.head x.visits x.scopes x.tail x.copy (l i) (c i) in
      record {
        does = record { is = rw (says.0, says.1) (sym (format-refused values (world_in x) right (Err why) log charts is ne)) };
        keeps = λ q. same;
        clears = λ z. absurd (ne (sym (ap (λ (b : book.Answer). b.number) says.0) ∙ z));
        sized = subst RamLengths (sym same) long;
      }

  module _ (is : formatted_as (Ok tt) log charts ≡ format_bytes values x.log x.charts) (r : Outcome) (answers : r.answer ≡ Ok Nothing) (stored : r.writes ≡ record { rows = 0; pages = 0 })
      (head visits scopes tail copy : List ℕ) (cleared : Zeroed r copy tail visits scopes) (written : head ≡ head_of r.control r.counts) where
    abbrev leaves : Arrays
    leaves = arrays head visits scopes tail copy log charts

    pub done-format : (n : ℕ) → (answer_in n ≡ number_and_value r.answer) × (writes_in n ≡ rows_and_pages r.writes) → FormatsOfC values x n leaves
    unfolding world_in
    done-format n says =
        let z = zeroed r head visits scopes tail copy log charts cleared written in
        let e = says.0 ∙ ap number_and_value answers in
        let none : writes_in n ≡ no_writes = says.1 ∙ ap rows_and_pages stored in
        record {
          does = record { is = rw (e, none, zero-cleared leaves z) (sym (format-done values (world_in x) right (Ok tt) log charts is refl)) };
          keeps = λ q. absurd (q (ap (λ (b : book.Answer). b.number) e));
          clears = λ q. z;
          sized = zero-long leaves z;
        }

-- ── Open ──────────────────────────────────────────────────────────────────────────────────────────────────────────────

-- an opening that was not refused for a length does not answer 1
reason-not-one : (why : Reason) → number_of_reason why ≢ 1
reason-not-one Bytes e = omega arith
reason-not-one Rule e = omega arith
reason-not-one Limit e = omega arith

settled-not-one : (rows begun : ℕ) (m : Ram) (charts : List ℕ) → (settled_opening rows begun m charts).answer.number ≢ 1
unfolding settled_opening
settled-not-one rows begun m charts = go (is_running m.journal) refl
  where
    go : (t : Bool) → is_running m.journal ≡ t → (settled_opening rows begun m charts).answer.number ≢ 1
    go true e = rw e (λ q. omega arith)
    go false e = rw e (λ q. omega arith)

never-one : (f : Fuse) (log charts : List ℕ) (s : Scanned) → (checked_by f log charts s).answer.number ≢ 1
never-one f log charts s = go s.bad (ltb (bad_page_by log s.rows charts) page_limit)
  where
    go : (bad : Option BadRow) (page : Bool)
        → (unless_bad bad (cleared log charts) (cond page (answered 4 (pos (bad_page_by log s.rows charts)) (cleared log charts)) (recovered_by f log charts s))).answer.number ≢ 1
    go (Some b) page = reason-not-one b.reason
    go None true = λ e. omega arith
    go None false = settled-not-one _ _ _ _

module _ (fuse : ℕ) (f : Fuse) (meant : allowance f ≡ fuse_of_number fuse) (x : Arrays) (right : right_lengths (world_in x) ≡ true) (bytes : AreBytes x.charts)
    (r : Outcome) (head visits scopes tail copy log : List ℕ)
    (O : OpenOutcome (checked_by f x.log x.charts (scanned x.log no_index)) r log x.charts copy tail visits scopes)
    (written : head ≡ head_of r.control r.counts) (counted : counts_by head ≡ r.counts) where
  abbrev opened : Arrays
  opened = arrays head visits scopes tail copy log x.charts

  pub opening : RamLengths opened → (n : ℕ) → (answer_in n ≡ number_and_value r.answer) × (writes_in n ≡ rows_and_pages r.writes) → OpensOfC fuse x n opened
  unfolding opens_by world_in
  opening long n says =
      let given : answered_in n opened ≡ outcome r log x.charts copy tail visits scopes =
      outcome-is r head visits scopes tail copy log x.charts n says.0 says.1 (rw written (control-back r.control r.counts)) counted in
      let by : checked_by f x.log x.charts (scanned x.log no_index) ≡ opens_by f (world_in x) = rw right in
      let number = ap (λ (b : book.Answer). b.number) says.0 in
      record {
        does = record { is = rw (← meant) (given ∙ O.is ∙ by ∙ opens_by_lem f (world_in x) bytes) };
        keeps = λ one. absurd (never-one f x.log x.charts (scanned x.log no_index) (sym (ap (λ (y : Answered). y.answer.number) (given ∙ O.is)) ∙ one));
        clears = λ p q. zeroed r head visits scopes tail copy log x.charts (O.refused (refusal-case r.answer (λ z. p (number ∙ z)))) written;
        sized = long;
      }
