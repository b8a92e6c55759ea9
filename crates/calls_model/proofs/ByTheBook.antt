-- What a call makes of values that stand for a book: what the book makes of the call, and the values that stand for the book after it.
use Prim.Native.Nat.{ℕ, zero, suc, ◌-◌}
use mathlib.Core.Path.{◌≡◌, refl, ap, ap₂, sym, ◌∙◌}
use mathlib.Core.Bool.{Bool, true, false, cond, not}
use mathlib.Core.List.{List}
use lib.ListN.{length}
use lib.IntN.{ℤ, pos}
use Rattle.book.specs.Calls.{Call, Typed, ending}
use Rattle.book.specs.Power.{Book, ledger_of}
use Rattle.book.specs.Book.{answer, refused, refusal, through, value, accepted, decide, call}
use Rattle.book.specs.Writes.{rows_between, pages_of, call_writes}
use Rattle.book.specs.Logs.{Sound}
use Rattle.book.proofs.Sound.{sound-through}
use Rattle.tables_model.specs.Lookup.{index_of}
use Rattle.state.specs.World.{World, right_lengths, state_of, world_of, Represents}
use Rattle.state.proofs.Agree.{charts-refused, refused-in}
use Rattle.state.proofs.SameBook.{phase-open}
use Rattle.state.proofs.Works.{state-in-limits, works-open}
use Rattle.state.specs.CallContracts.{Answered, answered_with, charts_after, outcome_in, by_book}
use Rattle.journal.specs.Meaning.{control_of, journal_of}
use Rattle.wal.specs.Writing.{row_count}
use Rattle.wal.proofs.Steady.{steady-sound}
use Rattle.wal.proofs.RowsLookedUp.{count-rows}
use Rattle.calls_model.specs.Refusals.{refusal_by}
use Rattle.calls_model.specs.Acts.{Core, acted, value_by}
use Rattle.calls_model.specs.Perform.{is_coherent, control_in, core_of, settled, writes_by, decided, number_of, performed}
use Rattle.calls_model.proofs.Refusing.{refusal-by}
use Rattle.calls_model.proofs.Cores.{core_for, core-of, settled_for, settled_is}
use Rattle.calls_model.proofs.AnyWorld.{idle-store}
use Rattle.calls_model.proofs.AcceptedCalls.{InRange, acted-reaches, value-is}

-- the counters of a sound book are within their limits
coherent : (b : Book) → Sound b → is_coherent (control_in (state_of b)) (state_of b).tables ≡ true
unfolding is_coherent
coherent b s = state-in-limits b s

module _ (cells : ℕ → ℤ) (b : Book) (charts : List ℕ) (k : Call) (range : InRange cells) (s : Sound b) (t : Typed k)
    (right : right_lengths (world_of cells b charts) ≡ true) where
  -- ── An open book ────────────────────────────────────────────────────────────────────────────────────────────────────

  module _ (o : b.is_open ≡ true) where
    number_is : number_of (world_of cells b charts) k ≡ refusal b k
    unfolding number_of world_of core_of
    number_is =
        let checks : refusal_by (record { tables = (core_of (world_of cells b charts)).tables; scopes = (core_of (world_of cells b charts)).scopes })
        (row_count (core_of (world_of cells b charts)).ram.journal) k ≡ refusal b k =
        ap (λ (x : Core). refusal_by (record { tables = x.tables; scopes = x.scopes }) (row_count x.ram.journal) k) (core-of cells charts b o) ∙
        ap (λ (n : ℕ). refusal_by (index_of (ledger_of b)) n k) (count-rows b) ∙ refusal-by b (steady-sound b s) k in
        rw (right, phase-open b ∙ o, coherent b s) checks

    -- what the work of an accepted call is given and leaves
    abbrev given : Core
    given = core_for cells b charts

    writes_are : refusal b k ≡ 0
        → writes_by given (acted given k) k
        ≡ record { rows = rows_between b.stored (through b k).stored; pages = pages_of (ending k) (cond (through b k).is_open 0 5) }
    unfolding writes_by journal_of control_of
    writes_are e =
        let r = acted-reaches cells b charts s o k t e in
        ap₂ (λ (n : ℕ) (u : Bool). record { rows = n - length b.stored; pages = pages_of (ending k) (cond u 0 5) }) r.stored r.runs

    accepted-is : refusal b k ≡ 0 → decided (world_of cells b charts) k 0 ≡ outcome_in cells b k charts (decide cells b k 0)
    unfolding accepted
    accepted-is e =
        ap (λ (x : Core). settled (acted x k) (value_by x (acted x k) k) (writes_by x (acted x k) k)) (core-of cells charts b o) ∙
        settled_is cells (through b k) (sound-through b k s o t e) charts (charts_after cells b (ending k) 0 charts) (acted given k)
        (value_by given (acted given k) k) (value cells b k) (writes_by given (acted given k) k)
        (acted-reaches cells b charts s o k t e) (value-is cells b charts s o k range t e) ∙
        ap (settled_for cells (through b k) charts (charts_after cells b (ending k) 0 charts) (value cells b k)) (writes_are e) ∙
        go (through b k).is_open
      where
        go : (u : Bool)
            → ◌≡◌ {A = Answered} (record {
              answer = (cond u (record { answer = answer 0 (value cells b k); book = through b k }) (refused 5 (through b k))).answer;
              world = world_of cells (through b k) (cond u (charts_after cells b (ending k) 0 charts) charts);
              writes = record { rows = rows_between b.stored (through b k).stored; pages = pages_of (ending k) (cond u 0 5) };
            }) (outcome_in cells b k charts (cond u (record { answer = answer 0 (value cells b k); book = through b k }) (refused 5 (through b k))))
        go true = refl
        go false = ap (λ (cs : List ℕ). answered_with 5 (pos 0) (world_of cells (through b k) cs) (call_writes b k (refused 5 (through b k))))
            (sym (charts-refused cells b k 4 charts))

    decided-is : (n : ℕ) → refusal b k ≡ n → decided (world_of cells b charts) k n ≡ outcome_in cells b k charts (decide cells b k n)
    unfolding world_of
    decided-is zero e = accepted-is e
    decided-is (suc n) e = sym (refused-in cells b k (world_of cells b charts) n refl)

    open_is : performed (world_of cells b charts) k ≡ outcome_in cells b k charts (call cells b true k)
    unfolding performed call
    open_is =
        ap (decided (world_of cells b charts) k) number_is ∙ decided-is (refusal b k) refl ∙
        ap (λ (u : Bool). outcome_in cells b k charts (decide cells b k (cond (not u) 5 (refusal b k)))) (sym o)

  -- ── A closed one ────────────────────────────────────────────────────────────────────────────────────────────────────

  closed_is : b.is_open ≡ false → performed (world_of cells b charts) k ≡ outcome_in cells b k charts (call cells b true k)
  unfolding call world_of
  closed_is o =
      idle-store (world_of cells b charts) k right (works-open b s ∙ o) ∙
      sym (refused-in cells b k (world_of cells b charts) 4 refl) ∙
      ap (λ (u : Bool). outcome_in cells b k charts (decide cells b k (cond (not u) 5 (refusal b k)))) (sym o)

  book-is : performed (world_of cells b charts) k ≡ outcome_in cells b k charts (call cells b true k)
  book-is = go b.is_open refl
    where
      go : (u : Bool) → b.is_open ≡ u → performed (world_of cells b charts) k ≡ outcome_in cells b k charts (call cells b true k)
      go true o = open_is o
      go false o = closed_is o

pub by-the-book : (w : World) (k : Call) → Typed k → right_lengths w ≡ true → (cells : ℕ → ℤ) (b : Book) → Represents cells b w
    → performed w k ≡ by_book cells b k w
unfolding by_book
by-the-book w k t right cells b r =
    ap (λ (u : World). performed u k) r.is ∙ book-is cells b w.charts k r.range r.sound t (ap right_lengths (sym r.is) ∙ right)
