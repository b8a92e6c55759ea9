-- What an opening gives back and leaves, once journal and copy stand for the book that it leaves (`settled_is`): ready with no visit active and no scope
-- in use, or closed by the power.
use Prim.Native.Nat.{ℕ, suc, ◌+◌, ◌-◌}
use native.Mathlib.Omega.{arith}
use mathlib.Core.Path.{◌≡◌, refl, ap, ap₂, sym, ◌∙◌}
use mathlib.Core.Bool.{Bool, true, false, and-false}
use mathlib.Core.List.{List, [], ◌++◌, map, reverse, append-nil}
use lib.ListN.{length, length-append, replicate}
use lib.IntN.{ℤ, pos}
use lib.Dec.{eqb}
use Rattle.tables_model.specs.Meaning.{scope_of, vacant, active_of, tables_of, scope_table}
use Rattle.book.specs.Lists.{pad_to}
use Rattle.book.specs.Limits.{active_limit, scope_limit}
use Rattle.book.specs.Rows.{Row}
use Rattle.book.specs.Ledger.{Ledger, ledger}
use Rattle.book.specs.Rules.{starts_in_use, allowed_log}
use Rattle.book.specs.Scopes.{Scope, unused, entry_of, scopes_of}
use Rattle.book.specs.Power.{Book, Fuse as Allowance}
use Rattle.book.specs.Book.{everyone, closing, ended, reopened, reopen}
use Rattle.book.specs.LogBytes.{rows_bytes, log_bytes}
use Rattle.book.specs.Pages.{chart_bytes, page_after}
use Rattle.book.proofs.Lists.{keep-none}
use Rattle.book.proofs.Logs.{ledger-append}
use Rattle.book.proofs.InvariantKept.{inv-log}
use Rattle.book.proofs.TakeBack.{take_back_lem, closed_none}
use Rattle.book.proofs.Steps.{book_of}
use Rattle.book.proofs.Force.{reopened-empty}
use Rattle.book.proofs.Openings.{reopened-stored}
use Rattle.book.specs.Writes.{rows_between}
use Rattle.book.proofs.OpenBytes.{by_the_book}
use Rattle.state.specs.World.{fuse_of, state_of, table_of}
use Rattle.state.specs.CallContracts.{Answered, answered_with, opened_world}
use Rattle.state.specs.declared.ram.Phase.TheVariants.{Open}
use Rattle.tables_model.specs.declared.Scope as lent
use Rattle.tables_model.specs.declared.Tables.{Tables}
use Rattle.journal.specs.Journal.{Journal}
use Rattle.journal.specs.Meaning.{control_of, journal_of}
use Rattle.wal.specs.Writing.{Ram}
use Rattle.wal.proofs.RowWritten.{Stands}
use Rattle.recovery_model.specs.Openings.{none_active, settled_opening}

-- ── The tables where no visit is active ───────────────────────────────────────────────────────────────────────────────

module _ (l : Ledger) (none : l.active ≡ []) where
  no-scopes : scopes_of l ≡ []
  unfolding scopes_of
  no-scopes = ap (map (entry_of l)) (keep-none (starts_in_use l) l.changes (λ x m. rw none (and-false (eqb x.scope x.row))))

  none-tables : tables_of l ≡ none_active l.begun
  unfolding tables_of
  none-tables =
      ap₂ (λ (vs : List ℕ) (ss : List Scope). record {
        begun = l.begun;
        active = pad_to active_limit vacant (reverse (map (active_of l) vs));
        count = length vs;
        used = length ss;
      }) none no-scopes

  none-scopes : map scope_of (scope_table l) ≡ replicate scope_limit (scope_of unused)
  unfolding scope_table
  none-scopes = ap (λ (ss : List Scope). map scope_of (pad_to scope_limit unused (reverse ss))) no-scopes

-- ── The answer and the world ──────────────────────────────────────────────────────────────────────────────────────────

-- a ready opening of these rows that leaves this book, by what has to be shown of it
abbrev ready : List Row → Book → List ℕ → ℕ → Tables → List ℕ → List lent.Scope → Answered
ready rs b charts written tables copy scopes = answered_with 0 (pos written) (record {
  state = record {
    phase = Open;
    fuse = fuse_of b.fuse;
    stored = length b.stored;
    waiting = length b.waiting;
    tables = tables;
    tail = pad_to 1024 0 (rows_bytes (suc (length b.stored)) b.waiting);
  };
  log = log_bytes b.stored;
  charts = charts;
  copy = copy;
  scopes = scopes;
}) (record { rows = rows_between rs b.stored; pages = 0 })

module _ (cells : ℕ → ℤ) (f : Allowance) (rs : List Row) (al : allowed_log rs ≡ true) (charts : List ℕ) where
  begun-is : (ledger (rs ++ closing (ledger rs))).begun ≡ (ledger rs).begun
  begun-is = ap (λ (l : Ledger). l.begun) (ledger-append rs (closing (ledger rs))) ∙ (take_back_lem everyone (ledger rs) (inv-log rs al)).begun

  pub settled_is : (m : Ram) → Stands cells (reopened f rs) m
      → settled_opening (length rs) (tables_of (ledger rs)).begun m charts ≡ opened_world charts (by_the_book cells rs (reopen f rs))
  unfolding settled_opening reopen tables_of journal_of control_of state_of table_of
  settled_is m st =
      ap (λ (j : Journal). settled_opening (length rs) (tables_of (ledger rs)).begun (record { journal = j; copy = m.copy }) charts) st.journal ∙
      go b.stored b.waiting b.fuse b.is_open (reopened-empty f rs) (reopened-stored f rs) st.copy
    where
      b : Book
      b = reopened f rs

      go : (s w : List Row) (g : Allowance) (o : Bool) → w ≡ [] → (o ≡ true → s ≡ rs ++ closing (ledger rs))
          → (o ≡ true → m.copy ≡ chart_bytes (page_after cells (s ++ w)))
          → settled_opening (length rs) (tables_of (ledger rs)).begun (record { journal = journal_of (book_of s w g o); copy = m.copy }) charts
          ≡ opened_world charts (by_the_book cells rs (ended (pos (length (closing (ledger rs)))) (book_of s w g o)))
      go s w g true e rows copy =
          let all : s ++ w ≡ rs ++ closing (ledger rs) = ap (λ (l : List Row). s ++ l) e ∙ append-nil s ∙ rows refl in
          let none : (ledger (s ++ w)).active ≡ [] = ap (λ (l : List Row). (ledger l).active) all ∙ closed_none rs al in
          let begun : (ledger rs).begun ≡ (ledger (s ++ w)).begun = sym (ap (λ (l : List Row). (ledger l).begun) all ∙ begun-is) in
          let n = length-append s w in let k = ap length all in let c = length-append rs (closing (ledger rs)) in
          let count : length s + length w - length rs ≡ length (closing (ledger rs)) = omega arith in
          ap₂ (λ (n : ℕ) (t : Tables). ready rs (book_of s w g true) charts n t m.copy (replicate scope_limit (scope_of unused)))
          count (ap none_active begun ∙ sym (none-tables (ledger (s ++ w)) none)) ∙
          ap₂ (ready rs (book_of s w g true) charts (length (closing (ledger rs))) (tables_of (ledger (s ++ w))))
          (copy refl) (sym (none-scopes (ledger (s ++ w)) none))
      go s w g false e rows copy = refl
