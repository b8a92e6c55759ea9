-- What a call works on where the values it was handed stand for an open book (`core_for`), what it leaves (`Reaches`), and what is settled from that:
-- the values that stand for the book after it.
use Prim.Native.Nat.{ℕ}
use mathlib.Core.Path.{◌≡◌, refl, ap, ap₂, ◌∙◌}
use mathlib.Core.Bool.{Bool, true, false, cond}
use mathlib.Core.List.{List}
use lib.ListN.{length}
use lib.IntN.{ℤ, pos}
use Rattle.book.specs.Rows.{Row}
use Rattle.book.specs.Scopes.{Scope}
use Rattle.book.specs.Power.{Book, Fuse, rows_of, ledger_of}
use Rattle.book.specs.Book.{answer, refused, ended}
use Rattle.book.specs.Logs.{Sound}
use Rattle.book.specs.LogBytes.{log_bytes}
use Rattle.book.specs.Pages.{chart_bytes, page_after}
use Rattle.book.proofs.Lists.{clash}
use Rattle.book.proofs.Steps.{book_of}
use Rattle.tables_model.specs.Rows.{Index}
use Rattle.tables_model.specs.Meaning.{tables_of, scope_table}
use Rattle.tables_model.specs.Lookup.{index_of}
use Rattle.tables_model.proofs.EntriesBack.{entries-back}
use Rattle.state.specs.World.{World, state_of, table_of, copy_of, world_of, cleared}
use Rattle.state.specs.CallContracts.{Answered, answered_with}
use Rattle.book.specs.Writes.{Writes}
use Rattle.journal.specs.Journal.{Journal}
use Rattle.journal.specs.Meaning.{control_of, journal_of}
use Rattle.wal.specs.Writing.{Ram, is_running}
use Rattle.wal.proofs.RowWritten.{Stands, running}
use Rattle.calls_model.specs.Acts.{Core}
use Rattle.calls_model.specs.Perform.{core_of, world_of_core, settled}

abbrev pub ram_of : (ℕ → ℤ) → Book → Ram
ram_of cells b = record { journal = journal_of b; copy = chart_bytes (page_after cells (rows_of b)) }

-- what a call works on that was handed what stands for the open book
abbrev pub core_for : (ℕ → ℤ) → Book → List ℕ → Core
core_for cells b charts = record { ram = ram_of cells b; charts = charts; tables = tables_of (ledger_of b); scopes = scope_table (ledger_of b) }

pub ram-stands : (cells : ℕ → ℤ) (b : Book) → Stands cells b (ram_of cells b)
ram-stands cells b = record { journal = refl; copy = λ o. refl }

-- ── Worlds and cores ──────────────────────────────────────────────────────────────────────────────────────────────────

module _ (cells : ℕ → ℤ) (charts : List ℕ) where
  pub core-of : (b : Book) → b.is_open ≡ true → core_of (world_of cells b charts) ≡ core_for cells b charts
  unfolding core_of world_of state_of table_of copy_of journal_of control_of
  core-of b = go b.stored b.waiting b.fuse b.is_open
    where
      go : (s w : List Row) (f : Fuse) (t : Bool) → t ≡ true → core_of (world_of cells (book_of s w f t) charts) ≡ core_for cells (book_of s w f t) charts
      go s w f true o =
          ap (λ (ss : List Scope). record {
            ram = ram_of cells (book_of s w f true);
            charts = charts;
            tables = tables_of (ledger_of (book_of s w f true));
            scopes = ss;
          }) (entries-back (scope_table (ledger_of (book_of s w f true))))
      go s w f false o = clash false o refl

  pub world-in : (b : Book) → b.is_open ≡ true → world_of_core (core_for cells b charts) ≡ world_of cells b charts
  unfolding world_of_core world_of state_of table_of copy_of journal_of control_of
  world-in b = go b.stored b.waiting b.fuse b.is_open
    where
      go : (s w : List Row) (f : Fuse) (t : Bool) → t ≡ true → world_of_core (core_for cells (book_of s w f t) charts) ≡ world_of cells (book_of s w f t) charts
      go s w f true o = refl
      go s w f false o = clash false o refl

  pub world-cleared : (b : Book) → b.is_open ≡ false → cleared (log_bytes b.stored) charts ≡ world_of cells b charts
  unfolding world_of state_of table_of copy_of
  world-cleared b = go b.stored b.waiting b.fuse b.is_open
    where
      go : (s w : List Row) (f : Fuse) (t : Bool) → t ≡ false → cleared (log_bytes s) charts ≡ world_of cells (book_of s w f t) charts
      go s w f true o = clash true refl o
      go s w f false o = refl

-- ── What an accepted call leaves ──────────────────────────────────────────────────────────────────────────────────────

-- the book after the call, the charts that it was handed, and those that it leaves where the power held
pub record Reaches (cells : ℕ → ℤ) (b : Book) (given done : List ℕ) (y : Core) : Type 0 where
  pub runs : is_running y.ram.journal ≡ b.is_open
  pub log : y.ram.journal.log ≡ log_bytes b.stored
  pub stored : y.ram.journal.control.stored ≡ length b.stored
  pub opened : b.is_open ≡ true → y ≡ core_for cells b done
  pub cut : b.is_open ≡ false → y.charts ≡ given

-- what writes no page
pub reaches : (cells : ℕ → ℤ) (b : Book) (charts : List ℕ) (y : Core) → Stands cells b y.ram → y.charts ≡ charts
    → (b.is_open ≡ true → ◌≡◌ {A = Index} (record { tables = y.tables; scopes = y.scopes }) (index_of (ledger_of b)))
    → Reaches cells b charts charts y
unfolding journal_of control_of
reaches cells b charts y st same tables = record {
  runs = ap is_running st.journal ∙ running b;
  log = ap (λ (j : Journal). j.log) st.journal;
  stored = ap (λ (j : Journal). j.control.stored) st.journal;
  opened = λ o.
      ap₂ (λ (j : Journal) (bs : List ℕ). record { ram = record { journal = j; copy = bs }; charts = y.charts; tables = y.tables; scopes = y.scopes })
      st.journal (st.copy o) ∙
      ap₂ (λ (cs : List ℕ) (x : Index). record { ram = ram_of cells b; charts = cs; tables = x.tables; scopes = x.scopes }) same (tables o);
  cut = λ o. same;
}

-- what a call gives back and leaves, by the book after it
abbrev pub settled_for : (ℕ → ℤ) → Book → List ℕ → List ℕ → ℤ → Writes → Answered
settled_for cells b given done v u = record { answer = (ended v b).answer; world = world_of cells b (cond b.is_open done given); writes = u }

pub settled_is : (cells : ℕ → ℤ) (b : Book) → Sound b → (given done : List ℕ) (y : Core) (v z : ℤ) (u : Writes) → Reaches cells b given done y
    → (b.is_open ≡ true → v ≡ z) → settled y v u ≡ settled_for cells b given done z u
unfolding settled
settled_is cells b s given done y v z u r value =
    ap (λ (t : Bool). cond t (answered_with 0 v (world_of_core y) u) (answered_with 5 (pos 0) (cleared y.ram.journal.log y.charts) u)) r.runs ∙
    go b.is_open refl
  where
    go : (t : Bool) → b.is_open ≡ t
        → cond t (answered_with 0 v (world_of_core y) u) (answered_with 5 (pos 0) (cleared y.ram.journal.log y.charts) u)
        ≡ record { answer = (cond t (record { answer = answer 0 z; book = b }) (refused 5 b)).answer; world = world_of cells b (cond t done given); writes = u }
    go true o = ap₂ (λ (x : ℤ) (w : World). answered_with 0 x w u) (value o) (ap world_of_core (r.opened o) ∙ world-in cells done b o)
    go false o =
        ap (λ (w : World). answered_with 5 (pos 0) w u)
        (ap₂ (λ (log charts : List ℕ). cleared log charts) r.log (r.cut o) ∙ world-cleared cells given b o)
