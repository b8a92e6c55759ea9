-- Arrays of C for what a sound book comes to (`world_of` of crate `state`), number by number.
use Prim.Native.Nat.{ℕ, suc, ◌≤◌}
use native.Mathlib.Omega.{arith}
use mathlib.Core.Path.{◌≡◌, refl}
use mathlib.Core.Bool.{Bool, true, false}
use mathlib.Core.List.{List, [], ◌∷◌, map}
use lib.ListN.{length, replicate}
use lib.IntN.{ℤ}
use Rattle.book.specs.Lists.{pad_to}
use Rattle.book.specs.Limits.{charts_length, visit_limit}
use Rattle.book.specs.Power.{Book, Fuse, none, left, rows_of, ledger_of}
use Rattle.book.specs.LogBytes.{rows_bytes, log_bytes}
use Rattle.book.specs.Pages.{chart_bytes, page_after}
use Rattle.book.specs.Logs.{Sound}
use Rattle.book.proofs.Lists.{clash}
use Rattle.book.proofs.Logs.{allowed-rest}
use Rattle.book.proofs.LogBytes.{rows_long}
use Rattle.book.proofs.Pages.{chart-long}
use Rattle.book.proofs.Sound.{sound-inv, stored-allowed}
use Rattle.tables_model.specs.declared.Counts.{Counts}
use Rattle.tables_model.specs.Layout.{flat_length, visits_length}
use Rattle.tables_model.specs.Meaning.{scope_of, tables_of, scope_table}
use Rattle.tables_model.proofs.WithinLimits.{in-range}
use Rattle.state.specs.declared.ram.Phase.TheVariants.{Open}
use Rattle.state.specs.World.{world, fuse_of, state_of, table_of, copy_of, world_of, tail_length}
use Rattle.state.proofs.Lengths.{padded-length}
use Rattle.journal.specs.declared.Control.{Control}
use Rattle.journal.specs.Outcomes.{state_after}
use Rattle.state.proofs.Works.{sound-rows}
use Rattle.embed_model.specs.Arrays.{Arrays, arrays, head_length, world_in, RamLengths, Zero}
use Rattle.embed_model.specs.Head.{head_of}
use Rattle.embed_model.specs.EveryList.{Below, ArraysOfC, FuseOfC}
use Rattle.embed_model.proofs.Arrays.{control-back, counts-back, zero-cleared}
use Rattle.embed_model.proofs.Below.{below-same, below-pad, below_rows, below-log, below-charts}
use Rattle.embed_model.proofs.FlatTables.{flat_visits, visits-back, visits-long, visits-below, flat_scopes, scopes-back, scopes_long, scopes-below}
use Rattle.embed_model.proofs.TableRanges.{table_fits, table-size, active-small, active-size}

-- arrays that the book comes to, with these stored charts
pub record Encoded (cells : ℕ → ℤ) (b : Book) (charts : List ℕ) : Type 0 where
  pub arrays : Arrays
  pub is : world_in arrays ≡ world_of cells b charts
  pub long : RamLengths arrays
  pub typed : ArraysOfC arrays
  pub zero : b.is_open ≡ false → Zero arrays

-- ── An open book ──────────────────────────────────────────────────────────────────────────────────────────────────────

abbrev control : Book → Control
control b = record { phase = Open; fuse = fuse_of b.fuse; stored = length b.stored; waiting = length b.waiting }

abbrev counts : Book → Counts
counts b = let t = tables_of (ledger_of b) in record { begun = t.begun; count = t.count; used = t.used }

abbrev tail_of : Book → List ℕ
tail_of b = pad_to tail_length 0 (rows_bytes (suc (length b.stored)) b.waiting)

-- the arrays, with a flat form of the tables
abbrev of_open : (ℕ → ℤ) → Book → List ℕ → Arrays
of_open cells b charts =
    arrays (head_of (control b) (counts b)) (flat_visits (tables_of (ledger_of b)).active) (flat_scopes (scope_table (ledger_of b))) (tail_of b)
    (chart_bytes (page_after cells (rows_of b))) (log_bytes b.stored) charts

module _ (cells : ℕ → ℤ) (b : Book) (charts : List ℕ) (s : Sound b) (open' : b.is_open ≡ true) where
  begun-small : (counts b).begun ≤ visit_limit
  unfolding tables_of
  begun-small = (sound-inv b s).count

  open_is : world_in (of_open cells b charts) ≡ world_of cells b charts
  unfolding world_in world_of state_of table_of copy_of
  open_is =
      let h = begun-small in
      let c = control-back (control b) (counts b) in
      let t = counts-back (control b) (counts b) (omega arith) in
      let vs = visits-back (tables_of (ledger_of b)).active (active-size (rows_of b) s.allowed) in
      let es = scopes-back (scope_table (ledger_of b)) (table-size (rows_of b) s.allowed) (table_fits (rows_of b) s.allowed) in
      rw open' (λ i. world
      (state_after (c i) (record { begun = (t i).begun; active = vs i; count = (t i).count; used = (t i).used }) (tail_of b))
      (log_bytes b.stored) charts (chart_bytes (page_after cells (rows_of b))) (map scope_of (es i)))

  open-long : RamLengths (of_open cells b charts)
  open-long = record {
    head = refl;
    visits = visits-long (tables_of (ledger_of b)).active (active-size (rows_of b) s.allowed);
    scopes = scopes_long (scope_table (ledger_of b)) (table-size (rows_of b) s.allowed) (table_fits (rows_of b) s.allowed);
    tail =
        let k = rows_long (suc (length b.stored)) b.waiting in
        let m = s.tail in padded-length tail_length 0 (rows_bytes (suc (length b.stored)) b.waiting) (omega arith);
    copy = chart-long (page_after cells (rows_of b));
  }

  counters-typed : Below 4294967296 (length b.stored ∷ length b.waiting ∷ (counts b).begun ∷ (counts b).count ∷ (counts b).used ∷ [])
  unfolding Below
  counters-typed =
      let begun = begun-small in
      let rows = sound-rows b s in
      let range = in-range (rows_of b) s.allowed in omega arith

  head-typed : (f : Fuse) → FuseOfC f
      → Below 4294967296 (head_of (record { phase = Open; fuse = fuse_of f; stored = length b.stored; waiting = length b.waiting }) (counts b))
  unfolding Below
  head-typed none h = (omega arith, (omega arith, (omega arith, counters-typed)))
  head-typed (left n) h = (omega arith, (omega arith, (omega arith, counters-typed)))

  open-typed : FuseOfC b.fuse → Below 256 charts → ArraysOfC (of_open cells b charts)
  open-typed f c =
      let al = stored-allowed b s in
      record {
        head = head-typed b.fuse f;
        visits = visits-below (tables_of (ledger_of b)).active (active-size (rows_of b) s.allowed) (active-small (rows_of b) s.allowed);
        scopes = scopes-below (scope_table (ledger_of b)) (table-size (rows_of b) s.allowed) (table_fits (rows_of b) s.allowed);
        tail = below-pad 256 tail_length (rows_bytes (suc (length b.stored)) b.waiting) (omega arith)
            (below_rows (suc (length b.stored)) _ b.waiting (allowed-rest b.stored (rows_of b) (b.waiting, refl) s.allowed));
        copy = below-charts (page_after cells (rows_of b));
        log = below-log b.stored al;
        charts = c;
      }

-- ── A closed book ─────────────────────────────────────────────────────────────────────────────────────────────────────

abbrev pub zeros : List ℕ → List ℕ → Arrays
zeros log charts =
    arrays (replicate head_length 0) (replicate visits_length 0) (replicate flat_length 0) (replicate tail_length 0) (replicate charts_length 0) log charts

pub zeros-zero : (log charts : List ℕ) → Zero (zeros log charts)
zeros-zero log charts = record { head = refl; visits = refl; scopes = refl; tail = refl; copy = refl }

pub zeros-long : (log charts : List ℕ) → RamLengths (zeros log charts)
zeros-long log charts = record { head = refl; visits = refl; scopes = refl; tail = refl; copy = refl }

pub zero-typed : (x : Arrays) → Zero x → Below 256 x.log → Below 256 x.charts → ArraysOfC x
zero-typed x z l c = record {
  head = rw z.head (below-same 4294967296 head_length 0 (omega arith));
  visits = rw z.visits (below-same 65536 visits_length 0 (omega arith));
  scopes = rw z.scopes (below-same 65536 flat_length 0 (omega arith));
  tail = rw z.tail (below-same 256 tail_length 0 (omega arith));
  copy = rw z.copy (below-same 256 charts_length 0 (omega arith));
  log = l;
  charts = c;
}

closed_is : (cells : ℕ → ℤ) (b : Book) (charts : List ℕ) → b.is_open ≡ false → world_in (zeros (log_bytes b.stored) charts) ≡ world_of cells b charts
unfolding world_of state_of table_of copy_of
closed_is cells b charts o = rw o (zero-cleared (zeros (log_bytes b.stored) charts) (zeros-zero (log_bytes b.stored) charts))

-- ── Any book ──────────────────────────────────────────────────────────────────────────────────────────────────────────

pub encoded : (cells : ℕ → ℤ) (b : Book) (charts : List ℕ) → Sound b → FuseOfC b.fuse → Below 256 charts → Encoded cells b charts
encoded cells b charts s f c = go b.is_open refl
  where
    go : (t : Bool) → b.is_open ≡ t → Encoded cells b charts
    go true o = record {
      arrays = of_open cells b charts;
      is = open_is cells b charts s o;
      long = open-long cells b charts s o;
      typed = open-typed cells b charts s o f c;
      zero = λ e. clash b.is_open o e;
    }
    go false o = record {
      arrays = zeros (log_bytes b.stored) charts;
      is = closed_is cells b charts o;
      long = zeros-long (log_bytes b.stored) charts;
      typed = zero-typed (zeros (log_bytes b.stored) charts) (zeros-zero (log_bytes b.stored) charts) (below-log b.stored (stored-allowed b s)) c;
      zero = λ e. zeros-zero (log_bytes b.stored) charts;
    }
