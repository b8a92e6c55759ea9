-- Begin, change, both hand-overs and commit leave what stands for the book after them.
use Prim.Native.Nat.{ℕ, suc}
use mathlib.Core.Path.{◌≡◌, refl, ap, sym, subst, ◌∙◌}
use mathlib.Core.Bool.{true}
use mathlib.Core.List.{List, [], ◌∷◌}
use lib.ListN.{length}
use lib.IntN.{ℤ}
use Rattle.book.specs.Lists.{foldl}
use Rattle.book.specs.Rows.{Row}
use Rattle.book.specs.Ledger.{ledger, after}
use Rattle.book.specs.Rules.{allowed}
use Rattle.book.specs.Calls.{Call, Typed}
use Rattle.book.specs.Power.{Book, rows_of, ledger_of, force, add}
use Rattle.book.specs.Book.{refusal, adds, through}
use Rattle.book.specs.Logs.{Sound}
use Rattle.book.specs.Pages.{row_at}
use Rattle.book.proofs.Lists.{and_l}
use Rattle.book.proofs.Logs.{ledger-append}
use Rattle.book.proofs.Steps.{extends-add, extends-through}
use Rattle.book.proofs.Adds.{fine-adds}
use Rattle.book.proofs.Sound.{sound-inv}
use Rattle.tables_model.specs.Rows.{Index, step_by, after_change}
use Rattle.tables_model.specs.Meaning.{tables_of}
use Rattle.tables_model.specs.Lookup.{index_of, before_undone}
use Rattle.tables_model.proofs.Step.{step_by_lem}
use Rattle.wal.specs.Writing.{written}
use Rattle.wal.proofs.Steady.{steady-sound, steady-add}
use Rattle.wal.proofs.RowsLookedUp.{count-rows}
use Rattle.wal.proofs.RowWritten.{Stands, written_stands, forced-stands}
use Rattle.calls_model.specs.Acts.{Core, forced_ram, acted}
use Rattle.calls_model.proofs.Cores.{ram_of, core_for, ram-stands, Reaches, reaches}

-- the rows of the book after an accepted call that ends open
pub through-rows : (b : Book) (k : Call) → Sound b → (through b k).is_open ≡ true → ledger_of (through b k) ≡ foldl after (ledger_of b) (adds b k)
through-rows b k s o = ap ledger ((extends-through b k s.shut).rows o) ∙ ledger-append (rows_of b) (adds b k)

module _ (cells : ℕ → ℤ) (b : Book) (charts : List ℕ) (s : Sound b) (o : b.is_open ≡ true) where
  -- the tables after an allowed row that is no undo row
  pub index-after : (r : Row) → allowed (ledger_of b) r ≡ true → before_undone (row_at (rows_of b)) (index_of (ledger_of b)) r ≡ 0
      → step_by (index_of (ledger_of b)) (suc (length (rows_of b))) 0 r ≡ index_of (after (ledger_of b) r)
  index-after r al e =
      ap (λ (n : ℕ). step_by (index_of (ledger_of b)) (suc (length (rows_of b))) n r) (sym e) ∙
      step_by_lem (rows_of b) s.allowed (row_at (rows_of b)) (λ n lo hi. refl) r al

  -- the row that an accepted call adds is allowed
  pub row-allowed : (k : Call) (r : Row) → Typed k → refusal b k ≡ 0 → adds b k ≡ r ∷ [] → allowed (ledger_of b) r ≡ true
  row-allowed k r t e is = and_l (allowed (ledger_of b) r) _ (rw is at (fine-adds b k (sound-inv b s) (s.whole o) t e).good)

  row-stands : (r : Row) → allowed (ledger_of b) r ≡ true → Stands cells (add b r) (written (ram_of cells b) r)
  row-stands r al = written_stands cells b (steady-sound b s) r (λ q. al) (ram_of cells b) (ram-stands cells b)

  -- where this row is written and the tables are those after it, that stands for the book with the row
  row-reaches : (r : Row) (x : Core) → allowed (ledger_of b) r ≡ true → before_undone (row_at (rows_of b)) (index_of (ledger_of b)) r ≡ 0
      → x.ram ≡ written (ram_of cells b) r → x.charts ≡ charts
      → ◌≡◌ {A = Index} (record { tables = x.tables; scopes = x.scopes }) (step_by (index_of (ledger_of b)) (suc (length (rows_of b))) 0 r)
      → Reaches cells (add b r) charts charts x
  row-reaches r x al none ram same tables =
      reaches cells (add b r) charts x (subst (Stands cells (add b r)) (sym ram) (row-stands r al)) same
      (λ q. tables ∙ index-after r al none ∙ ap index_of (sym (ap ledger ((extends-add b r s.shut).rows q) ∙ ledger-append (rows_of b) (r ∷ []))))

  -- 01: a commit forces after its row; 02, L4: so does a begin
  forced-row-stands : (r : Row) → allowed (ledger_of b) r ≡ true → Stands cells (force (add b r)) (forced_ram (written (ram_of cells b) r))
  forced-row-stands r al = forced-stands cells (add b r) (steady-add b (steady-sound b s) r (λ q. al)) (written (ram_of cells b) r) (row-stands r al)

  pub acted-begin : refusal b Call.begin ≡ 0 → Reaches cells (through b Call.begin) charts charts (acted (core_for cells b charts) Call.begin)
  unfolding acted through adds step_by tables_of
  acted-begin e =
      let r : Row = Row.begin (suc (ledger_of b).begun) in
      let al = row-allowed Call.begin r tt e refl in
      reaches cells (force (add b r)) charts (acted (core_for cells b charts) Call.begin)
      (forced-row-stands r al) refl
      (λ q. index-after r al refl ∙ ap index_of (sym (through-rows b Call.begin s q)))

  pub acted-change : (v c : ℕ) (a : ℤ) → Typed (Call.change v c a) → refusal b (Call.change v c a) ≡ 0
      → Reaches cells (through b (Call.change v c a)) charts charts (acted (core_for cells b charts) (Call.change v c a))
  unfolding acted through adds step_by
  acted-change v c a t e =
      row-reaches (Row.change v c a) _ (row-allowed (Call.change v c a) _ t e refl) refl refl refl
      (ap (λ (n : ℕ). after_change (index_of (ledger_of b)) (suc n) v c) (count-rows b))

  pub acted-hand_over : (g r c : ℕ) → refusal b (Call.hand_over g r c) ≡ 0
      → Reaches cells (through b (Call.hand_over g r c)) charts charts (acted (core_for cells b charts) (Call.hand_over g r c))
  unfolding acted through adds step_by
  acted-hand_over g r c e = row-reaches (Row.hand_over g r c) _ (row-allowed (Call.hand_over g r c) _ tt e refl) refl refl refl refl

  pub acted-hand_over_all : (g r : ℕ) → refusal b (Call.hand_over_all g r) ≡ 0
      → Reaches cells (through b (Call.hand_over_all g r)) charts charts (acted (core_for cells b charts) (Call.hand_over_all g r))
  unfolding acted through adds step_by
  acted-hand_over_all g r e = row-reaches (Row.hand_over_all g r) _ (row-allowed (Call.hand_over_all g r) _ tt e refl) refl refl refl refl

  pub acted-commit : (v : ℕ) → refusal b (Call.commit v) ≡ 0
      → Reaches cells (through b (Call.commit v)) charts charts (acted (core_for cells b charts) (Call.commit v))
  unfolding acted through adds step_by
  acted-commit v e =
      let r : Row = Row.commit v in
      let al = row-allowed (Call.commit v) r tt e refl in
      reaches cells (force (add b r)) charts (acted (core_for cells b charts) (Call.commit v))
      (forced-row-stands r al) refl
      (λ q. index-after r al refl ∙ ap index_of (sym (through-rows b (Call.commit v) s q)))
