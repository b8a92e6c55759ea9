-- Abort leaves what stands for the book after it. The visit's changes fall by the scope table; the table of active visits is not told of the undo rows,
-- since the only visit that they bear ends with the abort row.
use Prim.Native.Nat.{ℕ}
use native.Mathlib.Omega.{arith}
use mathlib.Core.Path.{◌≡◌, refl, ap, ap₂, sym, ◌∙◌, subst}
use mathlib.Core.Bool.{Bool, true, not, ◌&&◌}
use mathlib.Core.List.{List, [], ◌∷◌, ◌++◌, map, reverse}
use lib.ListN.{length}
use lib.IntN.{ℤ}
use borrow.Author.Tests.{not-false}
use Rattle.book.specs.Lists.{foldl, pad_to, without}
use Rattle.book.specs.Limits.{active_limit}
use Rattle.book.specs.Rows.{Row}
use Rattle.book.specs.Ledger.{Ledger, ledger, after}
use Rattle.book.specs.Rules.{is_active, open_held, just, allowed, all_allowed}
use Rattle.book.specs.Scopes.{Scope}
use Rattle.book.specs.Calls.{Call}
use Rattle.book.specs.Power.{Book, rows_of, ledger_of, add, add_all}
use Rattle.book.specs.Book.{undo_of, take_back, refusal, adds, through}
use Rattle.book.specs.Logs.{Sound}
use Rattle.book.specs.Pages.{row_at}
use Rattle.book.proofs.Lists.{and_l, and_r, eqb-sym, foldl-append, map_same, member-in, stays}
use Rattle.book.proofs.Logs.{allowed-append, ledger-append}
use Rattle.book.proofs.Invariant.{Inv}
use Rattle.book.proofs.Steps.{extends-add, extends-all}
use Rattle.book.proofs.Adds.{passes}
use Rattle.book.proofs.Sound.{sound-inv}
use Rattle.book.proofs.TakeBack.{taken_back, take_back_lem, abort-rows, abort-leaves}
use Rattle.tables_model.specs.declared.Active.{Active}
use Rattle.tables_model.specs.declared.Tables.{Tables}
use Rattle.tables_model.specs.declared.Whom.TheVariants.{One}
use Rattle.tables_model.specs.Visits.{with_ended}
use Rattle.tables_model.specs.Meaning.{vacant, active_of, tables_of, scope_table}
use Rattle.tables_model.specs.Table.{Scopes, scopes_ended}
use Rattle.tables_model.specs.Rows.{Index, step_by, after_end}
use Rattle.tables_model.specs.Lookup.{index_of}
use Rattle.tables_model.proofs.ActiveVisits.{visits_of, tables_with, tables-with, ended-visits}
use Rattle.tables_model.proofs.Undoing.{used-is}
use Rattle.tables_model.proofs.Step.{step_by_lem}
use Rattle.journal.specs.Meaning.{journal_of}
use Rattle.wal.specs.Writing.{row_count}
use Rattle.wal.specs.TakeBack.{Taking, fall_all}
use Rattle.wal.proofs.Steady.{Steady, steady-sound, steady-all, was-open, add-ledger}
use Rattle.wal.proofs.RowsLookedUp.{count-rows}
use Rattle.wal.proofs.RowWritten.{written_stands}
use Rattle.wal.proofs.FewChanges.{open-few}
use Rattle.wal.proofs.ChangesFall.{TakingStands, changes-fall}
use Rattle.calls_model.specs.Acts.{acted}
use Rattle.calls_model.proofs.Cores.{ram_of, core_for, ram-stands, Reaches, reaches}

-- the active visits after a take-back of one visit: the others, and none of them bears an undo row of it
ended-tables : (l : Ledger) (v : ℕ) → Inv l → with_ended (tables_of l) v (tables_of (taken_back (just v) l)).used ≡ tables_of (taken_back (just v) l)
ended-tables l v i =
    let t = take_back_lem (just v) l i in
    let visits : map (active_of l) (without v l.active) ≡ visits_of (taken_back (just v) l) =
    map_same (active_of l) (active_of (taken_back (just v) l)) (without v l.active)
    (λ u m. ap (λ (b : Bool). record { visit = record { 0 = u }; bears = b }) (sym (t.bears u (eqb-sym u v ∙ (stays u v l.active (member-in u _ m)).0)))) ∙
    ap (map (active_of (taken_back (just v) l))) (sym (abort-leaves l v i)) in
    ended-visits l v (tables_of (taken_back (just v) l)).used ∙
    ap₂ (λ (n : ℕ) (vs : List Active). record {
      begun = n;
      active = pad_to active_limit vacant (reverse vs);
      count = length vs;
      used = (tables_of (taken_back (just v) l)).used;
    }) (sym t.begun) visits ∙
    ap (tables_with (taken_back (just v) l) (visits_of (taken_back (just v) l))) (used-is (taken_back (just v) l)) ∙
    sym (tables-with (taken_back (just v) l))

-- the undo rows of an abort, and the book with them
abbrev undos_of : Book → ℕ → List Row
undos_of b v = map undo_of (open_held (just v) (ledger_of b))

abbrev fallen_book : Book → ℕ → Book
fallen_book b v = add_all b (undos_of b v)

-- what falls, from what stands for the book
abbrev taking_for : (ℕ → ℤ) → Book → Taking
taking_for cells b = record { ram = ram_of cells b; scopes = scope_table (ledger_of b) }

abbrev fallen_taking : (ℕ → ℤ) → Book → ℕ → Taking
fallen_taking cells b v = fall_all (row_count (journal_of b)) (One (record { 0 = v })) (tables_of (ledger_of b)).used (taking_for cells b)

module _ (cells : ℕ → ℤ) (b : Book) (charts : List ℕ) (s : Sound b) (v : ℕ) (e : refusal b (Call.abort v) ≡ 0) where
  rows_are : take_back (just v) (ledger_of b) ≡ undos_of b v ++ (Row.abort v ∷ [])
  unfolding refusal
  rows_are =
      abort-rows (ledger_of b) v (sound-inv b s) (not-false (is_active (ledger_of b) v) (passes (not (is_active (ledger_of b) v)) 8 _ e).0)

  both-allowed : (all_allowed (ledger_of b) (undos_of b v) && all_allowed (foldl after (ledger_of b) (undos_of b v)) (Row.abort v ∷ [])) ≡ true
  both-allowed =
      sym (allowed-append (ledger_of b) (undos_of b v) (Row.abort v ∷ [])) ∙
      (rw rows_are at (take_back_lem (just v) (ledger_of b) (sound-inv b s)).good)

  -- ── The changes fall ────────────────────────────────────────────────────────────────────────────────────────────────

  fallen-steady : Steady (fallen_book b v)
  fallen-steady = steady-all b (steady-sound b s) (undos_of b v) (and_l (all_allowed (ledger_of b) (undos_of b v)) _ both-allowed)

  fallen-ledger : (fallen_book b v).is_open ≡ true → ledger_of (fallen_book b v) ≡ foldl after (ledger_of b) (undos_of b v)
  fallen-ledger q = ap ledger ((extends-all b (undos_of b v) s.shut).rows q) ∙ ledger-append (rows_of b) (undos_of b v)

  fallen-stands : TakingStands cells (tables_of (ledger_of b)).used (fallen_book b v) (fallen_taking cells b v)
  fallen-stands =
      let few = open-few (just v) (rows_of b) in
      let count = count-rows b in
      changes-fall cells (One (record { 0 = v })) (tables_of (ledger_of b)).used (row_count (journal_of b)) b (steady-sound b s)
      (open_held (just v) (ledger_of b)) (λ q. refl) (omega arith) (taking_for cells b)
      (record { ram = ram-stands cells b; used = λ q. refl; scopes = λ q. refl })

  -- ── The visit ends ──────────────────────────────────────────────────────────────────────────────────────────────────

  abort-allowed : (fallen_book b v).is_open ≡ true → allowed (ledger_of (fallen_book b v)) (Row.abort v) ≡ true
  abort-allowed q =
      ap (λ (l : Ledger). allowed l (Row.abort v)) (fallen-ledger q) ∙
      and_l (allowed (foldl after (ledger_of b) (undos_of b v)) (Row.abort v)) _ (and_r (all_allowed (ledger_of b) (undos_of b v)) _ both-allowed)

  through-is : through b (Call.abort v) ≡ add (fallen_book b v) (Row.abort v)
  unfolding through adds
  through-is = ap (add_all b) rows_are ∙ foldl-append add b (undos_of b v) (Row.abort v ∷ [])

  ledger-is : (fallen_book b v).is_open ≡ true → after (ledger_of (fallen_book b v)) (Row.abort v) ≡ taken_back (just v) (ledger_of b)
  ledger-is q =
      ap (λ (l : Ledger). after l (Row.abort v)) (fallen-ledger q) ∙
      sym (foldl-append after (ledger_of b) (undos_of b v) (Row.abort v ∷ [])) ∙ ap (foldl after (ledger_of b)) (sym rows_are)

  -- the scope table after the visit's end, and its entries in use
  scopes-are : (fallen_book b v).is_open ≡ true
      → scopes_ended (tables_of (ledger_of b)).used v (fallen_taking cells b v).scopes
      ≡ record { used = (tables_of (taken_back (just v) (ledger_of b))).used; entries = scope_table (taken_back (just v) (ledger_of b)) }
  unfolding step_by with_ended
  scopes-are q =
      let steps : after_end (index_of (ledger_of (fallen_book b v))) v ≡ index_of (taken_back (just v) (ledger_of b)) =
      step_by_lem (rows_of (fallen_book b v)) fallen-steady.allowed (row_at (rows_of (fallen_book b v))) (λ n lo hi. refl) (Row.abort v) (abort-allowed q) ∙
      ap index_of (ledger-is q) in
      ap₂ (λ (n : ℕ) (ss : List Scope). scopes_ended n v ss) (fallen-stands.used q) (fallen-stands.scopes q) ∙
      ap (λ (x : Index). record { used = x.tables.used; entries = x.scopes }) steps

  pub acted-abort : Reaches cells (through b (Call.abort v)) charts charts (acted (core_for cells b charts) (Call.abort v))
  unfolding acted
  acted-abort =
      subst (λ (c : Book). Reaches cells c charts charts (acted (core_for cells b charts) (Call.abort v))) (sym through-is)
      (reaches cells (add (fallen_book b v) (Row.abort v)) charts (acted (core_for cells b charts) (Call.abort v))
      (written_stands cells (fallen_book b v) fallen-steady (Row.abort v) abort-allowed (fallen_taking cells b v).ram fallen-stands.ram) refl tables)
    where
      tables : (add (fallen_book b v) (Row.abort v)).is_open ≡ true
          → ◌≡◌ {A = Index} (after_end (record { tables = tables_of (ledger_of b); scopes = (fallen_taking cells b v).scopes }) v)
          (index_of (ledger_of (add (fallen_book b v) (Row.abort v))))
      tables q =
          let was = was-open (fallen_book b v) (add (fallen_book b v) (Row.abort v)) (Row.abort v ∷ [])
          (extends-add (fallen_book b v) (Row.abort v) fallen-steady.shut) q in
          ap (λ (x : Scopes). record { tables = with_ended (tables_of (ledger_of b)) v x.used; scopes = x.entries }) (scopes-are was) ∙
          ap (λ (t : Tables). record { tables = t; scopes = scope_table (taken_back (just v) (ledger_of b)) }) (ended-tables (ledger_of b) v (sound-inv b s)) ∙
          ap index_of (sym (add-ledger (fallen_book b v) fallen-steady (Row.abort v) q ∙ ledger-is was))
