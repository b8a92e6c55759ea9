-- Open changes fall: journal, copy and scope table after a take-back stand for the book with the undo rows of the open changes added, highest row first.
-- Of one visit for abort, of all for an opening.
use Prim.Native.Nat.{ℕ, zero, suc, ◌≤◌}
use native.Mathlib.Omega.{arith}
use mathlib.Core.Path.{◌≡◌, refl, ap, ap₂, sym, ◌∙◌, subst}
use mathlib.Core.Bool.{Bool, true, false, cond}
use mathlib.Core.List.{List, [], ◌∷◌, map}
use lib.ListN.{length, get_or, set}
use lib.IntN.{ℤ}
use Rattle.std.specs.Prelude.{Option, Some, None}
use Rattle.book.specs.Rows.{Row}
use Rattle.book.specs.Ledger.{Change, Ledger}
use Rattle.book.specs.Rules.{open_held, allowed}
use Rattle.book.specs.Scopes.{Scope, unused}
use Rattle.book.specs.Power.{Book, rows_of, ledger_of, add, add_all}
use Rattle.book.specs.Book.{undo_of}
use Rattle.book.proofs.InvariantKept.{inv-log}
use Rattle.book.proofs.Steps.{extends-all}
use Rattle.book.proofs.NextUndo.{undo-allowed, undo-next}
use Rattle.tables_model.specs.declared.Tables.{Tables}
use Rattle.tables_model.specs.declared.Whom.{Whom}
use Rattle.tables_model.specs.Visits.{with_undo}
use Rattle.tables_model.specs.Table.{covers, highest, lowered}
use Rattle.tables_model.specs.Meaning.{tables_of, scope_table}
use Rattle.tables_model.specs.Lookup.{before_last}
use Rattle.tables_model.proofs.Previous.{Looks}
use Rattle.tables_model.proofs.Undoing.{HighestOpen, nothing-open, highest-open, undo-tables}
use Rattle.journal.specs.Journal.{Journal}
use Rattle.wal.specs.Writing.{is_running, written}
use Rattle.wal.specs.Looking.{look_up}
use Rattle.wal.specs.TakeBack.{Taking, undo_row, fallen, next_to_fall, fall_next, fall_all}
use Rattle.wal.proofs.Steady.{Steady, steady-add, add-ledger}
use Rattle.wal.proofs.RowsLookedUp.{looked-up}
use Rattle.wal.proofs.RowWritten.{Stands, running, written_stands}

-- journal, copy and scope table, of which so many entries are in use, stand for the book
pub record TakingStands (cells : ℕ → ℤ) (n : ℕ) (b : Book) (t : Taking) : Type 0 where
  pub ram : Stands cells b t.ram
  pub used : b.is_open ≡ true → n ≡ (tables_of (ledger_of b)).used
  pub scopes : b.is_open ≡ true → t.scopes ≡ scope_table (ledger_of b)

-- an undo row marks its visit, and leaves the entries in use as many
undo-used : (t : Tables) (v : ℕ) → (with_undo t v).used ≡ t.used
unfolding with_undo
undo-used t v = refl

module _ (cells : ℕ → ℤ) (w : Whom) (used : ℕ) where
  -- ── One change falls ────────────────────────────────────────────────────────────────────────────────────────────────

  module _ (b : Book) (s : Steady b) (o : b.is_open ≡ true) (x : Change) (xs : List Change) (e : open_held (covers w) (ledger_of b) ≡ x ∷ xs)
      (t : Taking) (st : TakingStands cells used b t) where
    found : HighestOpen (rows_of b) w x
    found = highest-open (rows_of b) w s.allowed x xs e

    next-is : next_to_fall w used t ≡ Some found.at
    unfolding next_to_fall
    next-is =
        ap (λ (r : Bool). cond r (highest w used t.scopes) None) (ap is_running st.ram.journal ∙ running b ∙ o) ∙
        ap₂ (highest w) (st.used o) (st.scopes o) ∙
        found.is

    entry-is : get_or t.scopes found.at unused ≡ get_or (scope_table (ledger_of b)) found.at unused
    entry-is = ap (λ (ss : List Scope). get_or ss found.at unused) (st.scopes o)

    looks : Looks (look_up t.ram.journal) (rows_of b)
    looks n lo hi = ap (λ (j : Journal). look_up j n) st.ram.journal ∙ looked-up b s n lo hi

    -- the row that falls
    row_is : undo_row (get_or t.scopes found.at unused).holder (get_or t.scopes found.at unused).last
        (look_up t.ram.journal (get_or t.scopes found.at unused).last)
        ≡ undo_of x
    row_is =
        let holder : (get_or t.scopes found.at unused).holder ≡ x.holder = ap (λ (a : Scope). a.holder) entry-is ∙ found.holder in
        let last : (get_or t.scopes found.at unused).last ≡ x.row = ap (λ (a : Scope). a.last) entry-is ∙ found.last in
        ap₂ (λ (h n : ℕ). undo_row h n (look_up t.ram.journal n)) holder last ∙
        ap (undo_row x.holder x.row) (looks x.row found.low found.high ∙ found.row)

    undo-ok : allowed (ledger_of b) (undo_of x) ≡ true
    undo-ok = undo-allowed (covers w) (ledger_of b) x xs (inv-log (rows_of b) s.allowed) e

    fallen-stands : TakingStands cells used (add b (undo_of x)) (fallen found.at t)
    unfolding fallen
    fallen-stands = record {
      ram = subst (λ (r : Row). Stands cells (add b (undo_of x)) (written t.ram r)) (sym row_is)
          (written_stands cells b s (undo_of x) (λ q. undo-ok) t.ram st.ram);
      used = λ q.
          st.used o ∙ sym (undo-used (tables_of (ledger_of b)) x.holder) ∙
          ap (λ (a : Tables). a.used) (undo-tables (rows_of b) w s.allowed x xs e) ∙
          ap (λ (l : Ledger). (tables_of l).used) (sym (add-ledger b s (undo_of x) q));
      scopes = λ q.
          ap (λ (ss : List Scope). set ss found.at (lowered (before_last (look_up t.ram.journal) (get_or ss found.at unused)) (get_or ss found.at unused)))
          (st.scopes o) ∙
          found.undone (look_up t.ram.journal) looks ∙
          ap scope_table (sym (add-ledger b s (undo_of x) q));
    }

    fallen-left : (add b (undo_of x)).is_open ≡ true → open_held (covers w) (ledger_of (add b (undo_of x))) ≡ xs
    fallen-left q =
        ap (open_held (covers w)) (add-ledger b s (undo_of x) q) ∙ undo-next (covers w) (ledger_of b) x xs (inv-log (rows_of b) s.allowed) e

  -- ── All of them ─────────────────────────────────────────────────────────────────────────────────────────────────────

  -- nothing falls where nothing is open
  none-next : (b : Book) → Steady b → b.is_open ≡ true → open_held (covers w) (ledger_of b) ≡ [] → (t : Taking) → TakingStands cells used b t
      → next_to_fall w used t ≡ None
  unfolding next_to_fall
  none-next b s o e t st =
      ap (λ (r : Bool). cond r (highest w used t.scopes) None) (ap is_running st.ram.journal ∙ running b ∙ o) ∙
      ap₂ (highest w) (st.used o) (st.scopes o) ∙
      nothing-open (rows_of b) w s.allowed e

  -- nor once the journal is closed
  closed-stays : (m : ℕ) (t : Taking) → is_running t.ram.journal ≡ false → fall_all m w used t ≡ t
  unfolding fall_all next_to_fall
  closed-stays zero t e = refl
  closed-stays (suc m) t e = ap (λ (r : Bool). fall_next (cond r (highest w used t.scopes) None) t (fall_all m w used)) e

  closed-falls : (m : ℕ) (b : Book) → Steady b → b.is_open ≡ false → (rs : List Row) (t : Taking) → TakingStands cells used b t
      → TakingStands cells used (add_all b rs) (fall_all m w used t)
  closed-falls m b s o rs t st =
      subst (λ (c : Book). TakingStands cells used c (fall_all m w used t)) (sym ((extends-all b rs s.shut).stuck o))
      (subst (TakingStands cells used b) (sym (closed-stays m t (ap is_running st.ram.journal ∙ running b ∙ o))) st)

  pub changes-fall : (m : ℕ) (b : Book) → Steady b → (xs : List Change) → (b.is_open ≡ true → open_held (covers w) (ledger_of b) ≡ xs) → length xs ≤ m
      → (t : Taking) → TakingStands cells used b t → TakingStands cells used (add_all b (map undo_of xs)) (fall_all m w used t)
  unfolding fall_all
  changes-fall zero b s [] e h t st = st
  changes-fall zero b s (x ∷ xs) e h t st = absurd (omega arith)
  changes-fall (suc m) b s [] e h t st = go b.is_open refl
    where
      go : (r : Bool) → b.is_open ≡ r → TakingStands cells used b (fall_all (suc m) w used t)
      go true o = subst (TakingStands cells used b) (sym (ap (λ (f : Option ℕ). fall_next f t (fall_all m w used)) (none-next b s o (e o) t st))) st
      go false o = closed-falls (suc m) b s o [] t st
  changes-fall (suc m) b s (x ∷ xs) e h t st = go b.is_open refl (changes-fall m (add b (undo_of x)))
    where
      go : (r : Bool) → b.is_open ≡ r
          → (Steady (add b (undo_of x)) → (ys : List Change) → ((add b (undo_of x)).is_open ≡ true → open_held (covers w) (ledger_of (add b (undo_of x))) ≡ ys)
          → length ys ≤ m → (u : Taking) → TakingStands cells used (add b (undo_of x)) u
          → TakingStands cells used (add_all (add b (undo_of x)) (map undo_of ys)) (fall_all m w used u))
          → TakingStands cells used (add_all b (map undo_of (x ∷ xs))) (fall_all (suc m) w used t)
      go true o rest =
          let at = (found b s o x xs (e o) t st).at in
          subst (TakingStands cells used (add_all b (map undo_of (x ∷ xs))))
          (sym (ap (λ (f : Option ℕ). fall_next f t (fall_all m w used)) (next-is b s o x xs (e o) t st)))
          (rest (steady-add b s (undo_of x) (λ q. undo-ok b s o x xs (e o) t st)) xs (fallen-left b s o x xs (e o) t st) (omega arith)
          (fallen at t) (fallen-stands b s o x xs (e o) t st))
      go false o rest = closed-falls (suc m) b s o (map undo_of (x ∷ xs)) t st
