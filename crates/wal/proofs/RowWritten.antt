-- What journal and copy stand for a book. A row written to them leaves what stands for the book with that row added, and a force what stands for the book
-- after a force.
use Prim.Native.Nat.{ℕ, suc}
use native.Mathlib.Omega.{arith}
use mathlib.Core.Path.{◌≡◌, refl, ap, ap₂, sym, ◌∙◌}
use mathlib.Core.Bool.{Bool, true, false, cond}
use mathlib.Core.List.{List, [], ◌∷◌, append-nil}
use lib.ListN.{length, length-append}
use lib.IntN.{ℤ}
use Rattle.book.specs.Rows.{Row, effect}
use Rattle.book.specs.Rules.{allowed}
use Rattle.book.specs.Power.{Book, Fuse, rows_of, ledger_of, force, add}
use Rattle.book.specs.Pages.{chart_bytes, page_after}
use Rattle.book.proofs.Lists.{clash}
use Rattle.book.proofs.Steps.{Shut, book_of, extends-add, extends-force}
use Rattle.charts.specs.Moves.{charts_moved}
use Rattle.charts.proofs.ChartMoves.{row-applied}
use Rattle.journal.specs.Journal.{Journal, forced, with_room, appended}
use Rattle.journal.specs.Meaning.{control_of, journal_of}
use Rattle.journal.proofs.Meaning.{forced-is, appended-is}
use Rattle.wal.specs.Writing.{Ram, row_count, is_running, written}
use Rattle.wal.proofs.Steady.{Steady, steady-few, was-open, row_room, add-rows}
use Rattle.wal.proofs.RowsLookedUp.{count-rows}

-- the journal is the book's; so is the copy while the book is open, and after that it does not matter
pub record Stands (cells : ℕ → ℤ) (b : Book) (m : Ram) : Type 0 where
  pub journal : m.journal ≡ journal_of b
  pub copy : b.is_open ≡ true → m.copy ≡ chart_bytes (page_after cells (rows_of b))

pub running : (b : Book) → is_running (journal_of b) ≡ b.is_open
unfolding journal_of control_of
running b = go b.stored b.waiting b.fuse b.is_open
  where
    go : (s w : List Row) (f : Fuse) (o : Bool) → is_running (journal_of (book_of s w f o)) ≡ o
    go s w f true = refl
    go s w f false = refl

-- a closed journal takes no row
appended-closed : (b : Book) (r : Row) → Shut b → b.is_open ≡ false → appended (journal_of b) r ≡ journal_of b
unfolding appended with_room journal_of control_of
appended-closed b r = go b.stored b.waiting b.fuse b.is_open
  where
    go : (s w : List Row) (f : Fuse) (o : Bool) → Shut (book_of s w f o) → o ≡ false → appended (journal_of (book_of s w f o)) r ≡ journal_of (book_of s w f o)
    go s w f true h e = clash true refl e
    go s [] f false h e = refl
    go s (x ∷ w) f false h e = let q = (h refl).0 in let z : ◌≡◌ {A = ℕ} 0 1 = cc in absurd (omega arith)

module _ (cells : ℕ → ℤ) (b : Book) (s : Steady b) (r : Row) (al : b.is_open ≡ true → allowed (ledger_of b) r ≡ true) where
  row_appended : appended (journal_of b) r ≡ journal_of (add b r)
  row_appended = go b.is_open refl
    where
      go : (t : Bool) → b.is_open ≡ t → appended (journal_of b) r ≡ journal_of (add b r)
      go true o = appended-is b r s.shut s.tail (row_room b s r (al o))
      go false o = appended-closed b r s.shut o ∙ ap journal_of (sym ((extends-add b r s.shut).stuck o))

  pub written_stands : (m : Ram) → Stands cells b m → Stands cells (add b r) (written m r)
  unfolding written
  written_stands m st = record { journal = journal; copy = copy }
    where
      journal : appended m.journal r ≡ journal_of (add b r)
      journal = ap (λ (j : Journal). appended j r) st.journal ∙ row_appended

      copy : (add b r).is_open ≡ true
          → cond (is_running (appended m.journal r)) (charts_moved m.copy (effect r) (row_count (appended m.journal r))) m.copy
          ≡ chart_bytes (page_after cells (rows_of (add b r)))
      copy o =
          let rows = add-rows b s r o in
          let runs : is_running (appended m.journal r) ≡ true = ap is_running journal ∙ running (add b r) ∙ o in
          let long = ap length rows ∙ length-append (rows_of b) (r ∷ []) in
          let next : length (rows_of (add b r)) ≡ suc (length (rows_of b)) = omega arith in
          let count : row_count (appended m.journal r) ≡ suc (length (rows_of b)) = ap row_count journal ∙ count-rows (add b r) ∙ next in
          ap (λ (t : Bool). cond t (charts_moved m.copy (effect r) (row_count (appended m.journal r))) m.copy) runs ∙
          ap₂ (λ (bs : List ℕ) (n : ℕ). charts_moved bs (effect r) n) (st.copy (was-open b (add b r) (r ∷ []) (extends-add b r s.shut) o)) count ∙
          row-applied cells (rows_of b) r ∙ ap (λ (rs : List Row). chart_bytes (page_after cells rs)) (sym rows)

-- ── A force ───────────────────────────────────────────────────────────────────────────────────────────────────────────

-- the rows stay the same, where the book is open after it
pub force-rows : (b : Book) → Steady b → (force b).is_open ≡ true → rows_of (force b) ≡ rows_of b
force-rows b s o = (extends-force b s.shut).rows o ∙ append-nil (rows_of b)

pub forced-stands : (cells : ℕ → ℤ) (b : Book) → Steady b → (m : Ram) → Stands cells b m
    → Stands cells (force b) (record { journal = forced m.journal; copy = m.copy })
forced-stands cells b s m st = record {
  journal = ap forced st.journal ∙ forced-is b s.shut s.tail (steady-few b s);
  copy = λ o.
      st.copy (was-open b (force b) [] (extends-force b s.shut) o) ∙ ap (λ (rs : List Row). chart_bytes (page_after cells rs)) (sym (force-rows b s o));
}
