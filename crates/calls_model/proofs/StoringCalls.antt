-- Force and flush leave what stands for the book after them. A flush stores the waiting rows up to the page's mark in the copy, and then the page.
use Prim.Native.Nat.{ℕ, zero, suc, ◌-◌, ◌*◌, ◌<◌}
use native.Mathlib.Omega.{arith}
use mathlib.Core.Path.{◌≡◌, refl, ap, ap₂, sym, ◌∙◌, subst}
use mathlib.Core.Bool.{Bool, true, false, cond, not, ◌||◌}
use mathlib.Core.List.{List, [], ◌∷◌, ◌++◌, append_assoc, append-nil}
use lib.ListN.{length, take}
use lib.Seq.{drop-drop}
use lib.IntN.{ℤ}
use lib.Dec.{leb, ltb}
use borrow.Author.Tests.{le-leb, leb-false, ltb-true, not-false}
use Rattle.book.specs.Lists.{times, pad_to}
use Rattle.book.specs.Limits.{page_limit}
use Rattle.book.specs.Rows.{Row}
use Rattle.book.specs.Ledger.{ledger}
use Rattle.book.specs.Cells.{on_page, last_on}
use Rattle.book.specs.Calls.{Call}
use Rattle.book.specs.Power.{Book, Fuse, none, left, rows_of, ledger_of, store_row, force, store_page}
use Rattle.book.specs.Book.{refusal, adds, through}
use Rattle.book.specs.Logs.{Sound}
use Rattle.book.specs.LogBytes.{rows_bytes, log_bytes}
use Rattle.book.specs.Pages.{page_bytes, chart_bytes, page_at, page_of, page_after}
use Rattle.book.proofs.Lists.{clash, is_false, or_l}
use Rattle.book.proofs.InvariantKept.{few-rows}
use Rattle.book.proofs.Steps.{book_of, extends-through}
use Rattle.book.proofs.Adds.{passes}
use Rattle.book.proofs.Marks.{last-le}
use Rattle.book.proofs.Pages.{page-at, mark-back}
use Rattle.tables_model.specs.Meaning.{tables_of, scope_table}
use Rattle.tables_model.specs.Lookup.{index_of}
use Rattle.state.specs.World.{is_open_phase}
use Rattle.state.specs.CallContracts.{with_page}
use Rattle.journal.specs.declared.Control.{Control}
use Rattle.journal.specs.Writes.{put_page}
use Rattle.journal.specs.Journal.{Journal, Paged, forced_up_to, paged}
use Rattle.journal.specs.Meaning.{control_of, journal_of}
use Rattle.journal.proofs.Meaning.{forced-up-to, paged-is}
use Rattle.wal.proofs.Steady.{steady-sound}
use Rattle.wal.proofs.RowWritten.{running, force-rows, forced-stands}
use Rattle.calls_model.specs.Acts.{Core, up_to_mark, flush_count, acted}
use Rattle.calls_model.proofs.Cores.{ram_of, core_for, ram-stands, Reaches, reaches}

-- ── Lists, pages and books ────────────────────────────────────────────────────────────────────────────────────────────

-- the last row of a page beyond the first rows is its last row among the rest
last-beyond : (p : ℕ) (xs ys : List Row) → last_on p (xs ++ ys) - length xs ≡ last_on p ys
last-beyond p [] ys = omega arith
last-beyond p (x ∷ xs) ys = go (leb 1 (last_on p (xs ++ ys)) || on_page p x) refl (last-beyond p xs ys)
  where
    go : (t : Bool) → (leb 1 (last_on p (xs ++ ys)) || on_page p x) ≡ t → last_on p (xs ++ ys) - length xs ≡ last_on p ys
        → cond t (suc (last_on p (xs ++ ys))) 0 - suc (length xs) ≡ last_on p ys
    go true e ih = omega arith
    go false e ih =
        let none = leb-false 1 (last_on p (xs ++ ys)) (is_false _ (λ h. clash _ (or_l _ (on_page p x) h) e)) in omega arith

-- replacing a page, as the journal does it and as the contract says it
page-put : (charts page : List ℕ) (p : ℕ) → put_page charts p page ≡ with_page p page charts
page-put charts page p =
    sym (append_assoc (take (32 * p) charts) page _) ∙
    ap (λ (rest : List ℕ). take (32 * p) charts ++ page ++ rest) (drop-drop 32 (32 * p) charts)

-- a page write leaves the stored rows, and the waiting ones where it lands
page-stored : (b : Book) → (store_page b).stored ≡ b.stored
page-stored b = go b.stored b.waiting b.fuse b.is_open
  where
    go : (s w : List Row) (f : Fuse) (t : Bool) → (store_page (book_of s w f t)).stored ≡ s
    go s w none true = refl
    go s w (left zero) true = refl
    go s w (left (suc n)) true = refl
    go s w f false = refl

page-waiting : (b : Book) → (store_page b).is_open ≡ true → (store_page b).waiting ≡ b.waiting
page-waiting b = go b.stored b.waiting b.fuse b.is_open
  where
    go : (s w : List Row) (f : Fuse) (t : Bool) → (store_page (book_of s w f t)).is_open ≡ true → (store_page (book_of s w f t)).waiting ≡ w
    go s w none true o = refl
    go s w (left zero) true o = clash _ o refl
    go s w (left (suc n)) true o = refl
    go s w f false o = refl

-- ── The calls ─────────────────────────────────────────────────────────────────────────────────────────────────────────

module _ (cells : ℕ → ℤ) (b : Book) (charts : List ℕ) (s : Sound b) where
  pub acted-force : Reaches cells (through b Call.force) charts charts (acted (core_for cells b charts) Call.force)
  unfolding acted through adds
  acted-force =
      reaches cells (force b) charts (acted (core_for cells b charts) Call.force)
      (forced-stands cells b (steady-sound b s) (ram_of cells b) (ram-stands cells b)) refl
      (λ q. ap (λ (rs : List Row). index_of (ledger rs)) (sym (force-rows b (steady-sound b s) q)))

  pub acted-read : (c : ℕ) → Reaches cells (through b (Call.read c)) charts charts (acted (core_for cells b charts) (Call.read c))
  unfolding acted through adds
  acted-read c = reaches cells b charts (core_for cells b charts) (ram-stands cells b) refl (λ q. refl)

-- the book of a flush before the page is written
abbrev stored_up_to : Book → ℕ → Book
stored_up_to b p = times (last_on p b.waiting) store_row b

-- what a flush leaves, by the journal that it writes the page from
abbrev flushed_from : Core → ℕ → Journal → Core
flushed_from x p j =
    let g : Paged = paged j.control x.charts p (page_at x.ram.copy p) in
    record {
      ram = record { journal = record { control = g.control; log = j.log; tail = j.tail }; copy = x.ram.copy };
      charts = g.charts;
      tables = x.tables;
      scopes = x.scopes;
    }

module _ (cells : ℕ → ℤ) (b : Book) (charts : List ℕ) (s : Sound b) (p : ℕ) (h : p < 32) where
  page-is : page_at (chart_bytes (page_after cells (rows_of b))) p ≡ page_bytes (page_after cells (rows_of b) p)
  page-is = page-at (page_after cells (rows_of b)) p h

  -- the rows up to the mark in the copy are those up to the page's last row
  count-is : flush_count (core_for cells b charts) p ≡ last_on p b.waiting
  unfolding journal_of control_of page_after
  count-is =
      let few = few-rows (rows_of b) s.allowed in
      let le = last-le p (rows_of b) in
      let mark : (page_of (page_at (chart_bytes (page_after cells (rows_of b))) p)).mark ≡ last_on p (rows_of b) =
      ap (λ (bs : List ℕ). (page_of bs).mark) page-is ∙ mark-back (page_after cells (rows_of b) p) (omega arith) in
      let up : up_to_mark (core_for cells b charts) p ≡ last_on p b.waiting =
      ap (λ (n : ℕ). n - length b.stored) mark ∙ last-beyond p b.stored b.waiting in
      ap (λ (m : ℕ). cond (leb m (length b.waiting)) m 0) up ∙
      ap (λ (t : Bool). cond t (last_on p b.waiting) 0) (le-leb (last_on p b.waiting) (length b.waiting) (last-le p b.waiting))

  journal-is : forced_up_to (flush_count (core_for cells b charts) p) (journal_of b) ≡ journal_of (stored_up_to b p)
  journal-is =
      ap (λ (m : ℕ). forced_up_to m (journal_of b)) count-is ∙
      forced-up-to (last_on p b.waiting) b s.shut s.tail (few-rows (rows_of b) s.allowed) (last-le p b.waiting)

  control-is : (page : List ℕ) → (paged (control_of (stored_up_to b p)) charts p page).control ≡ control_of (store_page (stored_up_to b p))
  control-is page = ap (λ (g : Paged). g.control) (paged-is (stored_up_to b p) charts p page)

  charts-are : (page : List ℕ) (t : Bool) → (store_page (stored_up_to b p)).is_open ≡ t
      → (paged (control_of (stored_up_to b p)) charts p page).charts ≡ cond t (put_page charts p page) charts
  charts-are page t e =
      ap (λ (g : Paged). g.charts) (paged-is (stored_up_to b p) charts p page) ∙
      ap (λ (r : Bool). cond r (put_page charts p page) charts) e

  rows_are : (store_page (stored_up_to b p)).is_open ≡ true → rows_of (store_page (stored_up_to b p)) ≡ rows_of b
  unfolding through adds
  rows_are q = (extends-through b (Call.flush p) s.shut).rows q ∙ append-nil (rows_of b)

  written-page : Reaches cells (store_page (stored_up_to b p)) charts (with_page p (page_bytes (page_after cells (rows_of b) p)) charts)
      (flushed_from (core_for cells b charts) p (journal_of (stored_up_to b p)))
  unfolding journal_of control_of
  written-page = record {
    runs = ap (λ (k : Control). is_open_phase k.phase) (control-is page) ∙ running (store_page (stored_up_to b p));
    log = ap log_bytes (sym (page-stored (stored_up_to b p)));
    stored = ap (λ (k : Control). k.stored) (control-is page);
    opened = λ q.
        ap₂ (λ (j : Journal) (cs : List ℕ). record {
          ram = record { journal = j; copy = chart_bytes (page_after cells (rows_of b)) };
          charts = cs;
          tables = tables_of (ledger_of b);
          scopes = scope_table (ledger_of b);
        }) (journal q) (charts-are page true q ∙ page-put charts page p ∙ ap (λ (bs : List ℕ). with_page p bs charts) page-is) ∙
        ap (λ (rs : List Row). record {
          ram = record { journal = journal_of (store_page (stored_up_to b p)); copy = chart_bytes (page_after cells rs) };
          charts = with_page p (page_bytes (page_after cells (rows_of b) p)) charts;
          tables = tables_of (ledger rs);
          scopes = scope_table (ledger rs);
        }) (sym (rows_are q));
    cut = λ q. charts-are page false q;
  }
    where
      page : List ℕ
      page = page_at (chart_bytes (page_after cells (rows_of b))) p

      journal : (store_page (stored_up_to b p)).is_open ≡ true
          → ◌≡◌ {A = Journal} (record {
            control = (paged (control_of (stored_up_to b p)) charts p page).control;
            log = log_bytes (stored_up_to b p).stored;
            tail = pad_to 1024 0 (rows_bytes (suc (length (stored_up_to b p).stored)) (stored_up_to b p).waiting);
          }) (journal_of (store_page (stored_up_to b p)))
      journal q =
          ap (λ (k : Control). record {
            control = k;
            log = log_bytes (stored_up_to b p).stored;
            tail = pad_to 1024 0 (rows_bytes (suc (length (stored_up_to b p).stored)) (stored_up_to b p).waiting);
          }) (control-is page) ∙
          ap₂ (λ (st wa : List Row). record {
            control = control_of (store_page (stored_up_to b p));
            log = log_bytes st;
            tail = pad_to 1024 0 (rows_bytes (suc (length st)) wa);
          }) (sym (page-stored (stored_up_to b p))) (sym (page-waiting (stored_up_to b p) q))

  flushed-reaches : Reaches cells (through b (Call.flush p)) charts (with_page p (page_bytes (page_after cells (rows_of b) p)) charts)
      (acted (core_for cells b charts) (Call.flush p))
  unfolding acted through adds
  flushed-reaches =
      subst (Reaches cells (store_page (stored_up_to b p)) charts (with_page p (page_bytes (page_after cells (rows_of b) p)) charts))
      (ap (flushed_from (core_for cells b charts) p) (sym journal-is)) written-page

pub acted-flush : (cells : ℕ → ℤ) (b : Book) (charts : List ℕ) (p : ℕ) → Sound b → refusal b (Call.flush p) ≡ 0
    → Reaches cells (through b (Call.flush p)) charts (with_page p (page_bytes (page_after cells (rows_of b) p)) charts) (acted (core_for cells b charts) (Call.flush p))
unfolding refusal
acted-flush cells b charts p s e =
    flushed-reaches cells b charts s p (ltb-true p page_limit (not-false (ltb p page_limit) (passes (not (ltb p page_limit)) 13 _ e).0))
