-- A ready opening of a book, as demand 3 speaks of it: each cell of the copy is the sum of its kept changes, and a read gives it; a change has an undo row
-- exactly when it is not in the sum; and the answer counts the rows written.
use Prim.Native.Nat.{ℕ, ◌-◌, ◌<◌}
use native.Mathlib.Omega.{arith}
use mathlib.Core.Path.{◌≡◌, refl, ap, sym, ◌∙◌}
use mathlib.Core.Bool.{Bool, true, false, not}
use mathlib.Core.Logic.{◌↔◌}
use mathlib.Core.List.{List, ◌++◌, append-nil}
use lib.ListN.{length, drop}
use lib.Seq.{drop-append_seam}
use lib.IntN.{ℤ, pos}
use borrow.Author.Tests.{lt-ltb}
use Rattle.book.specs.Lists.{any, keep}
use Rattle.book.specs.Limits.{cell_limit}
use Rattle.book.specs.Rows.{Row, is_undo}
use Rattle.book.specs.Ledger.{Change, ledger}
use Rattle.book.specs.Rules.{allowed_log}
use Rattle.book.specs.Cells.{applied, is_kept, kept_sum}
use Rattle.book.specs.Calls.{Call}
use Rattle.book.specs.Power.{Book, Fuse, rows_of}
use Rattle.book.specs.Book.{refusal, adds, through, value, answer, accepted, call, closing, reopened, reopen, opening}
use Rattle.book.specs.Pages.{chart_bytes, cell_of, page_after}
use Rattle.book.specs.Logs.{Logged, undoes, Sound}
use Rattle.book.proofs.Lists.{clash, not_is}
use Rattle.book.proofs.InvariantKept.{inv-log, few-rows}
use Rattle.book.proofs.Fate.{undone-exactly}
use Rattle.book.proofs.Steps.{book_of}
use Rattle.book.proofs.Force.{reopened-empty}
use Rattle.book.proofs.Sound.{stored-allowed, opening-book}
use Rattle.book.proofs.Openings.{closing-undos, ended-open, ready}
use Rattle.book.proofs.Pages.{Bounded, cell-read}
use Rattle.state.specs.World.{World, copy_of, world_of}
use Rattle.sessions.specs.Demand3.{Wrote}

-- a read of an open book
read-open : (cells : ℕ → ℤ) (b : Book) (c : ℕ) → b.is_open ≡ true → c < cell_limit
    → (call cells b true (Call.read c)).answer ≡ answer 0 (applied cells (rows_of b) c)
unfolding call refusal accepted through adds value
read-open cells b c o h = go b.stored b.waiting b.fuse b.is_open o
  where
    go : (s w : List Row) (f : Fuse) (t : Bool) → t ≡ true → (call cells (book_of s w f t) true (Call.read c)).answer ≡ answer 0 (applied cells (s ++ w) c)
    go s w f true q = rw (lt-ltb c cell_limit h)
    go s w f false q = clash false q refl

-- an opening answered 0 was lent its buffers
pub ready-lengths : (b : Book) (t : Bool) (f : Fuse) → (opening b t f).answer.number ≡ 0 → t ≡ true
unfolding opening
ready-lengths b true f e = refl
ready-lengths b false f e = absurd (omega arith)

module _ (b : Book) (f : Fuse) (s : Sound b) (e : (opening b true f).answer.number ≡ 0) where
  -- the book after it
  abbrev later : Book
  later = (opening b true f).book

  is_open_lem : later.is_open ≡ true
  unfolding opening reopen
  is_open_lem = ap (λ (x : Book). x.is_open) (opening-book b f) ∙ ended-open _ (reopened f b.stored) e

  all-stored : rows_of later ≡ later.stored
  all-stored =
      ap (λ (l : List Row). later.stored ++ l) (ap (λ (x : Book). x.waiting) (opening-book b f) ∙ reopened-empty f b.stored) ∙ append-nil later.stored

  -- the rows applied to a cell come to its sum
  cell-sum : (cells : ℕ → ℤ) (c : ℕ) → applied cells (rows_of later) c ≡ kept_sum cells later.stored c
  cell-sum cells c = ap (λ (l : List Row). applied cells l c) all-stored ∙ (ready b f s e).sums cells c

  pub copy-sum : (cells : ℕ → ℤ) → Bounded 1000000 cells → (w : World) → w ≡ world_of cells later w.charts → (c : ℕ) → c < cell_limit
      → cell_of w.copy c ≡ kept_sum cells later.stored c
  unfolding world_of copy_of
  copy-sum cells small w is c h =
      let al : allowed_log (rows_of later) ≡ true = rw all-stored (ready b f s e).allowed in
      let copy : w.copy ≡ chart_bytes (page_after cells (rows_of later)) = ap (λ (x : World). x.copy) is ∙ rw is_open_lem in
      ap (λ (l : List ℕ). cell_of l c) copy ∙ cell-read cells 1000000 small (omega arith) (rows_of later) al (few-rows (rows_of later) al) c h ∙ cell-sum cells c

  pub read-sum : (cells : ℕ → ℤ) (c : ℕ) → c < cell_limit → (call cells later true (Call.read c)).answer ≡ answer 0 (kept_sum cells later.stored c)
  read-sum cells c h = read-open cells later c is_open_lem h ∙ ap (answer 0) (cell-sum cells c)

  pub undone-or-kept : (x : Change) → Logged later.stored x → (any (undoes x.row) later.stored ≡ true) ↔ (is_kept (ledger later.stored) x ≡ false)
  undone-or-kept x m =
      let u = undone-exactly later.stored x (ready b f s e).allowed (ready b f s e).inactive m in
      (λ h. not_is (is_kept (ledger later.stored) x) (sym u ∙ h), λ k. u ∙ ap not k)

  pub wrote : Wrote b.stored later.stored (opening b true f).answer
  wrote =
      let rs = b.stored in
      let r = ready b f s e in
      let n = r.written.0 in
      let grown = r.written.2 in
      let count : n ≡ length later.stored - length rs = omega arith in
      record {
        rows = r.written.1 ∙ ap pos count;
        undos =
            ap (λ (l : List Row). length (keep is_undo (drop (length rs) l))) r.rows ∙
            ap (λ (l : List Row). length (keep is_undo l)) (drop-append_seam rs (closing (ledger rs))) ∙
            closing-undos (ledger rs) (inv-log rs (stored-allowed b s));
      }
