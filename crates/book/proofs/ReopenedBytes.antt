-- Openings one after another, in bytes. They write no page, and pages that passed against some rows pass against more. So openings cut any number of
-- times, then one that was not, leave the log and the copy that one opening would have left; and an opening of what that left changes no byte of the log.
use Prim.Native.Nat.{ℕ, zero, suc, ◌-◌}
use native.Mathlib.Omega.{arith}
use mathlib.Core.Path.{◌≡◌, refl, ap, sym, ◌∙◌, subst}
use mathlib.Core.Bool.{Bool, true, false, cond, ◌||◌}
use mathlib.Core.List.{List, [], ◌++◌, append-nil}
use lib.ListN.{length, get_or-append, get_or-eq_default}
use lib.Dec.{eqb, ltb}
use borrow.Author.Tests.{ne_eqb, ltb-true, ltb-false}
use lib.IntN.{pos}
use Rattle.book.specs.Rows.{Row}
use Rattle.book.specs.Ledger.{ledger}
use Rattle.book.specs.Rules.{allowed_log}
use Rattle.book.specs.Cells.{on_page}
use Rattle.book.specs.Power.{Book, Fuse, rows_of}
use Rattle.book.specs.Book.{closing, Answer, answer, reopened, reopen}
use Rattle.book.specs.LogBytes.{log_bytes}
use Rattle.book.specs.Lists.{first_failing}
use Rattle.book.specs.Limits.{places, page_limit, chart_bound}
use Rattle.book.specs.Numbers.{number, within}
use Rattle.book.specs.Pages.{chart_bytes, page_at, page_of, row_at, is_page, redone}
use Rattle.book.specs.Opening.{Opened, no_copy, rejected, recovered, bad_page, checked, open_bytes}
use Rattle.book.proofs.Lists.{clash, and_i, and_l, and_r, or_r}
use Rattle.book.proofs.InvariantKept.{few-rows}
use Rattle.book.proofs.Sound.{ended-book}
use Rattle.book.proofs.Openings.{ended-open}
use Rattle.book.proofs.Force.{reopened-empty}
use Rattle.book.proofs.LogBytes.{log-good}
use Rattle.book.proofs.Blocks.{first-none, first-all}
use Rattle.book.proofs.TakeBack.{closed-allowed}
use Rattle.book.proofs.Reopened.{whole, stored_after, after-cuts, cuts-rows, opened_nothing, opened-again}

-- ── Pages against more rows ───────────────────────────────────────────────────────────────────────────────────────────

module _ (rs more : List Row) where
  mark-later : (p m : ℕ) → (eqb m 0 || on_page p (row_at rs m)) ≡ true → (eqb m 0 || on_page p (row_at (rs ++ more) m)) ≡ true
  mark-later p zero e = refl
  mark-later p (suc m) e = or_r (eqb (suc m) 0) _ (go (ltb (suc m - 1) (length rs)) refl)
    where
      on : on_page p (row_at rs (suc m)) ≡ true
      on = rw (ne_eqb (suc m) 0 (λ q. omega arith)) at e

      go : (t : Bool) → ltb (suc m - 1) (length rs) ≡ t → on_page p (row_at (rs ++ more) (suc m)) ≡ true
      go true q = ap (on_page p) (get_or-append rs more (Row.begin 0) (suc m - 1) (ltb-true (suc m - 1) (length rs) q)) ∙ on
      go false q =
          clash _ on (ap (on_page p) (get_or-eq_default rs (Row.begin 0) {n = suc m - 1} (ltb-false (suc m - 1) (length rs) q)))

  page-later : (p : ℕ) (bs : List ℕ) → is_page rs p bs ≡ true → is_page (rs ++ more) p bs ≡ true
  unfolding is_page
  page-later p bs e =
      let marked : (eqb (page_of bs).mark 0 || on_page p (row_at rs (page_of bs).mark)) ≡ true = search (and_l, and_r) in
      let zeros : eqb (number 2 bs 2) 0 ≡ true = search (and_l, and_r) in
      let cells : eqb (first_failing places 0 (λ j. within chart_bound ((page_of bs).cell j))) places ≡ true = search (and_l, and_r) in
      and_i _ _ (and_i _ _ (mark-later p (page_of bs).mark marked) zeros) cells

  pub pages-later : (charts : List ℕ) → bad_page rs charts ≡ 32 → bad_page (rs ++ more) charts ≡ 32
  pages-later charts good =
      first-none 32 0 (λ p. is_page (rs ++ more) p (page_at charts p)) (λ p a b.
      page-later p (page_at charts p) (first-all 32 0 (λ q. is_page rs q (page_at charts q)) good p a b))

-- ── Openings ──────────────────────────────────────────────────────────────────────────────────────────────────────────

-- an opening of the bytes of an allowed log and of pages that pass
pub open-passed : (rs : List Row) (charts : List ℕ) → allowed_log rs ≡ true → bad_page rs charts ≡ 32 → (f : Fuse)
    → open_bytes f (log_bytes rs) charts ≡ recovered rs charts (reopen f rs)
unfolding open_bytes
open-passed rs charts al good f =
    ap (checked f (log_bytes rs) charts) (log-good rs al (few-rows rs al)) ∙
    ap (λ (p : ℕ). cond (ltb p page_limit) (rejected 4 p (log_bytes rs)) (recovered rs charts (reopen f rs))) good

-- the log and the copy that one opening leaves if the power holds
pub record AsUncut (rs : List Row) (charts : List ℕ) (o : Opened) : Type 0 where
  pub log : o.log ≡ log_bytes (whole rs)
  pub copy : o.copy ≡ chart_bytes (λ p. redone (whole rs) p (page_at charts p))

module _ (rs : List Row) (charts : List ℕ) (al : allowed_log rs ≡ true) (good : bad_page rs charts ≡ 32) where
  -- openings that were cut, then one that was not
  pub cuts-bytes : (fs : List Fuse) (f : Fuse) → (open_bytes f (log_bytes (stored_after rs fs)) charts).answer.number ≡ 0
      → AsUncut rs charts (open_bytes f (log_bytes (stored_after rs fs)) charts)
  unfolding reopen
  cuts-bytes fs f ready = subst (AsUncut rs charts) (sym is) (record {
    log = ap log_bytes stored;
    copy =
        ap (λ (t : Bool). cond t (chart_bytes (λ p. redone (rows_of (reopen f later).book) p (page_at charts p))) no_copy) (ap (λ (b : Book). b.is_open) book ∙ o) ∙
        ap (λ (l : List Row). chart_bytes (λ p. redone l p (page_at charts p))) rows;
  })
    where
      later : List Row
      later = stored_after rs fs

      is : open_bytes f (log_bytes later) charts ≡ recovered later charts (reopen f later)
      is = let k = after-cuts fs rs al in open-passed later charts k.allowed (rw k.starts.1 (pages-later rs k.starts.0 charts good)) f

      o : (reopened f later).is_open ≡ true
      o = ended-open (pos (length (closing (ledger later)))) (reopened f later) (sym (ap (λ (x : Opened). x.answer.number) is) ∙ ready)

      book : (reopen f later).book ≡ reopened f later
      book = ended-book (pos (length (closing (ledger later)))) (reopened f later)

      stored : (reopen f later).book.stored ≡ whole rs
      stored = ap (λ (b : Book). b.stored) book ∙ cuts-rows rs al fs f o

      rows : rows_of (reopen f later).book ≡ whole rs
      rows =
          ap rows_of book ∙ ap (λ (l : List Row). (reopened f later).stored ++ l) (reopened-empty f later) ∙ append-nil (reopened f later).stored ∙
          cuts-rows rs al fs f o

  -- an opening of an opened store: 0 rows written, the same log and the same copy
  pub again-answer : (f : Fuse) → (open_bytes f (log_bytes (whole rs)) charts).answer ≡ answer 0 (pos 0)
  again-answer f =
      ap (λ (x : Opened). x.answer) (open-passed (whole rs) charts (closed-allowed rs al) (pages-later rs (closing (ledger rs)) charts good) f) ∙
      opened-again rs al f

pub again-bytes : (rs : List Row) (charts : List ℕ) → allowed_log rs ≡ true → bad_page rs charts ≡ 32 → (f : Fuse)
    → AsUncut rs charts (open_bytes f (log_bytes (whole rs)) charts)
again-bytes rs charts al good f =
    let k = cuts-bytes (whole rs) charts (closed-allowed rs al) (pages-later rs (closing (ledger rs)) charts good) [] f
    (ap (λ (a : Answer). a.number) (again-answer rs charts al good f)) in
    let same : whole (whole rs) ≡ whole rs = ap (λ (l : List Row). whole rs ++ l) (opened_nothing rs al) ∙ append-nil (whole rs) in
    record { log = k.log ∙ ap log_bytes same; copy = k.copy ∙ ap (λ (l : List Row). chart_bytes (λ p. redone l p (page_at charts p))) same }
