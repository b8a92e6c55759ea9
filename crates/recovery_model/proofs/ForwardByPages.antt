-- Every opening whose checks pass goes backward from the copy that the pages redone alone give, in any order (`any-order-alone`).
use Prim.Native.Nat.{ℕ, ◌*◌, ◌<◌}
use native.Mathlib.Omega.{arith}
use mathlib.Core.Path.{◌≡◌, ap, ap₂, sym, ◌∙◌}
use mathlib.Core.Bool.{true}
use mathlib.Core.List.{List}
use lib.ListN.{length, drop, length-drop}
use lib.Seq.{length-take-le}
use lib.Dec.{eqb}
use Rattle.std.specs.Prelude.{None}
use borrow.Author.Tests.{eqb-true}
use Rattle.book.specs.Limits.{page_limit, log_length, charts_length}
use Rattle.book.specs.Lists.{foldl, join}
use Rattle.book.specs.Numbers.{AreBytes}
use Rattle.book.specs.Rows.{Row}
use Rattle.book.specs.Pages.{page_at}
use Rattle.book.specs.LogBytes.{good, read_log}
use Rattle.book.specs.Opening.{bad_page}
use Rattle.book.proofs.Lists.{and_l, and_r}
use Rattle.book.proofs.Blocks.{tabulate-same}
use Rattle.book.proofs.LogBytes.{log-exact}
use Rattle.book.proofs.Numbers.{part_bytes}
use Rattle.recovery_model.specs.Scan.{Scanned, scanned}
use Rattle.recovery_model.specs.Charts.{bad_page_by, redo_page, redo_charts}
use Rattle.recovery_model.specs.Openings.{no_index, backward_from, opens_by}
use Rattle.recovery_model.specs.PageAlone.{end_of, RedoneAlone, redone_alone, with_redone, AllPages, AnyOrder}
use Rattle.recovery_model.specs.ForwardByPages.{AnyOrderAlone}
use Rattle.recovery_model.proofs.ScanMeans.{scan_good}
use Rattle.recovery_model.proofs.PagesMean.{bad-page-by}
use Rattle.recovery_model.proofs.PageAlone.{end-of-log, redo-alone, alone-done}
use Rattle.recovery_model.proofs.PageOrder.{any_order}
use Rattle.recovery_model.proofs.Post.{opens_by_lem}

-- of a log of its length that is read as rows, and charts of theirs
module _ (log charts : List ℕ) (log-long : length log ≡ log_length) (long : length charts ≡ charts_length) (bytes : AreBytes charts) (rs : List Row)
    (e : read_log log ≡ good rs) where
  rows-found : (scanned log no_index).rows ≡ length rs
  rows-found = ap (λ (s : Scanned). s.rows) (scan_good log rs e)

  -- it ends where the check of the opening has found its end
  end-found : end_of log ≡ (scanned log no_index).rows
  end-found = let k = log-exact log rs log-long e in ap end_of k.1 ∙ end-of-log rs k.0 ∙ sym rows-found

  size : (p : ℕ) → p < 32 → length (page_at charts p) ≡ 32
  size p h = let d = length-drop (32 * p) charts in length-take-le 32 (drop (32 * p) charts) (omega arith)

  page-redone : (p : ℕ) → p < 32 → (redone_alone log p (page_at charts p)).page ≡ redo_page log (scanned log no_index).rows p (page_at charts p)
  page-redone p h =
      ap (λ (r : RedoneAlone). r.page) (alone-done log p (page_at charts p) log-long (size p h) h) ∙
      sym (redo-alone log p (page_at charts p) (size p h) (part_bytes charts bytes (32 * p) 32)) ∙
      ap (λ (n : ℕ). redo_page log n p (page_at charts p)) end-found

  -- the copy that the opening hands to its backward part
  copy-forward : (ps : List ℕ) → AllPages ps → foldl (with_redone log) charts ps ≡ redo_charts log (scanned log no_index).rows charts
  unfolding redo_charts AnyOrder
  copy-forward ps all = any_order log charts long bytes ps all ∙ ap join (tabulate-same 32 0 _ _ (λ p a b. page-redone p (omega arith)))

  none-bad : bad_page rs charts ≡ page_limit → bad_page_by log (scanned log no_index).rows charts ≡ 32
  none-bad pass =
      let k = log-exact log rs log-long e in
      ap₂ (λ (l : List ℕ) (n : ℕ). bad_page_by l n charts) k.1 rows-found ∙ bad-page-by rs k.0 charts ∙ pass

pub any-order-alone : AnyOrderAlone
unfolding AnyOrderAlone opens_by
any-order-alone f w right bytes rs e pass ps all =
    let log : eqb (length w.log) log_length ≡ true = search (and_l, and_r) in
    let charts : eqb (length w.charts) charts_length ≡ true = search (and_l, and_r) in
    let log-long = eqb-true (length w.log) log_length log in
    let long = eqb-true (length w.charts) charts_length charts in
    let s = scanned w.log no_index in
    let none : s.bad ≡ None = ap (λ (s : Scanned). s.bad) (scan_good w.log rs e) in
    let copy = copy-forward w.log w.charts log-long long bytes rs e ps all in
    record {
      forward = copy;
      backward =
          sym (opens_by_lem f w bytes) ∙
          rw (right, none, none-bad w.log w.charts log-long long bytes rs e pass) (ap (backward_from f w.log w.charts s) (sym copy));
    }
