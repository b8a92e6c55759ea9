-- An opening does what its contract says, whatever it is handed: what specs/Openings has it compute is the contract's equation (`opens_by_lem`).
use Prim.Native.Nat.{ℕ, ◌≤◌}
use native.Mathlib.Omega.{arith}
use mathlib.Core.Path.{◌≡◌, refl, ap, ap₂, sym, ◌∙◌, subst}
use mathlib.Core.Bool.{Bool, true, false, cond}
use mathlib.Core.List.{List, [], append-nil}
use lib.ListN.{length}
use lib.IntN.{ℤ, pos}
use lib.Dec.{eqb, ltb}
use borrow.Author.Tests.{eqb-true, ltb-false}
use Rattle.book.specs.Limits.{log_length, charts_length}
use Rattle.book.specs.Rows.{Row}
use Rattle.book.specs.Ledger.{ledger}
use Rattle.book.specs.Rules.{allowed_log}
use Rattle.book.specs.Book.{reopen}
use Rattle.book.specs.Reading.{Demand2Reading}
use Rattle.book.specs.Numbers.{AreBytes}
use Rattle.book.specs.LogBytes.{Log, good, bad, log_bytes, read_log}
use Rattle.book.specs.Pages.{chart_bytes, page_at, page_after, is_page, redone}
use Rattle.book.specs.Opening.{rejected, recovered, bad_page, checked, open_bytes}
use Rattle.book.proofs.Lists.{and_l, and_r}
use Rattle.book.proofs.InvariantKept.{few-rows}
use Rattle.book.proofs.LogBytes.{log-exact}
use Rattle.book.proofs.Blocks.{first-within}
use Rattle.book.proofs.Pages.{charts_as_of, charts-redone}
use Rattle.book.proofs.AnyCharts.{marks_of, base_of, marked-any, base-bounded, charts-any}
use Rattle.book.proofs.OpenBytes.{open-bytes}
use Rattle.book.proofs.ReopenedBytes.{open-passed}
use Rattle.state.specs.declared.ram.Fuse.{Fuse}
use Rattle.state.specs.World.{World, right_lengths, allowance, state_of, table_of, cleared}
use Rattle.state.specs.CallContracts.{answered, opened_world, opens}
use Rattle.tables_model.specs.Lookup.{index_of}
use Rattle.recovery_model.specs.Scan.{Scanned, scanned}
use Rattle.recovery_model.specs.Charts.{redo_charts}
use Rattle.recovery_model.specs.Backward.{backward}
use Rattle.recovery_model.specs.Openings.{no_index, recovered_by, checked_by, opens_by}
use Rattle.recovery_model.proofs.ScanMeans.{all-good, Rejects, scan_good, scan-bad}
use Rattle.recovery_model.proofs.PagesMean.{bad-page-by}
use Rattle.recovery_model.proofs.RedoMeans.{charts-redone-by}
use Rattle.recovery_model.proofs.BackwardMeans.{backward-stands}
use Rattle.recovery_model.proofs.Settled.{settled_is}

module _ (f : Fuse) (charts : List ℕ) (long : length charts ≡ charts_length) (bytes : AreBytes charts) where
  -- ── A log and charts that passed ────────────────────────────────────────────────────────────────────────────────────

  module _ (rs : List Row) (al : allowed_log rs ≡ true) (pages : bad_page rs charts ≡ 32) where
    few : length rs ≤ 4096
    few = few-rows rs al

    -- the cells that the rows start from
    cells : ℕ → ℤ
    cells = base_of charts rs

    are : charts ≡ charts_as_of cells rs (marks_of charts)
    unfolding cells
    are = charts-any charts long bytes rs al few pages

    copy_is : redo_charts (log_bytes rs) (length rs) charts ≡ chart_bytes (page_after cells rs)
    unfolding cells
    copy_is =
        charts-redone-by charts long bytes rs al pages ∙
        ap₂ (λ (l : List Row) (c : List ℕ). chart_bytes (λ p. redone l p (page_at c p))) (sym (append-nil rs)) are ∙
        charts-redone cells 334217728 (base-bounded charts long bytes rs al few pages) (omega arith) rs al few (marks_of charts)
        (marked-any charts long bytes rs al few pages) [] ∙
        ap (λ (l : List Row). chart_bytes (page_after cells l)) (append-nil rs)

    recovered-is : recovered_by f (log_bytes rs) charts (all-good rs)
        ≡ opened_world charts (recovered rs charts (reopen (allowance f) rs))
    unfolding cells
    recovered-is =
        settled_is cells (allowance f) rs al charts (backward f (length rs) (index_of (ledger rs)) (log_bytes rs) (redo_charts (log_bytes rs) (length rs) charts))
        (backward-stands cells f rs al (redo_charts (log_bytes rs) (length rs) charts) copy_is) ∙
        ap (opened_world charts) (sym (open-bytes cells 334217728 (base-bounded charts long bytes rs al few pages) (omega arith) rs al few (marks_of charts)
        (marked-any charts long bytes rs al few pages) (allowance f) charts are pages) ∙ open-passed rs charts al pages (allowance f))

  -- ── Every log ───────────────────────────────────────────────────────────────────────────────────────────────────────

  -- a log of allowed rows
  good-is : (rs : List Row) → allowed_log rs ≡ true
      → checked_by f (log_bytes rs) charts (all-good rs) ≡ opened_world charts (checked (allowance f) (log_bytes rs) charts (good rs))
  unfolding state_of table_of
  good-is rs al = rw (bad-page-by rs al charts) (go (ltb (bad_page rs charts) 32) refl)
    where
      go : (t : Bool) → ltb (bad_page rs charts) 32 ≡ t
          → cond t (answered 4 (pos (bad_page rs charts)) (cleared (log_bytes rs) charts)) (recovered_by f (log_bytes rs) charts (all-good rs))
          ≡ opened_world charts (cond t (rejected 4 (bad_page rs charts) (log_bytes rs)) (recovered rs charts (reopen (allowance f) rs)))
      go true e = refl
      go false e = recovered-is rs al (let k = ltb-false (bad_page rs charts) 32 e in omega (arith, first-within 32 0 (λ p. is_page rs p (page_at charts p))))

  -- a log that is refused
  bad-is : (log : List ℕ) (s : Scanned) (i n : ℕ) → Rejects s i n → checked_by f log charts s ≡ opened_world charts (rejected i n log)
  unfolding state_of table_of
  bad-is log s i n r = rw (r.is, r.number)

  any-log : (log : List ℕ) → length log ≡ log_length → checked_by f log charts (scanned log no_index) ≡ opened_world charts (open_bytes (allowance f) log charts)
  unfolding open_bytes Demand2Reading
  any-log log h = go (read_log log) refl
    where
      go : (x : Log) → read_log log ≡ x → checked_by f log charts (scanned log no_index) ≡ opened_world charts (checked (allowance f) log charts x)
      go (good rs) e =
          let k = log-exact log rs h e in
          ap (checked_by f log charts) (scan_good log rs e) ∙
          subst (λ (l : List ℕ). checked_by f l charts (all-good rs)
          ≡ opened_world charts (checked (allowance f) l charts (good rs))) (sym k.1) (good-is rs k.0)
      go (bad i n) e =
          bad-is log (scanned log no_index) i n (scan-bad log i n e)

pub opens_by_lem : (f : Fuse) (w : World) → AreBytes w.charts → opens_by f w ≡ opens (allowance f) w
unfolding opens_by opens
opens_by_lem f w bytes = go (right_lengths w) refl
  where
    go : (t : Bool) → right_lengths w ≡ t → cond t (checked_by f w.log w.charts (scanned w.log no_index)) (answered 1 (pos 0) w)
        ≡ cond t (opened_world w.charts (open_bytes (allowance f) w.log w.charts)) (answered 1 (pos 0) w)
    go true e =
        let log : eqb (length w.log) log_length ≡ true = search (and_l, and_r) in
        let charts : eqb (length w.charts) charts_length ≡ true = search (and_l, and_r) in
        any-log f w.charts (eqb-true (length w.charts) charts_length charts) bytes w.log (eqb-true (length w.log) log_length log)
    go false e = refl
