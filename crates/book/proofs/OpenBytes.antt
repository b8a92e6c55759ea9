-- An opening over the bytes of an allowed log and of pages as of their marks (specs/Opening) does what the book says, and its copy is what all rows
-- make of the cells.
use Prim.Native.Nat.{ℕ, ◌+◌, ◌≤◌, ◌<◌}
use mathlib.Core.Path.{◌≡◌, refl, ap, sym, ◌∙◌}
use mathlib.Core.Bool.{Bool, true, false, cond}
use mathlib.Core.List.{List, ◌++◌, append-nil}
use lib.ListN.{length, take}
use lib.IntN.{ℤ, pos}
use Rattle.book.specs.Rows.{Row}
use Rattle.book.specs.Ledger.{ledger}
use Rattle.book.specs.Rules.{allowed_log}
use Rattle.book.specs.Cells.{last_on}
use Rattle.book.specs.Power.{Book, Fuse, rows_of}
use Rattle.book.specs.Book.{closing, Outcome, reopened, reopen}
use Rattle.book.specs.LogBytes.{log_bytes}
use Rattle.book.specs.Pages.{chart_bytes, page_at, page_after, redone}
use Rattle.book.specs.Writes.{opening_writes}
use Rattle.book.specs.Opening.{Opened, no_copy, bad_page, open_bytes}
use Rattle.book.proofs.Steps.{extends-open}
use Rattle.book.proofs.Sound.{ended-book}
use Rattle.book.proofs.LogBytes.{log-good}
use Rattle.book.proofs.Pages.{Bounded, charts_as_of, charts-redone}

-- what the book's opening comes to in bytes, with this copy
abbrev with_copy : List Row → List ℕ → Outcome → Opened
with_copy rs copy o = record { answer = o.answer; book = o.book; log = log_bytes o.book.stored; copy = copy; writes = opening_writes rs o }

-- the copy is what all rows make of the cells, if the power held
abbrev pub by_the_book : (ℕ → ℤ) → List Row → Outcome → Opened
by_the_book cells rs o = with_copy rs (cond o.book.is_open (chart_bytes (page_after cells (rows_of o.book))) no_copy) o

module _ (cells : ℕ → ℤ) (b : ℕ) (small : Bounded b cells) (bound : b + 134217728 < 2147483648)
    (rs : List Row) (al : allowed_log rs ≡ true) (few : length rs ≤ 4096)
    (marks : ℕ → ℕ) (marked : (p : ℕ) → p < 32 → last_on p (take (marks p) rs) ≡ marks p) where
  pub open-bytes : (f : Fuse) (charts : List ℕ) → charts ≡ charts_as_of cells rs marks → bad_page rs charts ≡ 32
      → open_bytes f (log_bytes rs) charts ≡ by_the_book cells rs (reopen f rs)
  unfolding open_bytes reopen
  open-bytes f charts are good = rw (log-good rs al few, good) (ap (λ (c : List ℕ). with_copy rs c (reopen f rs)) (copy (reopen f rs).book.is_open refl))
    where
      rows : (reopen f rs).book.is_open ≡ true → rows_of (reopen f rs).book ≡ rs ++ closing (ledger rs)
      rows o =
          let is = ended-book (pos (length (closing (ledger rs)))) (reopened f rs) in
          ap rows_of is ∙ (extends-open f rs).rows (sym (ap (λ (b : Book). b.is_open) is) ∙ o) ∙ ap (λ (l : List Row). l ++ closing (ledger rs)) (append-nil rs)

      copy : (t : Bool) → (reopen f rs).book.is_open ≡ t
          → cond t (chart_bytes (λ p. redone (rows_of (reopen f rs).book) p (page_at charts p))) no_copy ≡
          cond t (chart_bytes (page_after cells (rows_of (reopen f rs).book))) no_copy
      copy true o = rw (rows o, are) (charts-redone cells b small bound rs al few marks marked (closing (ledger rs)))
      copy false o = refl
