-- A page redone alone (recovery_model/specs/PageAlone) at its limits, with two violations at once, and from logs and pages that no opening takes. All hold by computing.
use Prim.Native.Nat.{ℕ, ◌+◌, ◌*◌}
use mathlib.Core.Path.{◌≡◌, refl}
use mathlib.Core.Bool.{cond}
use mathlib.Core.List.{List, [], ◌∷◌, ◌++◌}
use lib.ListN.{replicate, set}
use lib.IntN.{ℤ, pos, negsuc}
use lib.Dec.{eqb}
use Rattle.book.specs.Lists.{foldl}
use Rattle.book.specs.Rows.{Row}
use Rattle.book.specs.Book.{done, refused_by}
use Rattle.book.specs.LogBytes.{log_bytes}
use Rattle.book.specs.Pages.{page_bytes}
use Rattle.book.proofs.WorkedExamples.{computes}
use Rattle.recovery_model.specs.PageAlone.{end_of, rows_in, redone_bytes, RedoneAlone, redone_alone, with_redone}

-- a page with this mark, these grams in its first cell, and 0 in the others
abbrev page : ℕ → ℤ → List ℕ
page n z = page_bytes (record { mark = n; cell = λ j. cond (eqb j 0) z (pos 0) })

abbrev blank : List ℕ
blank = page 0 (pos 0)

abbrev leaves : List ℕ → RedoneAlone
leaves bs = record { answer = done (pos 0); page = bs }

abbrev refuses : ℕ → List ℕ → RedoneAlone
refuses n bs = record { answer = refused_by n; page = bs }

-- ── 1, 14 ─────────────────────────────────────────────────────────────────────────────────────────────────────────────

record Limits : Type 0 where
  last-page : redone_alone (log_bytes []) 31 blank ≡ leaves blank
  page-above : redone_alone (log_bytes []) 32 blank ≡ refuses 14 blank
  short-log : redone_alone (replicate 65535 0) 0 blank ≡ refuses 1 blank
  long-log : redone_alone (replicate 65537 0) 0 blank ≡ refuses 1 blank
  short-page : redone_alone (log_bytes []) 0 (replicate 31 0) ≡ refuses 1 (replicate 31 0)
  long-page : redone_alone (log_bytes []) 0 (replicate 33 0) ≡ refuses 1 (replicate 33 0)
  -- 1 before 14, for the log and for the page
  log-1-before-14 : redone_alone (replicate 65535 0) 32 blank ≡ refuses 1 blank
  page-1-before-14 : redone_alone (log_bytes []) 32 (replicate 31 0) ≡ refuses 1 (replicate 31 0)

limits : Limits
unfolding computes end_of rows_in redone_bytes redone_alone
limits = record {
  last-page = refl;
  page-above = refl;
  short-log = refl;
  long-log = refl;
  short-page = refl;
  long-page = refl;
  log-1-before-14 = refl;
  page-1-before-14 = refl;
}

-- ── The rows above the mark ───────────────────────────────────────────────────────────────────────────────────────────

-- rows 2 and 4 change cell 0, row 3 cell 7, which is on page 1; row 5 undoes row 4
abbrev log : List ℕ
log = log_bytes (Row.begin 1 ∷ Row.change 1 0 (pos 5) ∷ Row.change 1 7 (pos 70) ∷ Row.change 1 0 (pos 9) ∷ Row.undo 1 0 4 (pos 9) ∷ [])

record Rows : Type 0 where
  -- the rows of its page, whose changes no visit has committed
  from-the-first : redone_alone log 0 blank ≡ leaves (page 5 (pos 5))
  other-page : redone_alone log 1 blank ≡ leaves (page 3 (pos 70))
  no_row : redone_alone log 2 blank ≡ leaves blank
  -- the mark's own row is in the page, the row after it is not
  above-the-mark : redone_alone log 0 (page 4 (pos 114)) ≡ leaves (page 5 (pos 105))
  at-the-last : redone_alone log 0 (page 5 (pos 105)) ≡ leaves (page 5 (pos 105))

rows : Rows
unfolding computes end_of rows_in redone_bytes redone_alone
rows = record { from-the-first = refl; other-page = refl; no_row = refl; above-the-mark = refl; at-the-last = refl }

-- ── Several pages ─────────────────────────────────────────────────────────────────────────────────────────────────────

-- charts of which all pages but the first two are blank
abbrev charts_of : List ℕ → List ℕ → List ℕ
charts_of zeroth first = zeroth ++ first ++ replicate 960 0

-- page 1, page 0, page 1 again, and a number that no page has
several-pages : foldl (with_redone log) (charts_of blank blank) (1 ∷ 0 ∷ 1 ∷ 32 ∷ []) ≡ charts_of (page 5 (pos 5)) (page 3 (pos 70))
unfolding computes end_of rows_in redone_bytes redone_alone
several-pages = refl

-- ── Bytes that no opening takes ───────────────────────────────────────────────────────────────────────────────────────

record Unchecked : Type 0 where
  -- the log ends before the first row of kind 0, whatever stands behind it
  behind-the-end : redone_alone (set log (16 * 2) 0) 0 blank ≡ leaves (page 2 (pos 5))
  -- a row of an unknown kind is a row, and moves nothing; a row counts by its place, whatever number it bears
  unknown-kind : redone_alone (set log (16 * 1) 8) 0 blank ≡ leaves (page 5 (pos 0))
  wrong-number : redone_alone (set log (16 * 3 + 4) 77) 0 blank ≡ leaves (page 5 (pos 5))
  -- a mark beyond the rows
  late-mark : redone_alone log 0 (page 6 (pos 5)) ≡ leaves (page 6 (pos 5))
  -- a cell wraps in 32 bits
  wraps : redone_alone log 0 (page 0 (pos 2147483643)) ≡ leaves (page 5 (negsuc 2147483647))
  -- bytes 2 and 3 stay
  zero-bytes : redone_alone log 0 (set (set blank 2 8) 3 9) ≡ leaves (set (set (page 5 (pos 5)) 2 8) 3 9)

unchecked : Unchecked
unfolding computes end_of rows_in redone_bytes redone_alone
unchecked = record { behind-the-end = refl; unknown-kind = refl; wrong-number = refl; late-mark = refl; wraps = refl; zero-bytes = refl }
