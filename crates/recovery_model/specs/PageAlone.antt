-- 02, L3: a page redone alone, by the log and that page's 32 bytes with its number, for any bytes: what it answers, the page that it leaves, and what the
-- 32 pages give together. The opening comes in by `specs/ForwardByPages`.
use Rattle.std.specs.Prelude.{ℕ, ◌+◌, ◌*◌, ◌<◌, Bool, true, cond, not, ◌&&◌, ◌≡◌, Result, List, [], ◌∷◌, map, length, get_or, take, drop, pos, ◌+ℤ◌, eqb, ltb}
use Rattle.std.proofs.lemmas.List.Edits.{sets}
use Rattle.book.specs.Lists.{first_failing, tabulate, join, total, foldl, member}
use Rattle.book.specs.Limits.{row_limit, row_length, log_length, places, page_limit, page_length, charts_length}
use Rattle.book.specs.Rows.{Row}
use Rattle.book.specs.Cells.{moved_by, last_on}
use Rattle.book.specs.Book as book
use Rattle.book.specs.Book.{done, refused_by}
use Rattle.book.specs.Numbers.{AreBytes}
use Rattle.book.specs.RowBytes.{row_of}
use Rattle.book.specs.LogBytes.{good, read_log}
use Rattle.book.specs.Pages.{Page, page_bytes, chart_bytes, page_at, page_of, is_page, redone}
use Rattle.book.specs.Opening.{bad_page}
use Rattle.state.specs.declared.answers.Refusal.{Refusal}
use Rattle.state.specs.Answers.{checked}
use Rattle.state.specs.CallContracts.{with_page}

-- the kind of row k, counted from 0, is another than 0
abbrev pub has_kind : List ℕ → ℕ → Bool
has_kind log k = not (eqb (get_or log (row_length * k) 0) 0)

-- 01: the log ends before the first row whose kind is 0; so many rows are before it
unfoldable pub end_of : List ℕ → ℕ
end_of log = first_failing row_limit 0 (has_kind log)

-- the rows before the end, as their bytes say
unfoldable pub rows_in : List ℕ → List Row
rows_in log = tabulate (end_of log) 0 (λ k. row_of (take row_length (drop (row_length * k) log)))

-- 01, open, forward, of any page: each change or undo row whose number exceeds the mark is applied, and the last of them becomes the mark, if there is one
abbrev pub redone_above : List Row → ℕ → List ℕ → Page
redone_above rs p bs =
    let above : List Row = drop (page_of bs).mark rs in
    record { mark = (page_of bs).mark + last_on p above; cell = λ j. (page_of bs).cell j +ℤ total (map (moved_by (places * p + j)) above) }

-- the page's bytes after that, of a cell its lowest 32 bits; bytes 2-3 stay
unfoldable pub redone_bytes : List Row → ℕ → List ℕ → List ℕ
redone_bytes rs p bs = sets (page_bytes (redone_above rs p bs)) 2 (get_or bs 2 0 ∷ get_or bs 3 0 ∷ [])

-- what is answered, and the page that is left
pub record RedoneAlone : Type 0 where
  pub answer : book.Answer
  pub page : List ℕ

-- by the function's own answer
abbrev pub redone_as : Result (Unit {0}) Refusal → List ℕ → RedoneAlone
redone_as r page = record { answer = checked r; page = page }

-- page p, whatever log and bytes are lent: 1 for a length, then 14 for a page above 31, and a refusal leaves the page
unfoldable pub redone_alone : List ℕ → ℕ → List ℕ → RedoneAlone
redone_alone log p bs =
    let refused : ℕ → RedoneAlone = λ n. record { answer = refused_by n; page = bs } in
    cond (not (eqb (length log) log_length && eqb (length bs) page_length)) (refused 1)
    (cond (not (ltb p page_limit)) (refused 14)
    (record { answer = done (pos 0); page = redone_bytes (rows_in log) p bs }))

-- "it leaves that page as the opening has it before going backward": of a log that an opening reads as these rows, and a page that passes its check
unfoldable pub PageAlone : Type 0
PageAlone =
    (log : List ℕ) (rs : List Row) → length log ≡ log_length → read_log log ≡ good rs →
    (p : ℕ) (bs : List ℕ) → p < page_limit → length bs ≡ page_length → is_page rs p bs ≡ true →
    redone_alone log p bs ≡ record { answer = done (pos 0); page = page_bytes (redone rs p bs) }

-- page p of the charts is redone alone, where it stands
abbrev pub with_redone : List ℕ → List ℕ → ℕ → List ℕ
with_redone log charts p = with_page p (redone_alone log p (page_at charts p)).page charts

-- the list names each of the 32 pages, in any order and any of them more than once; a number that no page has changes nothing
abbrev pub AllPages : List ℕ → Type 0
AllPages ps = (p : ℕ) → p < page_limit → member p ps ≡ true

-- "the 32 pages taken in any order give the same copy": of any log and any charts, that in which each page was redone once
unfoldable pub AnyOrder : Type 0
AnyOrder =
    (log charts : List ℕ) → length charts ≡ charts_length → AreBytes charts → (ps : List ℕ) → AllPages ps →
    foldl (with_redone log) charts ps ≡ join (tabulate page_limit 0 (λ p. (redone_alone log p (page_at charts p)).page))

-- and of a log that an opening reads as these rows, beside charts that pass its check, the copy with the book's pages
unfoldable pub CopyAlone : Type 0
CopyAlone =
    (log charts : List ℕ) → length log ≡ log_length → length charts ≡ charts_length → AreBytes charts →
    (rs : List Row) → read_log log ≡ good rs → bad_page rs charts ≡ page_limit → (ps : List ℕ) → AllPages ps →
    foldl (with_redone log) charts ps ≡ chart_bytes (λ p. redone rs p (page_at charts p))
