-- What each field of demand 3 (`Holds`) says of 01's example, in numbers, rows and grams: a field that said less would not give it. Of any cells that were
-- formatted and any openings and calls with these events: `kept` is 01's example with fuse 6, where the change is kept; in `cut` the page of the change is
-- flushed, the commit is cut, and the next opening has just the power for its rows.
use Prim.Native.Nat.{ℕ, suc, ◌+◌, ◌≤◌, ◌<◌}
use native.Mathlib.Omega.{arith}
use mathlib.Core.Path.{◌≡◌, refl, ap, sym, ◌∙◌, subst}
use mathlib.Core.Bool.{Bool, true, false}
use mathlib.Core.Logic.{◌≢◌, ◌↔◌}
use mathlib.Core.List.{List, [], ◌∷◌, ◌++◌, map, append-nil, append_cancel_left}
use lib.ListN.{length, get_or, take, drop}
use lib.IntN.{ℤ, pos, negsuc, ◌+ℤ◌}
use Rattle.book.specs.Lists.{any, keep}
use Rattle.book.specs.Rows.{Row, is_undo}
use Rattle.book.specs.Ledger.{Change, ledger}
use Rattle.book.specs.Rules.{open_changes}
use Rattle.book.specs.Cells.{is_kept, kept_sum}
use Rattle.book.specs.Calls.{Call}
use Rattle.book.specs.Power.{Fuse, none, left, PowerHolds, rows_of, formatted}
use Rattle.book.specs.Book.{Answer, answer, closing, done, refused_by}
use Rattle.book.specs.Events.{Event, opens, calls, answers, book_after}
use Rattle.book.specs.Writes.{Writes, no_writes}
use Rattle.book.specs.SessionWrites.{writes, summed, together, more_by, NoStart, SessionCounts}
use Rattle.book.specs.LogBytes.{log_bytes}
use Rattle.book.specs.Pages.{cell_of, row_at, page_bytes, page_after}
use Rattle.book.specs.Logs.{Logged, InSum, undoes, aborts, Once}
use Rattle.book.proofs.Lists.{here}
use Rattle.book.proofs.WorkedExamples.{computes}
use Rattle.book.proofs.Example.{example}
use Rattle.state.specs.World.{World}
use Rattle.state.specs.CallContracts.{with_page}
use Rattle.sessions.specs.Host.{Opening, Called, Step, opened, called, answer_of, writes_of, event_of, world_after_all}
use Rattle.sessions.specs.Demand3.{book_of, log_of, RowIs, Lasts, Begun, Wrote, is_flush_done, Holds}

-- ── Places of a list ──────────────────────────────────────────────────────────────────────────────────────────────────

-- event n, its call, its fuse and whether its buffers have 01's lengths
abbrev pub nth : List Event → ℕ → Event
nth es n = get_or es n (calls false Call.force)

abbrev pub asked_in : Event → Call
asked_in (opens lengths f) = Call.force
asked_in (calls lengths k) = k

abbrev pub fuse_in : Event → Fuse
fuse_in (opens lengths f) = f
fuse_in (calls lengths k) = left 0

abbrev pub lengths_in : Event → Bool
lengths_in (opens lengths f) = lengths
lengths_in (calls lengths k) = lengths

abbrev pub number_at : List Answer → ℕ → ℕ
number_at xs n = (get_or xs n (refused_by 1)).number

abbrev pub value_at : List Answer → ℕ → ℤ
value_at xs n = (get_or xs n (refused_by 1)).value

abbrev pub pages_at : List Writes → ℕ → ℕ
pages_at ws n = (get_or ws n (record { rows = 0; pages = 0 })).pages

abbrev pub rows_stored : ℕ → Writes
rows_stored n = record { rows = n; pages = 0 }

number-of : {n m : ℕ} → pos n ≡ pos m → n ≡ m
number-of e = cc

sum_of : {n m : ℕ} → 0 + n ≡ m → n ≡ m
sum_of e = omega arith

nothing-more : {n m k : ℕ} → n ≡ m + k → n ≡ 6 → m ≡ 6 → k ≡ 0
nothing-more e n m = omega arith

-- ── By the book ───────────────────────────────────────────────────────────────────────────────────────────────────────

-- the change as visit 1 made it, and as it is after the hand-over
abbrev pub made : Change
made = record { row = 3; maker = 1; cell = 0; amount = negsuc 199; holder = 1; handed = false; scope = 3 }

abbrev pub handed : Change
handed = record { row = 3; maker = 1; cell = 0; amount = negsuc 199; holder = 2; handed = true; scope = 3 }

-- its rows: two begins, then the others
abbrev pub begun : List Row
begun = Row.begin 1 ∷ Row.begin 2 ∷ []

abbrev pub others : List Row
others = Row.change 1 0 (negsuc 199) ∷ Row.hand_over 1 2 0 ∷ Row.abort 1 ∷ Row.commit 2 ∷ []

abbrev pub kept_rows : List Row
kept_rows = begun ++ others

abbrev pub kept_counts : List Writes
kept_counts = map rows_stored (0 ∷ 1 ∷ 1 ∷ 0 ∷ 0 ∷ 0 ∷ 4 ∷ 0 ∷ 0 ∷ [])

-- session 1 with fuse 4: begin, begin, visit 1 adds -200 to cell 0, its page is flushed, visit 1 hands the cell to 2, abort 1, commit 2; session 2 with fuse 3:
-- read 223
abbrev pub cut_events : List Event
cut_events =
    opens true (left 4) ∷ calls true Call.begin ∷ calls true Call.begin ∷ calls true (Call.change 1 0 (negsuc 199)) ∷ calls true (Call.flush 0) ∷
    calls true (Call.hand_over 1 2 0) ∷ calls true (Call.abort 1) ∷ calls true (Call.commit 2) ∷ opens true (left 3) ∷ calls true (Call.read 223) ∷ []

abbrev pub cut_rows : List Row
cut_rows = begun ++ (Row.change 1 0 (negsuc 199) ∷ [])

abbrev pub end_rows : List Row
end_rows = cut_rows ++ (Row.undo 1 0 3 (negsuc 199) ∷ Row.abort 2 ∷ Row.abort 1 ∷ [])

abbrev pub cut_counts : List Writes
cut_counts = map rows_stored (0 ∷ 1 ∷ 1 ∷ 0 ∷ []) ++ (record { rows = 1; pages = 1 } ∷ map rows_stored (0 ∷ 0 ∷ 0 ∷ 3 ∷ 0 ∷ []))

module _ (cells : ℕ → ℤ) where
  abbrev pub kept_answers : List Answer
  kept_answers =
      done (pos 0) ∷ done (pos 1) ∷ done (pos 2) ∷ done (pos 3) ∷ done (pos 4) ∷ done (pos 5) ∷ done (pos 6) ∷ done (pos 0) ∷
      done (cells 0 +ℤ negsuc 199) ∷ []

  abbrev pub cut_answers : List Answer
  cut_answers =
      done (pos 0) ∷ done (pos 1) ∷ done (pos 2) ∷ done (pos 3) ∷ done (pos 0) ∷ done (pos 4) ∷ done (pos 5) ∷ refused_by 5 ∷ done (pos 3) ∷
      done (cells 223 +ℤ pos 0) ∷ []

  answers-kept : answers cells formatted (example (left 6)) ≡ kept_answers
  unfolding computes
  answers-kept = refl

  writes_kept : writes cells formatted (example (left 6)) ≡ kept_counts
  unfolding computes
  writes_kept = refl

  -- what is stored after the second begin, and in the end
  stored-kept : ((book_after cells formatted (take 3 (example (left 6)))).stored ≡ begun) × ((book_after cells formatted (take 7 (example (left 6)))).stored ≡ kept_rows) ×
      ((book_after cells formatted (take 8 (example (left 6)))).stored ≡ kept_rows) × ((book_after cells formatted (example (left 6))).stored ≡ kept_rows)
  unfolding computes
  stored-kept = (refl, refl, refl, refl)

  -- before the commit visit 2 holds the change; after it nothing of the fuse is left
  held-by-2 : Logged (rows_of (book_after cells formatted (take 6 (example (left 6))))) handed
  unfolding computes
  held-by-2 = here

  open_kept : ((book_after cells formatted (take 7 (example (left 6)))).is_open ≡ true) × ((book_after cells formatted (take 7 (example (left 6)))).fuse ≡ left 0)
  unfolding computes
  open_kept = (refl, refl)

  one-before : length (rows_of (book_after cells formatted (take 2 (example (left 6))))) ≡ 1
  unfolding computes
  one-before = refl

  sums_kept : (kept_sum cells kept_rows 0 ≡ cells 0 +ℤ negsuc 199) × (kept_sum cells kept_rows 223 ≡ cells 223 +ℤ pos 0)
  unfolding computes kept_sum
  sums_kept = (refl, refl)

  sums-cut : (kept_sum cells end_rows 0 ≡ cells 0 +ℤ pos 0) × (kept_sum cells end_rows 223 ≡ cells 223 +ℤ pos 0)
  unfolding computes kept_sum
  sums-cut = (refl, refl)

  answers-cut : answers cells formatted cut_events ≡ cut_answers
  unfolding computes
  answers-cut = refl

  writes-cut : writes cells formatted cut_events ≡ cut_counts
  unfolding computes
  writes-cut = refl

  -- the rows of the page when it is flushed, those that the cut leaves, and those after the opening
  rows_cut : (rows_of (book_after cells formatted (take 4 cut_events)) ≡ cut_rows) × ((book_after cells formatted (take 8 cut_events)).stored ≡ cut_rows) ×
      ((book_after cells formatted (take 8 cut_events)).is_open ≡ false) × ((book_after cells formatted (take 9 cut_events)).stored ≡ end_rows)
  unfolding computes
  rows_cut = (refl, refl, refl, refl)

  -- the fuse before and after the begins, the change and the flush
  stretch-of-cut : ((book_after cells formatted (take 1 cut_events)).is_open ≡ true) × ((book_after cells formatted (take 1 cut_events)).fuse ≡ left 4) ×
      ((book_after cells formatted (take 5 cut_events)).is_open ≡ true) × ((book_after cells formatted (take 5 cut_events)).fuse ≡ left 0)
  unfolding computes
  stretch-of-cut = (refl, refl, refl, refl)

three-rows : PowerHolds (left 3) (length (closing (ledger cut_rows)))
unfolding computes
three-rows = omega arith

one-open : length (open_changes (ledger cut_rows)) ≡ 1
unfolding computes
one-open = refl

undone-once : Logged end_rows made × (any (undoes 3) end_rows ≡ true) × (is_kept (ledger end_rows) made ≡ false)
unfolding computes
undone-once = (here, refl, refl)

-- ── 01's example, with fuse 6 ─────────────────────────────────────────────────────────────────────────────────────────

module _ (cells : ℕ → ℤ) (own : World) (o : Opening) (one two ch ho ab co : Called) (o' : Opening) (rd : Called) where
  abbrev pub kept : List Step
  kept = opened o ∷ called one ∷ called two ∷ called ch ∷ called ho ∷ called ab ∷ called co ∷ opened o' ∷ called rd ∷ []

  module _ (are : map event_of kept ≡ example (left 6)) (h : Holds cells own kept) where
    pub event : (n : ℕ) → nth (map event_of kept) n ≡ nth (example (left 6)) n
    event n = ap (λ (es : List Event). nth es n) are

    -- `answers`
    pub kept-answers : map answer_of kept ≡ kept_answers cells
    kept-answers = h.answers ∙ ap (answers cells formatted) are ∙ answers-kept cells

    pub number : (n : ℕ) → number_at (map answer_of kept) n ≡ number_at (kept_answers cells) n
    number n = ap (λ (xs : List Answer). number_at xs n) kept-answers

    -- `log`: after the second begin, and in the end
    log-begun : log_of cells (take 3 kept) ≡ begun
    log-begun = ap (λ (es : List Event). (book_after cells formatted (take 3 es)).stored) are ∙ (stored-kept cells).0

    log-ready : log_of cells (take 8 kept) ≡ kept_rows
    log-ready = ap (λ (es : List Event). (book_after cells formatted (take 8 es)).stored) are ∙ (stored-kept cells).2

    pub log-end : log_of cells kept ≡ kept_rows
    log-end = ap (λ (es : List Event). (book_after cells formatted es).stored) are ∙ (stored-kept cells).3

    pub kept-log : ((world_after_all own (take 3 kept)).log ≡ log_bytes begun) × ((world_after_all own kept).log ≡ log_bytes kept_rows)
    kept-log = (h.log (take 3 kept) (drop 3 kept) refl ∙ ap log_bytes log-begun, h.log kept [] refl ∙ ap log_bytes log-end)

    -- `stands`: the rows that came after the two begins
    pub kept-stands : (h.stands (take 3 kept) (take 5 (drop 3 kept)) (drop 8 kept) refl).0 ≡ others
    kept-stands =
        let s = h.stands (take 3 kept) (take 5 (drop 3 kept)) (drop 8 kept) refl in
        sym (append_cancel_left begun others s.0 (sym log-ready ∙ s.1 ∙ ap (λ (l : List Row). l ++ s.0) log-begun))

    -- `sums`: 200 g less in the first cell, and nothing in the last
    pub kept-cells : (cell_of (world_after_all own (take 8 kept)).copy 0 ≡ cells 0 +ℤ negsuc 199) ×
        (cell_of (world_after_all own (take 8 kept)).copy 223 ≡ cells 223 +ℤ pos 0)
    kept-cells = (
      h.sums (take 7 kept) (drop 8 kept) o' refl (number 7) 0 (omega arith) ∙ ap (λ (l : List Row). kept_sum cells l 0) log-ready ∙ (sums_kept cells).0,
      h.sums (take 7 kept) (drop 8 kept) o' refl (number 7) 223 (omega arith) ∙ ap (λ (l : List Row). kept_sum cells l 223) log-ready ∙ (sums_kept cells).1,
    )

    -- `reads`
    pub kept_read : rd.result.answer ≡ done (cells 0 +ℤ negsuc 199)
    kept_read =
        h.reads (take 7 kept) [] o' rd 0 refl (number 7) (ap lengths_in (event 8)) (ap asked_in (event 8)) (omega arith) ∙
        ap (λ (l : List Row). answer 0 (kept_sum cells l 0)) log-ready ∙ ap (answer 0) (sums_kept cells).0

    -- `commits`: row 6 of the log in the end, and the change that visit 1 made and visit 2 held
    pub commit-lasts : Lasts (book_of cells (take 6 kept)) 2 co.result.answer (log_of cells kept)
    commit-lasts = h.commits (take 6 kept) (drop 7 kept) [] co 2 refl (ap asked_in (event 6)) (number 6)

    pub commit-number : commit-lasts.number ≡ 6
    commit-number = number-of (sym commit-lasts.value ∙ ap (λ (xs : List Answer). value_at xs 6) kept-answers)

    pub commit-row : (1 ≤ commit-lasts.number) × (commit-lasts.number ≤ 6) × (row_at kept_rows 6 ≡ Row.commit 2)
    commit-row = (
      commit-lasts.row.from,
      subst (λ (l : List Row). commit-lasts.number ≤ length l) log-end commit-lasts.row.to,
      subst (λ (l : List Row). row_at l 6 ≡ Row.commit 2) log-end (subst (λ (n : ℕ). row_at (log_of cells kept) n ≡ Row.commit 2) commit-number commit-lasts.row.is),
    )

    pub commit-sum : InSum kept_rows handed
    commit-sum = subst (λ (l : List Row). InSum l handed) log-end (commit-lasts.sum handed
        (subst (λ (es : List Event). Logged (rows_of (book_after cells formatted (take 6 es))) handed) (sym are) (held-by-2 cells)) refl)

    -- `begins`: row 2 of the log in the end
    pub begin-lasts : Begun (book_of cells (take 2 kept)) two.result.answer (log_of cells kept)
    begin-lasts = h.begins (take 2 kept) (drop 3 kept) [] two refl (ap asked_in (event 2)) (number 2)

    pub begin-visit : begin-lasts.visit ≡ 2
    begin-visit = number-of (sym begin-lasts.value ∙ ap (λ (xs : List Answer). value_at xs 2) kept-answers)

    pub begin-row : RowIs 2 (Row.begin 2) kept_rows
    begin-row =
        let before = ap (λ (es : List Event). suc (length (rows_of (book_after cells formatted (take 2 es))))) are ∙ ap suc (one-before cells) in
        subst (RowIs 2 (Row.begin 2)) log-end (subst (λ (n : ℕ). RowIs n (Row.begin 2) (log_of cells kept)) before
        (subst (λ (v : ℕ). RowIs (suc (length (rows_of (book_of cells (take 2 kept))))) (Row.begin v) (log_of cells kept)) begin-visit begin-lasts.row))

    -- `numbers-rise`: visits 1 and 2
    pub kept-rises : (v : ℕ) × (w : ℕ) × (v ≡ 1) × (w ≡ 2) × (v < w)
    kept-rises =
        let r = h.numbers-rise (take 1 kept) [] (drop 3 kept) one two refl (ap asked_in (event 1)) (ap asked_in (event 2)) (number 1) (number 2) in (
          r.visit,
          r.next,
          number-of (sym r.value ∙ ap (λ (xs : List Answer). value_at xs 1) kept-answers),
          number-of (sym r.next-value ∙ ap (λ (xs : List Answer). value_at xs 2) kept-answers),
          r.higher,
        )

    -- `never-six`: of a call, and of an opening
    pub kept-never-six : (two.result.answer.number ≢ 6) × (o'.result.answer.number ≢ 6)
    kept-never-six = (h.never-six (take 2 kept) (drop 3 kept) (called two) refl, h.never-six (take 7 kept) (drop 8 kept) (opened o') refl)

    -- `counts`
    pub kept-counts : map writes_of kept ≡ kept_counts
    kept-counts = h.counts ∙ ap (writes cells formatted) are ∙ writes_kept cells

    no-page : (n : ℕ) → pages_at (map writes_of kept) n ≡ pages_at kept_counts n
    no-page n = ap (λ (ws : List Writes). pages_at ws n) kept-counts

    -- `charts`: the stored charts are those of the format
    pub kept-charts : (world_after_all own kept).charts ≡ own.charts
    kept-charts =
        h.charts (take 8 kept) [] (called rd) refl (no-page 8) ∙ h.charts (take 7 kept) (drop 8 kept) (opened o') refl (no-page 7) ∙
        h.charts (take 6 kept) (drop 7 kept) (called co) refl (no-page 6) ∙ h.charts (take 5 kept) (drop 6 kept) (called ab) refl (no-page 5) ∙
        h.charts (take 4 kept) (drop 5 kept) (called ho) refl (no-page 4) ∙ h.charts (take 3 kept) (drop 4 kept) (called ch) refl (no-page 3) ∙
        h.charts (take 2 kept) (drop 3 kept) (called two) refl (no-page 2) ∙ h.charts (take 1 kept) (drop 2 kept) (called one) refl (no-page 1) ∙
        h.charts [] (drop 1 kept) (opened o) refl (no-page 0)

    -- `session`: six rows, no page, and nothing of the fuse left
    counted : SessionCounts o.fuse [] (summed (map writes_of (take 7 kept))) (length (keep is_flush_done (take 7 kept))) (book_of cells (take 7 kept))
    counted = h.session [] (take 6 (drop 1 kept)) (drop 7 kept) o refl (ap lengths_in (event 0)) (refl, (refl, (refl, (refl, (refl, (refl, tt))))))

    pub kept-session-rows : (summed (map writes_of (take 7 kept))).rows ≡ 6
    kept-session-rows =
        sum_of (sym counted.rows ∙ ap (λ (es : List Event). length (book_after cells formatted (take 7 es)).stored) are ∙ ap length (stored-kept cells).1)

    pub kept-session-pages : length (keep is_flush_done (take 7 kept)) ≡ 0
    kept-session-pages = sym counted.pages ∙ ap (λ (ws : List Writes). (summed (take 7 ws)).pages) kept-counts

    pub kept-session-fuse : left 6 ≡ more_by (together (summed (map writes_of (take 7 kept)))) (left 0)
    kept-session-fuse =
        let runs = ap (λ (es : List Event). (book_after cells formatted (take 7 es)).is_open) are ∙ (open_kept cells).0 in
        let spent = ap (λ (es : List Event). (book_after cells formatted (take 7 es)).fuse) are ∙ (open_kept cells).1 in
        sym (ap fuse_in (event 0)) ∙ counted.fuse.held runs ∙ ap (more_by (together (summed (map writes_of (take 7 kept))))) spent

    -- the second session stores nothing
    pub kept-second-session : (summed (map writes_of (drop 7 kept))).rows ≡ 0
    kept-second-session =
        nothing-more (h.session (take 7 kept) (drop 8 kept) [] o' refl (ap lengths_in (event 7)) (refl, tt)).rows (ap length log-end)
        (ap (λ (es : List Event). length (book_after cells formatted (take 7 es)).stored) are ∙ ap length (stored-kept cells).1)

-- ── The page flushed, the commit cut ──────────────────────────────────────────────────────────────────────────────────

module _ (cells : ℕ → ℤ) (own : World) (o : Opening) (one two ch fl ho ab co : Called) (o' : Opening) (rd : Called) where
  abbrev pub cut : List Step
  cut = opened o ∷ called one ∷ called two ∷ called ch ∷ called fl ∷ called ho ∷ called ab ∷ called co ∷ opened o' ∷ called rd ∷ []

  module _ (are : map event_of cut ≡ cut_events) (h : Holds cells own cut) where
    cut-event : (n : ℕ) → nth (map event_of cut) n ≡ nth cut_events n
    cut-event n = ap (λ (es : List Event). nth es n) are

    pub cut-answers : map answer_of cut ≡ cut_answers cells
    cut-answers = h.answers ∙ ap (answers cells formatted) are ∙ answers-cut cells

    log-cut : log_of cells (take 8 cut) ≡ cut_rows
    log-cut = ap (λ (es : List Event). (book_after cells formatted (take 8 es)).stored) are ∙ (rows_cut cells).1

    log-after : log_of cells (take 9 cut) ≡ end_rows
    log-after = ap (λ (es : List Event). (book_after cells formatted (take 9 es)).stored) are ∙ (rows_cut cells).3

    -- `ready`: the power is for three rows, and three are to be written
    pub cut-ready : o'.result.answer.number ≡ 0
    cut-ready = h.ready (take 8 cut) (drop 9 cut) o' refl (ap lengths_in (cut-event 8))
        (subst (λ (f : Fuse). PowerHolds f (length (closing (ledger (log_of cells (take 8 cut)))))) (sym (ap fuse_in (cut-event 8)))
        (subst (λ (l : List Row). PowerHolds (left 3) (length (closing (ledger l)))) (sym log-cut) three-rows))

    -- `wrote`: three rows, one of them an undo row
    pub cut-wrote : (o'.result.answer.value ≡ pos 3) × (length (keep is_undo (drop 3 end_rows)) ≡ 1)
    cut-wrote =
        let w = subst (λ (l : List Row). Wrote l end_rows o'.result.answer) log-cut
        (subst (λ (l : List Row). Wrote (log_of cells (take 8 cut)) l o'.result.answer) log-after (h.wrote (take 8 cut) (drop 9 cut) o' refl cut-ready)) in
        (w.rows, w.undos ∙ one-open)

    -- `undone`, both ways: the change has an undo row, and is not in the sum
    cut-undone-or-kept : (any (undoes 3) end_rows ≡ true) ↔ (is_kept (ledger end_rows) made ≡ false)
    cut-undone-or-kept = subst (λ (l : List Row). Logged l made → (any (undoes 3) l ≡ true) ↔ (is_kept (ledger l) made ≡ false)) log-after
        (h.undone (take 8 cut) (drop 9 cut) o' refl cut-ready made) undone-once.0

    pub cut-undone : (is_kept (ledger end_rows) made ≡ false) × (any (undoes 3) end_rows ≡ true)
    cut-undone = (cut-undone-or-kept.0 undone-once.1, cut-undone-or-kept.1 undone-once.2)

    -- `once`
    pub cut-once : (length (keep (undoes 3) end_rows) ≤ 1) × (length (keep (aborts 2) end_rows) ≤ 1)
    cut-once =
        let t = subst Once log-after (h.once (take 9 cut) (drop 9 cut) refl) in (t.undos 3 (omega arith), t.aborted 2 (omega arith))

    -- `reads` and `sums`: the formatted values, in the last cell and in the first
    pub cut-read : rd.result.answer ≡ done (cells 223 +ℤ pos 0)
    cut-read =
        h.reads (take 8 cut) [] o' rd 223 refl cut-ready (ap lengths_in (cut-event 9)) (ap asked_in (cut-event 9)) (omega arith) ∙
        ap (λ (l : List Row). answer 0 (kept_sum cells l 223)) log-after ∙ ap (answer 0) (sums-cut cells).1

    pub cut-cell : cell_of (world_after_all own (take 9 cut)).copy 0 ≡ cells 0 +ℤ pos 0
    cut-cell = h.sums (take 8 cut) (drop 9 cut) o' refl cut-ready 0 (omega arith) ∙ ap (λ (l : List Row). kept_sum cells l 0) log-after ∙ (sums-cut cells).0

    -- `counts`, and `flushed`: the page of cell 0, after the three rows
    pub cut-counts : map writes_of cut ≡ cut_counts
    cut-counts = h.counts ∙ ap (writes cells formatted) are ∙ writes-cut cells

    pub cut-flushed : (world_after_all own (take 5 cut)).charts ≡ with_page 0 (page_bytes (page_after cells cut_rows 0)) (world_after_all own (take 4 cut)).charts
    cut-flushed =
        let one-page = ap (λ (ws : List Writes). pages_at ws 4) cut-counts in
        let rows = ap (λ (es : List Event). rows_of (book_after cells formatted (take 4 es))) are ∙ (rows_cut cells).0 in
        h.flushed (take 4 cut) (drop 5 cut) fl 0 refl (ap asked_in (cut-event 4)) (λ z. let no = sym one-page ∙ z in omega arith) ∙
        ap (λ (l : List Row). with_page 0 (page_bytes (page_after cells l 0)) (world_after_all own (take 4 cut)).charts) rows

    -- `session`: the fuse burnt after three rows and a page
    cut-counted : SessionCounts o.fuse [] (summed (map writes_of (take 8 cut))) (length (keep is_flush_done (take 8 cut))) (book_of cells (take 8 cut))
    cut-counted = h.session [] (take 7 (drop 1 cut)) (drop 8 cut) o refl (ap lengths_in (cut-event 0)) (refl, (refl, (refl, (refl, (refl, (refl, (refl, tt)))))))

    pub cut-session : ((summed (map writes_of (take 8 cut))).rows ≡ 3) × (length (keep is_flush_done (take 8 cut)) ≡ 1) ×
        (left 4 ≡ left (together (summed (map writes_of (take 8 cut)))))
    cut-session = (
      sum_of (sym cut-counted.rows ∙ ap length log-cut),
      sym cut-counted.pages ∙ ap (λ (ws : List Writes). (summed (take 8 ws)).pages) cut-counts,
      sym (ap fuse_in (cut-event 0)) ∙ cut-counted.fuse.burnt (ap (λ (es : List Event). (book_after cells formatted (take 8 es)).is_open) are ∙ (rows_cut cells).2),
    )

    -- `stretch`: the begins, the change and the flush take the whole fuse, and the log grows by the rows that they count
    stretch-counted : SessionCounts (book_of cells (take 1 cut)).fuse (log_of cells (take 1 cut)) (summed (map writes_of (take 4 (drop 1 cut))))
        (length (keep is_flush_done (take 4 (drop 1 cut)))) (book_of cells (take 5 cut))
    stretch-counted = (h.stretch (take 1 cut) (take 4 (drop 1 cut)) (drop 5 cut) refl (refl, (refl, (refl, (refl, tt))))).running
        (ap (λ (es : List Event). (book_after cells formatted (take 1 es)).is_open) are ∙ (stretch-of-cut cells).0)

    pub cut-stretch : (length (log_of cells (take 5 cut)) ≡ length (log_of cells (take 1 cut)) + (summed (map writes_of (take 4 (drop 1 cut)))).rows) ×
        ((summed (map writes_of (take 4 (drop 1 cut)))).pages ≡ length (keep is_flush_done (take 4 (drop 1 cut)))) ×
        (left 4 ≡ more_by (together (summed (map writes_of (take 4 (drop 1 cut))))) (left 0))
    cut-stretch =
        let given = ap (λ (es : List Event). (book_after cells formatted (take 1 es)).fuse) are ∙ (stretch-of-cut cells).1 in
        let runs = ap (λ (es : List Event). (book_after cells formatted (take 5 es)).is_open) are ∙ (stretch-of-cut cells).2 in
        let spent = ap (λ (es : List Event). (book_after cells formatted (take 5 es)).fuse) are ∙ (stretch-of-cut cells).3 in (
          stretch-counted.rows,
          stretch-counted.pages,
          sym given ∙ stretch-counted.fuse.held runs ∙ ap (more_by (together (summed (map writes_of (take 4 (drop 1 cut)))))) spent,
        )

-- ── A store that stays closed ─────────────────────────────────────────────────────────────────────────────────────────

-- an opening that is lent a buffer of another length, right after the format, and a begin: `stretch` says that nothing is stored
module _ (cells : ℕ → ℤ) (own : World) (o : Opening) (c : Called) (h : Holds cells own (opened o ∷ called c ∷ []))
    (are : map event_of (opened o ∷ called c ∷ []) ≡ opens false none ∷ calls true Call.begin ∷ []) where
  pub closed-stretch : (summed (map writes_of (opened o ∷ called c ∷ [])) ≡ no_writes) × (length (keep is_flush_done (opened o ∷ called c ∷ [])) ≡ 0) ×
      (book_of cells (opened o ∷ called c ∷ []) ≡ formatted)
  closed-stretch = (h.stretch [] (opened o ∷ called c ∷ []) [] (sym (append-nil _)) (subst NoStart (sym are) (refl, (refl, tt)))).idle refl
