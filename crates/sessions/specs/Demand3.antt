-- Demand 3 (document 00) as one statement over the whole list of sessions, a field for each of its sentences.
use Rattle.std.specs.Prelude.{ℕ, suc, ◌-◌, ◌≤◌, ◌<◌, Bool, true, false, ◌≡◌, ◌↔◌, ◌≢◌, List, [], ◌∷◌, ◌++◌, map, length, drop, ℤ, pos}
use Rattle.book.specs.Lists.{StartsWith, any, keep}
use Rattle.book.specs.Limits.{cell_limit}
use Rattle.book.specs.Rows.{Row, is_undo}
use Rattle.book.specs.Ledger.{Change, ledger}
use Rattle.book.specs.Rules.{open_changes}
use Rattle.book.specs.Cells.{is_kept, kept_sum}
use Rattle.book.specs.Calls.{Call}
use Rattle.book.specs.Power.{Book, PowerHolds, rows_of, formatted}
use Rattle.book.specs.Book.{Answer, answer, closing}
use Rattle.book.specs.Events.{answers, book_after}
use Rattle.book.specs.SessionWrites.{writes, summed, NoStart, flush_done, SessionCounts, StretchCounts}
use Rattle.book.specs.LogBytes.{log_bytes}
use Rattle.book.specs.Pages.{cell_of, row_at, page_bytes, page_after}
use Rattle.book.specs.Logs.{Logged, InSum, undoes, Once}
use Rattle.state.specs.World.{World, right_lengths}
use Rattle.state.specs.CallContracts.{Answered, FormatPost, cells_of, with_page}
use Rattle.sessions.specs.Host.{Opening, Called, Session, Step, opened, called, steps, answer_of, writes_of, event_of, world_after_all, Host, Contracts}

-- the book after these steps, and its stored rows
abbrev pub book_of : (ℕ → ℤ) → List Step → Book
book_of cells ss = book_after cells formatted (map event_of ss)

abbrev pub log_of : (ℕ → ℤ) → List Step → List Row
log_of cells ss = (book_of cells ss).stored

-- row n of the log is this row
pub record RowIs (n : ℕ) (row : Row) (rs : List Row) : Type 0 where
  pub from : 1 ≤ n
  pub to : n ≤ length rs
  pub is : row_at rs n ≡ row

-- 00: "Each commit answered done has its row in the log from then on, and every change its visit then held is in every later sum." `before` is the book
-- before the commit, `later` the stored log after it or after a later step.
pub record Lasts (before : Book) (visit : ℕ) (answer : Answer) (later : List Row) : Type 0 where
  pub number : ℕ
  pub value : answer.value ≡ pos number
  pub row : RowIs number (Row.commit visit) later
  pub sum : (x : Change) → Logged (rows_of before) x → x.holder ≡ visit → InSum later x

-- 02, L4: "a begin answered done then has its row in every later log until a format": after the rows that there were, with the visit that it answers. `before`
-- and `later` are as above.
pub record Begun (before : Book) (answer : Answer) (later : List Row) : Type 0 where
  pub visit : ℕ
  pub value : answer.value ≡ pos visit
  pub row : RowIs (suc (length (rows_of before))) (Row.begin visit) later

-- the answers of two begins, the later of which has the higher visit number
pub record Rises (earlier later : Answer) : Type 0 where
  pub visit : ℕ
  pub next : ℕ
  pub value : earlier.value ≡ pos visit
  pub next-value : later.value ≡ pos next
  pub higher : visit < next

-- the rows that a ready opening wrote: as many as it answers, an undo row for each change that was open
pub record Wrote (old new : List Row) (answer : Answer) : Type 0 where
  pub rows : answer.value ≡ pos (length new - length old)
  pub undos : length (keep is_undo (drop (length old) new)) ≡ length (open_changes (ledger old))

-- a flush that was done
abbrev pub is_flush_done : Step → Bool
is_flush_done s = flush_done (event_of s) (answer_of s).number

-- For the store formatted with `cells` that holds `own` before the steps. `xs` are always the steps up to some point.
pub record Holds (cells : ℕ → ℤ) (own : World) (ss : List Step) : Type 0 where
  -- "each call's refusal number is the one that 01's book gives it": the number, and the value
  pub answers : map answer_of ss ≡ answers cells formatted (map event_of ss)
  -- "and after it the stored log is, row for row, the book's"
  pub log : (xs ys : List Step) → ss ≡ xs ++ ys → (world_after_all own xs).log ≡ log_bytes (log_of cells xs)
  -- "and stands unchanged at the start of every later one"
  pub stands : (xs ys zs : List Step) → ss ≡ xs ++ (ys ++ zs) → StartsWith (log_of cells xs) (log_of cells (xs ++ ys))
  -- "After every opening that ends ready, each cell is the formatted value plus the sum of the logged changes whose last holder has a commit row."
  -- 01: "After a ready opening a cell is the copy's, and a read that follows at once gives it."
  pub sums : (xs ys : List Step) (o : Opening) → ss ≡ xs ++ (opened o ∷ ys) → o.result.answer.number ≡ 0 → (c : ℕ) → c < cell_limit →
      cell_of (world_after_all own (xs ++ (opened o ∷ []))).copy c ≡ kept_sum cells (log_of cells (xs ++ (opened o ∷ []))) c
  pub reads : (xs ys : List Step) (o : Opening) (r : Called) (c : ℕ) → ss ≡ xs ++ (opened o ∷ called r ∷ ys) → o.result.answer.number ≡ 0 →
      right_lengths r.given ≡ true → r.call ≡ Call.read c → c < cell_limit → r.result.answer ≡ answer 0 (kept_sum cells (log_of cells (xs ++ (opened o ∷ []))) c)
  -- "Each commit answered done has its row in the log from then on, and every change its visit then held is in every later sum."
  pub commits : (xs ys zs : List Step) (c : Called) (v : ℕ) → ss ≡ xs ++ (called c ∷ (ys ++ zs)) → c.call ≡ Call.commit v → c.result.answer.number ≡ 0 →
      Lasts (book_of cells xs) v c.result.answer (log_of cells (xs ++ (called c ∷ ys)))
  -- 02, L4: "a begin answered done then has its row in every later log until a format", whatever openings and cuts are between
  pub begins : (xs ys zs : List Step) (c : Called) → ss ≡ xs ++ (called c ∷ (ys ++ zs)) → c.call ≡ Call.begin → c.result.answer.number ≡ 0 →
      Begun (book_of cells xs) c.result.answer (log_of cells (xs ++ (called c ∷ ys)))
  -- "so no number is given to two visits between formats": of two begins answered done the later one has the higher number
  pub numbers-rise : (xs ys zs : List Step) (c d : Called) → ss ≡ xs ++ (called c ∷ (ys ++ (called d ∷ zs))) → c.call ≡ Call.begin → d.call ≡ Call.begin →
      c.result.answer.number ≡ 0 → d.result.answer.number ≡ 0 → Rises c.result.answer d.result.answer
  -- 02, L7: "Since each begin takes one of 4,096 rows, refusal 6 never occurs any more in 01's sessions"
  pub never-six : (xs ys : List Step) (s : Step) → ss ≡ xs ++ (s ∷ ys) → (answer_of s).number ≢ 6
  -- "After a ready opening a logged change has an undo row exactly when it isn't in the sum."
  pub undone : (xs ys : List Step) (o : Opening) → ss ≡ xs ++ (opened o ∷ ys) → o.result.answer.number ≡ 0 →
      (x : Change) → Logged (log_of cells (xs ++ (opened o ∷ []))) x →
      (any (undoes x.row) (log_of cells (xs ++ (opened o ∷ []))) ≡ true) ↔ (is_kept (ledger (log_of cells (xs ++ (opened o ∷ [])))) x ≡ false)
  -- "No log has two undo rows for a change or two abort rows for a visit."
  pub once : (xs ys : List Step) → ss ≡ xs ++ ys → Once (log_of cells xs)
  -- "An opening whose lent buffers have 01's lengths and whose power holds ends ready."
  pub ready : (xs ys : List Step) (o : Opening) → ss ≡ xs ++ (opened o ∷ ys) → right_lengths o.given ≡ true →
      PowerHolds o.fuse (length (closing (ledger (log_of cells xs)))) → o.result.answer.number ≡ 0
  -- 01: an opening "returns the rows it wrote", and an undo count that isn't the number of undo rows is shut out
  pub wrote : (xs ys : List Step) (o : Opening) → ss ≡ xs ++ (opened o ∷ ys) → o.result.answer.number ≡ 0 →
      Wrote (log_of cells xs) (log_of cells (xs ++ (opened o ∷ []))) o.result.answer
  -- 02, L1: "Every result, refusals included, carries the stored writes that this call landed": the book's counts, step by step
  pub counts : map writes_of ss ≡ writes cells formatted (map event_of ss)
  -- the stored charts are as before where no page is counted; where one is, they have the page of the flush, as it is after the rows so far
  pub charts : (xs ys : List Step) (s : Step) → ss ≡ xs ++ (s ∷ ys) → (writes_of s).pages ≡ 0 →
      (world_after_all own (xs ++ (s ∷ []))).charts ≡ (world_after_all own xs).charts
  pub flushed : (xs ys : List Step) (c : Called) (p : ℕ) → ss ≡ xs ++ (called c ∷ ys) → c.call ≡ Call.flush p → c.result.writes.pages ≢ 0 →
      (world_after_all own (xs ++ (called c ∷ []))).charts ≡ with_page p (page_bytes (page_after cells (rows_of (book_of cells xs)) p)) (world_after_all own xs).charts
  -- "Over a session the counts add up to the writes that landed, whether or not the fuse burnt": of a session's opening `o` and the steps `ys` after it, up
  -- to the next opening that is not refused by 1, which gets another fuse
  pub session : (xs ys zs : List Step) (o : Opening) → ss ≡ xs ++ (opened o ∷ (ys ++ zs)) → right_lengths o.given ≡ true → NoStart (map event_of ys) →
      SessionCounts o.fuse (log_of cells xs) (summed (map writes_of (opened o ∷ ys))) (length (keep is_flush_done (opened o ∷ ys)))
      (book_of cells (xs ++ (opened o ∷ ys)))
  -- and of any stretch of steps in which no such opening is, wherever it starts
  pub stretch : (xs ys zs : List Step) → ss ≡ xs ++ (ys ++ zs) → NoStart (map event_of ys) →
      StretchCounts (book_of cells xs) (summed (map writes_of ys)) (length (keep is_flush_done ys)) (book_of cells (xs ++ ys))

-- After an accepted format, any list of sessions of a host that keeps to 01, whatever functions meet the contracts.
unfoldable pub Demand3 : Type 0
Demand3 =
    (values : List ℤ) (given : World) (format : Answered) → FormatPost values given format → format.answer.number ≡ 0 →
    (ss : List Session) → Host format.world true (steps ss) → Contracts (steps ss) → Holds (cells_of values) format.world (steps ss)
