-- 01, open, over the stored bytes: it checks log, then pages, and loads the copy; forward, backward, force.
use Rattle.std.specs.Prelude.{ℕ, cond, List, [], replicate, pos, ltb}
use Rattle.book.specs.Lists.{first_failing}
use Rattle.book.specs.Limits.{page_limit, charts_length}
use Rattle.book.specs.Rows.{Row}
use Rattle.book.specs.Power.{Book, Fuse, rows_of, closed}
use Rattle.book.specs.Book.{Answer, answer, Outcome, reopen}
use Rattle.book.specs.Writes.{Writes, no_writes, opening_writes}
use Rattle.book.specs.LogBytes.{Log, good, bad, log_bytes, read_log}
use Rattle.book.specs.Pages.{chart_bytes, page_at, is_page, redone}

-- What an opening makes of the stored bytes. It writes no page. The book says what state, tail and scopes come to: closed where it is not ready.
pub record Opened : Type 0 where
  pub answer : Answer
  pub book : Book
  pub log : List ℕ
  pub copy : List ℕ
  pub writes : Writes

-- 01: the copy after a power failure
abbrev pub no_copy : List ℕ
no_copy = replicate charts_length 0

-- 01: after 3 or 4 log and charts are unchanged and the store is closed; 02, L8: "16 and 17 leave everything as 3 does"
abbrev pub rejected : ℕ → ℕ → List ℕ → Opened
rejected n place log = record { answer = answer n (pos place); book = closed []; log = log; copy = no_copy; writes = no_writes }

-- 01: of a log that was read as these rows and charts that were checked; the rows are repeated, the closing ones too, and the copy has them if the power held
abbrev pub recovered : List Row → List ℕ → Outcome → Opened
recovered rs charts o = record {
  answer = o.answer;
  book = o.book;
  log = log_bytes o.book.stored;
  copy = cond o.book.is_open (chart_bytes (λ p. redone (rows_of o.book) p (page_at charts p))) no_copy;
  writes = opening_writes rs o;
}

-- the first page that fails the check, or 32
abbrev pub bad_page : List Row → List ℕ → ℕ
bad_page rs charts = first_failing page_limit 0 (λ p. is_page rs p (page_at charts p))

-- 01: log before pages
abbrev pub checked : Fuse → List ℕ → List ℕ → Log → Opened
checked f log charts (bad n row) = rejected n row log
checked f log charts (good rs) =
    let p : ℕ = bad_page rs charts in cond (ltb p page_limit) (rejected 4 p log) (recovered rs charts (reopen f rs))

-- 01: open, of a log and charts of 01's lengths
unfoldable pub open_bytes : Fuse → List ℕ → List ℕ → Opened
open_bytes f log charts = checked f log charts (read_log log)
