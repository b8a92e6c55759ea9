-- What format and open give back and leave.
use Rattle.std.specs.Prelude.{ℕ, ◌≡◌, Result, cond, not, List, [], length, ℤ, pos, eqb, ltb}
use Rattle.book.specs.Limits.{cell_limit}
use Rattle.book.specs.Book as book
use Rattle.book.specs.Writes.{Few}
use Rattle.book.specs.LogBytes.{log_bytes}
use Rattle.book.specs.Pages.{chart_bytes, page_after}
use Rattle.state.specs.declared.answers.Refusal.{Refusal}
use Rattle.state.specs.Answers.{checked, rows_and_pages, written, refusal, case_of, HasCase}
use Rattle.state.specs.CallContracts.{Answered, bad_cell, cells_of}
use Rattle.journal.specs.declared.Outcome.{Outcome}
use Rattle.journal.specs.Outcomes.{outcome, Zeroed, Bounded}

-- ── Format ────────────────────────────────────────────────────────────────────────────────────────────────────────────

-- what a format answers, and what log and charts are after it
pub record Formatted : Type 0 where
  pub answer : book.Answer
  pub log : List ℕ
  pub charts : List ℕ

abbrev pub formatted_as : Result (Unit {0}) Refusal → List ℕ → List ℕ → Formatted
formatted_as r log charts = record { answer = checked r; log = log; charts = charts }

-- 01, format, of a log and charts of their lengths: it clears RAM besides
unfoldable pub format_bytes : List ℤ → List ℕ → List ℕ → Formatted
format_bytes values log charts =
    let at : ℕ = bad_cell values in
    let kept : book.Answer → Formatted = λ a. record { answer = a; log = log; charts = charts } in
    cond (not (eqb (length values) cell_limit)) (kept (book.answer 1 (pos 0)))
    (cond (ltb at cell_limit) (kept (book.answer 2 (pos at)))
    (record { answer = book.answer 0 (pos 0); log = log_bytes []; charts = chart_bytes (page_after (cells_of values) []) }))

-- ── Open ──────────────────────────────────────────────────────────────────────────────────────────────────────────────

-- what an opening comes to, and what its callers rely on besides: a refusal leaves RAM zero, and the counters are within their limits
pub record OpenOutcome (x : Answered) (r : Outcome) (log charts copy tail visits scopes : List ℕ) : Type 0 where
  pub is : outcome r log charts copy tail visits scopes ≡ x
  pub case : HasCase written r.answer
  pub refused : case_of r.answer ≡ refusal → Zeroed r copy tail visits scopes
  pub bounded : Bounded r.control r.counts
  pub few : Few (rows_and_pages r.writes)
