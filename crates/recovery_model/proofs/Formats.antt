-- A format of a log and charts of their lengths is the contract's: where it is done, RAM is cleared besides; a refused one changes nothing.
use Prim.Native.Nat.{ℕ}
use mathlib.Core.Path.{◌≡◌, refl, ◌∙◌}
use mathlib.Core.Logic.{◌≢◌}
use mathlib.Core.Bool.{Bool, true, false, cond, not}
use mathlib.Core.List.{List, []}
use lib.ListN.{length}
use lib.IntN.{ℤ, pos}
use lib.Dec.{eqb, ltb}
use borrow.Author.Tests.{eq-eqb, ne_eqb}
use Rattle.book.specs.Book as book
use Rattle.book.specs.Limits.{cell_limit}
use Rattle.book.specs.LogBytes.{log_bytes}
use Rattle.book.specs.Pages.{chart_bytes, page_after}
use Rattle.std.specs.Prelude.{Result}
use Rattle.state.specs.declared.answers.Refusal.{Refusal}
use Rattle.state.specs.Answers.{checked}
use Rattle.state.specs.World.{World, world, right_lengths, cleared}
use Rattle.book.specs.Writes.{no_writes}
use Rattle.state.specs.CallContracts.{Answered, answered, bad_cell, cells_of, formats}
use Rattle.recovery_model.specs.Answering.{Formatted, formatted_as, format_bytes}

-- what it comes to, by its number
abbrev comes_to : World → Formatted → Answered
comes_to w f = record {
  answer = f.answer;
  world = cond (eqb f.answer.number 0) (cleared f.log f.charts) (world w.state f.log f.charts w.copy w.scopes);
  writes = no_writes;
}

formats-by : (values : List ℤ) (w : World) → right_lengths w ≡ true → formats values w ≡ comes_to w (format_bytes values w.log w.charts)
unfolding formats format_bytes
formats-by values w e = rw e (go (eqb (length values) cell_limit) (ltb (bad_cell values) cell_limit))
  where
    kept : book.Answer → Formatted
    kept a = record { answer = a; log = w.log; charts = w.charts }

    new : List ℕ
    new = chart_bytes (page_after (cells_of values) [])

    go : (t u : Bool)
        → cond (not t) (answered 1 (pos 0) w) (cond u (answered 2 (pos (bad_cell values)) w) (answered 0 (pos 0) (cleared (log_bytes []) new)))
        ≡ comes_to w (cond (not t) (kept (book.answer 1 (pos 0))) (cond u (kept (book.answer 2 (pos (bad_cell values))))
        (record { answer = book.answer 0 (pos 0); log = log_bytes []; charts = new })))
    go false u = refl
    go true true = refl
    go true false = refl

-- ── By the answer ─────────────────────────────────────────────────────────────────────────────────────────────────────

module _ (values : List ℤ) (w : World) (long : right_lengths w ≡ true) (r : Result (Unit {0}) Refusal) (log charts : List ℕ)
    (is : formatted_as r log charts ≡ format_bytes values w.log w.charts) where
  pub format-done : (checked r).number ≡ 0 → formats values w ≡ record { answer = checked r; world = cleared log charts; writes = no_writes }
  format-done e = formats-by values w long ∙ rw (← is, eq-eqb _ _ e)

  pub format-refused : (checked r).number ≢ 0
      → formats values w ≡ record { answer = checked r; world = world w.state log charts w.copy w.scopes; writes = no_writes }
  format-refused e = formats-by values w long ∙ rw (← is, ne_eqb _ _ e)
