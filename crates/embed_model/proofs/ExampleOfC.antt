-- Document 01's example made with the functions for C: it occurs, each array and argument of the functions' types, and its answers, counts, log and cells
-- are those of 01.
use Prim.Native.Nat.{ℕ}
use native.Mathlib.Omega.{arith}
use mathlib.Core.Bool.{true}
use mathlib.Core.Path.{◌≡◌, refl, ap, sym, ◌∙◌}
use mathlib.Core.List.{List, [], ◌∷◌, ◌++◌, map, append-nil}
use lib.ListN.{length, replicate}
use lib.IntN.{ℤ, pos, negsuc}
use borrow.Author.Tests.{eq-eqb}
use Rattle.book.specs.Lists.{foldl}
use Rattle.book.specs.Rows.{Row}
use Rattle.book.specs.Ledger.{Change, given}
use Rattle.book.specs.Power.{Fuse, left, rows_of, formatted}
use Rattle.book.specs.Book.{done, refused_by}
use Rattle.book.specs.Events.{Event, answers, book_after}
use Rattle.book.specs.Writes.{Writes}
use Rattle.book.specs.LogBytes.{log_bytes}
use Rattle.book.specs.Logs.{Logged, InSum}
use Rattle.book.proofs.Example.{example}
use Rattle.book.proofs.WorkedExamples.{computes}
use Rattle.state.specs.World.{World, right_lengths}
use Rattle.state.specs.CallContracts.{cells_of}
use Rattle.sessions.specs.Host.{called, steps, answer_of, writes_of, event_of, world_after_all}
use Rattle.sessions.specs.Demand3.{Holds, book_of, log_of}
use Rattle.sessions.specs.Survives.{HandedOver, Survives}
use Rattle.embed_model.specs.Arrays.{Arrays, world_in}
use Rattle.embed_model.specs.Packed.{answer_in}
use Rattle.embed_model.specs.Host.{FormatMade, SessionMade, StepMade, steps_made, session_of_c, step_of, after_step, HostOfC}
use Rattle.embed_model.specs.Demand.{Demand3OfC}
use Rattle.embed_model.specs.Survives.{HandedOverSurvivesOfC}
use Rattle.embed_model.specs.EveryList.{FuseOfC, SessionsOfC, AnyFormatOfC, EveryListOfC}
use Rattle.embed_model.proofs.Arrays.{only-stored}
use Rattle.embed_model.proofs.Demand.{after-world, same-steps, demand-3-of-c}
use Rattle.embed_model.proofs.Survives.{handed-over-survives-of-c}
use Rattle.embed_model.proofs.BookArrays.{zeros, zeros-long}
use Rattle.embed_model.proofs.EveryList.{every-list-of-c, any-format-of-c}

-- every cell is formatted with 0
abbrev no_grams : List ℤ
no_grams = replicate 224 (pos 0)

-- whatever bytes log and charts have, they can be formatted with that
pub format-occurs : (log charts : List ℕ) → length log ≡ 65536 → length charts ≡ 1024
    → (format : FormatMade) × (format.cells ≡ no_grams) × (format.given ≡ zeros log charts) × ((answer_in format.number).number ≡ 0)
unfolding AnyFormatOfC
format-occurs log charts l c =
    let right : right_lengths (world_in (zeros log charts)) ≡ true =
    only-stored (zeros log charts) (zeros-long log charts) ∙ rw (eq-eqb (length log) 65536 l, eq-eqb (length charts) 1024 c) in
    any-format-of-c no_grams refl refl (zeros log charts) (zeros-long log charts) right

-- the arrays after several steps are the world after them
after-worlds : (own : Arrays) (ss : List StepMade) → world_after_all (world_in own) (map step_of ss) ≡ world_in (foldl after_step own ss)
after-worlds own [] = refl
after-worlds own (s ∷ ss) = ap (λ (w : World). world_after_all w (map step_of ss)) (after-world own s) ∙ after-worlds (after_step own s) ss

-- so many rows, and no page
abbrev rows_stored : ℕ → Writes
rows_stored n = record { rows = n; pages = 0 }

module _ (format : FormatMade) (cells : format.cells ≡ no_grams) (zero : (answer_in format.number).number ≡ 0) where
  -- 01's example occurs, with every fuse that C can name
  pub example-occurs-of-c : (f : Fuse) → FuseOfC f → SessionsOfC format.leaves (example f)
  unfolding EveryListOfC
  example-occurs-of-c f t = every-list-of-c format zero true f _ (t, omega arith)

  module _ (ss : List SessionMade) (host : HostOfC format.leaves true (steps_made ss)) where
    pub example-holds-of-c : Holds (cells_of no_grams) (world_in format.leaves) (steps (map session_of_c ss))
    unfolding Demand3OfC
    example-holds-of-c = rw cells at (demand-3-of-c format zero ss host)

    -- the fourth write does not land: the commit is refused by 5, and the opening takes the change back
    pub example-of-c-cut : map event_of (steps (map session_of_c ss)) ≡ example (left 3)
        → (map answer_of (steps (map session_of_c ss)) ≡
        done (pos 0) ∷ done (pos 1) ∷ done (pos 2) ∷ done (pos 3) ∷ done (pos 4) ∷ done (pos 5) ∷ refused_by 5 ∷ done (pos 3) ∷ done (pos 0) ∷ []) ×
        (map writes_of (steps (map session_of_c ss)) ≡ map rows_stored (0 ∷ 1 ∷ 1 ∷ 0 ∷ 0 ∷ 0 ∷ 1 ∷ 3 ∷ 0 ∷ []))
    unfolding computes
    example-of-c-cut e = (rw e at example-holds-of-c.answers, rw e at example-holds-of-c.counts)

    -- all six land: the change is kept; the log is the host's array in the end
    pub example-of-c-kept : map event_of (steps (map session_of_c ss)) ≡ example (left 6)
        → (map answer_of (steps (map session_of_c ss)) ≡
        done (pos 0) ∷ done (pos 1) ∷ done (pos 2) ∷ done (pos 3) ∷ done (pos 4) ∷ done (pos 5) ∷ done (pos 6) ∷ done (pos 0) ∷ done (negsuc 199) ∷ []) ×
        (map writes_of (steps (map session_of_c ss)) ≡ map rows_stored (0 ∷ 1 ∷ 1 ∷ 0 ∷ 0 ∷ 0 ∷ 4 ∷ 0 ∷ 0 ∷ [])) ×
        ((foldl after_step format.leaves (steps_made ss)).log ≡
        log_bytes (Row.begin 1 ∷ Row.begin 2 ∷ Row.change 1 0 (negsuc 199) ∷ Row.hand_over 1 2 0 ∷ Row.abort 1 ∷ Row.commit 2 ∷ []))
    unfolding world_in computes
    example-of-c-kept e = (
      rw e at example-holds-of-c.answers,
      rw e at example-holds-of-c.counts,
      sym (ap (λ (w : World). w.log) (after-worlds format.leaves (steps_made ss))) ∙ rw (same-steps ss)
          (example-holds-of-c.log (steps (map session_of_c ss)) [] (sym (append-nil _)) ∙
          ap (λ (es : List Event). log_bytes (book_after (cells_of no_grams) formatted es).stored) e),
    )

    -- visit 1 hands its changes of cell 0 over to 2, which commits: each of them is in the sum in the end, with 2 as its holder
    pub example-survives-of-c : (h : HandedOver 1 2 0 (steps (map session_of_c ss))) (x : Change) → Logged (rows_of (book_of (cells_of no_grams) h.before)) x
        → x.holder ≡ 1 → x.cell ≡ 0
        → InSum (log_of (cells_of no_grams) (h.before ++ (called h.hand_over ∷ (h.between ++ (called h.commit ∷ h.later))))) (given 2 x)
    unfolding HandedOverSurvivesOfC
    example-survives-of-c h x l q c =
        let every : Survives (cells_of no_grams) (steps (map session_of_c ss)) = rw cells at (handed-over-survives-of-c format zero ss host) in
        every 1 2 0 h x l q c h.later [] (sym (append-nil h.later))
