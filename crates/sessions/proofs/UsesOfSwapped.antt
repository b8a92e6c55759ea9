-- What each field of `SameResults` (02, L5) says of a worked example: three visits, two hand-overs, a force that is cut behind the first of their rows, an opening and
-- more calls. A field that said less would not give it.
use Prim.Native.Nat.{ℕ}
use native.Mathlib.Omega.{arith}
use mathlib.Core.Path.{◌≡◌, refl, ap, sym, ◌∙◌}
use mathlib.Core.Bool.{true}
use mathlib.Core.Logic.{◌≢◌}
use mathlib.Core.List.{List, [], ◌∷◌, ◌++◌, map, append-nil}
use lib.ListN.{length}
use lib.IntN.{pos}
use Rattle.book.specs.Calls.{Call}
use Rattle.book.specs.Power.{left, formatted}
use Rattle.book.specs.Cells.{zeros}
use Rattle.book.specs.Book.{Answer, done, refused_by}
use Rattle.book.specs.Events.{Event, answers}
use Rattle.book.specs.Writes.{Writes}
use Rattle.book.specs.SessionWrites.{writes}
use Rattle.book.specs.Pages.{cell_of}
use Rattle.book.specs.Swapped.{DoneOrCut, one_then_other}
use Rattle.book.proofs.WorkedExamples.{computes}
use Rattle.book.proofs.TwoOrders.{of_cell0, of_cell7, three_visits, forced}
use Rattle.state.specs.World.{World}
use Rattle.state.specs.CallContracts.{answered_by}
use Rattle.sessions.specs.Host.{Opening, Step, opened, called, steps, answer_of, writes_of, event_of, world_after_all, Host}
use Rattle.sessions.specs.Demand3.{Holds}
use Rattle.sessions.specs.Made.{FormatCall, Made, session_of}
use Rattle.sessions.specs.Swapped.{Accepted, SameResults}
use Rattle.sessions.specs.SwappedMade.{SwappedOfCalls}
use Rattle.sessions.proofs.UsesOfDemand3.{asked_in, rows_stored}

-- the hand-over of cell 0 first
abbrev first_cell0 : List Event
first_cell0 = three_visits (left 6) ++ one_then_other of_cell0 of_cell7 forced

abbrev pub two_answers : List Answer
two_answers =
    done (pos 0) ∷ done (pos 1) ∷ done (pos 2) ∷ done (pos 3) ∷ done (pos 4) ∷ done (pos 5) ∷ done (pos 6) ∷ done (pos 7) ∷ refused_by 5 ∷ refused_by 5 ∷
    done (pos 5) ∷ done (pos 0) ∷ done (pos 0) ∷ done (pos 4) ∷ done (pos 13) ∷ done (pos 14) ∷ done (pos 5) ∷ []

-- the force stores three rows, the opening five, and the last commit two
abbrev pub two_counts : List Writes
two_counts = map rows_stored (0 ∷ 1 ∷ 1 ∷ 1 ∷ 0 ∷ 0 ∷ 0 ∷ 0 ∷ 3 ∷ 0 ∷ 5 ∷ 0 ∷ 0 ∷ 1 ∷ 0 ∷ 2 ∷ 0 ∷ [])

by-book : (answers zeros formatted first_cell0 ≡ two_answers) × (writes zeros formatted first_cell0 ≡ two_counts)
unfolding computes
by-book = (refl, refl)

module _ (own : World) (ss ss' : List Step) (same : SameResults own (three_visits (left 6)) of_cell0 of_cell7 forced ss ss') where
  -- `accepted`: the hand-over of cell 7, then that of cell 0, where they were; the first is done, and the second done or cut
  pub swapped-accepted : (same.accepted.two.c.result.answer.number ≡ 0) × DoneOrCut same.accepted.two.d.result.answer.number ×
      (same.accepted.two.c.call ≡ Call.hand_over 2 1 7) × (same.accepted.two.d.call ≡ Call.hand_over 1 3 0) ×
      (map event_of same.accepted.two.xs ≡ three_visits (left 6)) × (map event_of same.accepted.two.ys ≡ forced) ×
      (ss' ≡ same.accepted.two.xs ++ (called same.accepted.two.c ∷ called same.accepted.two.d ∷ same.accepted.two.ys)) × (◌≢◌ {A = ℕ} 7 0)
  swapped-accepted =
      let a = same.accepted in
      let t = a.two in (
        a.first,
        a.second,
        ap asked_in t.one,
        ap asked_in t.other,
        t.events_before,
        t.events_later,
        t.are,
        a.apart,
      )

  -- `answers` and `counts`
  module _ (h : Holds zeros own ss) (are : map event_of ss ≡ first_cell0) where
    pub swapped-answers : map answer_of ss' ≡ two_answers
    swapped-answers = same.answers ∙ h.answers ∙ ap (answers zeros formatted) are ∙ by-book.0

    pub swapped-counts : map writes_of ss' ≡ two_counts
    swapped-counts = same.counts ∙ h.counts ∙ ap (writes zeros formatted) are ∙ by-book.1

  -- `cells`: the first and the last
  pub swapped-cells : (xs ys xs' ys' : List Step) (o o' : Opening) → ss ≡ xs ++ (opened o ∷ ys) → ss' ≡ xs' ++ (opened o' ∷ ys') → length xs' ≡ length xs
      → o.result.answer.number ≡ 0 →
      (cell_of (world_after_all own (xs' ++ (opened o' ∷ []))).copy 0 ≡ cell_of (world_after_all own (xs ++ (opened o ∷ []))).copy 0) ×
      (cell_of (world_after_all own (xs' ++ (opened o' ∷ []))).copy 223 ≡ cell_of (world_after_all own (xs ++ (opened o ∷ []))).copy 223)
  swapped-cells xs ys xs' ys' o o' e e' n z = (
    same.cells xs ys xs' ys' o o' e e' n z 0 (omega arith),
    same.cells xs ys xs' ys' o o' e e' n z 223 (omega arith),
  )

  -- `charts`: before all steps, and after them
  pub swapped-charts : length ss' ≡ length ss →
      ((world_after_all own ss').charts ≡ (world_after_all own ss).charts) ×
      ((x x' : Step) (xs xs' : List Step) → ss ≡ x ∷ xs → ss' ≡ x' ∷ xs' → (world_after_all own (x' ∷ [])).charts ≡ (world_after_all own (x ∷ [])).charts)
  swapped-charts n = (
    same.charts ss [] ss' [] (sym (append-nil ss)) (sym (append-nil ss')) n,
    λ x x' xs xs' e e'. same.charts (x ∷ []) xs (x' ∷ []) xs' e e' refl,
  )

  -- `logs`: the same, of sessions in which the power fails in the second, as in `cut-occurs`
  pub swapped-logs : same.accepted.two.d.result.answer.number ≡ 5 → length ss' ≡ length ss →
      ((world_after_all own ss').log ≡ (world_after_all own ss).log) ×
      ((x x' : Step) (xs xs' : List Step) → ss ≡ x ∷ xs → ss' ≡ x' ∷ xs' → (world_after_all own (x' ∷ [])).log ≡ (world_after_all own (x ∷ [])).log)
  swapped-logs five n = (
    same.logs five ss [] ss' [] (sym (append-nil ss)) (sym (append-nil ss')) n,
    λ x x' xs xs' e e'. same.logs five (x ∷ []) xs (x' ∷ []) xs' e e' refl,
  )

-- the same answers and counts of sessions made with the public functions
pub swapped-of-calls : SwappedOfCalls → (format : FormatCall) → (answered_by format.return).answer.number ≡ 0 → (ss ss' : List Made) →
    let own : World = (answered_by format.return).world in
    Host own true (steps (map session_of ss)) → Host own true (steps (map session_of ss')) →
    Accepted (three_visits (left 6)) of_cell0 of_cell7 forced (steps (map session_of ss)) →
    map event_of (steps (map session_of ss')) ≡ three_visits (left 6) ++ one_then_other of_cell7 of_cell0 forced →
    (map answer_of (steps (map session_of ss')) ≡ map answer_of (steps (map session_of ss))) × (map writes_of (steps (map session_of ss')) ≡ map writes_of (steps (map session_of ss)))
unfolding SwappedOfCalls
swapped-of-calls said format done ss ss' host host' two events =
    let same = said format done ss ss' host host' (three_visits (left 6)) of_cell0 of_cell7 forced two events in (same.answers, same.counts)
