-- 02, L5 of the functions for C is not empty: the worked example of two hand-overs occurs in both orders, and both give the same.
use native.Mathlib.Omega.{arith}
use mathlib.Core.Path.{◌≡◌}
use mathlib.Core.List.{List, [], ◌∷◌, ◌++◌, map}
use lib.ListN.{length}
use Rattle.book.specs.Power.{left}
use Rattle.book.specs.Events.{Event}
use Rattle.book.specs.Pages.{cell_of}
use Rattle.book.specs.Swapped.{Single, one_then_other}
use Rattle.book.proofs.TwoOrders.{of_cell0, of_cell7, three_visits, forced, accepted-in-order}
use Rattle.state.specs.CallContracts.{cells_of}
use Rattle.sessions.specs.Host.{Opening, Step, opened, steps, answer_of, writes_of, world_after_all}
use Rattle.sessions.specs.Swapped.{Accepted, SameResults}
use Rattle.sessions.proofs.Places.{two-hand-overs}
use Rattle.sessions.proofs.Swapped.{accepted-by-book}
use Rattle.embed_model.specs.Arrays.{world_in}
use Rattle.embed_model.specs.Packed.{answer_in}
use Rattle.embed_model.specs.Host.{FormatMade, session_of_c}
use Rattle.embed_model.specs.Demand.{Demand3OfC}
use Rattle.embed_model.specs.Swapped.{SwappedOfC}
use Rattle.embed_model.specs.EveryList.{SessionsOfC, EveryListOfC}
use Rattle.embed_model.proofs.Demand.{demand-3-of-c}
use Rattle.embed_model.proofs.EveryList.{every-list-of-c}
use Rattle.embed_model.proofs.Swapped.{hand-overs-swapped-of-c}

-- three visits, two of them with a change; two hand-overs; a force that is cut behind the first of their rows, an opening and more calls
abbrev in_order : Single → Single → List Event
in_order h k = three_visits (left 6) ++ one_then_other h k forced

module _ (format : FormatMade) (zero : (answer_in format.number).number ≡ 0) where
  pub both-orders-occur-of-c : SessionsOfC format.leaves (in_order of_cell0 of_cell7) × SessionsOfC format.leaves (in_order of_cell7 of_cell0)
  unfolding EveryListOfC
  both-orders-occur-of-c = (every-list-of-c format zero _ _ _ (omega arith), every-list-of-c format zero _ _ _ (omega arith))

  module _ (l : SessionsOfC format.leaves (in_order of_cell0 of_cell7)) (l' : SessionsOfC format.leaves (in_order of_cell7 of_cell0)) where
    -- the openings and calls of the one order and of the other
    abbrev ss : List Step
    ss = steps (map session_of_c l.sessions)

    abbrev ss' : List Step
    ss' = steps (map session_of_c l'.sessions)

    pub accepted-of-c : Accepted (three_visits (left 6)) of_cell0 of_cell7 forced ss
    unfolding Demand3OfC
    accepted-of-c =
        accepted-by-book (cells_of format.cells) (three_visits (left 6)) of_cell0 of_cell7 forced ss
        (two-hand-overs (three_visits (left 6)) of_cell0 of_cell7 forced ss l.events) (demand-3-of-c format zero l.sessions l.host).answers
        (accepted-in-order (cells_of format.cells) 3)

    alike-of-c : Accepted (three_visits (left 6)) of_cell0 of_cell7 forced ss
        → SameResults (world_in format.leaves) (three_visits (left 6)) of_cell0 of_cell7 forced ss ss'
    unfolding SwappedOfC
    alike-of-c a = hand-overs-swapped-of-c format zero l.sessions l'.sessions l.host l'.host (three_visits (left 6)) of_cell0 of_cell7 forced a l'.events

    -- refusal numbers and values, rows and pages; and each cell of the copy after the same ready opening
    pub same-results-of-c : (map answer_of ss' ≡ map answer_of ss) × (map writes_of ss' ≡ map writes_of ss)
    same-results-of-c = ((alike-of-c accepted-of-c).answers, (alike-of-c accepted-of-c).counts)

    pub same-cells-of-c : (xs ys xs' ys' : List Step) (o o' : Opening) → ss ≡ xs ++ (opened o ∷ ys) → ss' ≡ xs' ++ (opened o' ∷ ys') → length xs' ≡ length xs
        → o.result.answer.number ≡ 0
        → cell_of (world_after_all (world_in format.leaves) (xs' ++ (opened o' ∷ []))).copy 7
        ≡ cell_of (world_after_all (world_in format.leaves) (xs ++ (opened o ∷ []))).copy 7
    same-cells-of-c xs ys xs' ys' o o' e e' n r = (alike-of-c accepted-of-c).cells xs ys xs' ys' o o' e e' n r 7 (omega arith)
