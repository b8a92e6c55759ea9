-- Document 02, L5, "Hand-overs in another order", of 01's sessions: two lists of sessions whose openings and calls differ only in the order of two single hand-overs.
use Rattle.std.specs.Prelude.{ℕ, ◌<◌, true, ◌≡◌, ◌≢◌, List, [], ◌∷◌, ◌++◌, map, length, ℤ}
use Rattle.book.specs.Limits.{cell_limit}
use Rattle.book.specs.Events.{Event}
use Rattle.book.specs.Pages.{cell_of}
use Rattle.book.specs.Swapped.{Single, event_for, DoneOrCut, one_then_other}
use Rattle.state.specs.World.{World}
use Rattle.state.specs.CallContracts.{Answered, FormatPost}
use Rattle.sessions.specs.Host.{Opening, Called, Session, Step, opened, called, steps, answer_of, writes_of, event_of, world_after_all, Host, Contracts}

-- two single hand-overs that follow one another, h and then k: the calls c and d, after the openings and calls `before`; after them come those of `later`
pub record TwoHandOvers (before : List Event) (h k : Single) (later : List Event) (ss : List Step) : Type 0 where
  pub xs : List Step
  pub c : Called
  pub d : Called
  pub ys : List Step
  pub are : ss ≡ xs ++ (called c ∷ called d ∷ ys)
  pub events_before : map event_of xs ≡ before
  pub one : event_of (called c) ≡ event_for h
  pub other : event_of (called d) ≡ event_for k
  pub events_later : map event_of ys ≡ later

-- 02: "two single hand-overs (kind 3) of different cells that follow one another and are both accepted": no check refuses them. The second is answered 0, or 5
-- where the power fails while it stores a full tail. After a first that is answered 0 the store is open, so a 5 of the second is nothing else.
pub record Accepted (before : List Event) (h k : Single) (later : List Event) (ss : List Step) : Type 0 where
  pub two : TwoHandOvers before h k later ss
  pub apart : h.cell ≢ k.cell
  pub first : two.c.result.answer.number ≡ 0
  pub second : DoneOrCut two.d.result.answer.number

-- 02: "the swapped order is accepted too", and "every later list of calls and openings then gives the same results and cells". 02 leaves out a cut that
-- keeps just one of the two rows; it is not left out here. `own` is what the store holds before the steps.
pub record SameResults (own : World) (before : List Event) (h k : Single) (later : List Event) (ss ss' : List Step) : Type 0 where
  pub accepted : Accepted before k h later ss'
  -- refusal numbers and values of all openings and calls, place by place, and the rows and pages that each has stored
  pub answers : map answer_of ss' ≡ map answer_of ss
  pub counts : map writes_of ss' ≡ map writes_of ss
  -- after every opening that ends ready each cell of the copy is that of the copy after the same opening of the other list
  pub cells : (xs ys xs' ys' : List Step) (o o' : Opening) → ss ≡ xs ++ (opened o ∷ ys) → ss' ≡ xs' ++ (opened o' ∷ ys') → length xs' ≡ length xs →
      o.result.answer.number ≡ 0 → (c : ℕ) → c < cell_limit →
      cell_of (world_after_all own (xs' ++ (opened o' ∷ []))).copy c ≡ cell_of (world_after_all own (xs ++ (opened o ∷ []))).copy c
  -- after every opening and every call the stored charts are the same, byte for byte
  pub charts : (xs ys xs' ys' : List Step) → ss ≡ xs ++ ys → ss' ≡ xs' ++ ys' → length xs' ≡ length xs →
      (world_after_all own xs').charts ≡ (world_after_all own xs).charts
  -- and the stored logs, where the power fails in the second of the two: neither row is kept then
  pub logs : accepted.two.d.result.answer.number ≡ 5 → (xs ys xs' ys' : List Step) → ss ≡ xs ++ ys → ss' ≡ xs' ++ ys' → length xs' ≡ length xs →
      (world_after_all own xs').log ≡ (world_after_all own xs).log

-- two lists of steps, the one with two such hand-overs, the other with the same openings and calls but for the order of these two
abbrev pub AlikeInEitherOrder : World → List Step → List Step → Type 0
AlikeInEitherOrder own ss ss' =
    (before : List Event) (h k : Single) (later : List Event) → Accepted before h k later ss → map event_of ss' ≡ before ++ one_then_other k h later →
    SameResults own before h k later ss ss'

-- After an accepted format, any two lists of sessions of a host that keeps to 01, whatever functions meet the contracts.
unfoldable pub Swapped : Type 0
Swapped =
    (values : List ℤ) (given : World) (format : Answered) → FormatPost values given format → format.answer.number ≡ 0 →
    (ss ss' : List Session) → Host format.world true (steps ss) → Contracts (steps ss) → Host format.world true (steps ss') → Contracts (steps ss') →
    AlikeInEitherOrder format.world (steps ss) (steps ss')
