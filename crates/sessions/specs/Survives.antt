-- 00: "Does a weighing survive if I hand it to a colleague and then throw my own visit away?" .. "So yes, it survives if the colleague commits." Of 01's sessions.
use Rattle.std.specs.Prelude.{ℕ, Bool, true, false, ◌&&◌, ◌≡◌, ◌⊎◌, List, ◌∷◌, ◌++◌, map, ℤ, eqb}
use Rattle.book.specs.Lists.{any}
use Rattle.book.specs.Ledger.{Change, given}
use Rattle.book.specs.Calls.{Call}
use Rattle.book.specs.Power.{rows_of}
use Rattle.book.specs.Events.{Event, opens, calls}
use Rattle.book.specs.SessionWrites.{NoStart}
use Rattle.book.specs.Logs.{Logged, InSum}
use Rattle.state.specs.World.{World}
use Rattle.state.specs.CallContracts.{Answered, FormatPost, answered_by, cells_of}
use Rattle.sessions.specs.Host.{Called, Session, Step, called, steps, answer_of, event_of, Host, Contracts}
use Rattle.sessions.specs.Demand3.{book_of, log_of}
use Rattle.sessions.specs.Made.{FormatCall, Made, session_of}

-- the call is a hand-over of the cell, or of all that it holds, by the visit
abbrev pub gives : ℕ → ℕ → Call → Bool
gives v c Call.begin = false
gives v c (Call.change u k a) = false
gives v c (Call.hand_over g r k) = eqb v g && eqb c k
gives v c (Call.commit u) = false
gives v c (Call.abort u) = false
gives v c Call.force = false
gives v c (Call.flush p) = false
gives v c (Call.read k) = false
gives v c (Call.hand_over_all g r) = eqb v g

abbrev pub gives_in : ℕ → ℕ → Event → Bool
gives_in v c (opens lengths f) = false
gives_in v c (calls lengths k) = gives v c k

-- and it was done
abbrev pub gave : ℕ → ℕ → Step → Bool
gave v c s = gives_in v c (event_of s) && eqb (answer_of s).number 0

-- A hand-over of the cell, or of the whole visit, that was done, and later in that session a commit by the receiver that was done. Between the two the receiver
-- has not handed the cell on. The other calls are any at all, before, between and later: an abort of the giver too.
pub record HandedOver (giver receiver cell : ℕ) (ss : List Step) : Type 0 where
  pub before : List Step
  pub hand_over : Called
  pub between : List Step
  pub commit : Called
  pub later : List Step
  pub are : ss ≡ before ++ (called hand_over ∷ (between ++ (called commit ∷ later)))
  pub hands : (hand_over.call ≡ Call.hand_over giver receiver cell) ⊎ (hand_over.call ≡ Call.hand_over_all giver receiver)
  pub handed : hand_over.result.answer.number ≡ 0
  pub one_session : NoStart (map event_of between)
  pub holds : any (gave receiver cell) between ≡ false
  pub commits : commit.call ≡ Call.commit receiver
  pub committed : commit.result.answer.number ≡ 0

-- then every change of the cell that the giver held at the hand-over, its own and those that it had received, is in every later sum, with the receiver as its holder
abbrev pub Survives : (ℕ → ℤ) → List Step → Type 0
Survives cells ss =
    (giver receiver cell : ℕ) (h : HandedOver giver receiver cell ss) →
    (x : Change) → Logged (rows_of (book_of cells h.before)) x → x.holder ≡ giver → x.cell ≡ cell →
    (ys zs : List Step) → h.later ≡ ys ++ zs →
    InSum (log_of cells (h.before ++ (called h.hand_over ∷ (h.between ++ (called h.commit ∷ ys))))) (given receiver x)

-- After an accepted format, any list of sessions of a host that keeps to 01, whatever functions meet the contracts.
unfoldable pub HandedOverSurvives : Type 0
HandedOverSurvives =
    (values : List ℤ) (world : World) (format : Answered) → FormatPost values world format → format.answer.number ≡ 0 →
    (ss : List Session) → Host format.world true (steps ss) → Contracts (steps ss) → Survives (cells_of values) (steps ss)

-- And of the functions `format`, `open` and `call` of crate `store`.
unfoldable pub HandedOverSurvivesOfCalls : Type 0
HandedOverSurvivesOfCalls =
    (format : FormatCall) → (answered_by format.return).answer.number ≡ 0 → (ss : List Made) →
    Host (answered_by format.return).world true (steps (map session_of ss)) → Survives (cells_of format.cells) (steps (map session_of ss))
