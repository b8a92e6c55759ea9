-- 02, L5 is not empty: where the book accepts two hand-overs, sessions with them occur in both orders.
use Prim.Native.Nat.{ℕ, zero, suc}
use native.Mathlib.Omega.{arith}
use mathlib.Core.Bool.{Bool, true}
use mathlib.Core.Path.{◌≡◌, subst}
use mathlib.Core.List.{List, [], ◌∷◌, ◌++◌, map, head-eq_of_cons-eq}
use lib.ListN.{replicate}
use lib.IntN.{ℤ, pos}
use Rattle.book.specs.Power.{Fuse, left, formatted}
use Rattle.book.specs.Calls.{Call}
use Rattle.book.specs.Events.{Event, opens, calls, book_after}
use Rattle.book.specs.Swapped.{Single, BothAccepted, one_then_other}
use Rattle.book.proofs.Sound.{TypedEvents, sound-formatted, sound-events}
use Rattle.book.proofs.Swapped.{either_order}
use Rattle.book.proofs.TwoOrders.{of_cell0, of_cell7, three_visits, forced, many_before, opened_at_once, accepted-in-order, cut-in-second}
use Rattle.state.specs.World.{World, right_lengths}
use Rattle.state.specs.CallContracts.{Answered, FormatPost, cells_of}
use Rattle.sessions.specs.Host.{Session, steps, event_of, Host}
use Rattle.sessions.specs.Demand3.{Demand3}
use Rattle.sessions.specs.Swapped.{Accepted}
use Rattle.sessions.proofs.Demand3.{demand-3}
use Rattle.sessions.proofs.EveryList.{Lawful, every-list}
use Rattle.sessions.proofs.Places.{no-events, two-hand-overs, typed-parts, typed-join, steps-typed}
use Rattle.sessions.proofs.Swapped.{accepted-by-book}

-- sessions of a host that keeps to 01, that meet the contracts, with two hand-overs that are accepted
pub record Occurs (own : World) (before : List Event) (h k : Single) (later : List Event) : Type 0 where
  pub lawful : Lawful own (before ++ one_then_other h k later)
  pub accepted : Accepted before h k later (steps lawful.sessions)

module _ (values : List ℤ) (given : World) (format : Answered) (post : FormatPost values given format) (done : format.answer.number ≡ 0) where
  occurs : (lengths : Bool) (f : Fuse) (before : List Event) (h k : Single) (later : List Event) → TypedEvents before → TypedEvents later
      → BothAccepted (cells_of values) (book_after (cells_of values) formatted (opens lengths f ∷ before)) h k
      → Occurs format.world (opens lengths f ∷ before) h k later
  unfolding Demand3
  occurs lengths f before h k later t u p =
      let l = every-list values given format post done lengths f (before ++ one_then_other h k later) (typed-join before (one_then_other h k later) t (tt, (tt, u))) in
      let w = two-hand-overs (opens lengths f ∷ before) h k later (steps l.sessions) l.events in
      let by-book = (demand-3 values given format post done l.sessions l.host l.contracts).answers in
      record { lawful = l; accepted = accepted-by-book (cells_of values) (opens lengths f ∷ before) h k later (steps l.sessions) w by-book p }

  -- where the book accepts both, whatever comes before, an opening first, and later, there are sessions with the one order and sessions with the other
  pub both-orders-occur : (lengths : Bool) (f : Fuse) (before : List Event) (h k : Single) (later : List Event) → TypedEvents before → TypedEvents later
      → BothAccepted (cells_of values) (book_after (cells_of values) formatted (opens lengths f ∷ before)) h k
      → Occurs format.world (opens lengths f ∷ before) h k later × Occurs format.world (opens lengths f ∷ before) k h later
  both-orders-occur lengths f before h k later t u p =
      let s = sound-events (cells_of values) formatted (opens lengths f ∷ before) sound-formatted (tt, t) in
      let q = (either_order (cells_of values) _ h k later s u p).accepted in
      (occurs lengths f before h k later t u p, occurs lengths f before k h later t u q)

  -- the worked example: visits, changes, the two hand-overs, a force that is cut behind the first of their rows, an opening and more calls
  pub example-occurs : Occurs format.world (three_visits (left 6)) of_cell0 of_cell7 forced × Occurs format.world (three_visits (left 6)) of_cell7 of_cell0 forced
  example-occurs =
      both-orders-occur true (left 6) _ of_cell0 of_cell7 forced (tt, (tt, (tt, (tt, (tt, tt))))) (tt, (tt, (tt, (tt, (tt, (tt, (tt, (tt, (tt, tt)))))))))
      (accepted-in-order (cells_of values) 3)

  -- and one in which the power fails in the second of the two
  pub cut-occurs :
      Occurs format.world (many_before (left 66)) of_cell0 of_cell7 opened_at_once × Occurs format.world (many_before (left 66)) of_cell7 of_cell0 opened_at_once
  cut-occurs = both-orders-occur true (left 66) _ of_cell0 of_cell7 opened_at_once (tt, (tt, (tt, (tt, (tt, changes 61))))) (tt, (tt, (tt, tt)))
      (cut-in-second (cells_of values))
    where
      changes : (n : ℕ) → TypedEvents (replicate n (calls true (Call.change 1 0 (pos 1))))
      changes zero = tt
      changes (suc n) = (tt, changes n)

  -- for every list of sessions with two hand-overs that follow one another there is one with the same openings and calls but for the order of the two
  pub other-order-exists : (ss : List Session) → Host format.world true (steps ss) → (before : List Event) (h k : Single) (later : List Event)
      → map event_of (steps ss) ≡ before ++ one_then_other h k later → Lawful format.world (before ++ one_then_other k h later)
  other-order-exists ss host before h k later e = go ss before e (subst TypedEvents e (steps-typed format.world (steps ss) host))
    where
      go : (ss : List Session) (before : List Event) → map event_of (steps ss) ≡ before ++ one_then_other h k later
          → TypedEvents (before ++ one_then_other h k later)
          → Lawful format.world (before ++ one_then_other k h later)
      go [] [] e t = no-events e
      go [] (x ∷ before) e t = no-events e
      go (s ∷ ss) [] e t = let z : ◌≡◌ {A = ℕ} 0 1 = cc (head-eq_of_cons-eq e) in absurd (omega arith)
      go (s ∷ ss) (x ∷ before) e t =
          let o = s.opening in
          let rest = typed-parts before (one_then_other h k later) t.1 in
          subst (λ (y : Event). Lawful format.world (y ∷ (before ++ one_then_other k h later))) (head-eq_of_cons-eq e)
          (every-list values given format post done (right_lengths o.given) o.fuse (before ++ one_then_other k h later)
          (typed-join before (one_then_other k h later) rest.0 (tt, (tt, rest.1.1.1))))
