-- Demand 3 of the functions of crate `store`, from demand 3 of whatever meets their contracts.
use mathlib.Core.List.{List, [], ◌∷◌, ◌++◌, map}
use Rattle.state.specs.CallContracts.{answered_by}
use Rattle.sessions.specs.Host.{Step, called, steps, Contracts}
use Rattle.sessions.specs.Demand3.{Demand3}
use Rattle.sessions.specs.Made.{OtherCall, Made, called_by, session_of, Demand3OfCalls}
use Rattle.sessions.proofs.Demand3.{demand-3}

and_then : (cs : List OtherCall) (ss : List Step) → Contracts ss → Contracts (map called (map called_by cs) ++ ss)
and_then [] ss p = p
and_then (c ∷ cs) ss p = (c.ensures.post, and_then cs ss p)

pub contracts : (ss : List Made) → Contracts (steps (map session_of ss))
contracts [] = tt
contracts (s ∷ ss) = (s.opening.ensures.post, and_then s.calls (steps (map session_of ss)) (contracts ss))

pub demand-3-of-calls : Demand3OfCalls
unfolding Demand3OfCalls Demand3
demand-3-of-calls format done ss host =
    demand-3 format.cells format.given (answered_by format.return) format.ensures.post done
    (map session_of ss) host (contracts ss)
