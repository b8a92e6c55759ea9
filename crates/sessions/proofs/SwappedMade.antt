-- 02, L5 of the functions of crate `store`, from what holds of whatever meets their contracts.
use mathlib.Core.List.{map}
use Rattle.state.specs.CallContracts.{answered_by}
use Rattle.sessions.specs.Made.{session_of}
use Rattle.sessions.specs.Swapped.{Swapped}
use Rattle.sessions.specs.SwappedMade.{SwappedOfCalls}
use Rattle.sessions.proofs.Made.{contracts}
use Rattle.sessions.proofs.Swapped.{hand-overs-swapped}

pub hand-overs-swapped-of-calls : SwappedOfCalls
unfolding SwappedOfCalls Swapped
hand-overs-swapped-of-calls format done ss ss' host host' =
    hand-overs-swapped format.cells format.given (answered_by format.return) format.ensures.post done (map session_of ss) (map session_of ss')
    host (contracts ss) host' (contracts ss')
