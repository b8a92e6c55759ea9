-- 02, L5 of the functions for C, from what holds of whatever meets the contracts.
use mathlib.Core.List.{map}
use Rattle.sessions.specs.Swapped.{Swapped}
use Rattle.sessions.proofs.Swapped.{hand-overs-swapped}
use Rattle.embed_model.specs.Arrays.{world_in}
use Rattle.embed_model.specs.Called.{answered_in}
use Rattle.embed_model.specs.Host.{session_of_c}
use Rattle.embed_model.specs.Swapped.{SwappedOfC}
use Rattle.embed_model.proofs.Demand.{host-sessions, contracts}

pub hand-overs-swapped-of-c : SwappedOfC
unfolding SwappedOfC Swapped
hand-overs-swapped-of-c format done ss ss' h h' =
    hand-overs-swapped format.cells (world_in format.given) (answered_in format.number format.leaves) format.ensures.does done
    (map session_of_c ss) (map session_of_c ss') (host-sessions format.leaves ss h) (contracts ss) (host-sessions format.leaves ss' h') (contracts ss')
