-- The dietitian's question of the functions for C, from what holds of whatever meets the contracts.
use mathlib.Core.List.{map}
use Rattle.sessions.specs.Survives.{HandedOverSurvives}
use Rattle.sessions.proofs.Survives.{handed-over-survives}
use Rattle.embed_model.specs.Arrays.{world_in}
use Rattle.embed_model.specs.Called.{answered_in}
use Rattle.embed_model.specs.Host.{session_of_c}
use Rattle.embed_model.specs.Survives.{HandedOverSurvivesOfC}
use Rattle.embed_model.proofs.Demand.{host-sessions, contracts}

pub handed-over-survives-of-c : HandedOverSurvivesOfC
unfolding HandedOverSurvivesOfC HandedOverSurvives
handed-over-survives-of-c format done ss h =
    handed-over-survives format.cells (world_in format.given) (answered_in format.number format.leaves) format.ensures.does done
    (map session_of_c ss) (host-sessions format.leaves ss h) (contracts ss)
