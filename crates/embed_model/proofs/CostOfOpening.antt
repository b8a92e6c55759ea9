-- 02, L6 of the functions for C, from what holds of whatever meets the contract of open.
use Rattle.state.specs.World.{fuse_of_number}
use Rattle.state.proofs.OpeningCost.{costliest-opening}
use Rattle.embed_model.specs.Arrays.{world_in}
use Rattle.embed_model.specs.Called.{answered_in}
use Rattle.embed_model.specs.OpeningCost.{CostOfOpenOfC}

pub cost-of-open-of-c : CostOfOpenOfC
unfolding CostOfOpenOfC
cost-of-open-of-c fuse given rs number leaves log opens =
    costliest-opening.opening (fuse_of_number fuse) (world_in given) rs (answered_in number leaves) log opens.does
