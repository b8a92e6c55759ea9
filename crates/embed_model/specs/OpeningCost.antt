-- Document 02, L6, "The costliest opening", of the functions for C.
use Rattle.std.specs.Prelude.{ℕ, List}
use Rattle.book.specs.Rows.{Row}
use Rattle.state.specs.World.{LogIs, fuse_of_number}
use Rattle.state.specs.OpeningCost.{CostOfOpening}
use Rattle.embed_model.specs.Arrays.{Arrays, world_in}
use Rattle.embed_model.specs.Called.{answered_in, OpensOfC}

-- of `chart_open_on`, by its contract: the log that it was lent is that of these rows
unfoldable pub CostOfOpenOfC : Type 0
CostOfOpenOfC =
    (fuse : ℕ) (given : Arrays) (rs : List Row) (number : ℕ) (leaves : Arrays) → LogIs (world_in given) rs → OpensOfC fuse given number leaves →
    CostOfOpening (fuse_of_number fuse) (world_in given) rs (answered_in number leaves)
