-- Demand 3 (document 00) of the functions for C.
use Rattle.std.specs.Prelude.{true, ◌≡◌, List, map}
use Rattle.state.specs.CallContracts.{cells_of}
use Rattle.sessions.specs.Host.{steps}
use Rattle.sessions.specs.Demand3.{Holds}
use Rattle.embed_model.specs.Arrays.{world_in}
use Rattle.embed_model.specs.Packed.{answer_in}
use Rattle.embed_model.specs.Host.{FormatMade, SessionMade, steps_made, session_of_c, HostOfC}

-- after a call of `chart_format_on` that was done, any sessions made with the others, of a host that keeps to 01
unfoldable pub Demand3OfC : Type 0
Demand3OfC =
    (format : FormatMade) → (answer_in format.number).number ≡ 0 → (ss : List SessionMade) → HostOfC format.leaves true (steps_made ss) →
    Holds (cells_of format.cells) (world_in format.leaves) (steps (map session_of_c ss))
