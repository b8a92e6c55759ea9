-- Document 02, L5, "Hand-overs in another order", of the functions for C.
use Rattle.std.specs.Prelude.{true, ◌≡◌, List, map}
use Rattle.sessions.specs.Host.{steps}
use Rattle.sessions.specs.Swapped.{AlikeInEitherOrder}
use Rattle.embed_model.specs.Arrays.{world_in}
use Rattle.embed_model.specs.Packed.{answer_in}
use Rattle.embed_model.specs.Host.{FormatMade, SessionMade, steps_made, session_of_c, HostOfC}

-- after a call of `chart_format_on` that was done, any two lists of sessions made with the others, of a host that keeps to 01
unfoldable pub SwappedOfC : Type 0
SwappedOfC =
    (format : FormatMade) → (answer_in format.number).number ≡ 0 → (ss ss' : List SessionMade) → HostOfC format.leaves true (steps_made ss) →
    HostOfC format.leaves true (steps_made ss') → AlikeInEitherOrder (world_in format.leaves) (steps (map session_of_c ss)) (steps (map session_of_c ss'))
