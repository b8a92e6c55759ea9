-- 00: "Does a weighing survive if I hand it to a colleague and then throw my own visit away?" .. "So yes, it survives if the colleague commits." Of the
-- functions for C.
use Rattle.std.specs.Prelude.{true, ◌≡◌, List, map}
use Rattle.state.specs.CallContracts.{cells_of}
use Rattle.sessions.specs.Host.{steps}
use Rattle.sessions.specs.Survives.{Survives}
use Rattle.embed_model.specs.Packed.{answer_in}
use Rattle.embed_model.specs.Host.{FormatMade, SessionMade, steps_made, session_of_c, HostOfC}

-- after a call of `chart_format_on` that was done, any sessions made with the others, of a host that keeps to 01
unfoldable pub HandedOverSurvivesOfC : Type 0
HandedOverSurvivesOfC =
    (format : FormatMade) → (answer_in format.number).number ≡ 0 → (ss : List SessionMade) → HostOfC format.leaves true (steps_made ss) →
    Survives (cells_of format.cells) (steps (map session_of_c ss))
