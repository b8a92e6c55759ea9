-- Document 02, L5, "Hand-overs in another order", of the functions `format`, `open` and `call` of crate `store`.
use Rattle.std.specs.Prelude.{true, ◌≡◌, List, map}
use Rattle.state.specs.CallContracts.{answered_by}
use Rattle.sessions.specs.Host.{steps, Host}
use Rattle.sessions.specs.Made.{FormatCall, Made, session_of}
use Rattle.sessions.specs.Swapped.{AlikeInEitherOrder}

-- after a call of `format` that was done, any two lists of sessions made with the others
unfoldable pub SwappedOfCalls : Type 0
SwappedOfCalls =
    (format : FormatCall) → (answered_by format.return).answer.number ≡ 0 → (ss ss' : List Made) →
    Host (answered_by format.return).world true (steps (map session_of ss)) → Host (answered_by format.return).world true (steps (map session_of ss')) →
    AlikeInEitherOrder (answered_by format.return).world (steps (map session_of ss)) (steps (map session_of ss'))
