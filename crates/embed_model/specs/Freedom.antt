-- The host of `Host` is as free as document 01 says ("Sessions and the book"): what an opening and a call may be lent, whatever they give back and leave, and
-- that this holds after whatever came before.
use Rattle.std.specs.Prelude.{ℕ, Bool, true, false, ◌≡◌, ◌≢◌, ◌⊎◌, List, [], ◌∷◌, ◌++◌, map, length}
use Rattle.book.specs.Lists.{foldl}
use Rattle.book.specs.Limits.{log_length, charts_length}
use Rattle.book.specs.Calls.{Call, Typed}
use Rattle.sessions.specs.Host.{calls_follow}
use Rattle.embed_model.specs.Arrays.{Arrays, arrays, RamLengths}
use Rattle.embed_model.specs.Packed.{answer_in}
use Rattle.embed_model.specs.Called.{OpensOfC, CallsOfC}
use Rattle.embed_model.specs.Host.{OpeningMade, StepMade, opens, calls, step_of, after_step, HostLends, HostOfC}

-- 01: an opening with any fuse and any RAM; the stored log and charts as last left, or of another length, each by itself
unfoldable pub AnyOpeningOfC : Type 0
AnyOpeningOfC =
    (own : Arrays) (follow : Bool) (fuse : ℕ) (head visits scopes tail copy log charts : List ℕ) →
    (log ≡ own.log) ⊎ (length log ≢ log_length) → (charts ≡ own.charts) ⊎ (length charts ≢ charts_length) →
    let given : Arrays = arrays head visits scopes tail copy log charts in
    (long : RamLengths given) (r : ℕ) (leaves : Arrays) (e : OpensOfC fuse given r leaves) →
    HostLends own follow (opens (record { fuse = fuse; as_left = false; given = given; long = long; number = r; leaves = leaves; ensures = e }))

-- 01: any call is lent, for itself alone, log and charts as last left or of another length, and so is an opening that gets RAM as left
unfoldable pub AnyLengthsOfC : Type 0
AnyLengthsOfC =
    (own : Arrays) (log charts : List ℕ) →
    (log ≡ own.log) ⊎ (length log ≢ log_length) → (charts ≡ own.charts) ⊎ (length charts ≢ charts_length) →
    let given : Arrays = arrays own.head own.visits own.scopes own.tail own.copy log charts in
    (long : RamLengths given) (r : ℕ) (leaves : Arrays) →
    ((k : Call) → Typed k → (e : CallsOfC k given r leaves) →
    HostLends own true (calls (record { call = k; given = given; long = long; number = r; leaves = leaves; ensures = e }))) ×
    ((fuse : ℕ) (follow : Bool) (e : OpensOfC fuse given r leaves) →
    HostLends own follow (opens (record { fuse = fuse; as_left = true; given = given; long = long; number = r; leaves = leaves; ensures = e })))

-- 01: after whatever openings and calls, the host may go on with whatever it may lend to the next one
unfoldable pub HostThenOfC : Type 0
HostThenOfC =
    (own : Arrays) (follow : Bool) (xs : List StepMade) (s : StepMade) → HostOfC own follow xs →
    HostLends (foldl after_step own xs) (foldl calls_follow follow (map step_of xs)) s → HostOfC own follow (xs ++ (s ∷ []))

-- 01: calls follow every opening that is not refused by 1, whatever RAM it was lent
unfoldable pub CallsFollowOfC : Type 0
CallsFollowOfC = (follow : Bool) (o : OpeningMade) → (answer_in o.number).number ≢ 1 → calls_follow follow (step_of (opens o)) ≡ true
