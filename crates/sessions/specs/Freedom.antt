-- The host of `Host` is as free as document 01 says ("Sessions and the book"): what an opening and a call may be given. `x` is whatever they give back.
use Rattle.std.specs.Prelude.{ℕ, Bool, true, false, ◌≡◌, ◌≢◌, ◌⊎◌, List, length}
use Rattle.book.specs.Limits.{log_length, charts_length, scope_limit}
use Rattle.book.specs.Calls.{Call, Typed}
use Rattle.book.specs.Power.{Fuse}
use Rattle.tables_model.specs.declared.Scope.{Scope}
use Rattle.state.specs.declared.ram.State.{State}
use Rattle.state.specs.World.{World, world}
use Rattle.state.specs.CallContracts.{Answered}
use Rattle.sessions.specs.Host.{opened, called, HostDoes}

-- 01: an opening with any fuse, state, copy and scope table; the stored log and charts as last left, or of another length, each by itself
unfoldable pub AnyOpening : Type 0
AnyOpening =
    (own : World) (follow : Bool) (f : Fuse) (state : State) (log charts copy : List ℕ) (scopes : List Scope) (x : Answered) →
    (log ≡ own.log) ⊎ (length log ≢ log_length) → (charts ≡ own.charts) ⊎ (length charts ≢ charts_length) →
    HostDoes own follow (opened (record { fuse = f; as_left = false; given = world state log charts copy scopes; result = x }))

-- 01: any call is lent, for itself alone, each buffer as last left or of another length, and so is an opening that gets the state as left
unfoldable pub AnyLengths : Type 0
AnyLengths =
    (own : World) (log charts copy : List ℕ) (scopes : List Scope) (x : Answered) →
    (log ≡ own.log) ⊎ (length log ≢ log_length) → (charts ≡ own.charts) ⊎ (length charts ≢ charts_length) →
    (copy ≡ own.copy) ⊎ (length copy ≢ charts_length) → (scopes ≡ own.scopes) ⊎ (length scopes ≢ scope_limit) →
    ((k : Call) → Typed k → HostDoes own true (called (record { call = k; given = world own.state log charts copy scopes; result = x }))) ×
    ((f : Fuse) (follow : Bool) →
    HostDoes own follow (opened (record { fuse = f; as_left = true; given = world own.state log charts copy scopes; result = x })))
