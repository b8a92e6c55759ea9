-- The host's freedom (specs/Freedom).
use Prim.Native.Nat.{ℕ}
use native.Mathlib.Omega.{arith}
use mathlib.Core.Path.{◌≡◌, refl, sym, subst}
use mathlib.Core.Bool.{Bool, true, false, cond}
use mathlib.Core.Logic.{◌≢◌, inl}
use mathlib.Core.List.{List, [], ◌∷◌, ◌++◌}
use lib.Dec.{eqb}
use borrow.Author.Tests.{ne_eqb}
use Rattle.book.specs.Lists.{foldl}
use Rattle.book.specs.Calls.{Call, Typed}
use Rattle.book.specs.Power.{Fuse}
use Rattle.book.proofs.Lists.{clash}
use Rattle.tables_model.specs.declared.Scope.{Scope}
use Rattle.state.specs.declared.ram.State.{State}
use Rattle.state.specs.World.{World, world}
use Rattle.state.specs.CallContracts.{Answered}
use Rattle.sessions.specs.Host.{Opening, Step, opened, called, world_after, world_after_all, calls_follow, HostDoes, Host}
use Rattle.sessions.specs.Freedom.{AnyOpening, AnyLengths}

pub any-opening : AnyOpening
unfolding AnyOpening
any-opening own follow f state log charts copy scopes x l c = (record { log = l; charts = c }, λ q. clash false q refl)

pub any-lengths : AnyLengths
unfolding AnyLengths
any-lengths own log charts copy scopes x l c k s = (
  λ call t. (refl, t, record { log = l; charts = c }, record { state = refl; copy = k; scopes = s }),
  λ f follow. (record { log = l; charts = c }, λ q. record { state = refl; copy = k; scopes = s }),
)

-- the host goes on with whatever it may hand to the next step
pub host-then : (own : World) (follow : Bool) (xs : List Step) (s : Step) → Host own follow xs → HostDoes (world_after_all own xs) (foldl calls_follow follow xs) s
    → Host own follow (xs ++ (s ∷ []))
host-then own follow [] s h d = (d, tt)
host-then own follow (x ∷ xs) s h d = (h.0, host-then (world_after own x) (calls_follow follow x) xs s h.1 d)

-- calls follow every opening that is not refused by 1, whatever RAM it got
pub calls-follow : (follow : Bool) (o : Opening) → o.result.answer.number ≢ 1 → calls_follow follow (opened o) ≡ true
calls-follow follow o n = rw (ne_eqb o.result.answer.number 1 n)

-- and one refused by 1 that got the RAM as left, if calls could follow before it
pub calls-go-on : (o : Opening) → o.as_left ≡ true → calls_follow true (opened o) ≡ true
calls-go-on o left = go (eqb o.result.answer.number 1)
  where
    go : (t : Bool) → cond t o.as_left true ≡ true
    go true = left
    go false = refl

-- ── A call after an opening that the power cut ────────────────────────────────────────────────────────────────────────

-- the opening is given any state, copy and scope table and is refused by 5; the call gets what it left
pub call-after-cut-opening : (own : World) (follow : Bool) (f : Fuse) (state : State) (copy : List ℕ) (scopes : List Scope) (x : Answered) → x.answer.number ≡ 5 →
    let o : Opening = record { fuse = f; as_left = false; given = world state own.log own.charts copy scopes; result = x } in
    let then : World = world_after own (opened o) in
    (k : Call) → Typed k → (y : Answered) →
    Host own follow (opened o ∷ called (record { call = k; given = world then.state then.log then.charts then.copy then.scopes; result = y }) ∷ [])
unfolding AnyOpening AnyLengths
call-after-cut-opening own follow f state copy scopes x five k t y =
    let o : Opening = record { fuse = f; as_left = false; given = world state own.log own.charts copy scopes; result = x } in
    let then : World = world_after own (opened o) in
    let s : Step = called (record { call = k; given = world then.state then.log then.charts then.copy then.scopes; result = y }) in
    let may = any-opening own follow f state own.log own.charts copy scopes x (inl refl) (inl refl) in
    host-then own follow (opened o ∷ []) s (may, tt)
    (subst (λ (b : Bool). HostDoes then b s) (sym (calls-follow follow o (λ one. omega arith)))
    ((any-lengths then then.log then.charts then.copy then.scopes y (inl refl) (inl refl) (inl refl) (inl refl)).0 k t))
