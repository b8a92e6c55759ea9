-- The host's freedom (specs/Freedom).
use Prim.Native.Nat.{ℕ}
use native.Mathlib.Omega.{arith}
use mathlib.Core.Path.{◌≡◌, refl, sym, subst}
use mathlib.Core.Bool.{Bool, false}
use mathlib.Core.Logic.{inl}
use mathlib.Core.List.{List, [], ◌∷◌}
use borrow.Author.Tests.{ne_eqb}
use Rattle.book.specs.Calls.{Call, Typed}
use Rattle.book.proofs.Lists.{clash}
use Rattle.sessions.specs.Host.{calls_follow}
use Rattle.embed_model.specs.Arrays.{Arrays, arrays, RamLengths}
use Rattle.embed_model.specs.Packed.{answer_in}
use Rattle.embed_model.specs.Called.{OpensOfC, CallsOfC}
use Rattle.embed_model.specs.Host.{OpeningMade, StepMade, opens, calls, step_of, after_step, HostLends, HostOfC}
use Rattle.embed_model.specs.Freedom.{AnyOpeningOfC, AnyLengthsOfC, HostThenOfC, CallsFollowOfC}

pub any-opening-of-c : AnyOpeningOfC
unfolding AnyOpeningOfC
any-opening-of-c own follow fuse head visits scopes tail copy log charts l c long r leaves e =
    (record { log = l; charts = c }, λ q. clash false q refl)

pub any-lengths-of-c : AnyLengthsOfC
unfolding AnyLengthsOfC
any-lengths-of-c own log charts l c long r leaves = (
  λ k t e. (refl, t, record { log = l; charts = c }, record { head = refl; visits = refl; scopes = refl; tail = refl; copy = refl }),
  λ fuse follow e. (record { log = l; charts = c }, λ q. record { head = refl; visits = refl; scopes = refl; tail = refl; copy = refl }),
)

pub host-then-of-c : HostThenOfC
unfolding HostThenOfC
host-then-of-c own follow [] s h d = (d, tt)
host-then-of-c own follow (x ∷ xs) s h d = (h.0, host-then-of-c (after_step own x) (calls_follow follow (step_of x)) xs s h.1 d)

pub calls-follow-of-c : CallsFollowOfC
unfolding CallsFollowOfC
calls-follow-of-c follow o n = rw (ne_eqb (answer_in o.number).number 1 n)

-- ── A call after an opening that the power cut ────────────────────────────────────────────────────────────────────────

-- the opening is lent any RAM and is refused by 5; the call gets what it left
pub call-after-cut-opening : (own : Arrays) (follow : Bool) (fuse : ℕ) (head visits scopes tail copy : List ℕ) →
    let given : Arrays = arrays head visits scopes tail copy own.log own.charts in
    (long : RamLengths given) (r : ℕ) (leaves : Arrays) (e : OpensOfC fuse given r leaves) → (answer_in r).number ≡ 5 →
    let o : OpeningMade = record { fuse = fuse; as_left = false; given = given; long = long; number = r; leaves = leaves; ensures = e } in
    let then : Arrays = after_step own (opens o) in
    (sized : RamLengths then) (k : Call) → Typed k → (n : ℕ) (after : Arrays) (c : CallsOfC k then n after) →
    HostOfC own follow (opens o ∷ calls (record { call = k; given = then; long = sized; number = n; leaves = after; ensures = c }) ∷ [])
unfolding AnyOpeningOfC AnyLengthsOfC HostThenOfC CallsFollowOfC
call-after-cut-opening own follow fuse head visits scopes tail copy long r leaves e five sized k t n after c =
    let given : Arrays = arrays head visits scopes tail copy own.log own.charts in
    let o : OpeningMade = record { fuse = fuse; as_left = false; given = given; long = long; number = r; leaves = leaves; ensures = e } in
    let then : Arrays = after_step own (opens o) in
    let s : StepMade = calls (record { call = k; given = then; long = sized; number = n; leaves = after; ensures = c }) in
    let may = any-opening-of-c own follow fuse head visits scopes tail copy own.log own.charts (inl refl) (inl refl) long r leaves e in
    let follows = calls-follow-of-c follow o (λ one. omega arith) in
    host-then-of-c own follow (opens o ∷ []) s (may, tt)
    (subst (λ (f : Bool). HostLends then f s) (sym follows) ((any-lengths-of-c then then.log then.charts (inl refl) (inl refl) sized n after).0 k t c))
