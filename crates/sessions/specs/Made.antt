-- The functions `format`, `open` and `call` of crate `store` as they were called: each with its arguments, what it gave back and left, and a proof of the
-- function's `ensures`. Demand 3 (document 00) of any sessions made with them.
use Rattle.std.specs.Prelude.{Bool, true, ◌≡◌, List, map, ℤ}
use Rattle.state.specs.declared.ram.Fuse.{Fuse}
use Rattle.state.specs.declared.requests.Request.{Request}
use Rattle.state.specs.Requests.{call_of}
use Rattle.state.specs.World.{World, allowance}
use Rattle.state.specs.CallContracts.{Returned, answered_by, cells_of}
use Rattle.state.specs.Functions.{Formats, Opens, Calls}
use Rattle.sessions.specs.Host.{Called, Session, steps, Host}
use Rattle.sessions.specs.Demand3.{Holds}

-- ── The calls ─────────────────────────────────────────────────────────────────────────────────────────────────────────

-- of `format`
pub record FormatCall : Type 0 where
  pub cells : List ℤ
  pub given : World
  pub return : Returned
  pub ensures : Formats cells given return

-- of `open`
pub record OpenCall : Type 0 where
  pub fuse : Fuse
  pub as_left : Bool  -- it gets the state, copy and scopes that the call before it returned or left
  pub given : World
  pub return : Returned
  pub ensures : Opens fuse given return

-- of `call`
pub record OtherCall : Type 0 where
  pub request : Request
  pub given : World
  pub return : Returned
  pub ensures : Calls request given return

-- 01: a session
pub record Made : Type 0 where
  pub opening : OpenCall
  pub calls : List OtherCall

-- ── The session that they are ─────────────────────────────────────────────────────────────────────────────────────────

abbrev pub called_by : OtherCall → Called
called_by c = record { call = call_of c.request; given = c.given; result = answered_by c.return }

abbrev pub session_of : Made → Session
session_of s =
    let o = s.opening in
    record {
      opening = record { fuse = allowance o.fuse; as_left = o.as_left; given = o.given; result = answered_by o.return };
      calls = map called_by s.calls;
    }

-- 00, demand 3, of the functions: after a call of `format` that was done, any sessions made with the others. That a change is a signed 16-bit number,
-- as the type of the request has it, stands in `Host`.
unfoldable pub Demand3OfCalls : Type 0
Demand3OfCalls =
    (format : FormatCall) → (answered_by format.return).answer.number ≡ 0 → (ss : List Made) →
    Host (answered_by format.return).world true (steps (map session_of ss)) →
    Holds (cells_of format.cells) (answered_by format.return).world (steps (map session_of ss))
