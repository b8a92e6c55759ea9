-- Demand 3 of the functions for C, from demand 3 of whatever meets the contracts: what the host lends as arrays it lends as worlds.
use Prim.Native.Nat.{ℕ}
use mathlib.Core.Bool.{Bool, true}
use mathlib.Core.Path.{◌≡◌, refl, ap, sym, subst}
use mathlib.Core.Logic.{inl}
use mathlib.Core.List.{List, [], ◌∷◌, ◌++◌, map}
use lib.ListN.{length}
use borrow.Author.Tests.{eq-eqb}
use Rattle.book.specs.Limits.{charts_length, scope_limit}
use Rattle.state.specs.World.{World}
use Rattle.sessions.specs.Host.{Step, opened, called, steps, back, world_after, GetsStored, GetsRam, calls_follow, HostDoes, Host, Contracts}
use Rattle.sessions.specs.Demand3.{Demand3}
use Rattle.sessions.proofs.Demand3.{demand-3}
use Rattle.embed_model.specs.Arrays.{Arrays, world_in}
use Rattle.embed_model.specs.Called.{answered_in}
use Rattle.embed_model.specs.Host.{CallMade, SessionMade, StepMade, opens, calls, steps_made, opening_of, called_of, session_of_c, step_of, after_step, LendsStored, LendsRam, HostLends, HostOfC}
use Rattle.embed_model.specs.Demand.{Demand3OfC}
use Rattle.embed_model.proofs.Arrays.{table-long}

-- ── One step ──────────────────────────────────────────────────────────────────────────────────────────────────────────

-- a buffer that had its length is as it was left
back-left : {A : Type 0} (n : ℕ) (own given leaves : List A) → length given ≡ n → back n own given leaves ≡ leaves
back-left n own given leaves e = rw (eq-eqb (length given) n e)

-- the world after a step is that of the arrays after it
pub after-world : (own : Arrays) (s : StepMade) → world_after (world_in own) (step_of s) ≡ world_in (after_step own s)
unfolding world_in
after-world own (opens o) =
    rw (
      back-left charts_length own.copy o.given.copy o.leaves.copy o.long.copy,
      back-left scope_limit (world_in own).scopes (world_in o.given).scopes (world_in o.leaves).scopes (table-long o.given),
    )
after-world own (calls c) =
    rw (
      back-left charts_length own.copy c.given.copy c.leaves.copy c.long.copy,
      back-left scope_limit (world_in own).scopes (world_in c.given).scopes (world_in c.leaves).scopes (table-long c.given),
    )

-- log and charts, and RAM as left
stored : (own given : Arrays) → LendsStored own given → GetsStored (world_in own) (world_in given)
unfolding world_in
stored own given h = record { log = h.log; charts = h.charts }

ram : (own given : Arrays) → LendsRam own given → GetsRam (world_in own) (world_in given)
unfolding world_in
ram own given h = record { state = rw (h.head, h.visits, h.tail); copy = inl h.copy; scopes = inl (rw h.scopes) }

pub does : (own : Arrays) (follow : Bool) (s : StepMade) → HostLends own follow s → HostDoes (world_in own) follow (step_of s)
does own follow (opens o) h = (stored own o.given h.0, λ q. ram own o.given (h.1 q))
does own follow (calls c) h = (h.0, h.1, stored own c.given h.2, ram own c.given h.3)

-- ── All of them ───────────────────────────────────────────────────────────────────────────────────────────────────────

host : (own : Arrays) (follow : Bool) (ss : List StepMade) → HostOfC own follow ss → Host (world_in own) follow (map step_of ss)
host own follow [] h = tt
host own follow (s ∷ ss) h =
    let then = calls_follow follow (step_of s) in (
      does own follow s h.0,
      subst (λ (w : World). Host w then (map step_of ss)) (sym (after-world own s)) (host (after_step own s) then ss h.1),
    )

-- the steps of the sessions in worlds are the steps made
same-calls : (cs : List CallMade) (ss : List StepMade) (ts : List Step) → map step_of ss ≡ ts → map step_of (map calls cs ++ ss) ≡ map called (map called_of cs) ++ ts
same-calls [] ss ts e = e
same-calls (c ∷ cs) ss ts e = ap (λ (l : List Step). called (called_of c) ∷ l) (same-calls cs ss ts e)

pub same-steps : (ss : List SessionMade) → map step_of (steps_made ss) ≡ steps (map session_of_c ss)
same-steps [] = refl
same-steps (s ∷ ss) = ap (λ (l : List Step). opened (opening_of s.opening) ∷ l) (same-calls s.calls (steps_made ss) (steps (map session_of_c ss)) (same-steps ss))

-- so the host of the sessions keeps to 01
pub host-sessions : (own : Arrays) (ss : List SessionMade) → HostOfC own true (steps_made ss) → Host (world_in own) true (steps (map session_of_c ss))
host-sessions own ss h = subst (Host (world_in own) true) (same-steps ss) (host own true (steps_made ss) h)

-- and each step has its contract
and_then : (cs : List CallMade) (ts : List Step) → Contracts ts → Contracts (map called (map called_of cs) ++ ts)
and_then [] ts p = p
and_then (c ∷ cs) ts p = (c.ensures.does, and_then cs ts p)

pub contracts : (ss : List SessionMade) → Contracts (steps (map session_of_c ss))
contracts [] = tt
contracts (s ∷ ss) = (s.opening.ensures.does, and_then s.calls (steps (map session_of_c ss)) (contracts ss))

pub demand-3-of-c : Demand3OfC
unfolding Demand3OfC Demand3
demand-3-of-c format done ss h =
    demand-3 format.cells (world_in format.given) (answered_in format.number format.leaves) format.ensures.does done (map session_of_c ss)
    (host-sessions format.leaves ss h) (contracts ss)
