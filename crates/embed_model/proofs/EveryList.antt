-- Every list of events that a host in C can make is that of some sessions made with the functions for C (specs/EveryList).
use Prim.Native.Nat.{ℕ}
use native.Mathlib.Omega.{arith}
use mathlib.Core.Path.{◌≡◌, refl, ap, ap₂, sym, ◌∙◌, subst}
use mathlib.Core.Bool.{Bool, true, false, cond}
use mathlib.Core.List.{List, [], ◌∷◌, ◌++◌, map}
use lib.ListN.{length}
use lib.IntN.{ℤ, pos}
use lib.Dec.{eqb}
use Rattle.book.specs.Limits.{log_length, charts_length}
use Rattle.book.specs.Power.{Book, Fuse, formatted}
use Rattle.book.specs.Events.{Event, happens}
use Rattle.book.specs.LogBytes.{log_bytes}
use Rattle.book.proofs.Pages.{Bounded}
use Rattle.state.specs.World.{World, cleared}
use Rattle.state.specs.CallContracts.{answered, cells_of, formats}
use Rattle.state.proofs.FormattedStores.{formatted-store, new_charts}
use Rattle.sessions.specs.Host.{event_of, back, world_after, Contract}
use Rattle.sessions.proofs.Held.{Held, step}
use Rattle.sessions.proofs.Demand3.{held-formatted}
use Rattle.sessions.proofs.EveryListMade.{formats-done}
use Rattle.embed_model.specs.Arrays.{Arrays, world_in, RamLengths}
use Rattle.embed_model.specs.Packed.{answer_in, writes_in}
use Rattle.embed_model.specs.Called.{answered_in}
use Rattle.embed_model.specs.Host.{FormatMade, CallMade, SessionMade, StepMade, opens, calls, steps_made, step_of, after_call, after_step, HostOfC}
use Rattle.embed_model.specs.EveryList.{Below, ArraysOfC, StepOfC, StepsOfC, EventOfC, EventsOfC, SessionsOfC, AnyFormatOfC, EveryListOfC}
use Rattle.embed_model.proofs.Arrays.{zero-cleared}
use Rattle.embed_model.proofs.Demand.{after-world, does, same-steps}
use Rattle.embed_model.proofs.Below.{below-log, below-charts}
use Rattle.embed_model.proofs.BookArrays.{zeros, zeros-zero, zeros-long, zero-typed}
use Rattle.embed_model.proofs.FuseFalls.{fuse-kept}
use Rattle.embed_model.proofs.StepsMade.{Stands, Made, made}

-- ── From one step to the next ─────────────────────────────────────────────────────────────────────────────────────────

contract : (s : StepMade) → Contract (step_of s)
contract (opens o) = o.ensures.does
contract (calls c) = c.ensures.does

back_below : (n size : ℕ) (own given leaves : List ℕ) → Below n own → Below n leaves → Below n (back size own given leaves)
back_below n size own given leaves p q = go (eqb (length given) size)
  where
    go : (t : Bool) → Below n (cond t leaves own)
    go true = q
    go false = p

after-long : (own : Arrays) (s : StepMade) → RamLengths (after_step own s)
after-long own (opens o) = let l = o.ensures.sized in record { head = l.head; visits = l.visits; scopes = l.scopes; tail = l.tail; copy = l.copy }
after-long own (calls c) = let l = c.ensures.sized in record { head = l.head; visits = l.visits; scopes = l.scopes; tail = l.tail; copy = l.copy }

left_typed : (own given leaves : Arrays) → ArraysOfC own → ArraysOfC leaves → ArraysOfC (after_call own given leaves)
left_typed own given leaves p q = record {
  head = q.head;
  visits = q.visits;
  scopes = q.scopes;
  tail = q.tail;
  copy = q.copy;
  log = back_below 256 log_length own.log given.log leaves.log p.log q.log;
  charts = back_below 256 charts_length own.charts given.charts leaves.charts p.charts q.charts;
}

after-typed : (own : Arrays) (e : Event) (m : Made own e) → ArraysOfC own → ArraysOfC (after_step own m.step)
after-typed own e m p = go m.step m.typed
  where
    go : (s : StepMade) → StepOfC s → ArraysOfC (after_step own s)
    go (opens o) t = left_typed own o.given o.leaves p t.1.leaves
    go (calls c) t = left_typed own c.given c.leaves p t.1.leaves

module _ (cells : ℕ → ℤ) (small : Bounded 1000000 cells) where
  next : (b : Book) (own : Arrays) (e : Event) → EventOfC e → Stands cells b own → (m : Made own e)
      → Stands cells (happens cells b e).book (after_step own m.step)
  next b own e t h m =
      let s = m.step in
      let n = step cells small b (world_in own) true h.held (step_of s) (does own true s m.may) (contract s) in
      let follows = subst (Held cells (happens cells b (event_of (step_of s))).book (world_after (world_in own) (step_of s))) m.follow n.held in
      let here = subst (λ (w : World). Held cells (happens cells b (event_of (step_of s))).book w true) (after-world own s) follows in
      record {
        held = subst (λ (x : Event). Held cells (happens cells b x).book (world_in (after_step own s)) true) m.event here;
        long = after-long own s;
        typed = after-typed own e m h.typed;
        fuse = fuse-kept cells b e t h.fuse;
      }

  -- ── Steps in a row ──────────────────────────────────────────────────────────────────────────────────────────────────

  record Steps (own : Arrays) (es : List Event) : Type 0 where
    list : List StepMade
    events : map event_of (map step_of list) ≡ es
    host : HostOfC own true list
    typed : StepsOfC list

  steps_of : (es : List Event) (b : Book) (own : Arrays) → Stands cells b own → EventsOfC es → Steps own es
  steps_of [] b own h t = record { list = []; events = refl; host = tt; typed = tt }
  steps_of (e ∷ es) b own h t =
      let m = made cells small b own h e t.0 in
      let s = m.step in
      let more = steps_of es (happens cells b e).book (after_step own s) (next b own e t.0 h m) t.1 in
      record {
        list = s ∷ more.list;
        events = ap₂ (λ (x : Event) (xs : List Event). x ∷ xs) m.event more.events;
        host = (m.may, subst (λ (f : Bool). HostOfC (after_step own s) f more.list) (sym m.follow) more.host);
        typed = (m.typed, more.typed);
      }

-- ── Sessions ──────────────────────────────────────────────────────────────────────────────────────────────────────────

-- steps are calls and then sessions
record Sessions (xs : List StepMade) : Type 0 where
  first : List CallMade
  sessions : List SessionMade
  are : xs ≡ map calls first ++ steps_made sessions

sessions-of : (xs : List StepMade) → Sessions xs
sessions-of [] = record { first = []; sessions = []; are = refl }
sessions-of (opens o ∷ xs) =
    let r = sessions-of xs in
    record { first = []; sessions = record { opening = o; calls = r.first } ∷ r.sessions; are = ap (λ (l : List StepMade). opens o ∷ l) r.are }
sessions-of (calls c ∷ xs) =
    let r = sessions-of xs in record { first = c ∷ r.first; sessions = r.sessions; are = ap (λ (l : List StepMade). calls c ∷ l) r.are }

-- a list of steps whose first event is an opening, as a list of sessions has it
sessions-from : (own : Arrays) (lengths : Bool) (f : Fuse) (es : List Event) (xs : List StepMade) → Sessions xs
    → map event_of (map step_of xs) ≡ Event.opens lengths f ∷ es → HostOfC own true xs → StepsOfC xs → SessionsOfC own (Event.opens lengths f ∷ es)
sessions-from own lengths f es xs r e h t = its r.first r.are
  where
    its : (cs : List CallMade) → xs ≡ map calls cs ++ steps_made r.sessions → SessionsOfC own (Event.opens lengths f ∷ es)
    its [] q = record {
      sessions = r.sessions;
      events = ap (map event_of) (sym (same-steps r.sessions)) ∙ ap (λ (l : List StepMade). map event_of (map step_of l)) (sym q) ∙ e;
      host = subst (HostOfC own true) q h;
      typed = subst StepsOfC q t;
    }
    its (c ∷ cs) q =
        let bad : event_of (step_of (calls c)) ∷ map event_of (map step_of (map calls cs ++ steps_made r.sessions)) ≡ Event.opens lengths f ∷ es =
        ap (λ (l : List StepMade). map event_of (map step_of l)) (sym q) ∙ e in
        let no' : ◌≡◌ {A = ℕ} 0 1 = cc in absurd (omega arith)

-- ── After a format ────────────────────────────────────────────────────────────────────────────────────────────────────

formatted-stands : (format : FormatMade) → (done : (answer_in format.number).number ≡ 0) → Stands (cells_of format.cells) formatted format.leaves
unfolding world_in
formatted-stands format done =
    let z = formatted-store format.cells (world_in format.given) (answered_in format.number format.leaves) format.ensures.does done in
    let held = held-formatted format.cells (world_in format.leaves) z in
    record {
      held = held;
      long = format.ensures.sized;
      typed = zero-typed format.leaves (format.ensures.clears done) (rw held.log (below-log [] refl)) (rw held.charts.are (below-charts _));
      fuse = tt;
    }

pub every-list-of-c : EveryListOfC
unfolding EveryListOfC
every-list-of-c format done lengths f es t =
    let z = formatted-store format.cells (world_in format.given) (answered_in format.number format.leaves) format.ensures.does done in
    let x = steps_of (cells_of format.cells) z.small (Event.opens lengths f ∷ es) formatted format.leaves (formatted-stands format done) t in
    sessions-from format.leaves lengths f es x.list (sessions-of x.list) x.events x.host x.typed

-- ── Some format ───────────────────────────────────────────────────────────────────────────────────────────────────────

pub any-format-of-c : AnyFormatOfC
unfolding AnyFormatOfC answer_in writes_in
any-format-of-c values long good given lengths right =
    let log = log_bytes [] in
    let charts = new_charts (cells_of values) in (
      record {
        cells = values;
        given = given;
        long = lengths;
        number = 0;
        leaves = zeros log charts;
        ensures = record {
          does = record {
            is = ap (answered 0 (pos 0)) (zero-cleared (zeros log charts) (zeros-zero log charts)) ∙ sym (formats-done values (world_in given) right long good);
          };
          keeps = λ n. absurd (n refl);
          clears = λ z. zeros-zero log charts;
          sized = zeros-long log charts;
        };
      },
      refl,
      refl,
      refl,
    )
