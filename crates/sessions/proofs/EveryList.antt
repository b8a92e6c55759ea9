-- Demand 3 leaves no list out: every list of openings and calls, with buffers of right and of wrong lengths, is that of some sessions that the host may hold
-- and that meet the contracts.
use Prim.Native.Nat.{ℕ}
use native.Mathlib.Omega.{arith}
use mathlib.Core.Path.{◌≡◌, refl, ap, ap₂, sym, ◌∙◌, subst}
use mathlib.Core.Bool.{Bool, true, false, cond}
use mathlib.Core.Logic.{inl, inr}
use mathlib.Core.List.{List, [], ◌∷◌, ◌++◌, map}
use lib.IntN.{ℤ, pos}
use lib.Dec.{eqb}
use Rattle.book.specs.Power.{Book, Fuse, formatted}
use Rattle.book.specs.Events.{Event, happens}
use Rattle.book.proofs.Sound.{TypedEvent, TypedEvents}
use Rattle.book.proofs.Pages.{Bounded}
use Rattle.state.specs.World.{World}
use Rattle.state.specs.CallContracts.{Answered, answered, opens, by_book, cells_of, FormatPost}
use Rattle.state.proofs.Lengths.{represented-lengths}
use Rattle.state.proofs.OpenedStores.{opens-refused}
use Rattle.state.proofs.FormattedStores.{formatted-store}
use Rattle.state.proofs.Satisfiable.{met, met-lengths}
use Rattle.sessions.specs.Host.{Called, Session, Step, opened, called, steps, event_of, world_after, GetsStored, GetsRam, calls_follow, HostDoes, Host, Contract, Contracts}
use Rattle.sessions.proofs.Held.{Held, represents, step}
use Rattle.sessions.proofs.Demand3.{held-formatted}

-- ── One step ──────────────────────────────────────────────────────────────────────────────────────────────────────────

-- the store's values with a log of a wrong length
abbrev short : World → World
short w = record { state = w.state; log = []; charts = w.charts; copy = w.copy; scopes = w.scopes }

-- the step of an event, by the book
abbrev step_of : (ℕ → ℤ) → Book → World → Event → Step
step_of cells b own (Event.opens true f) = opened (record { fuse = f; as_left = true; given = own; result = opens f own })
step_of cells b own (Event.opens false f) = opened (record { fuse = f; as_left = true; given = short own; result = answered 1 (pos 0) (short own) })
step_of cells b own (Event.calls true k) = called (record { call = k; given = own; result = by_book cells b k own })
step_of cells b own (Event.calls false k) = called (record { call = k; given = short own; result = answered 1 (pos 0) (short own) })

-- the host may lend the store's own values, and for one step another log
lends-own : (own : World) → GetsStored own own × GetsRam own own
lends-own own = (record { log = inl refl; charts = inl refl }, record { state = refl; copy = inl refl; scopes = inl refl })

lends-short : (own : World) → GetsStored own (short own) × GetsRam own (short own)
lends-short own = (record { log = inr (λ e. omega arith); charts = inl refl }, record { state = refl; copy = inl refl; scopes = inl refl })

follows : (n : ℕ) → cond (eqb n 1) true true ≡ true
follows n = go (eqb n 1)
  where
    go : (t : Bool) → cond t true true ≡ true
    go true = refl
    go false = refl

module _ (cells : ℕ → ℤ) (small : Bounded 1000000 cells) where
  -- the event of the step, what the host does, the contract, and that calls may follow
  record Done (b : Book) (own : World) (e : Event) : Type 0 where
    event : event_of (step_of cells b own e) ≡ e
    may : HostDoes own true (step_of cells b own e)
    post : Contract (step_of cells b own e)
    follow : calls_follow true (step_of cells b own e) ≡ true

  does : (b : Book) (own : World) (e : Event) → Held cells b own true → TypedEvent e → Done b own e
  does b own (Event.opens true f) h t = record {
    event = ap (λ (l : Bool). Event.opens l f) (represented-lengths cells b own (represents cells b own small h));
    may = ((lends-own own).0, λ q. (lends-own own).1);
    post = record { is = refl };
    follow = follows (opens f own).answer.number;
  }
  does b own (Event.opens false f) h t = record {
    event = refl;
    may = ((lends-short own).0, λ q. (lends-short own).1);
    post = record { is = sym (opens-refused f (short own) refl) };
    follow = refl;
  }
  does b own (Event.calls true k) h t = record {
    event = ap (λ (l : Bool). Event.calls l k) (represented-lengths cells b own (represents cells b own small h));
    may = (refl, t, (lends-own own).0, (lends-own own).1);
    post = met cells b k own (represents cells b own small h) t;
    follow = refl;
  }
  does b own (Event.calls false k) h t = record {
    event = refl;
    may = (refl, t, (lends-short own).0, (lends-short own).1);
    post = met-lengths k (short own) refl;
    follow = refl;
  }

  -- ── Steps in a row ──────────────────────────────────────────────────────────────────────────────────────────────────

  record Steps (own : World) (follow : Bool) (es : List Event) : Type 0 where
    list : List Step
    events : map event_of list ≡ es
    host : Host own follow list
    contracts : Contracts list

  steps_of : (es : List Event) (b : Book) (own : World) → Held cells b own true → TypedEvents es → Steps own true es
  steps_of [] b own h t = record { list = []; events = refl; host = tt; contracts = tt }
  steps_of (e ∷ es) b own h t =
      let d = does b own e h t.0 in
      let s = step_of cells b own e in
      let n = step cells small b own true h s d.may d.post in
      let held = subst (Held cells (happens cells b (event_of s)).book (world_after own s)) d.follow n.held in
      let more = steps_of es (happens cells b (event_of s)).book (world_after own s) held t.1 in
      record {
        list = s ∷ more.list;
        events = ap₂ (λ (x : Event) (xs : List Event). x ∷ xs) d.event more.events;
        host = (d.may, subst (λ (f : Bool). Host (world_after own s) f more.list) (sym d.follow) more.host);
        contracts = (d.post, more.contracts);
      }

-- ── Sessions ──────────────────────────────────────────────────────────────────────────────────────────────────────────

-- steps are calls and then sessions
record Sessions (xs : List Step) : Type 0 where
  calls : List Called
  sessions : List Session
  are : xs ≡ map called calls ++ steps sessions

sessions-of : (xs : List Step) → Sessions xs
sessions-of [] = record { calls = []; sessions = []; are = refl }
sessions-of (opened o ∷ xs) =
    let r = sessions-of xs in
    record { calls = []; sessions = record { opening = o; calls = r.calls } ∷ r.sessions; are = ap (λ (l : List Step). opened o ∷ l) r.are }
sessions-of (called c ∷ xs) =
    let r = sessions-of xs in record { calls = c ∷ r.calls; sessions = r.sessions; are = ap (λ (l : List Step). called c ∷ l) r.are }

-- the sessions of these events
pub record Lawful (own : World) (es : List Event) : Type 0 where
  pub sessions : List Session
  pub events : map event_of (steps sessions) ≡ es
  pub host : Host own true (steps sessions)
  pub contracts : Contracts (steps sessions)

-- a list of steps whose first event is an opening, as a list of sessions has it
lawful : (own : World) (lengths : Bool) (f : Fuse) (es : List Event) (xs : List Step) → Sessions xs → map event_of xs ≡ Event.opens lengths f ∷ es
    → Host own true xs → Contracts xs → Lawful own (Event.opens lengths f ∷ es)
lawful own lengths f es xs r e h c = its r.calls r.are
  where
    its : (cs : List Called) → xs ≡ map called cs ++ steps r.sessions → Lawful own (Event.opens lengths f ∷ es)
    its [] q = record {
      sessions = r.sessions;
      events = ap (map event_of) (sym q) ∙ e;
      host = subst (Host own true) q h;
      contracts = subst Contracts q c;
    }
    its (k ∷ cs) q =
        let bad : event_of (called k) ∷ map event_of (map called cs ++ steps r.sessions) ≡ Event.opens lengths f ∷ es = ap (map event_of) (sym q) ∙ e in
        let no' : ◌≡◌ {A = ℕ} 0 1 = cc in absurd (omega arith)

pub every-list : (values : List ℤ) (given : World) (format : Answered) → FormatPost values given format → format.answer.number ≡ 0
    → (lengths : Bool) (f : Fuse) (es : List Event) → TypedEvents es → Lawful format.world (Event.opens lengths f ∷ es)
every-list values given format post done lengths f es t =
    let z = formatted-store values given format post done in
    let x = steps_of (cells_of values) z.small (Event.opens lengths f ∷ es) formatted format.world (held-formatted values format.world z) (tt, t) in
    lawful format.world lengths f es x.list (sessions-of x.list) x.events x.host x.contracts
