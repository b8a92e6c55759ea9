-- Every list of events is that of some sessions made with the functions of crate `store` (specs/EveryList), from what holds of whatever meets their contracts.
use Prim.Native.Nat.{ℕ, suc, ◌+◌}
use native.Mathlib.Omega.{arith}
use mathlib.Core.Path.{◌≡◌, refl, ap, ap₂, sym, ◌∙◌, subst}
use mathlib.Core.Bool.{Bool, true, false, cond, not, ◌||◌}
use mathlib.Core.Logic.{◌⊎◌, inl, inr}
use mathlib.Core.List.{List, [], ◌∷◌, ◌++◌, map, head-eq_of_cons-eq, tail-eq_of_cons-eq}
use lib.ListN.{length, replicate}
use lib.IntN.{ℤ, pos, negsuc}
use lib.Dec.{eqb, ltb}
use borrow.Author.Tests.{eqb-true, eq-eqb}
use Rattle.std.specs.Prelude.{Result, Ok, Err}
use Rattle.book.specs.Lists.{member}
use Rattle.book.specs.Limits.{cell_limit}
use Rattle.book.specs.Calls.{Call, Return, the_visit, the_row, the_cell, zero_value, returns}
use Rattle.book.specs.Ledger.{ledger}
use Rattle.book.specs.Cells.{applied}
use Rattle.book.specs.Power.{Book, Fuse, none, left, formatted, rows_of, ledger_of}
use Rattle.book.specs.Book as book
use Rattle.book.specs.Book.{Outcome, closing, adds, through, value_of, value, done, refused_by, refused, call, reopened, reopen, opening}
use Rattle.book.specs.Events.{Event, opens, calls, happens, answers}
use Rattle.book.specs.LogBytes.{log_bytes}
use Rattle.book.proofs.Lists.{and_i}
use Rattle.book.proofs.Sound.{TypedEvents, Decided, refuses, accepts, decided}
use Rattle.state.specs.declared.answers.Done.{Done}
use Rattle.state.specs.declared.answers.Done.TheVariants.{Nothing, Visit, Row, Grams, Wrote}
use Rattle.state.specs.declared.answers.Refusal.{Refusal}
use Rattle.state.specs.declared.answers.Refusal.TheVariants.{WrongLength, Closed, VisitsUsedUp, TooManyActive, NoRoom, NotActive, NoSuchCell, ScopesUsedUp, SameVisit, HoldsNone, NoSuchPage}
use Rattle.state.specs.declared.requests.Request.{Request}
use Rattle.state.specs.declared.requests.Request.TheVariants.{Begin, Change, HandOver, Commit, Abort, Force, Flush, Read, HandOverAll}
use Rattle.state.specs.Answers.{refusal_answer, number_and_value, Case, written, done_case, HasCase}
use Rattle.state.specs.Requests.{call_of}
use Rattle.state.specs.World.{World, right_lengths, fuse_of, allowance, cleared}
use Rattle.state.specs.CallContracts.{Answered, Returned, returned, answered_by, answered, bad_cell, cells_of, formats, numbers, OpenPost, CallPost}
use Rattle.state.proofs.FormattedStores.{new_charts}
use Rattle.sessions.specs.Host.{Opening, Called, Session, Step, opened, called, steps, answer_of, event_of, Host, Contract, Contracts}
use Rattle.sessions.specs.Demand3.{Demand3}
use Rattle.sessions.specs.Made.{FormatCall, OpenCall, OtherCall, Made, called_by, session_of}
use Rattle.sessions.specs.EveryList.{EventsOfCalls, SessionsOfCalls, AnyFormat, EveryListOfCalls}
use Rattle.sessions.proofs.Demand3.{demand-3}
use Rattle.sessions.proofs.EveryList.{every-list}

-- ── Answers ───────────────────────────────────────────────────────────────────────────────────────────────────────────

-- an answer of the functions with this number and value, and of this case or a refusal
record Given (c : Case) (a : book.Answer) : Type 0 where
  answer : Result Done Refusal
  is : number_and_value answer ≡ a
  case : HasCase c answer

-- the refusals of the calls of an open store
abbrev refusal_of : ℕ → Refusal
refusal_of n =
    cond (eqb n 1) WrongLength (cond (eqb n 6) VisitsUsedUp (cond (eqb n 7) TooManyActive (cond (eqb n 8) NoRoom (cond (eqb n 9) NotActive
    (cond (eqb n 10) NoSuchCell (cond (eqb n 11) ScopesUsedUp (cond (eqb n 12) SameVisit (cond (eqb n 13) HoldsNone (cond (eqb n 14) NoSuchPage Closed)))))))))

abbrev Refuses : ℕ → Type 0
Refuses n = (n ≡ 0) ⊎ (refusal_answer (refusal_of n) ≡ refused_by n)

-- what holds of each number of a list holds of its members
abbrev Each : (ℕ → Type 0) → List ℕ → Type 0
Each P [] = Unit {0}
Each P (n ∷ ns) = P n × Each P ns

each_member : (P : ℕ → Type 0) (n : ℕ) (ns : List ℕ) → Each P ns → member n ns ≡ true → P n
each_member P n [] ps e = absurd (let z : ◌≡◌ {A = ℕ} 0 1 = cc e in omega arith)
each_member P n (m ∷ ms) ps e = go (eqb n m) refl (λ r. each_member P n ms ps.1 r) e
  where
    go : (t : Bool) → eqb n m ≡ t → (member n ms ≡ true → P n) → (t || member n ms) ≡ true → P n
    go true q more r = subst P (sym (eqb-true n m q)) ps.0
    go false q more r = more r

refuses-all : (k : Call) → Each Refuses (numbers k)
refuses-all Call.begin = (inl refl, (inr refl, (inr refl, (inr refl, (inr refl, (inr refl, tt))))))
refuses-all (Call.change v c a) = (inl refl, (inr refl, (inr refl, (inr refl, (inr refl, (inr refl, (inr refl, tt)))))))
refuses-all (Call.hand_over g r c) = (inl refl, (inr refl, (inr refl, (inr refl, (inr refl, (inr refl, (inr refl, (inr refl, tt))))))))
refuses-all (Call.commit v) = (inl refl, (inr refl, (inr refl, (inr refl, tt))))
refuses-all (Call.abort v) = (inl refl, (inr refl, (inr refl, (inr refl, tt))))
refuses-all Call.force = (inl refl, (inr refl, (inr refl, tt)))
refuses-all (Call.flush p) = (inl refl, (inr refl, (inr refl, (inr refl, tt))))
refuses-all (Call.read c) = (inl refl, (inr refl, (inr refl, (inr refl, tt))))
refuses-all (Call.hand_over_all g r) = (inl refl, (inr refl, (inr refl, (inr refl, (inr refl, (inr refl, (inr refl, tt)))))))

-- a refusal by a number of the table
refusal-given : (c : Case) (n : ℕ) → Refuses (suc n) → Given c (refused_by (suc n))
refusal-given c n (inl z) = absurd (omega arith)
refusal-given c n (inr e) = record { answer = Err (refusal_of (suc n)); is = e; case = inr refl }

-- what a call that is done gives back
value-given : (cells : ℕ → ℤ) (b : Book) (k : Call) (r : Return) → Given (done_case r) (done (value_of cells b k r))
value-given cells b k the_visit = record { answer = Ok (Visit (record { 0 = suc (ledger_of b).begun })); is = refl; case = inl refl }
value-given cells b k the_row = record { answer = Ok (Row (record { 0 = length (rows_of b) + length (adds b k) })); is = refl; case = inl refl }
value-given cells b k (the_cell c) = record { answer = Ok (Grams (applied cells (rows_of b) c)); is = refl; case = inl refl }
value-given cells b k zero_value = record { answer = Ok Nothing; is = refl; case = inl refl }

-- by the book, and of a number of the call's table
call-given : (cells : ℕ → ℤ) (b : Book) (lengths : Bool) (k : Call) → member (call cells b lengths k).answer.number (numbers k) ≡ true
    → Given (done_case (returns k)) (call cells b lengths k).answer
unfolding value
call-given cells b lengths k listed = go (decided cells b lengths k)
  where
    ends : (t : Bool) → Given (done_case (returns k)) (cond t (record { answer = done (value cells b k); book = through b k }) (refused 5 (through b k))).answer
    ends true = value-given cells b k (returns k)
    ends false = record { answer = Err Closed; is = refl; case = inr refl }

    go : Decided cells b lengths k (call cells b lengths k) → Given (done_case (returns k)) (call cells b lengths k).answer
    go (refuses n e) =
        let is = ap (λ (o : Outcome). o.answer) e in
        subst (Given (done_case (returns k))) (sym is) (refusal-given (done_case (returns k)) n
        (each_member Refuses (suc n) (numbers k) (refuses-all k) (subst (λ (a : book.Answer). member a.number (numbers k) ≡ true) is listed)))
    go (accepts l o r e) = subst (λ (x : Outcome). Given (done_case (returns k)) x.answer) (sym e) (ends (through b k).is_open)

open-given : (b : Book) (lengths : Bool) (f : Fuse) → Given written (opening b lengths f).answer
unfolding opening reopen
open-given b true f = go (reopened f b.stored).is_open
  where
    n : ℕ
    n = length (closing (ledger b.stored))

    go : (t : Bool) → Given written (cond t (record { answer = done (pos n); book = reopened f b.stored }) (refused 5 (reopened f b.stored))).answer
    go true = record { answer = Ok (Wrote n); is = refl; case = inl refl }
    go false = record { answer = Err Closed; is = refl; case = inr refl }
open-given b false f = record { answer = Err WrongLength; is = refl; case = inr refl }

-- ── Steps ─────────────────────────────────────────────────────────────────────────────────────────────────────────────

abbrev StepGiven : Step → Type 0
StepGiven (opened o) = Given written o.result.answer
StepGiven (called c) = Given (done_case (returns c.call)) c.result.answer

abbrev StepsGiven : List Step → Type 0
StepsGiven [] = Unit {0}
StepsGiven (s ∷ ss) = StepGiven s × StepsGiven ss

step_given : (cells : ℕ → ℤ) (b : Book) (s : Step) → answer_of s ≡ (happens cells b (event_of s)).answer → Contract s → StepGiven s
step_given cells b (opened o) e post = subst (Given written) (sym e) (open-given b (right_lengths o.given) o.fuse)
step_given cells b (called c) e post = subst (Given (done_case (returns c.call))) (sym e)
    (call-given cells b (right_lengths c.given) c.call (subst (λ (a : book.Answer). member a.number (numbers c.call) ≡ true) e post.table))

steps-given : (cells : ℕ → ℤ) (b : Book) (ss : List Step) → map answer_of ss ≡ answers cells b (map event_of ss) → Contracts ss → StepsGiven ss
steps-given cells b [] e post = tt
steps-given cells b (s ∷ ss) e post = (
  step_given cells b s (head-eq_of_cons-eq e) post.0,
  steps-given cells (happens cells b (event_of s)).book ss (tail-eq_of_cons-eq e) post.1,
)

-- ── The calls that were made ──────────────────────────────────────────────────────────────────────────────────────────

-- what the function gave back and left
abbrev returned_as : Result Done Refusal → Answered → Returned
returned_as a x =
    returned (record { state = x.world.state; answer = a; writes = record { rows = x.writes.rows; pages = x.writes.pages } })
    x.world.log x.world.charts x.world.copy x.world.scopes

returned-is : (a : Result Done Refusal) (x : Answered) → number_and_value a ≡ x.answer → answered_by (returned_as a x) ≡ x
returned-is a x e = ap (λ (y : book.Answer). record { answer = y; world = x.world; writes = x.writes }) e

fuse-is : (f : Fuse) → allowance (fuse_of f) ≡ f
fuse-is none = refl
fuse-is (left n) = refl

-- the request that means this call
abbrev request_of : Call → Request
request_of Call.begin = Begin
request_of (Call.change v c a) = Change (record { 0 = v }) (record { 0 = c }) a
request_of (Call.hand_over g r c) = HandOver (record { 0 = g }) (record { 0 = r }) (record { 0 = c })
request_of (Call.commit v) = Commit (record { 0 = v })
request_of (Call.abort v) = Abort (record { 0 = v })
request_of Call.force = Force
request_of (Call.flush p) = Flush p
request_of (Call.read c) = Read (record { 0 = c })
request_of (Call.hand_over_all g r) = HandOverAll (record { 0 = g }) (record { 0 = r })

request-is : (k : Call) → call_of (request_of k) ≡ k
request-is Call.begin = refl
request-is (Call.change v c a) = refl
request-is (Call.hand_over g r c) = refl
request-is (Call.commit v) = refl
request-is (Call.abort v) = refl
request-is Call.force = refl
request-is (Call.flush p) = refl
request-is (Call.read c) = refl
request-is (Call.hand_over_all g r) = refl

abbrev open_call : (o : Opening) → OpenPost o.fuse o.given o.result → Given written o.result.answer → OpenCall
open_call o post g = record {
  fuse = fuse_of o.fuse;
  as_left = o.as_left;
  given = o.given;
  return = returned_as g.answer o.result;
  ensures = record {
    post = subst (λ (f : Fuse). OpenPost f o.given (answered_by (returned_as g.answer o.result))) (sym (fuse-is o.fuse))
        (subst (OpenPost o.fuse o.given) (sym (returned-is g.answer o.result g.is)) post);
    case = g.case;
  };
}

abbrev other_call : (c : Called) → CallPost c.call c.given c.result → Given (done_case (returns c.call)) c.result.answer → OtherCall
other_call c post g = record {
  request = request_of c.call;
  given = c.given;
  return = returned_as g.answer c.result;
  ensures = record {
    post = subst (λ (k : Call). CallPost k c.given (answered_by (returned_as g.answer c.result))) (sym (request-is c.call))
        (subst (CallPost c.call c.given) (sym (returned-is g.answer c.result g.is)) post);
    case = subst (λ (k : Call). HasCase (done_case (returns k)) g.answer) (sym (request-is c.call)) g.case;
  };
}

-- the calls of a session, and then other steps
record CallsMade (cs : List Called) : Type 0 where
  made : List OtherCall
  are : map called_by made ≡ cs

calls-made : (cs : List Called) (ss : List Step) → Contracts (map called cs ++ ss) → StepsGiven (map called cs ++ ss) → CallsMade cs × (Contracts ss × StepsGiven ss)
calls-made [] ss post g = (record { made = []; are = refl }, (post, g))
calls-made (c ∷ cs) ss post g =
    let more = calls-made cs ss post.1 g.1 in
    let its : called_by (other_call c post.0 g.0) ≡ c =
    ap₂ (λ (k : Call) (x : Answered). record { call = k; given = c.given; result = x }) (request-is c.call) (returned-is g.0.answer c.result g.0.is) in
    (record { made = other_call c post.0 g.0 ∷ more.0.made; are = ap₂ ◌∷◌ its more.0.are }, more.1)

record SessionsMade (ss : List Session) : Type 0 where
  made : List Made
  are : map session_of made ≡ ss

sessions-made : (ss : List Session) → Contracts (steps ss) → StepsGiven (steps ss) → SessionsMade ss
sessions-made [] post g = record { made = []; are = refl }
sessions-made (s ∷ ss) post g =
    let o = s.opening in
    let m = calls-made s.calls (steps ss) post.1 g.1 in
    let more = sessions-made ss m.1.0 m.1.1 in
    let its : session_of (record { opening = open_call o post.0 g.0; calls = m.0.made }) ≡ s =
    ap₂ (λ (x : Opening) (cs : List Called). record { opening = x; calls = cs })
    (ap₂ (λ (f : Fuse) (x : Answered). record { fuse = f; as_left = o.as_left; given = o.given; result = x }) (fuse-is o.fuse)
    (returned-is g.0.answer o.result g.0.is)) m.0.are in
    record { made = record { opening = open_call o post.0 g.0; calls = m.0.made } ∷ more.made; are = ap₂ ◌∷◌ its more.are }

-- ── Every list ────────────────────────────────────────────────────────────────────────────────────────────────────────

typed-events : (es : List Event) → EventsOfCalls es → TypedEvents es
typed-events [] t = tt
typed-events (opens lengths f ∷ es) t = (tt, typed-events es t.1)
typed-events (calls lengths k ∷ es) t = (t.0, typed-events es t.1)

pub every-list-of-calls : EveryListOfCalls
unfolding EveryListOfCalls Demand3
every-list-of-calls format is-done lengths f es t =
    let x = answered_by format.return in
    let post = format.ensures.post in
    let l = every-list format.cells format.given x post is-done lengths f es (typed-events es t) in
    let by-book = (demand-3 format.cells format.given x post is-done l.sessions l.host l.contracts).answers in
    let m = sessions-made l.sessions l.contracts (steps-given (cells_of format.cells) formatted (steps l.sessions) by-book l.contracts) in
    record {
      sessions = m.made;
      events = ap (λ (ss : List Session). map event_of (steps ss)) m.are ∙ l.events;
      host = subst (λ (ss : List Session). Host x.world true (steps ss)) (sym m.are) l.host;
    }

-- ── Some format ───────────────────────────────────────────────────────────────────────────────────────────────────────

pub formats-done : (values : List ℤ) (w : World) → right_lengths w ≡ true → length values ≡ cell_limit → bad_cell values ≡ cell_limit
    → formats values w ≡ answered 0 (pos 0) (cleared (log_bytes []) (new_charts (cells_of values)))
unfolding formats
formats-done values w right long good =
    ap₂ (λ (s t : Bool). cond (not s) (answered 1 (pos 0) w) (cond t (answered 2 (pos (bad_cell values)) w)
    (answered 0 (pos 0) (cleared (log_bytes []) (new_charts (cells_of values)))))) (and_i _ _ right (eq-eqb (length values) cell_limit long))
    (ap (λ (n : ℕ). ltb n cell_limit) good)

pub any-format : AnyFormat
unfolding AnyFormat
any-format values long good given right =
    let x = answered 0 (pos 0) (cleared (log_bytes []) (new_charts (cells_of values))) in (
      record {
        cells = values;
        given = given;
        return = returned_as (Ok Nothing) x;
        ensures = record { post = record { is = sym (formats-done values given right long good) }; case = inl refl };
      },
      refl,
      refl,
      refl,
    )

-- zeros are formatted, and whatever buffers of 01's lengths are lent
pub zeros-formatted : (given : World) → right_lengths given ≡ true
    → (format : FormatCall) × (format.cells ≡ replicate 224 (pos 0)) × (format.given ≡ given) × ((answered_by format.return).answer.number ≡ 0)
unfolding AnyFormat
zeros-formatted given right = any-format (replicate 224 (pos 0)) refl refl given right

-- ── The numbers of the types ──────────────────────────────────────────────────────────────────────────────────────────

-- the greatest and the least numbers that a request and a fuse can have are asked for in some sessions
abbrev pub at_the_ends : List Event
at_the_ends = map (calls true)
    (Call.begin ∷ Call.change 65535 255 (negsuc 32767) ∷ Call.change 0 0 (pos 32767) ∷ Call.hand_over 65535 65535 255 ∷ Call.commit 65535 ∷ Call.abort 65535 ∷
    Call.force ∷ Call.flush 255 ∷ Call.read 255 ∷ Call.hand_over_all 65535 65535 ∷ []) ++ (opens false (left 4294967295) ∷ calls false Call.begin ∷ [])

pub ends-occur : (format : FormatCall) → (answered_by format.return).answer.number ≡ 0
    → SessionsOfCalls (answered_by format.return).world (opens true (left 4294967295) ∷ at_the_ends)
unfolding EveryListOfCalls
ends-occur format is-done =
    every-list-of-calls format is-done true (left 4294967295) at_the_ends (tt, (tt, (tt, (tt, (tt, (tt, (tt, (tt, (tt, (tt, (tt, (tt, tt))))))))))))
