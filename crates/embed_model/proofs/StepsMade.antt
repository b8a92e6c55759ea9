-- One event made with the functions for C: an opening or a call, on arrays that stand for a book, that answers by the book and leaves what stands for the
-- book after it.
use Prim.Native.Nat.{ℕ, suc, ◌<◌}
use native.Mathlib.Omega.{arith}
use mathlib.Core.Path.{◌≡◌, refl, ap, ap₂, sym, ◌∙◌, subst}
use mathlib.Core.Bool.{Bool, true, false, cond}
use mathlib.Core.Logic.{◌≢◌, ◌⊎◌, inl, inr}
use mathlib.Core.List.{List, []}
use lib.ListN.{length}
use lib.IntN.{ℤ, pos}
use lib.Dec.{eqb}
use Rattle.book.specs.Limits.{log_length}
use Rattle.book.specs.Rows.{Row}
use Rattle.book.specs.Calls.{Call, Typed, ending}
use Rattle.book.specs.Power.{Book, Fuse}
use Rattle.book.specs.Book.{Answer, answer, Outcome, refused, reopened, reopen, call, opening}
use Rattle.book.specs.Events.{Event}
use Rattle.book.specs.Logs.{Sound}
use Rattle.book.proofs.Lists.{clash}
use Rattle.book.proofs.Pages.{Bounded}
use Rattle.book.proofs.Sound.{sound-call, sound-opening, stored-allowed}
use Rattle.book.proofs.Claims.{grows-open}
use Rattle.state.specs.World.{World, right_lengths, is_open_phase, works, fuse_of_number, world_of, Charts, Represents}
use Rattle.state.specs.CallContracts.{opens as opens_world, OpenPost, charts_after, by_book, CallPost}
use Rattle.state.proofs.Lengths.{represented-lengths}
use Rattle.state.proofs.StoredCharts.{charts-kept, charts-call}
use Rattle.state.proofs.OpenedStores.{by_opening, opens-book, charts-accepted}
use Rattle.state.proofs.SameBook.{phase-open}
use Rattle.state.proofs.Satisfiable.{met}
use Rattle.sessions.specs.Host.{event_of, calls_follow}
use Rattle.sessions.proofs.Held.{Held, represents}
use Rattle.embed_model.specs.Arrays.{Arrays, arrays, world_in, RamLengths}
use Rattle.embed_model.specs.Packed.{answer_in, writes_in}
use Rattle.embed_model.specs.Called.{answered_in, OpensOfC, CallsOfC}
use Rattle.embed_model.specs.Host.{StepMade, opens, calls, step_of, HostLends}
use Rattle.embed_model.specs.Freedom.{AnyLengthsOfC}
use Rattle.embed_model.specs.EveryList.{Below, ArraysOfC, FuseOfC, CallOfC, StepOfC, EventOfC}
use Rattle.embed_model.proofs.Freedom.{any-lengths-of-c}
use Rattle.embed_model.proofs.Refused.{open-refused, call-refused}
use Rattle.book.specs.Writes.{Writes, no_writes, opening_writes, call_writes}
use Rattle.book.proofs.Writes.{refused-writes}
use Rattle.state.proofs.Works.{works-open}
use Rattle.state.proofs.Decisions.{Ends, ends, ends-only, ends_open, ends-closed, Decides, shut, refuses, accepts, decides, refused-keeps}
use Rattle.embed_model.proofs.Below.{below-charts}
use Rattle.embed_model.proofs.BookArrays.{Encoded, encoded}
use Rattle.embed_model.proofs.FuseFalls.{fuse-kept}
use Rattle.embed_model.proofs.Packed.{PackedInto, packed, fuse_number, fuse-back, fuse-small}
use Rattle.embed_model.proofs.BookAnswers.{call_fits, opening-fits, opening-writes-fit, call-writes-fit}

-- ── One step ──────────────────────────────────────────────────────────────────────────────────────────────────────────

typed_call : (k : Call) → CallOfC k → Typed k
typed_call Call.begin h = tt
typed_call (Call.change v c a) h = h.2
typed_call (Call.hand_over g r c) h = tt
typed_call (Call.commit v) h = tt
typed_call (Call.abort v) h = tt
typed_call Call.force h = tt
typed_call (Call.flush p) h = tt
typed_call (Call.read c) h = tt
typed_call (Call.hand_over_all g r) h = tt

-- the host's own arrays stand for the book
pub record Stands (cells : ℕ → ℤ) (b : Book) (own : Arrays) : Type 0 where
  pub held : Held cells b (world_in own) true
  pub long : RamLengths own
  pub typed : ArraysOfC own
  pub fuse : FuseOfC b.fuse

-- a step of the host with this event, after which calls may follow
pub record Made (own : Arrays) (e : Event) : Type 0 where
  pub step : StepMade
  pub event : event_of (step_of step) ≡ e
  pub may : HostLends own true step
  pub typed : StepOfC step
  pub follow : calls_follow true (step_of step) ≡ true

-- the host's arrays with this log
abbrev lent : Arrays → List ℕ → Arrays
lent x log = arrays x.head x.visits x.scopes x.tail x.copy log x.charts

-- a log that the host may lend, and whether it has its length
record LendsLog (own : Arrays) (log : List ℕ) (lengths : Bool) : Type 0 where
  may : (log ≡ own.log) ⊎ (length log ≢ log_length)
  right : right_lengths (world_in (lent own log)) ≡ lengths
  long : RamLengths (lent own log)
  typed : ArraysOfC (lent own log)

-- an empty one
empty-log : (own : Arrays) → RamLengths own → ArraysOfC own → LendsLog own [] false
unfolding world_in Below
empty-log own l t = record {
  may = inr (λ e. omega arith);
  right = refl;
  long = record { head = l.head; visits = l.visits; scopes = l.scopes; tail = l.tail; copy = l.copy };
  typed = record { head = t.head; visits = t.visits; scopes = t.scopes; tail = t.tail; copy = t.copy; log = tt; charts = t.charts };
}

follows : (n : ℕ) → cond (eqb n 1) true true ≡ true
follows n = go (eqb n 1)
  where
    go : (t : Bool) → cond t true true ≡ true
    go true = refl
    go false = refl

module _ (own : Arrays) (log : List ℕ) (lengths : Bool) (l : LendsLog own log lengths) (r : ℕ) (y : Arrays) (bits : r < 18446744073709551616)
    (left : ArraysOfC y) where
  step-open : (f : Fuse) → FuseOfC f → OpensOfC (fuse_number f) (lent own log) r y → Made own (Event.opens lengths f)
  unfolding AnyLengthsOfC
  step-open f g e = record {
    step = opens (record { fuse = fuse_number f; as_left = true; given = lent own log; long = l.long; number = r; leaves = y; ensures = e });
    event = ap₂ Event.opens l.right (fuse-back f g);
    may = (any-lengths-of-c own log own.charts l.may (inl refl) l.long r y).1 (fuse_number f) true e;
    typed = (fuse-small f g, record { given = l.typed; number = bits; leaves = left });
    follow = follows (answer_in r).number;
  }

  step_call : (k : Call) → CallOfC k → CallsOfC k (lent own log) r y → Made own (Event.calls lengths k)
  unfolding AnyLengthsOfC
  step_call k t e = record {
    step = calls (record { call = k; given = lent own log; long = l.long; number = r; leaves = y; ensures = e });
    event = ap (λ (right : Bool). Event.calls right k) l.right;
    may = (any-lengths-of-c own log own.charts l.may (inl refl) l.long r y).0 k (typed_call k t) e;
    typed = (t, record { given = l.typed; number = bits; leaves = left });
    follow = refl;
  }

-- the number of refusal 1
one : answer_in 4294967296 ≡ answer 1 (pos 0)
unfolding answer_in
one = refl

none : writes_in 4294967296 ≡ no_writes
unfolding writes_in
none = refl

-- charts of a book are bytes
charts-bytes : (cells : ℕ → ℤ) (rs : List Row) (charts : List ℕ) → Charts cells rs charts → Below 256 charts
charts-bytes cells rs charts C = subst (Below 256) (sym C.are) (below-charts _)

module _ (cells : ℕ → ℤ) (small : Bounded 1000000 cells) (b : Book) (own : Arrays) (h : Stands cells b own) where
  stands : Represents cells b (world_in own)
  stands = represents cells b (world_in own) small h.held

  right : right_lengths (world_in own) ≡ true
  right = represented-lengths cells b (world_in own) stands

  sound : Sound b
  sound = h.held.sound

  works-as : works (world_in own).state ≡ b.is_open
  unfolding world_of
  works-as = ap (λ (w : World). works w.state) stands.is ∙ works-open b sound

  lends-own : LendsLog own own.log true
  lends-own = record { may = inl refl; right = right; long = h.long; typed = h.typed }

  -- ── An opening ──────────────────────────────────────────────────────────────────────────────────────────────────────

  module _ (f : Fuse) (g : FuseOfC f) where
    abbrev o : Outcome
    o = opening b true f

    opened-charts : Charts cells o.book.stored (world_in own).charts
    opened-charts = charts-kept cells b.stored o.book.stored (world_in own).charts (grows-open b true f) h.held.charts

    opened-arrays : Encoded cells o.book (world_in own).charts
    opened-arrays =
        encoded cells o.book (world_in own).charts (sound-opening b true f sound) (fuse-kept cells b (Event.opens true f) g h.fuse)
        (charts-bytes cells o.book.stored (world_in own).charts opened-charts)

    opened-number : PackedInto o.answer (opening_writes b.stored o)
    opened-number = packed o.answer (opening_writes b.stored o) (opening-fits b f sound) (opening-writes-fit b f sound)

    opened-ends : Ends o
    unfolding opening reopen
    opened-ends = ends _ (reopened f b.stored)

    opened-does : OpenPost (fuse_of_number (fuse_number f)) (world_in own) (answered_in opened-number.number opened-arrays.arrays)
    unfolding opening
    opened-does =
        let al = stored-allowed b sound in
        let good = charts-accepted cells 1000000 small b.stored al (omega arith) (world_in own).charts h.held.charts in
        let by-book = opens-book cells 1000000 small b.stored al (omega arith) f (world_in own) right h.held.log h.held.charts good in
        let packs : answered_in opened-number.number opened-arrays.arrays ≡ by_opening cells b.stored (world_in own).charts o =
        λ i. record { answer = opened-number.is i; world = opened-arrays.is i; writes = opened-number.writes i } in
        record { is = packs ∙ sym (ap (λ (x : Fuse). opens_world x (world_in own)) (fuse-back f g) ∙ by-book) }

    opened-ensures : OpensOfC (fuse_number f) own opened-number.number opened-arrays.arrays
    opened-ensures =
        let number = ap (λ (a : Answer). a.number) opened-number.is in
        record {
          does = opened-does;
          keeps = λ e. absurd (ends-only o opened-ends (λ z. omega arith) (λ f. omega arith));
          clears = λ z n. opened-arrays.zero (ends-closed o opened-ends (λ e. z (number ∙ e)));
          sized = opened-arrays.long;
        }

    made-opening : Made own (Event.opens true f)
    made-opening =
        step-open own own.log true lends-own opened-number.number opened-arrays.arrays opened-number.small opened-arrays.typed f g opened-ensures

  -- ── A call ──────────────────────────────────────────────────────────────────────────────────────────────────────────

  module _ (k : Call) (t : CallOfC k) where
    abbrev r : Outcome
    r = call cells b true k

    number-of : PackedInto r.answer (call_writes b k r)
    unfolding by_book
    number-of = packed r.answer (call_writes b k r) (call_fits cells small b k sound (typed_call k t) (met cells b k (world_in own) stands (typed_call k t)).table)
        (call-writes-fit cells b k sound (typed_call k t))

    -- the book refuses it: the arrays are as they were
    call-keeps : (n : ℕ) → r ≡ refused (suc n) b → (b.is_open ≡ true → suc n ≢ 5) → CallsOfC k own number-of.number own
    call-keeps n e open-other =
        let is : answer_in number-of.number ≡ answer (suc n) (pos 0) = number-of.is ∙ ap (λ (o : Outcome). o.answer) e in
        let number = ap (λ (a : Answer). a.number) is in
        let same : by_book cells b k (world_in own) ≡ answered_in number-of.number own =
        refused-keeps cells b k (world_in own) n stands e ∙
        ap₂ (λ (a : Answer) (u : Writes). record { answer = a; world = world_in own; writes = u }) (sym is) (sym (number-of.writes ∙ ap (call_writes b k) e ∙ refused-writes b k n)) in
        record {
          does = subst (CallPost k (world_in own)) same (met cells b k (world_in own) stands (typed_call k t));
          keeps = λ p q. refl;
          shut = λ p. refl;
          cut = λ o p. absurd (open-other (sym works-as ∙ o) (sym number ∙ p));
          done = λ z. absurd (omega arith);
          sized = h.long;
        }

    call-charts : Charts cells r.book.stored (charts_after cells b (ending k) r.answer.number (world_in own).charts)
    call-charts = charts-call cells b k (world_in own).charts sound h.held.charts

    call-arrays : Encoded cells r.book (charts_after cells b (ending k) r.answer.number (world_in own).charts)
    call-arrays =
        encoded cells r.book (charts_after cells b (ending k) r.answer.number (world_in own).charts) (sound-call cells b true k sound (typed_call k t))
        (fuse-kept cells b (Event.calls true k) t h.fuse) (charts-bytes cells r.book.stored _ call-charts)

    -- the book accepts it
    call-makes : b.is_open ≡ true → Ends r → CallsOfC k own number-of.number call-arrays.arrays
    unfolding by_book world_of
    call-makes o e =
        let number = ap (λ (a : Answer). a.number) number-of.is in
        let packs : by_book cells b k (world_in own) ≡ answered_in number-of.number call-arrays.arrays =
        sym (λ i. record { answer = number-of.is i; world = call-arrays.is i; writes = number-of.writes i }) in
        record {
          does = subst (CallPost k (world_in own)) packs (met cells b k (world_in own) stands (typed_call k t));
          keeps = λ z f. absurd (ends-only r e (λ q. z (number ∙ q)) (λ q. f (number ∙ q)));
          shut = λ p. clash _ (works-as ∙ o) p;
          cut = λ p f. call-arrays.zero (ends-closed r e (λ z. omega arith));
          done = λ z. ap (λ (w : World). is_open_phase w.state.phase) call-arrays.is ∙ phase-open r.book ∙ ends_open r e (sym number ∙ z);
          sized = call-arrays.long;
        }

    made-call : Made own (Event.calls true k)
    made-call = go (decides cells b k)
      where
        keeps : (n : ℕ) → r ≡ refused (suc n) b → (b.is_open ≡ true → suc n ≢ 5) → Made own (Event.calls true k)
        keeps n e open-other =
            step_call own own.log true lends-own number-of.number own number-of.small h.typed k t (call-keeps n e open-other)

        go : Decides b r → Made own (Event.calls true k)
        go (shut o e) = keeps 4 e (λ p. clash b.is_open p o)
        go (refuses n o other e) = keeps n e (λ p. other)
        go (accepts o e) =
            step_call own own.log true lends-own number-of.number call-arrays.arrays number-of.small call-arrays.typed k t (call-makes o e)

  -- ── Any event ───────────────────────────────────────────────────────────────────────────────────────────────────────

  lends-empty : LendsLog own [] false
  lends-empty = empty-log own h.long h.typed

  pub made : (e : Event) → EventOfC e → Made own e
  made (Event.opens true f) t = made-opening f t
  made (Event.opens false f) t =
      step-open own [] false lends-empty 4294967296 (lent own []) (omega arith) lends-empty.typed f t
      (open-refused (lent own []) lends-empty.long 4294967296 (one, none) lends-empty.right (fuse_number f))
  made (Event.calls true k) t = made-call k t
  made (Event.calls false k) t =
      step_call own [] false lends-empty 4294967296 (lent own []) (omega arith) lends-empty.typed k t
      (call-refused (lent own []) lends-empty.long 4294967296 (one, none) lends-empty.right k)
