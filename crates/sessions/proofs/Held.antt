-- The store's own values stand for the book, and every step of a host that keeps to document 01 answers by the book and leaves them so.
use Prim.Native.Nat.{ℕ}
use native.Mathlib.Omega.{arith}
use mathlib.Core.Path.{◌≡◌, refl, ap, sym, ◌∙◌, subst}
use mathlib.Core.Bool.{Bool, true, false, ◌&&◌}
use mathlib.Core.List.{List}
use lib.IntN.{ℤ}
use borrow.Author.Tests.{eq-eqb}
use Rattle.book.specs.Limits.{log_length, charts_length}
use Rattle.book.specs.Calls.{Call}
use Rattle.book.specs.Power.{Book}
use Rattle.book.specs.Book.{Answer, Outcome, refused, call, opening, reopen}
use Rattle.book.specs.Events.{happens, opens, calls}
use Rattle.book.specs.LogBytes.{log_bytes}
use Rattle.book.specs.Logs.{Sound}
use Rattle.book.proofs.Lists.{and_l, and_r}
use Rattle.book.proofs.Sound.{sound-call, sound-opening, stored-allowed}
use Rattle.book.proofs.Claims.{grows-open}
use Rattle.book.proofs.Pages.{Bounded, abs-within}
use Rattle.state.specs.World.{World, right_lengths, world_of, Charts, Represents}
use Rattle.state.specs.CallContracts.{Answered, OpenPost, CallPost, by_book}
use Rattle.state.proofs.StoredCharts.{charts-kept, charts-call}
use Rattle.book.specs.Writes.{call_writes}
use Rattle.book.specs.SessionWrites.{event_writes}
use Rattle.book.proofs.Writes.{refused-writes, refused-opening}
use Rattle.state.proofs.OpenedStores.{by_opening, opens-book, opens-refused, charts-accepted}
use Rattle.sessions.specs.Host.{Opening, Called, Step, opened, called, answer_of, event_of, world_after, calls_follow, HostDoes, Contract, writes_of}
use Rattle.sessions.proofs.LentBuffers.{lent-own, back-own, right, given-own, after-right, after_same}

-- `follow` says that calls may follow: state, copy and scopes stand for the book then too
pub record Held (cells : ℕ → ℤ) (b : Book) (own : World) (follow : Bool) : Type 0 where
  pub sound : Sound b
  pub log : own.log ≡ log_bytes b.stored
  pub charts : Charts cells b.stored own.charts
  pub is : follow ≡ true → own ≡ world_of cells b own.charts

pub held-world : (cells : ℕ → ℤ) (b : Book) (charts : List ℕ) (follow : Bool) → Sound b → Charts cells b.stored charts
    → Held cells b (world_of cells b charts) follow
unfolding world_of
held-world cells b charts follow s C = record { sound = s; log = refl; charts = C; is = λ r. refl }

pub represents : (cells : ℕ → ℤ) (b : Book) (own : World) → Bounded 1000000 cells → Held cells b own true → Represents cells b own
represents cells b own small h = record {
  range = λ c k. abs-within 334217728 (cells c) (let m = small c in omega arith);
  sound = h.sound;
  charts = h.charts;
  is = h.is refl;
}

-- what a step has to come to: the book's answer, and values that stand for the book after it
pub record ByBook (cells : ℕ → ℤ) (o : Outcome) (answer : Answer) (own : World) (follow : Bool) : Type 0 where
  pub answers : answer ≡ o.answer
  pub held : Held cells o.book own follow

-- of a step that left these values
left : (cells : ℕ → ℤ) (o : Outcome) (x : Answered) (own : World) (charts : List ℕ) (follow : Bool) → own ≡ x.world
    → x.answer ≡ o.answer → x.world ≡ world_of cells o.book charts → Sound o.book → Charts cells o.book.stored charts
    → ByBook cells o x.answer own follow
left cells o x own charts follow e says is s C = record {
  answers = says;
  held = subst (λ (w : World). Held cells o.book w follow) (sym (e ∙ is)) (held-world cells o.book charts follow s C);
}

module _ (cells : ℕ → ℤ) (small : Bounded 1000000 cells) (b : Book) (own : World) (follow : Bool) (h : Held cells b own follow) where
  -- ── Calls ───────────────────────────────────────────────────────────────────────────────────────────────────────────

  -- what a call was lent stands for the book
  pub lent-stands : (c : Called) → HostDoes own follow (called c) → right_lengths c.given ≡ true → Represents cells b c.given
  lent-stands c may e =
      let same = given-own own c.given may.2 may.3 e in
      let open-held : Held cells b own true = subst (Held cells b own) may.0 h in
      subst (Represents cells b) (sym same) (represents cells b own small open-held)

  call-refused : (k : Call) → call cells b false k ≡ refused 1 b
  call-refused k = unfold call in refl

  step_call : (c : Called) → HostDoes own follow (called c) → CallPost c.call c.given c.result
      → (t : Bool) → right_lengths c.given ≡ t → ByBook cells (call cells b t c.call) c.result.answer (world_after own (called c)) follow
  unfolding by_book
  step_call c may post true e =
      let stands = lent-stands c may e in
      let is = post.is e cells b stands in
      left cells (call cells b true c.call) c.result (world_after own (called c)) _ follow (after-right own (called c) e)
      (ap (λ (r : Answered). r.answer) is) (ap (λ (r : Answered). r.world) is) (sound-call cells b true c.call h.sound may.1)
      (charts-call cells b c.call c.given.charts h.sound stands.charts)
  step_call c may post false e =
      let is = post.lengths e in
      let as_before = after_same own (called c) may.2 may.3 (ap (λ (r : Answered). r.world) is) in
      subst (λ (o : Outcome). ByBook cells o c.result.answer (world_after own (called c)) follow) (sym (call-refused c.call))
      (record { answers = ap (λ (r : Answered). r.answer) is; held = subst (λ (w : World). Held cells b w follow) (sym as_before) h })

  -- its counts are the book's
  call-writes : (c : Called) → HostDoes own follow (called c) → CallPost c.call c.given c.result
      → (t : Bool) → right_lengths c.given ≡ t → c.result.writes ≡ event_writes cells b (calls t c.call)
  unfolding by_book
  call-writes c may post true e = ap (λ (r : Answered). r.writes) (post.is e cells b (lent-stands c may e))
  call-writes c may post false e =
      ap (λ (r : Answered). r.writes) (post.lengths e) ∙ sym (ap (call_writes b c.call) (call-refused c.call) ∙ refused-writes b c.call 0)

  -- ── Openings ────────────────────────────────────────────────────────────────────────────────────────────────────────

  pub opened-is : (o : Opening) → HostDoes own follow (opened o) → OpenPost o.fuse o.given o.result → right_lengths o.given ≡ true
      → (o.result ≡ by_opening cells b.stored o.given.charts (reopen o.fuse b.stored)) × Charts cells b.stored o.given.charts
  opened-is o may post e =
      let k = right o.given e in
      let al = stored-allowed b h.sound in
      let log = lent-own log_length _ _ may.0.log k.log ∙ h.log in
      let same = lent-own charts_length _ _ may.0.charts k.charts in
      let C = subst (Charts cells b.stored) (sym same) h.charts in
      let good = charts-accepted cells 1000000 small b.stored al (omega arith) o.given.charts C in
      (post.is ∙ opens-book cells 1000000 small b.stored al (omega arith) o.fuse o.given e log C good, C)

  step-open : (o : Opening) → HostDoes own follow (opened o) → OpenPost o.fuse o.given o.result → (t : Bool) → right_lengths o.given ≡ t
      → ByBook cells (opening b t o.fuse) o.result.answer (world_after own (opened o)) (calls_follow follow (opened o))
  unfolding opening
  step-open o may post true e =
      let is = opened-is o may post e in
      left cells (opening b true o.fuse) o.result (world_after own (opened o)) o.given.charts _ (after-right own (opened o) e)
      (ap (λ (r : Answered). r.answer) is.0) (ap (λ (r : Answered). r.world) is.0) (sound-opening b true o.fuse h.sound)
      (charts-kept cells b.stored (opening b true o.fuse).book.stored o.given.charts (grows-open b true o.fuse) is.1)
  step-open o may post false e =
      let is = post.is ∙ opens-refused o.fuse o.given e in
      let nothing = ap (λ (r : Answered). r.world) is in
      let number = ap (λ (r : Answered). r.answer.number) is in
      let log = back-own log_length _ _ _ may.0.log (ap (λ (w : World). w.log) nothing) in
      let charts = back-own charts_length _ _ _ may.0.charts (ap (λ (w : World). w.charts) nothing) in
      record {
        answers = ap (λ (r : Answered). r.answer) is;
        held = record {
          sound = h.sound;
          log = log ∙ h.log;
          charts = subst (Charts cells b.stored) (sym charts) h.charts;
          is = λ r.
              let both : (follow && o.as_left) ≡ true = rw (eq-eqb o.result.answer.number 1 number) at r in
              let as_before = after_same own (opened o) may.0 (may.1 (and_r follow o.as_left both)) nothing in
              as_before ∙ h.is (and_l follow o.as_left both) ∙ ap (world_of cells b) (sym charts);
        };
      }

  -- its counts are the book's
  open-writes : (o : Opening) → HostDoes own follow (opened o) → OpenPost o.fuse o.given o.result → (t : Bool) → right_lengths o.given ≡ t
      → o.result.writes ≡ event_writes cells b (opens t o.fuse)
  unfolding opening
  open-writes o may post true e = ap (λ (r : Answered). r.writes) (opened-is o may post e).0
  open-writes o may post false e =
      ap (λ (r : Answered). r.writes) (post.is ∙ opens-refused o.fuse o.given e) ∙ sym (refused-opening cells b o.fuse).1

  -- ── Any step ────────────────────────────────────────────────────────────────────────────────────────────────────────

  pub step : (s : Step) → HostDoes own follow s → Contract s → ByBook cells (happens cells b (event_of s)) (answer_of s) (world_after own s) (calls_follow follow s)
  step (opened o) may post = step-open o may post (right_lengths o.given) refl
  step (called c) may post = step_call c may post (right_lengths c.given) refl

  pub step-writes : (s : Step) → HostDoes own follow s → Contract s → writes_of s ≡ event_writes cells b (event_of s)
  step-writes (opened o) may post = open-writes o may post (right_lengths o.given) refl
  step-writes (called c) may post = call-writes c may post (right_lengths c.given) refl
