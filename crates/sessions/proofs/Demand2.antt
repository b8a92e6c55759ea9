-- Demand 2: of the calls from the rows that they add to the book, of an opening from the exact reading of its log.
use Prim.Native.Nat.{ℕ}
use native.Mathlib.Omega.{arith}
use mathlib.Core.Bool.{Bool, true, false, cond}
use mathlib.Core.Path.{◌≡◌, refl, ap, ap₂, sym, ◌∙◌, subst}
use mathlib.Core.Logic.{◌↔◌}
use mathlib.Core.List.{List, [], ◌++◌, append-nil, append_assoc, append_cancel_left}
use lib.ListN.{length}
use lib.IntN.{ℤ, pos}
use lib.Dec.{ltb}
use borrow.Author.Tests.{eqb-true, ltb-true, ltb-false}
use Rattle.book.specs.Lists.{StartsWith, member}
use Rattle.book.specs.Limits.{log_length, page_limit}
use Rattle.book.specs.Rows.{Row}
use Rattle.book.specs.Ledger.{ledger}
use Rattle.book.specs.Calls.{Call, ending}
use Rattle.book.specs.Power.{Book, Fuse, rows_of}
use Rattle.book.specs.Book.{Answer, Outcome, closing, adds, through, value, answer, refused, ended, call, reopened, reopen}
use Rattle.book.specs.Numbers.{AreBytes}
use Rattle.book.specs.LogBytes.{Log, good, bad, log_bytes, read_log}
use Rattle.book.specs.Opening.{Opened, rejected, recovered, bad_page, checked, open_bytes}
use Rattle.book.specs.Reading.{log_numbers, BadFor, ReadsExactly, Demand2Reading}
use Rattle.book.proofs.Lists.{clash}
use Rattle.book.proofs.Steps.{extends-through, extends-open}
use Rattle.book.proofs.Sound.{ended-book, Decided, refuses, accepts, decided}
use Rattle.book.proofs.Openings.{ended-open, reopened-stored}
use Rattle.book.proofs.LogBytes.{not_good}
use Rattle.book.proofs.Reading.{demand-2-reading}
use Rattle.state.specs.World.{World, right_lengths, LogIs, state_of, table_of, world_of, Represents}
use Rattle.state.specs.CallContracts.{Answered, opened_world, OpenPost, CallPost, charts_after, outcome_in, by_book}
use Rattle.state.proofs.Lengths.{represented-lengths}
use Rattle.state.proofs.OpenedStores.{opens-bytes}
use Rattle.sessions.specs.Demand2.{HasRows, Landed, WritesRows, Reads, Demand2}
use Rattle.sessions.proofs.LentBuffers.{right}

-- ── Rows that landed ──────────────────────────────────────────────────────────────────────────────────────────────────

-- what was stored after `old` is a first part of `next`
landed-after : (w : World) (old new next : List Row) → StartsWith old new → StartsWith new (old ++ next) → w.log ≡ log_bytes new → Landed w old next
landed-after w old new next p q e = record {
  landed = p.0;
  part = (q.0, append_cancel_left old next (p.0 ++ q.0) (q.1 ∙ ap (λ (l : List Row). l ++ q.0) p.1 ∙ append_assoc old p.0 q.0));
  log = e ∙ ap log_bytes p.1;
}

-- ── A call ────────────────────────────────────────────────────────────────────────────────────────────────────────────

has-rows : (cells : ℕ → ℤ) (b : Book) (charts : List ℕ) (rows : List Row) → b.is_open ≡ true → rows_of b ≡ rows → HasRows (world_of cells b charts) b rows
unfolding world_of state_of
has-rows cells b charts rows o e = record { all = e; log = refl; tail = rw o }

module _ (cells : ℕ → ℤ) (b : Book) (k : Call) (given : World) (h : Represents cells b given) where
  -- what is said of a call of which the book makes `o`
  record CallSays (o : Outcome) (charts : List ℕ) : Type 0 where
    pub done : o.answer.number ≡ 0 → HasRows (world_of cells o.book charts) o.book (rows_of b ++ adds b k)
    pub failed : o.answer.number ≡ 5 → Landed (world_of cells o.book charts) b.stored (b.waiting ++ adds b k)

  failed-rows : (charts : List ℕ) → Landed (world_of cells (through b k) charts) b.stored (b.waiting ++ adds b k)
  unfolding world_of
  failed-rows charts =
      let e = extends-through b k h.sound.shut in
      landed-after (world_of cells (through b k) charts) b.stored (through b k).stored (b.waiting ++ adds b k) e.starts
      (rw append_assoc at e.part) refl

  none-landed : (charts : List ℕ) → Landed (world_of cells b charts) b.stored (b.waiting ++ adds b k)
  unfolding world_of
  none-landed charts = record { landed = []; part = (b.waiting ++ adds b k, refl); log = ap log_bytes (sym (append-nil b.stored)) }

  says-call : (charts : List ℕ) (o : Outcome) → Decided cells b true k o → CallSays o charts
  says-call charts o (refuses n e) = subst (λ (p : Outcome). CallSays p charts) (sym e)
      (record { done = λ z. absurd (omega arith); failed = λ z. none-landed charts })
  says-call charts o (accepts l t r e) =
      let c = through b k in
      let same : o.book ≡ c = ap (λ (p : Outcome). p.book) e ∙ ended-book (value cells b k) c in
      record {
        done = λ z.
            let running = ended-open (value cells b k) c (sym (ap (λ (p : Outcome). p.answer.number) e) ∙ z) in
            subst (λ (d : Book). HasRows (world_of cells d charts) d (rows_of b ++ adds b k)) (sym same)
            (has-rows cells c charts (rows_of b ++ adds b k) running ((extends-through b k h.sound.shut).rows running));
        failed = λ z. subst (λ (d : Book). Landed (world_of cells d charts) b.stored (b.waiting ++ adds b k)) (sym same) (failed-rows charts);
      }

  writes-by : (charts : List ℕ) → WritesRows cells b k (outcome_in cells b k charts (call cells b true k))
  writes-by charts =
      let s = says-call (charts_after cells b (ending k) (call cells b true k).answer.number charts) (call cells b true k) (decided cells b true k) in
      record { answer = refl; done = s.done; failed = s.failed }

  writes : (x : Answered) → CallPost k given x → WritesRows cells b k x
  unfolding by_book
  writes x post = subst (WritesRows cells b k) (sym (post.is (represented-lengths cells b given h) cells b h)) (writes-by given.charts)

-- ── An opening ────────────────────────────────────────────────────────────────────────────────────────────────────────

reopen-done : (f : Fuse) (rs : List Row) → (reopen f rs).answer.number ≡ 0 → (reopen f rs).book.stored ≡ rs ++ closing (ledger rs)
unfolding reopen
reopen-done f rs z =
    ap (λ (c : Book). c.stored) (ended-book _ (reopened f rs)) ∙ reopened-stored f rs (ended-open _ (reopened f rs) z)

reopen-landed : (w : World) (f : Fuse) (rs : List Row) → w.log ≡ log_bytes (reopen f rs).book.stored → Landed w rs (closing (ledger rs))
unfolding reopen
reopen-landed w f rs e =
    let x = extends-open f rs in
    landed-after w rs (reopened f rs).stored (closing (ledger rs)) x.starts
    (subst (λ (l : List Row). StartsWith (reopened f rs).stored (l ++ closing (ledger rs))) (append-nil rs) x.part)
    (e ∙ ap (λ (c : Book). log_bytes c.stored) (ended-book _ (reopened f rs)))

-- an opening by the book answers 0 or 5
ended-reads : (v : ℤ) (b : Book) → member (ended v b).answer.number log_numbers ≡ false
ended-reads v b = go b.is_open
  where
    go : (t : Bool) → member (cond t (record { answer = answer 0 v; book = b }) (refused 5 b)).answer.number log_numbers ≡ false
    go true = refl
    go false = refl

reopen-reads : (f : Fuse) (rs : List Row) → member (reopen f rs).answer.number log_numbers ≡ false
unfolding reopen
reopen-reads f rs = ended-reads _ (reopened f rs)

abbrev is-bad : Log → Bool
is-bad (good rs) = false
is-bad (bad n r) = true

abbrev rows-of : Log → List Row → List Row
rows-of (good rs) us = rs
rows-of (bad n r) us = us

bad-is : (n row i m : ℕ) → bad n row ≡ bad i m → (n ≡ i) × (row ≡ m)
bad-is n row i m e = (cc, cc)

row_of : {n m : ℕ} → pos n ≡ pos m → n ≡ m
row_of e = cc

module _ (f : Fuse) (w : World) (x : ReadsExactly w.log) where
  abbrev Says : Opened → Type 0
  Says o = Reads f w (opened_world w.charts o)

  module _ (rs : List Row) (e : read_log w.log ≡ good rs) where
    only : (us : List Row) → LogIs w us → rs ≡ us
    only us is = ap (λ (l : Log). rows-of l us) (sym e ∙ (x.reads us).1 is)

    same-page : (us : List Row) → LogIs w us → bad_page rs w.charts ≡ bad_page us w.charts
    same-page us is = ap (λ (l : List Row). bad_page l w.charts) (only us is)

    -- no row is bad, and the answer is none of a log
    not-bad : (a : Answer) → member a.number log_numbers ≡ false → AreBytes w.log → (k n : ℕ)
        → ((a ≡ answer k (pos n)) × (member k log_numbers ≡ true)) ↔ BadFor w.log k n
    not-bad a other byte k n = (
      λ p. clash (member k log_numbers) p.1 (ap (λ (b : Answer). member b.number log_numbers) (sym p.0) ∙ other),
      λ b. let is = sym e ∙ (x.reason byte k n).1 b in absurd (not_good k n rs (sym is)),
    )

    says-good : (t : Bool) → ltb (bad_page rs w.charts) page_limit ≡ t
        → Says (cond t (rejected 4 (bad_page rs w.charts) w.log) (recovered rs w.charts (reopen f rs)))
    unfolding state_of table_of
    says-good true q = record {
      refuses = (λ z. clash false z refl, λ none. absurd (none rs ((x.reads rs).0 e)));
      place = λ z. clash false z refl;
      reason = not-bad (answer 4 (pos (bad_page rs w.charts))) refl;
      pages = λ us is bad. rw (same-page us is);
      reads = λ us is ok. let k = ltb-true (bad_page rs w.charts) page_limit q in let p = same-page us is in absurd (omega arith);
      done = λ us is z. absurd (omega arith);
      failed = λ us is z. absurd (omega arith);
    }
    says-good false q = record {
      refuses = (λ z. clash _ z (reopen-reads f rs), λ none. absurd (none rs ((x.reads rs).0 e)));
      place = λ z. clash _ z (reopen-reads f rs);
      reason = not-bad (reopen f rs).answer (reopen-reads f rs);
      pages = λ us is bad. let k = ltb-false (bad_page rs w.charts) page_limit q in let p = same-page us is in absurd (omega arith);
      reads = λ us is ok. (ap (λ (l : List Row). (reopen f l).answer) (only us is), ap (λ (l : List Row). log_bytes (reopen f l).book.stored) (only us is));
      done = λ us is z. ap log_bytes (reopen-done f rs z) ∙ ap (λ (l : List Row). log_bytes (l ++ closing (ledger l))) (only us is);
      failed = λ us is z.
          let after : World = (opened_world w.charts (recovered rs w.charts (reopen f rs))).world in
          subst (λ (l : List Row). Landed after l (closing (ledger l))) (only us is) (reopen-landed after f rs refl);
    }

  says : (l : Log) → read_log w.log ≡ l → Says (checked f w.log w.charts l)
  unfolding state_of table_of
  says (bad n row) e =
      let k = x.refuses n row e in
      let never : (rs : List Row) → LogIs w rs → ⊥ = λ rs is. clash true refl (ap is-bad (sym e ∙ (x.reads rs).1 is)) in
      record {
        refuses = (λ q. never, λ none. k.0);
        place = λ q. (row, k.1, refl);
        reason = λ byte i m. (
          λ p. (x.reason byte i m).0 (e ∙ ap₂ bad (ap (λ (a : Answer). a.number) p.0) (row_of (ap (λ (a : Answer). a.value) p.0))),
          λ b. let is = sym e ∙ (x.reason byte i m).1 b in
              let at = bad-is n row i m is in
              (ap₂ (λ (i m : ℕ). answer i (pos m)) at.0 at.1, subst (λ (i : ℕ). member i log_numbers ≡ true) at.0 k.0),
        );
        pages = λ rs is. absurd (never rs is);
        reads = λ rs is. absurd (never rs is);
        done = λ rs is. absurd (never rs is);
        failed = λ rs is. absurd (never rs is);
      }
  says (good rs) e = says-good rs e (ltb (bad_page rs w.charts) page_limit) refl

reads : (f : Fuse) (given : World) (x : Answered) → OpenPost f given x → right_lengths given ≡ true → Reads f given x
unfolding Demand2Reading open_bytes
reads f given x post e =
    let exact = demand-2-reading given.log (eqb-true (length given.log) log_length (right given e).log) in
    subst (Reads f given) (sym (post.is ∙ opens-bytes f given e)) (says f given exact (read_log given.log) refl)

pub demand-2 : Demand2
demand-2 = record { writes = λ cells b k given x h t post. writes cells b k given h x post; reads = reads }
