-- A ready opening leaves what stands for a book, whatever store it was given: so the contracts of the other calls speak of all that can follow it.
use Prim.Native.Nat.{ℕ}
use native.Mathlib.Omega.{arith}
use mathlib.Core.Path.{◌≡◌, refl, ap, sym, ◌∙◌, subst}
use mathlib.Core.Bool.{Bool, true, false, cond}
use mathlib.Core.List.{List}
use lib.ListN.{length, take}
use lib.IntN.{ℤ}
use lib.Dec.{eqb, ltb}
use borrow.Author.Tests.{eqb-true, ltb-true, ltb-false, lt-ltb}
use Rattle.book.specs.Lists.{member}
use Rattle.book.specs.Limits.{log_length, charts_length, page_limit}
use Rattle.book.specs.Rows.{Row}
use Rattle.book.specs.Rules.{allowed_log}
use Rattle.book.specs.Cells.{last_on}
use Rattle.book.specs.Power.{Book, Fuse}
use Rattle.book.specs.Book.{reopened, reopen}
use Rattle.book.specs.Numbers.{AreBytes}
use Rattle.book.specs.LogBytes.{Log, good, bad, log_bytes, read_log}
use Rattle.book.specs.Reading.{log_numbers, Demand2Reading}
use Rattle.book.specs.Pages.{page_at, is_page}
use Rattle.book.specs.Opening.{rejected, recovered, bad_page, checked, open_bytes}
use Rattle.book.specs.Logs.{Sound}
use Rattle.book.proofs.Lists.{clash, and_l, and_r}
use Rattle.book.proofs.InvariantKept.{few-rows}
use Rattle.book.proofs.Steps.{extends-open}
use Rattle.book.proofs.Sound.{ended-book, sound-reopened}
use Rattle.book.proofs.LogBytes.{log-exact}
use Rattle.book.proofs.Reading.{demand-2-reading}
use Rattle.book.proofs.Pages.{Bounded, abs-within, chart-same, as_of}
use Rattle.book.proofs.Flush.{mark-le}
use Rattle.book.proofs.AnyCharts.{marks_of, base_of, marked-any, base-bounded, charts-any}
use Rattle.state.specs.World.{World, right_lengths, world_of, Charts, Represents}
use Rattle.state.specs.CallContracts.{Answered, OpenPost, opens}
use Rattle.book.proofs.Blocks.{first-within}
use Rattle.state.proofs.StoredCharts.{charts-kept}
use Rattle.state.proofs.OpenedStores.{opens-bytes, opens-book, opens-refused}
use Rattle.state.proofs.Kept.{represents-world}

-- ── What a ready opening found ────────────────────────────────────────────────────────────────────────────────────────

record Accepted (log charts : List ℕ) : Type 0 where
  rows : List Row
  allowed : allowed_log rows ≡ true
  is : log ≡ log_bytes rows
  good : bad_page rows charts ≡ page_limit

accepted : (f : Fuse) (log charts : List ℕ) → length log ≡ log_length → (open_bytes f log charts).answer.number ≡ 0 → Accepted log charts
unfolding open_bytes Demand2Reading
accepted f log charts long = go (read_log log) refl
  where
    go : (l : Log) → read_log log ≡ l → (checked f log charts l).answer.number ≡ 0 → Accepted log charts
    go (bad n row) e z = clash (member n log_numbers) ((demand-2-reading log long).refuses n row e).0 (ap (λ (k : ℕ). member k log_numbers) z)
    go (good rs) e z = pages (ltb (bad_page rs charts) page_limit) refl z
      where
        pages : (t : Bool) → ltb (bad_page rs charts) page_limit ≡ t
            → (cond t (rejected 4 (bad_page rs charts) log) (recovered rs charts (reopen f rs))).answer.number ≡ 0 → Accepted log charts
        pages true q z = absurd (omega arith)
        pages false q z =
            let x = log-exact log rs long e in
            let k = ltb-false (bad_page rs charts) page_limit q in let m = first-within page_limit 0 (λ p. is_page rs p (page_at charts p)) in
            record { rows = rs; allowed = x.0; is = x.1; good = omega arith }

-- ── The charts that it found ──────────────────────────────────────────────────────────────────────────────────────────

module _ (charts : List ℕ) (long : length charts ≡ charts_length) (byte : AreBytes charts) (rs : List Row) (al : allowed_log rs ≡ true)
    (good : bad_page rs charts ≡ page_limit) where
  marks : ℕ → ℕ
  marks p = cond (ltb p page_limit) (marks_of charts p) 0

  own : (p : ℕ) → last_on p (take (marks p) rs) ≡ marks p
  unfolding marks
  own p = go (ltb p page_limit) refl
    where
      go : (t : Bool) → ltb p page_limit ≡ t → last_on p (take (cond t (marks_of charts p) 0) rs) ≡ cond t (marks_of charts p) 0
      go true e = marked-any charts long byte rs al (few-rows rs al) good p (ltb-true p page_limit e)
      go false e = refl

  found-charts : Charts (base_of charts rs) rs charts
  unfolding marks
  found-charts = record {
    marks = marks;
    part = λ p. mark-le p (marks p) rs (own p);
    own = own;
    are = charts-any charts long byte rs al (few-rows rs al) good ∙
        chart-same (λ p. as_of (base_of charts rs) rs p (marks_of charts p)) (λ p. as_of (base_of charts rs) rs p (marks p)) (λ p h.
        rw (lt-ltb p page_limit h) (record { mark = refl; cells = λ j k. refl }));
  }

-- ── A ready opening ───────────────────────────────────────────────────────────────────────────────────────────────────

-- the values stand for some book, from some cells on
pub record Stands (w : World) : Type 0 where
  pub cells : ℕ → ℤ
  pub book : Book
  pub represents : Represents cells book w

reopen-sound : (f : Fuse) (rs : List Row) → allowed_log rs ≡ true → Sound (reopen f rs).book
unfolding reopen
reopen-sound f rs al = subst Sound (sym (ended-book _ (reopened f rs))) (sound-reopened f rs al)

reopen-charts : (cells : ℕ → ℤ) (f : Fuse) (rs : List Row) (charts : List ℕ) → Charts cells rs charts → Charts cells (reopen f rs).book.stored charts
unfolding reopen
reopen-charts cells f rs charts C =
    subst (λ (b : Book). Charts cells b.stored charts) (sym (ended-book _ (reopened f rs)))
    (charts-kept cells rs (reopened f rs).stored charts (extends-open f rs).starts C)

-- an opening of a store that was accepted, from the cells on that its charts say
accepted-stands : (f : Fuse) (given : World) (x : Answered) → AreBytes given.charts → OpenPost f given x → right_lengths given ≡ true
    → length given.charts ≡ charts_length → Accepted given.log given.charts → Stands x.world
accepted-stands f given x byte post e long a = record {
  cells = base_of given.charts a.rows;
  book = (reopen f a.rows).book;
  represents = subst (Represents (base_of given.charts a.rows) (reopen f a.rows).book) (sym world)
      (represents-world (base_of given.charts a.rows) (reopen f a.rows).book given.charts
      (λ c h. abs-within 334217728 (base_of given.charts a.rows c) (small c))
      (reopen-sound f a.rows a.allowed) (reopen-charts (base_of given.charts a.rows) f a.rows given.charts C));
}
  where
    small : Bounded 334217728 (base_of given.charts a.rows)
    small = base-bounded given.charts long byte a.rows a.allowed (few-rows a.rows a.allowed) a.good

    C : Charts (base_of given.charts a.rows) a.rows given.charts
    C = found-charts given.charts long byte a.rows a.allowed a.good

    world : x.world ≡ world_of (base_of given.charts a.rows) (reopen f a.rows).book given.charts
    world = ap (λ (r : Answered). r.world)
        (post.is ∙ opens-book (base_of given.charts a.rows) 334217728 small a.rows a.allowed (omega arith) f given e a.is C a.good)

-- any log, charts, state, copy and scopes
pub ready-stands : (f : Fuse) (given : World) (x : Answered) → AreBytes given.charts → OpenPost f given x → x.answer.number ≡ 0 → Stands x.world
ready-stands f given x byte post done = go (right_lengths given) refl
  where
    number : (opens f given).answer.number ≡ 0
    number = ap (λ (r : Answered). r.answer.number) (sym post.is) ∙ done

    go : (t : Bool) → right_lengths given ≡ t → Stands x.world
    go false e = let one = ap (λ (r : Answered). r.answer.number) (opens-refused f given e) in let none = number in absurd (omega arith)
    go true e =
        let log : eqb (length given.log) log_length ≡ true = search (and_l, and_r) in
        let charts : eqb (length given.charts) charts_length ≡ true = search (and_l, and_r) in
        let read = sym (ap (λ (r : Answered). r.answer.number) (opens-bytes f given e)) ∙ number in
        accepted-stands f given x byte post e (eqb-true _ charts_length charts)
        (accepted f given.log given.charts (eqb-true _ log_length log) read)
