-- The stored charts after a step: as before where it counts no page, and with the page of the flush where it counts one.
use Prim.Native.Nat.{ℕ}
use native.Mathlib.Omega.{arith}
use mathlib.Core.Path.{◌≡◌, refl, ap, sym, ◌∙◌}
use mathlib.Core.Bool.{Bool, true, false, cond}
use mathlib.Core.Logic.{◌≢◌}
use mathlib.Core.List.{List}
use lib.IntN.{ℤ}
use lib.Dec.{eqb}
use Rattle.book.specs.Limits.{charts_length}
use Rattle.book.specs.Calls.{Call, Ending, waits, forces, flushes, ending}
use Rattle.book.specs.Power.{Book, rows_of}
use Rattle.book.specs.Book.{call}
use Rattle.book.specs.Writes.{pages_of}
use Rattle.book.specs.Pages.{page_bytes, page_after}
use Rattle.book.proofs.Pages.{Bounded}
use Rattle.state.specs.World.{World, right_lengths, world_of}
use Rattle.state.specs.CallContracts.{Answered, with_page, charts_after, by_book, OpenPost, CallPost}
use Rattle.state.proofs.OpenedStores.{opens-refused}
use Rattle.sessions.specs.Host.{Opening, Called, Step, opened, called, world_after, HostDoes, Contract, writes_of}
use Rattle.sessions.proofs.LentBuffers.{lent-own, back-own, right, given-own, after-right, after_same}
use Rattle.sessions.proofs.Held.{Held, lent-stands, opened-is}

-- ── By the counts ─────────────────────────────────────────────────────────────────────────────────────────────────────

module _ (cells : ℕ → ℤ) (b : Book) (charts : List ℕ) where
  none_after : (e : Ending) (n : ℕ) → pages_of e n ≡ 0 → charts_after cells b e n charts ≡ charts
  none_after waits n h = refl
  none_after forces n h = refl
  none_after (flushes p) n h = go (eqb n 0) h
    where
      go : (t : Bool) → ◌≡◌ {A = ℕ} (cond t 1 0) 0 → cond t (with_page p (page_bytes (page_after cells (rows_of b) p)) charts) charts ≡ charts
      go true h = absurd (omega arith)
      go false h = refl

  one-after : (p n : ℕ) → pages_of (flushes p) n ≢ 0 → charts_after cells b (flushes p) n charts ≡ with_page p (page_bytes (page_after cells (rows_of b) p)) charts
  one-after p n h = go (eqb n 0) h
    where
      go : (t : Bool) → ◌≢◌ {A = ℕ} (cond t 1 0) 0 → cond t (with_page p (page_bytes (page_after cells (rows_of b) p)) charts) charts ≡ with_page p (page_bytes (page_after cells (rows_of b) p)) charts
      go true h = refl
      go false h = absurd (h refl)

-- ── By the contracts ──────────────────────────────────────────────────────────────────────────────────────────────────

module _ (cells : ℕ → ℤ) (small : Bounded 1000000 cells) (b : Book) (own : World) (follow : Bool) (h : Held cells b own follow) where
  -- a call that was lent its buffers leaves the charts as the book has them
  call-charts : (c : Called) → HostDoes own follow (called c) → CallPost c.call c.given c.result → right_lengths c.given ≡ true
      → (world_after own (called c)).charts ≡ charts_after cells b (ending c.call) (call cells b true c.call).answer.number own.charts
  unfolding by_book world_of
  call-charts c may post e =
      let is = post.is e cells b (lent-stands cells small b own follow h c may e) in
      ap (λ (w : World). w.charts) (after-right own (called c) e) ∙ ap (λ (r : Answered). r.world.charts) is ∙
      ap (λ (w : World). charts_after cells b (ending c.call) (call cells b true c.call).answer.number w.charts) (given-own own c.given may.2 may.3 e)

  call-pages : (c : Called) → HostDoes own follow (called c) → CallPost c.call c.given c.result → right_lengths c.given ≡ true
      → c.result.writes.pages ≡ pages_of (ending c.call) (call cells b true c.call).answer.number
  unfolding by_book
  call-pages c may post e = ap (λ (r : Answered). r.writes.pages) (post.is e cells b (lent-stands cells small b own follow h c may e))

  call-unflushed : (c : Called) → HostDoes own follow (called c) → CallPost c.call c.given c.result → (t : Bool) → right_lengths c.given ≡ t
      → c.result.writes.pages ≡ 0 → (world_after own (called c)).charts ≡ own.charts
  call-unflushed c may post true e none =
      call-charts c may post e ∙
      none_after cells b own.charts (ending c.call) (call cells b true c.call).answer.number (sym (call-pages c may post e) ∙ none)
  call-unflushed c may post false e none =
      ap (λ (w : World). w.charts) (after_same own (called c) may.2 may.3 (ap (λ (r : Answered). r.world) (post.lengths e)))

  -- an opening stores no page
  open-unflushed : (o : Opening) → HostDoes own follow (opened o) → OpenPost o.fuse o.given o.result → (t : Bool) → right_lengths o.given ≡ t
      → (world_after own (opened o)).charts ≡ own.charts
  unfolding world_of
  open-unflushed o may post true e =
      ap (λ (w : World). w.charts) (after-right own (opened o) e) ∙
      ap (λ (r : Answered). r.world.charts) (opened-is cells small b own follow h o may post e).0 ∙
      lent-own charts_length _ _ may.0.charts (right o.given e).charts
  open-unflushed o may post false e =
      let nothing = ap (λ (r : Answered). r.world.charts) (post.is ∙ opens-refused o.fuse o.given e) in
      back-own charts_length _ _ _ may.0.charts nothing

  pub no-page-stored : (s : Step) → HostDoes own follow s → Contract s → (writes_of s).pages ≡ 0 → (world_after own s).charts ≡ own.charts
  no-page-stored (opened o) may post none = open-unflushed o may post (right_lengths o.given) refl
  no-page-stored (called c) may post none = call-unflushed c may post (right_lengths c.given) refl none

  pub page-stored : (c : Called) (p : ℕ) → HostDoes own follow (called c) → CallPost c.call c.given c.result → c.call ≡ Call.flush p
      → c.result.writes.pages ≢ 0 → (world_after own (called c)).charts ≡ with_page p (page_bytes (page_after cells (rows_of b) p)) own.charts
  page-stored c p may post k some = go (right_lengths c.given) refl
    where
      go : (t : Bool) → right_lengths c.given ≡ t → (world_after own (called c)).charts ≡ with_page p (page_bytes (page_after cells (rows_of b) p)) own.charts
      go true e =
          let n = (call cells b true c.call).answer.number in
          let pages : c.result.writes.pages ≡ pages_of (flushes p) n = call-pages c may post e ∙ ap (λ (x : Call). pages_of (ending x) n) k in
          call-charts c may post e ∙ ap (λ (x : Call). charts_after cells b (ending x) n own.charts) k ∙
          one-after cells b own.charts p n (λ z. some (pages ∙ z))
      go false e = absurd (some (ap (λ (r : Answered). r.writes.pages) (post.lengths e)))
