-- The stored charts after any number of steps, from what demand 3 says of each: a flush that counts a page has stored it, and nothing else alters them. For two
-- books side by side they are the same.
use Prim.Native.Nat.{ℕ, zero, suc}
use native.Mathlib.Omega.{arith}
use mathlib.Core.Path.{◌≡◌, refl, ap, ap₂, sym, ◌∙◌}
use mathlib.Core.List.{List, [], ◌∷◌, ◌++◌, map, append_assoc, append-nil}
use lib.IntN.{ℤ}
use Rattle.book.specs.Calls.{Call, Ending, waits, forces, flushes, ending}
use Rattle.book.specs.Power.{Book, rows_of, formatted}
use Rattle.book.specs.Events.{Event, opens, calls, happens, book_after}
use Rattle.book.specs.Writes.{Writes}
use Rattle.book.specs.SessionWrites.{event_writes}
use Rattle.book.specs.Pages.{page_bytes, page_after}
use Rattle.book.specs.Logs.{Sound}
use Rattle.book.proofs.Sound.{TypedEvents, sound-event}
use Rattle.book.proofs.MatchingBooks.{matching-pages}
use Rattle.book.proofs.MatchingEvents.{Alongside, Same, same-event, same_writes}
use Rattle.state.specs.World.{World, right_lengths}
use Rattle.state.specs.CallContracts.{with_page}
use Rattle.sessions.specs.Host.{Step, opened, called, event_of, world_after_all}
use Rattle.sessions.specs.Demand3.{book_of, Holds}
use Rattle.sessions.proofs.Along.{book-append}
use Rattle.sessions.proofs.Places.{writes_at}

-- ── By the book ───────────────────────────────────────────────────────────────────────────────────────────────────────

module _ (cells : ℕ → ℤ) where
  -- what a call makes of the stored charts that counts so many pages
  abbrev page_in : Book → Ending → ℕ → List ℕ → List ℕ
  page_in b waits n charts = charts
  page_in b forces n charts = charts
  page_in b (flushes p) zero charts = charts
  page_in b (flushes p) (suc n) charts = with_page p (page_bytes (page_after cells (rows_of b) p)) charts

  abbrev charts_by : Book → Event → List ℕ → List ℕ
  charts_by b (opens lengths f) charts = charts
  charts_by b (calls lengths k) charts = page_in b (ending k) (event_writes cells b (calls lengths k)).pages charts

  -- the stored charts after a list of events
  abbrev pub charts_along : Book → List Event → List ℕ → List ℕ
  charts_along b [] charts = charts
  charts_along b (e ∷ es) charts = charts_along (happens cells b e).book es (charts_by b e charts)

  pub along_then : (b : Book) (xs ys : List Event) (charts : List ℕ)
      → charts_along b (xs ++ ys) charts ≡ charts_along (book_after cells b xs) ys (charts_along b xs charts)
  along_then b [] ys charts = refl
  along_then b (x ∷ xs) ys charts = along_then (happens cells b x).book xs ys (charts_by b x charts)

  -- two books side by side
  same_by : (b b' : Book) (charts : List ℕ) → Alongside b b' → (e : Event) → Same (happens cells b e) (happens cells b' e)
      → charts_by b' e charts ≡ charts_by b e charts
  same_by b b' charts a (opens lengths f) r = refl
  same_by b b' charts a (calls lengths k) r =
      ap (λ (w : Writes). page_in b' (ending k) w.pages charts) (same_writes cells b b' a (calls lengths k) r) ∙
      go (ending k) (event_writes cells b (calls lengths k)).pages
    where
      go : (x : Ending) (n : ℕ) → page_in b' x n charts ≡ page_in b x n charts
      go waits n = refl
      go forces n = refl
      go (flushes p) zero = refl
      go (flushes p) (suc n) = ap (λ (page : List ℕ). with_page p page charts) (matching-pages cells b b' a.matching p)

  pub same-charts : (es : List Event) (b b' : Book) (charts : List ℕ) → Sound b → Sound b' → Alongside b b' → TypedEvents es
      → charts_along b' es charts ≡ charts_along b es charts
  same-charts [] b b' charts s s' a t = refl
  same-charts (e ∷ es) b b' charts s s' a t =
      let one = same-event cells b b' s s' a e t.0 in
      ap (charts_along (happens cells b' e).book es) (same_by b b' charts a e one) ∙
      same-charts es _ _ (charts_by b e charts) (sound-event cells b e s t.0) (sound-event cells b' e s' t.0) one.book t.1

-- ── Of sessions ───────────────────────────────────────────────────────────────────────────────────────────────────────

module _ (cells : ℕ → ℤ) (own : World) (ss : List Step) (holds : Holds cells own ss) where
  one-step : (xs ys : List Step) (s : Step) → ss ≡ xs ++ (s ∷ ys)
      → (world_after_all own (xs ++ (s ∷ []))).charts ≡ charts_by cells (book_of cells xs) (event_of s) (world_after_all own xs).charts
  one-step xs ys (opened o) e =
      holds.charts xs ys (opened o) e (ap (λ (w : Writes). w.pages) (writes_at cells xs ys (opened o) formatted (rw e at holds.counts)))
  one-step xs ys (called c) e = go c.call refl
    where
      pages : (k : Call) → c.call ≡ k → c.result.writes.pages ≡ (event_writes cells (book_of cells xs) (calls (right_lengths c.given) k)).pages
      pages k q =
          ap (λ (w : Writes). w.pages) (writes_at cells xs ys (called c) formatted (rw e at holds.counts)) ∙
          ap (λ (x : Call). (event_writes cells (book_of cells xs) (calls (right_lengths c.given) x)).pages) q

      unflushed : c.result.writes.pages ≡ 0 → (world_after_all own (xs ++ (called c ∷ []))).charts ≡ (world_after_all own xs).charts
      unflushed = holds.charts xs ys (called c) e

      flush : (p n : ℕ) → c.call ≡ Call.flush p → c.result.writes.pages ≡ n
          → (world_after_all own (xs ++ (called c ∷ []))).charts ≡ page_in cells (book_of cells xs) (flushes p) n (world_after_all own xs).charts
      flush p zero q z = unflushed z
      flush p (suc n) q z = holds.flushed xs ys c p e q (λ w. absurd (omega arith))

      go : (k : Call) → c.call ≡ k
          → (world_after_all own (xs ++ (called c ∷ []))).charts ≡ charts_by cells (book_of cells xs) (calls (right_lengths c.given) k) (world_after_all own xs).charts
      go Call.begin q = unflushed (pages Call.begin q)
      go (Call.change v x a) q = unflushed (pages (Call.change v x a) q)
      go (Call.hand_over g r x) q = unflushed (pages (Call.hand_over g r x) q)
      go (Call.commit v) q = unflushed (pages (Call.commit v) q)
      go (Call.abort v) q = unflushed (pages (Call.abort v) q)
      go Call.force q = unflushed (pages Call.force q)
      go (Call.flush p) q = flush p _ q (pages (Call.flush p) q)
      go (Call.read x) q = unflushed (pages (Call.read x) q)
      go (Call.hand_over_all g r) q = unflushed (pages (Call.hand_over_all g r) q)

  along : (xs ys zs : List Step) → ss ≡ xs ++ (ys ++ zs)
      → (world_after_all own (xs ++ ys)).charts ≡ charts_along cells (book_of cells xs) (map event_of ys) (world_after_all own xs).charts
  along xs [] zs e = ap (λ (l : List Step). (world_after_all own l).charts) (append-nil xs)
  along xs (y ∷ ys) zs e =
      ap (λ (l : List Step). (world_after_all own l).charts) (sym (append_assoc xs (y ∷ []) ys)) ∙
      along (xs ++ (y ∷ [])) ys zs (e ∙ sym (append_assoc xs (y ∷ []) (ys ++ zs))) ∙
      ap₂ (λ (b : Book) (charts : List ℕ). charts_along cells b (map event_of ys) charts) (book-append cells formatted xs (y ∷ [])) (one-step xs (ys ++ zs) y e)

  pub charts-along : (xs ys : List Step) → ss ≡ xs ++ ys → (world_after_all own xs).charts ≡ charts_along cells formatted (map event_of xs) own.charts
  charts-along xs ys e = along [] xs ys e
