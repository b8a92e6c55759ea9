-- The counts of stored writes over a session: they add up to the writes that landed, burnt or not (specs/SessionWrites).
use Prim.Native.Nat.{ℕ, suc, ◌+◌}
use native.Mathlib.Omega.{arith}
use mathlib.Core.Path.{◌≡◌, refl, ap, ap₂, sym, ◌∙◌, subst}
use mathlib.Core.Bool.{Bool, true, false, cond, ◌&&◌}
use mathlib.Core.List.{List, [], ◌∷◌}
use lib.ListN.{length, length-append}
use lib.IntN.{ℤ}
use lib.Dec.{eqb}
use Rattle.book.specs.Lists.{StartsWith}
use Rattle.book.specs.Rows.{Row}
use Rattle.book.specs.Calls.{Call, ending}
use Rattle.book.specs.Power.{Book, Fuse, left}
use Rattle.book.specs.Book.{call, opening}
use Rattle.book.specs.Events.{Event, opens, calls, happens, book_after}
use Rattle.book.specs.Writes.{Writes, no_writes, rows_between, pages_of}
use Rattle.book.specs.SessionWrites.{event_writes, writes, plus, summed, together, more_by, Counted, starts, NoStart, is_flush, flush_done, flushes_done, SessionCounts, StretchCounts}
use Rattle.book.specs.Logs.{Sound}
use Rattle.book.proofs.Lists.{clash}
use Rattle.book.proofs.Claims.{grows}
use Rattle.book.proofs.Sound.{sound-event, TypedEvents}
use Rattle.book.proofs.Writes.{more-more, same_rows, counted_none, call-counted, opening-counted, refused-opening, closed-writes}

-- what landed under a fuse, and then in one more event
then-counted : (f : Fuse) (w v : Writes) (b b' : Book) → Counted f w b → (b.is_open ≡ true → Counted b.fuse v b')
    → (b.is_open ≡ false → (b' ≡ b) × (v ≡ no_writes)) → Counted f (plus w v) b'
then-counted f w v b b' x y z = go b.is_open refl
  where
    sums : together w + together v ≡ together (plus w v)
    sums = omega arith

    go : (t : Bool) → b.is_open ≡ t → Counted f (plus w v) b'
    go true o = record {
      held = λ r. x.held o ∙ ap (more_by (together w)) ((y o).held r) ∙ more-more (together w) (together v) b'.fuse ∙ ap (λ (n : ℕ). more_by n b'.fuse) sums;
      burnt = λ r. x.held o ∙ ap (more_by (together w)) ((y o).burnt r) ∙ ap left sums;
    }
    go false o =
        let none : v ≡ no_writes = (z o).1 in
        let same : plus w v ≡ w = ap (plus w) none ∙ ap₂ (λ (m p : ℕ). record { rows = m; pages = p }) (omega arith) (omega arith) in
        subst (λ (u : Writes). Counted f u b') (sym same) (subst (Counted f w) (sym (z o).0) x)

-- one event that starts no session, under the fuse that runs
event-counted : (cells : ℕ → ℤ) (f : Fuse) (w : Writes) (b : Book) (e : Event) → Sound b → starts e ≡ false → Counted f w b
    → Counted f (plus w (event_writes cells b e)) (happens cells b e).book
event-counted cells f w b (opens true g) s q x = clash true refl q
event-counted cells f w b (opens false g) s q x =
    let none = refused-opening cells b g in
    then-counted f w (event_writes cells b (opens false g)) b (opening b false g).book x
    (λ o. subst (λ (v : Writes). Counted b.fuse v (opening b false g).book) (sym none.1)
    (subst (Counted b.fuse no_writes) (sym none.0) (subst (λ (n : ℕ). Counted b.fuse (record { rows = n; pages = 0 }) b) (same_rows b.stored) (counted_none b o))))
    (λ o. none)
event-counted cells f w b (calls lengths k) s q x =
    then-counted f w (event_writes cells b (calls lengths k)) b (call cells b lengths k).book x (call-counted cells b lengths k s) (closed-writes cells b lengths k)

-- the stored log grows by the rows that are counted
event-rows : (cells : ℕ → ℤ) (b : Book) (e : Event) → Sound b → length (happens cells b e).book.stored ≡ length b.stored + (event_writes cells b e).rows
event-rows cells b e s = go e (grows cells b e s)
  where
    more : (old new : List Row) → StartsWith old new → length new ≡ length old + rows_between old new
    more old new g = let n = ap length g.1 ∙ length-append old g.0 in omega arith

    go : (e : Event) → StartsWith b.stored (happens cells b e).book.stored
        → length (happens cells b e).book.stored ≡ length b.stored + (event_writes cells b e).rows
    go (opens lengths f) g = more b.stored (opening b lengths f).book.stored g
    go (calls lengths k) g = more b.stored (call cells b lengths k).book.stored g

-- and the pages are the flushes that are done
event-pages : (cells : ℕ → ℤ) (b : Book) (e : Event) (rest : ℕ)
    → (event_writes cells b e).pages + rest ≡ cond (flush_done e (happens cells b e).answer.number) (suc rest) rest
event-pages cells b (opens lengths f) rest = omega arith
event-pages cells b (calls lengths k) rest = go k (call cells b lengths k).answer.number
  where
    at : (t : Bool) → cond t 1 0 + rest ≡ cond t (suc rest) rest
    at true = omega arith
    at false = omega arith

    go : (k : Call) (n : ℕ) → pages_of (ending k) n + rest ≡ cond (is_flush k && eqb n 0) (suc rest) rest
    go Call.begin n = omega arith
    go (Call.change v c a) n = omega arith
    go (Call.hand_over g r c) n = omega arith
    go (Call.commit v) n = omega arith
    go (Call.abort v) n = omega arith
    go Call.force n = omega arith
    go (Call.flush p) n = at (eqb n 0)
    go (Call.read c) n = omega arith
    go (Call.hand_over_all g r) n = omega arith

module _ (cells : ℕ → ℤ) where
  rows-add : (b : Book) (es : List Event) → Sound b → TypedEvents es
      → length (book_after cells b es).stored ≡ length b.stored + (summed (writes cells b es)).rows
  rows-add b [] s t = omega arith
  rows-add b (e ∷ es) s t =
      let c = (happens cells b e).book in
      let m = event-rows cells b e s in let n = rows-add c es (sound-event cells b e s t.0) t.1 in omega arith

  pages-add : (b : Book) (es : List Event) → (summed (writes cells b es)).pages ≡ flushes_done cells b es
  pages-add b [] = refl
  pages-add b (e ∷ es) =
      let c = (happens cells b e).book in
      ap (λ (n : ℕ). (event_writes cells b e).pages + n) (pages-add c es) ∙ event-pages cells b e (flushes_done cells c es)

  fuse-adds : (f : Fuse) (w : Writes) (b : Book) (es : List Event) → Sound b → TypedEvents es → NoStart es → Counted f w b
      → Counted f (plus w (summed (writes cells b es))) (book_after cells b es)
  fuse-adds f w b [] s t q x = subst (λ (v : Writes). Counted f v b) (ap₂ (λ (m p : ℕ). record { rows = m; pages = p }) (omega arith) (omega arith)) x
  fuse-adds f w b (e ∷ es) s t q x =
      let c = (happens cells b e).book in
      let v = event_writes cells b e in
      let rest = summed (writes cells c es) in
      subst (λ (u : Writes). Counted f u (book_after cells c es)) (ap₂ (λ (m p : ℕ). record { rows = m; pages = p }) (omega arith) (omega arith))
      (fuse-adds f (plus w v) c es (sound-event cells b e s t.0) t.1 q.1 (event-counted cells f w b e s q.0 x))

  -- 02, L1: "Over a session the counts add up to the writes that landed, whether or not the fuse burnt."
  pub session-counts : (b : Book) (f : Fuse) (es : List Event) → Sound b → TypedEvents es → NoStart es
      → let all = opens true f ∷ es in SessionCounts f b.stored (summed (writes cells b all)) (flushes_done cells b all) (book_after cells b all)
  session-counts b f es s t q = record {
    rows = rows-add b (opens true f ∷ es) s (tt, t);
    pages = pages-add b (opens true f ∷ es);
    fuse = fuse-adds f (event_writes cells b (opens true f)) (opening b true f).book es (sound-event cells b (opens true f) s tt) t q (opening-counted cells b f);
  }

  -- in a closed book nothing lands, and it stays as it is
  idle-events : (b : Book) (es : List Event) → NoStart es → b.is_open ≡ false → (summed (writes cells b es) ≡ no_writes) × (book_after cells b es ≡ b)
  idle-events b [] q o = (refl, refl)
  idle-events b (e ∷ es) q o =
      let one = still e q.0 in
      let rest = idle-events b es q.1 o in
      (ap₂ plus one.1 (ap (λ (c : Book). summed (writes cells c es)) one.0 ∙ rest.0), ap (λ (c : Book). book_after cells c es) one.0 ∙ rest.1)
    where
      still : (e : Event) → starts e ≡ false → ((happens cells b e).book ≡ b) × (event_writes cells b e ≡ no_writes)
      still (opens true f) q = clash true refl q
      still (opens false f) q = refused-opening cells b f
      still (calls lengths k) q = closed-writes cells b lengths k o

  -- and over any stretch of it
  pub stretch-counts : (b : Book) (es : List Event) → Sound b → TypedEvents es → NoStart es
      → StretchCounts b (summed (writes cells b es)) (flushes_done cells b es) (book_after cells b es)
  stretch-counts b es s t q = record {
    running = λ o. record {
      rows = rows-add b es s t;
      pages = pages-add b es;
      fuse =
          subst (λ (w : Writes). Counted b.fuse w (book_after cells b es)) (ap₂ (λ (m p : ℕ). record { rows = m; pages = p }) (omega arith) (omega arith))
          (fuse-adds b.fuse no_writes b es s t q
          (subst (λ (n : ℕ). Counted b.fuse (record { rows = n; pages = 0 }) b) (same_rows b.stored) (counted_none b o)));
    };
    idle = λ o.
        let none = idle-events b es q o in
        (none.0, sym (pages-add b es) ∙ ap (λ (w : Writes). w.pages) none.0, none.1);
  }
