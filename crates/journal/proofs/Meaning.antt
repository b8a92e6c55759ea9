-- The journal's functions do to the bytes what the book's steps do to its rows: force, force up to a row, adding a row, the write of a page.
-- The books meant have nothing waiting and no fuse where they are closed (`Shut`), at most 64 waiting rows, and at most 4,096 rows in all.
use Prim.Native.Nat.{ℕ, zero, suc, ◌+◌, ◌-◌, ◌≤◌, ◌<◌}
use native.Mathlib.Omega.{arith}
use mathlib.Core.Path.{◌≡◌, refl, ap, ◌∙◌}
use mathlib.Core.Bool.{Bool, true, false, cond}
use mathlib.Core.List.{List, [], ◌++◌, append-nil}
use lib.ListN.{length, drop, replicate, length-append}
use lib.Dec.{leb}
use borrow.Author.Tests.{lt-ltb, leb-false}
use Rattle.std.specs.Prelude.{is_none}
use Rattle.book.specs.Lists.{times}
use Rattle.book.specs.Limits.{tail_limit}
use Rattle.book.specs.Rows.{Row}
use Rattle.book.specs.Power.{Book, Fuse, none, left, rows_of, closed, store_row, force, store_page, append, add}
use Rattle.book.proofs.Lists.{clash}
use Rattle.book.proofs.Steps.{Shut, book_of, extends-times, extends-force}
use Rattle.book.proofs.Force.{force-empties}
use Rattle.journal.specs.Writes.{put_page}
use Rattle.journal.specs.Force.{Ran, chunks, runs, control_after}
use Rattle.journal.specs.Journal.{Journal, forced_up_to, tail_after, forced, with_room, joined_if, appended, paged}
use Rattle.journal.specs.Meaning.{phase_of, control_of, journal_of}
use Rattle.journal.proofs.RowsInBytes.{snoc-length, put_next, left-rows, shift-rows, tail-long}
use Rattle.journal.proofs.RunsOfRows.{ran_of, runs-rows, others-wait}
use Rattle.journal.proofs.Shifts.{none-forced}

-- ── Force ─────────────────────────────────────────────────────────────────────────────────────────────────────────────

-- the journal after a run of its first m rows that ended so
abbrev after_up_to : ℕ → Journal → Ran → Journal
after_up_to m j o = record { control = control_after j.control (j.control.waiting - m) o.run; log = o.log; tail = tail_after (is_none o.run.fuse) m j.control.waiting j.tail }

-- an open book
open-up-to : (m : ℕ) (s w : List Row) (f : Fuse) → m ≤ length w → length w ≤ 64 → length s + length w ≤ 4096
    → forced_up_to m (journal_of (book_of s w f true)) ≡ journal_of (times m store_row (book_of s w f true))
unfolding forced_up_to journal_of control_of
open-up-to m s w f h few room =
    ap (after_up_to m (journal_of (book_of s w f true))) (runs-rows m s w f _ h room) ∙
    go b.stored b.waiting b.fuse b.is_open (others-wait m s w f h) (extends-times m (book_of s w f true) (λ o. clash true refl o)).shut
  where
    b : Book
    b = times m store_row (book_of s w f true)

    go : (s' w' : List Row) (f' : Fuse) (o : Bool) → (o ≡ true → (w' ≡ drop m w) × (length s' ≡ length s + m)) → Shut (book_of s' w' f' o)
        → after_up_to m (journal_of (book_of s w f true)) (ran_of (book_of s' w' f' o)) ≡ journal_of (book_of s' w' f' o)
    go s' w' f' true wait shut =
        let e = wait refl in
        let n : suc (length s) + m ≡ suc (length s + m) = omega arith in
        rw (shift-rows m (suc (length s)) w h few, e.0, e.1, left-rows m w h, n)
    go s' w' f' false wait shut = let e = shut refl in rw (e.0, e.1, tail-long (suc (length s)) w few)

-- the first m waiting rows, one write each
pub forced-up-to : (m : ℕ) (b : Book) → Shut b → length b.waiting ≤ 64 → length (rows_of b) ≤ 4096 → m ≤ length b.waiting
    → forced_up_to m (journal_of b) ≡ journal_of (times m store_row b)
forced-up-to m b = go b.stored b.waiting b.fuse b.is_open
  where
    go : (s w : List Row) (f : Fuse) (o : Bool) → Shut (book_of s w f o) → length w ≤ 64 → length (s ++ w) ≤ 4096 → m ≤ length w
        → forced_up_to m (journal_of (book_of s w f o)) ≡ journal_of (times m store_row (book_of s w f o))
    go s w f true shut few room h = open-up-to m s w f h few (omega (arith, length-append s w))
    go s w f false shut few room h =
        let e = ap length (shut refl).0 in let z : m ≡ 0 = omega arith in rw z (none-forced (journal_of (book_of s w f false)))

-- the journal after a run of all its rows that ended so
abbrev after_all : Journal → Ran → Journal
after_all j o = record { control = control_after j.control 0 o.run; log = o.log; tail = replicate (length j.tail) 0 }

open-forced : (s w : List Row) (f : Fuse) → length w ≤ 64 → length s + length w ≤ 4096
    → forced (journal_of (book_of s w f true)) ≡ journal_of (force (book_of s w f true))
unfolding forced journal_of control_of force
open-forced s w f few room =
    ap (after_all (journal_of (book_of s w f true))) (runs-rows (length w) s w f _ (omega arith) room) ∙
    go b.stored b.waiting b.fuse b.is_open (force-empties (book_of s w f true)) (extends-force (book_of s w f true) (λ o. clash true refl o)).shut
  where
    b : Book
    b = force (book_of s w f true)

    go : (s' w' : List Row) (f' : Fuse) (o : Bool) → w' ≡ [] → Shut (book_of s' w' f' o)
        → after_all (journal_of (book_of s w f true)) (ran_of (book_of s' w' f' o)) ≡ journal_of (book_of s' w' f' o)
    go s' w' f' true e shut = rw (e, tail-long (suc (length s)) w few)
    go s' w' f' false e shut = rw (e, (shut refl).1, tail-long (suc (length s)) w few)

-- a closed book, in which nothing waits
closed-forced : (s : List Row) → forced (journal_of (closed s)) ≡ journal_of (force (closed s))
unfolding forced runs chunks journal_of control_of force
closed-forced s = refl

-- all waiting rows, one write each
pub forced-is : (b : Book) → Shut b → length b.waiting ≤ 64 → length (rows_of b) ≤ 4096 → forced (journal_of b) ≡ journal_of (force b)
forced-is b = go b.stored b.waiting b.fuse b.is_open
  where
    go : (s w : List Row) (f : Fuse) (o : Bool) → Shut (book_of s w f o) → length w ≤ 64 → length (s ++ w) ≤ 4096
        → forced (journal_of (book_of s w f o)) ≡ journal_of (force (book_of s w f o))
    go s w f true shut few room = open-forced s w f few (omega (arith, length-append s w))
    go s w f false shut few room = let e = shut refl in rw (e.0, e.1) (closed-forced s)

-- ── Adding a row ──────────────────────────────────────────────────────────────────────────────────────────────────────

-- the book in whose tail the row has a place
abbrev room_for : Book → Book
room_for b = cond (leb tail_limit (length b.waiting)) (force b) b

room-made : (b : Book) → Shut b → length b.waiting ≤ 64 → length (rows_of b) ≤ 4096 → with_room (journal_of b) ≡ journal_of (room_for b)
unfolding with_room journal_of control_of
room-made b shut few room = go (leb tail_limit (length b.waiting))
  where
    go : (t : Bool) → cond t (forced (journal_of b)) (journal_of b) ≡ journal_of (cond t (force b) b)
    go true = forced-is b shut few room
    go false = refl

has_room : (b : Book) → Shut b → length (rows_of b) < 4096
    → (length (room_for b).waiting < 64) × ((room_for b).is_open ≡ true → length (rows_of (room_for b)) < 4096)
has_room b shut room = go (leb tail_limit (length b.waiting)) refl
  where
    go : (t : Bool) → leb tail_limit (length b.waiting) ≡ t
        → (length (cond t (force b) b).waiting < 64) × ((cond t (force b) b).is_open ≡ true → length (rows_of (cond t (force b) b)) < 4096)
    go true e = (omega (arith, ap length (force-empties b)), λ o. omega (arith, ap length ((extends-force b shut).rows o ∙ append-nil (rows_of b))))
    go false e = (leb-false 64 (length b.waiting) e, λ o. room)

row-joins : (s w : List Row) (f : Fuse) (o : Bool) (r : Row) → length w < 64 → (o ≡ true → length (s ++ w) < 4096)
    → joined_if (phase_of o) (journal_of (book_of s w f o)) r ≡ journal_of (append (book_of s w f o) r)
unfolding journal_of control_of
row-joins s w f false r few room = refl
row-joins s w f true r few room =
    let k : length s + length w < 4096 = omega (arith, length-append s w, room refl) in
    let n : suc (length s + length w) ≡ suc (length s) + length w = omega arith in
    rw (lt-ltb (length s + length w) 4096 k, n, put_next 1024 (suc (length s)) w r (omega arith), snoc-length w r)

-- 01: adding a row, if 64 wait a force comes first
pub appended-is : (b : Book) (r : Row) → Shut b → length b.waiting ≤ 64 → length (rows_of b) < 4096
    → appended (journal_of b) r ≡ journal_of (add b r)
unfolding appended add journal_of control_of
appended-is b r shut few room =
    let c = room_for b in
    let k = has_room b shut room in
    rw (room-made b shut few (omega arith)) (row-joins c.stored c.waiting c.fuse c.is_open r k.0 k.1)

-- ── A page ────────────────────────────────────────────────────────────────────────────────────────────────────────────

-- one write, and the page is the given one exactly if it landed
pub paged-is : (b : Book) (charts : List ℕ) (p : ℕ) (page : List ℕ)
    → paged (control_of b) charts p page ≡ record { control = control_of (store_page b); charts = cond (store_page b).is_open (put_page charts p page) charts }
unfolding paged control_of
paged-is b charts p page = go b.stored b.waiting b.fuse b.is_open
  where
    go : (s w : List Row) (f : Fuse) (o : Bool) → let c = book_of s w f o in
        paged (control_of c) charts p page ≡ record { control = control_of (store_page c); charts = cond (store_page c).is_open (put_page charts p page) charts }
    go s w none true = refl
    go s w (left zero) true = refl
    go s w (left (suc n)) true = refl
    go s w f false = refl
