-- A fuse only falls: the book's fuse stays one that C can name.
use Prim.Native.Nat.{ℕ, zero, suc}
use native.Mathlib.Omega.{arith}
use mathlib.Core.Path.{ap, sym, ◌∙◌, subst}
use mathlib.Core.Bool.{Bool, true, false, cond}
use mathlib.Core.List.{List, [], ◌∷◌, ◌++◌}
use lib.ListN.{length}
use lib.IntN.{ℤ}
use lib.Dec.{leb}
use Rattle.book.specs.Lists.{times}
use Rattle.book.specs.Limits.{tail_limit}
use Rattle.book.specs.Rows.{Row}
use Rattle.book.specs.Ledger.{ledger}
use Rattle.book.specs.Cells.{last_on}
use Rattle.book.specs.Calls.{Call, Ending, waits, forces, flushes, ending}
use Rattle.book.specs.Power.{Book, Fuse, none, left, land, store_first, store_row, force, store_page, append, add, add_all}
use Rattle.book.specs.Book.{closing, adds, finish, through, value, Outcome, starting, reopened, call, opening}
use Rattle.book.specs.Events.{Event, happens}
use Rattle.book.proofs.Sound.{ended-book, Decided, refuses, accepts, decided, opening-book}
use Rattle.embed_model.specs.EveryList.{FuseOfC, EventOfC}

-- C can name the book's fuse
abbrev OfC : Book → Type 0
OfC b = FuseOfC b.fuse

-- ── Writes ────────────────────────────────────────────────────────────────────────────────────────────────────────────

fuse-land : (f : Fuse) (old st wa : List Row) → FuseOfC f → OfC (land f old st wa)
fuse-land none old st wa h = tt
fuse-land (left zero) old st wa h = tt
fuse-land (left (suc n)) old st wa h = omega arith

fuse-first : (b : Book) (rs : List Row) → OfC b → OfC (store_first b rs)
fuse-first b [] h = h
fuse-first b (r ∷ rs) h = fuse-land b.fuse b.stored _ rs h

fuse-times : (n : ℕ) (b : Book) → OfC b → OfC (times n store_row b)
fuse-times zero b h = h
fuse-times (suc n) b h = fuse-times n (store_row b) (fuse-first b b.waiting h)

fuse-force : (b : Book) → OfC b → OfC (force b)
unfolding force
fuse-force b h = fuse-times (length b.waiting) b h

fuse-page : (b : Book) → OfC b → OfC (store_page b)
fuse-page b h = go b.is_open
  where
    go : (t : Bool) → OfC (cond t (land b.fuse b.stored b.stored b.waiting) b)
    go true = fuse-land b.fuse b.stored b.stored b.waiting h
    go false = h

-- ── Rows ──────────────────────────────────────────────────────────────────────────────────────────────────────────────

fuse-append : (b : Book) (r : Row) → OfC b → OfC (append b r)
fuse-append b r h = go b.is_open
  where
    go : (t : Bool) → OfC (cond t (record { stored = b.stored; waiting = b.waiting ++ (r ∷ []); fuse = b.fuse; is_open = true }) b)
    go true = h
    go false = h

fuse-add : (b : Book) (r : Row) → OfC b → OfC (add b r)
unfolding add
fuse-add b r h = go (leb tail_limit (length b.waiting))
  where
    go : (t : Bool) → OfC (append (cond t (force b) b) r)
    go true = fuse-append (force b) r (fuse-force b h)
    go false = fuse-append b r h

fuse-all : (b : Book) (rs : List Row) → OfC b → OfC (add_all b rs)
fuse-all b [] h = h
fuse-all b (r ∷ rs) h = fuse-all (add b r) rs (fuse-add b r h)

-- ── Calls and openings ────────────────────────────────────────────────────────────────────────────────────────────────

fuse-finish : (e : Ending) (b : Book) → OfC b → OfC (finish e b)
fuse-finish waits b h = h
fuse-finish forces b h = fuse-force b h
fuse-finish (flushes p) b h = fuse-page (times (last_on p b.waiting) store_row b) (fuse-times (last_on p b.waiting) b h)

fuse-through : (b : Book) (k : Call) → OfC b → OfC (through b k)
unfolding through
fuse-through b k h = fuse-finish (ending k) (add_all b (adds b k)) (fuse-all b (adds b k) h)

fuse-call : (cells : ℕ → ℤ) (b : Book) (lengths : Bool) (k : Call) → OfC b → OfC (call cells b lengths k).book
fuse-call cells b lengths k h = go (decided cells b lengths k)
  where
    go : Decided cells b lengths k (call cells b lengths k) → OfC (call cells b lengths k).book
    go (refuses n e) = subst (λ (o : Outcome). OfC o.book) (sym e) h
    go (accepts l o r e) = subst OfC (sym (ap (λ (x : Outcome). x.book) e ∙ ended-book (value cells b k) (through b k))) (fuse-through b k h)

fuse-reopened : (f : Fuse) (rs : List Row) → FuseOfC f → OfC (reopened f rs)
unfolding reopened
fuse-reopened f rs h = fuse-force _ (fuse-all (starting f rs) (closing (ledger rs)) h)

fuse-opening : (b : Book) (lengths : Bool) (f : Fuse) → FuseOfC f → OfC b → OfC (opening b lengths f).book
unfolding opening
fuse-opening b true f g h = subst OfC (sym (opening-book b f)) (fuse-reopened f b.stored g)
fuse-opening b false f g h = h

pub fuse-kept : (cells : ℕ → ℤ) (b : Book) (e : Event) → EventOfC e → FuseOfC b.fuse → FuseOfC (happens cells b e).book.fuse
fuse-kept cells b (Event.opens lengths f) g h = fuse-opening b lengths f g h
fuse-kept cells b (Event.calls lengths k) g h = fuse-call cells b lengths k h
