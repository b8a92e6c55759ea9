-- The counts of stored writes of one opening or call against the fuse (specs/Writes).
use Prim.Native.Nat.{ℕ, zero, suc, ◌+◌, ◌≤◌}
use native.Mathlib.Omega.{arith}
use mathlib.Core.Path.{◌≡◌, refl, ap, ap₂, sym, ◌∙◌, subst}
use mathlib.Core.Bool.{Bool, true, false, cond}
use mathlib.Core.List.{List, [], ◌∷◌, ◌++◌}
use lib.ListN.{length, length-append}
use lib.IntN.{ℤ}
use lib.Dec.{eqb, leb}
use borrow.Author.Tests.{ne_eqb}
use Rattle.book.specs.Lists.{times}
use Rattle.book.specs.Limits.{tail_limit, row_limit}
use Rattle.book.specs.Rows.{Row}
use Rattle.book.specs.Rules.{allowed_log}
use Rattle.book.specs.Ledger.{ledger}
use Rattle.book.specs.Cells.{last_on}
use Rattle.book.specs.Calls.{Call, Ending, waits, forces, flushes, ending, Typed}
use Rattle.book.specs.Power.{Book, Fuse, none, left, store_row, force, store_page, append, add, add_all}
use Rattle.book.specs.Book.{closing, adds, finish, through, value, answer, Outcome, refused, call, starting, reopened, opening}
use Rattle.book.specs.Events.{opens, calls}
use Rattle.book.specs.Writes.{no_writes, rows_between, pages_of, call_writes}
use Rattle.book.specs.SessionWrites.{event_writes, more_by, Counted}
use Rattle.book.specs.Logs.{Sound}
use Rattle.book.proofs.Lists.{clash}
use Rattle.book.proofs.Steps.{Shut, book_of, extends-times, extends-all, extends-add}
use Rattle.book.proofs.InvariantKept.{few-rows}
use Rattle.book.proofs.Sound.{Decided, refuses, accepts, decided, opening-book, stored-allowed, sound-call}

-- ── Steps ─────────────────────────────────────────────────────────────────────────────────────────────────────────────

-- `b'` comes of `b` by writes of which so many rows and these pages landed
record Uses (b : Book) (pages : ℕ) (b' : Book) : Type 0 where
  rows : ℕ
  grew : length b'.stored ≡ length b.stored + rows
  held : b.is_open ≡ true → b'.is_open ≡ true → b.fuse ≡ more_by (rows + pages) b'.fuse
  burnt : b.is_open ≡ true → b'.is_open ≡ false → b.fuse ≡ left (rows + pages)
  stuck : b.is_open ≡ false → (b' ≡ b) × (pages ≡ 0)

more-none : (f : Fuse) → f ≡ more_by 0 f
more-none none = refl
more-none (left m) = ap left (omega arith)

pub more-more : (n m : ℕ) (f : Fuse) → more_by n (more_by m f) ≡ more_by (n + m) f
more-more n m none = refl
more-more n m (left k) = ap left (omega arith)

uses-none : (b : Book) → Uses b 0 b
uses-none b = record {
  rows = 0;
  grew = omega arith;
  held = λ o p. more-none b.fuse;
  burnt = λ o p. clash _ o p;
  stuck = λ o. (refl, refl);
}

uses-then : {p q : ℕ} (b c d : Book) → Uses b p c → Uses c q d → Uses b (p + q) d
uses-then {p} {q} b c d x y = record {
  rows = x.rows + y.rows;
  grew = let m = x.grew in let n = y.grew in omega arith;
  held = held c.is_open refl;
  burnt = burnt c.is_open refl;
  stuck = λ o. let s = x.stuck o in let t = y.stuck (ap (λ (z : Book). z.is_open) s.0 ∙ o) in (t.0 ∙ s.0, ap₂ ◌+◌ s.1 t.1);
}
  where
    sums : x.rows + p + (y.rows + q) ≡ x.rows + y.rows + (p + q)
    sums = omega arith

    held : (t : Bool) → c.is_open ≡ t → b.is_open ≡ true → d.is_open ≡ true → b.fuse ≡ more_by (x.rows + y.rows + (p + q)) d.fuse
    held true m o r =
        x.held o m ∙ ap (more_by (x.rows + p)) (y.held m r) ∙ more-more (x.rows + p) (y.rows + q) d.fuse ∙
        ap (λ (n : ℕ). more_by n d.fuse) sums
    held false m o r = clash _ r (ap (λ (z : Book). z.is_open) (y.stuck m).0 ∙ m)

    burnt : (t : Bool) → c.is_open ≡ t → b.is_open ≡ true → d.is_open ≡ false → b.fuse ≡ left (x.rows + y.rows + (p + q))
    burnt true m o r = x.held o m ∙ ap (more_by (x.rows + p)) (y.burnt m r) ∙ ap left sums
    burnt false m o r =
        let s = y.stuck m in
        let g = y.grew in
        let l = ap (λ (z : Book). length z.stored) s.0 in
        let q0 = s.1 in
        x.burnt o m ∙ ap left (omega arith)

-- one write of a row, and of a page
uses-store : (b : Book) → Shut b → Uses b 0 (store_row b)
uses-store b = go b.stored b.waiting b.fuse b.is_open
  where
    one : (s : List Row) (r : Row) → length (s ++ (r ∷ [])) ≡ length s + 1
    one s r = length-append s (r ∷ [])

    go : (s w : List Row) (f : Fuse) (o : Bool) → Shut (book_of s w f o) → Uses (book_of s w f o) 0 (store_row (book_of s w f o))
    go s [] f o h = uses-none (book_of s [] f o)
    go s (r ∷ w) none true h = record { rows = 1; grew = one s r; held = λ o p. refl; burnt = λ o p. clash true refl p; stuck = λ o. clash true refl o }
    go s (r ∷ w) (left zero) true h = record { rows = 0; grew = omega arith; held = λ o p. clash true refl (sym p); burnt = λ o p. refl; stuck = λ o. clash true refl o }
    go s (r ∷ w) (left (suc n)) true h = record { rows = 1; grew = one s r; held = λ o p. ap left (omega arith); burnt = λ o p. clash true refl p; stuck = λ o. clash true refl o }
    go s (r ∷ w) f false h = let e = (h refl).0 in let z : ◌≡◌ {A = ℕ} 0 1 = cc in absurd (omega arith)

uses-page : (b : Book) → Uses b (cond (store_page b).is_open 1 0) (store_page b)
uses-page b = go b.stored b.waiting b.fuse b.is_open
  where
    go : (s w : List Row) (f : Fuse) (o : Bool) → Uses (book_of s w f o) (cond (store_page (book_of s w f o)).is_open 1 0) (store_page (book_of s w f o))
    go s w none true = record { rows = 0; grew = omega arith; held = λ o p. refl; burnt = λ o p. clash true refl p; stuck = λ o. clash true refl o }
    go s w (left zero) true = record { rows = 0; grew = omega arith; held = λ o p. clash true refl (sym p); burnt = λ o p. refl; stuck = λ o. clash true refl o }
    go s w (left (suc n)) true = record { rows = 0; grew = omega arith; held = λ o p. ap left (omega arith); burnt = λ o p. clash true refl p; stuck = λ o. clash true refl o }
    go s w f false = uses-none (book_of s w f false)

uses-times : (n : ℕ) (b : Book) → Shut b → Uses b 0 (times n store_row b)
uses-times zero b h = uses-none b
uses-times (suc n) b h =
    uses-then b (store_row b) (times n store_row (store_row b)) (uses-store b h) (uses-times n (store_row b) (extends-times 1 b h).shut)

uses-force : (b : Book) → Shut b → Uses b 0 (force b)
unfolding force
uses-force b h = uses-times (length b.waiting) b h

-- a row that is added
uses-append : (b : Book) (r : Row) → Uses b 0 (append b r)
uses-append b r = go b.stored b.waiting b.fuse b.is_open
  where
    go : (s w : List Row) (f : Fuse) (o : Bool) → Uses (book_of s w f o) 0 (append (book_of s w f o) r)
    go s w f true = record { rows = 0; grew = omega arith; held = λ o p. more-none f; burnt = λ o p. clash true refl p; stuck = λ o. clash true refl o }
    go s w f false = uses-none (book_of s w f false)

uses-add : (b : Book) (r : Row) → Shut b → Uses b 0 (add b r)
unfolding add
uses-add b r h = go (leb tail_limit (length b.waiting))
  where
    go : (t : Bool) → Uses b 0 (append (cond t (force b) b) r)
    go true = uses-then b (force b) (append (force b) r) (uses-force b h) (uses-append (force b) r)
    go false = uses-append b r

uses-all : (b : Book) (rs : List Row) → Shut b → Uses b 0 (add_all b rs)
uses-all b [] h = uses-none b
uses-all b (r ∷ rs) h = uses-then b (add b r) (add_all (add b r) rs) (uses-add b r h) (uses-all (add b r) rs (extends-add b r h).shut)

-- ── A call, and an opening ────────────────────────────────────────────────────────────────────────────────────────────

-- the number that an accepted call answers with: 0 where the book is open after it
abbrev number_after : Book → ℕ
number_after b = cond b.is_open 0 5

uses-finish : (e : Ending) (b : Book) → Shut b → Uses b (pages_of e (number_after (finish e b))) (finish e b)
uses-finish waits b h = uses-none b
uses-finish forces b h = uses-force b h
uses-finish (flushes p) b h =
    let c = times (last_on p b.waiting) store_row b in
    subst (λ (n : ℕ). Uses b n (store_page c)) (go (store_page c).is_open) (uses-then b c (store_page c) (uses-times (last_on p b.waiting) b h) (uses-page c))
  where
    go : (t : Bool) → 0 + cond t 1 0 ≡ pages_of (flushes p) (cond t 0 5)
    go true = refl
    go false = refl

uses-through : (b : Book) (k : Call) → Shut b → Uses b (pages_of (ending k) (number_after (through b k))) (through b k)
unfolding through
uses-through b k h =
    let c = add_all b (adds b k) in
    subst (λ (n : ℕ). Uses b n (through b k)) (omega arith)
    (uses-then b c (through b k) (uses-all b (adds b k) h) (uses-finish (ending k) c (extends-all b (adds b k) h).shut))

uses-open : (f : Fuse) (rs : List Row) → Uses (starting f rs) 0 (reopened f rs)
unfolding reopened
uses-open f rs =
    let b = starting f rs in
    let cs = closing (ledger rs) in
    let h : Shut b = λ o. clash true refl o in
    uses-then b (add_all b cs) (reopened f rs) (uses-all b cs h) (uses-force (add_all b cs) (extends-all b cs h).shut)

-- from a step to its counts against the fuse that it began with
counted : {p : ℕ} (b b' : Book) (u : Uses b p b') → b.is_open ≡ true → Counted b.fuse (record { rows = rows_between b.stored b'.stored; pages = p }) b'
counted {p} b b' u o = record {
  held = λ r. u.held o r ∙ ap (λ (n : ℕ). more_by n b'.fuse) same;
  burnt = λ r. u.burnt o r ∙ ap left same;
}
  where
    same : u.rows + p ≡ rows_between b.stored b'.stored + p
    same = let g = u.grew in omega arith

-- nothing happened to an open book
pub counted_none : (b : Book) → b.is_open ≡ true → Counted b.fuse (record { rows = rows_between b.stored b.stored; pages = 0 }) b
counted_none b o = counted b b (uses-none b) o

pub same_rows : (rs : List Row) → rows_between rs rs ≡ 0
same_rows rs = omega arith

-- only a flush that is done lands a page
pub no-page : (e : Ending) (n : ℕ) → pages_of e (suc n) ≡ 0
no-page waits n = refl
no-page forces n = refl
no-page (flushes p) n = rw (ne_eqb (suc n) 0 (λ q. omega arith))

-- a call stores one page at most
pub one-page : (e : Ending) (n : ℕ) → pages_of e n ≤ 1
one-page waits n = omega arith
one-page forces n = omega arith
one-page (flushes p) n = go (eqb n 0)
  where
    go : (t : Bool) → cond t 1 0 ≤ 1
    go true = omega arith
    go false = omega arith

-- a refused call lands nothing
pub refused-writes : (b : Book) (k : Call) (n : ℕ) → call_writes b k (refused (suc n) b) ≡ no_writes
refused-writes b k n = ap₂ (λ (m p : ℕ). record { rows = m; pages = p }) (same_rows b.stored) (no-page (ending k) n)

-- 02, L1, of one call of an open book: what was left of the fuse before is what landed and what is left, or what landed where it burnt
pub call-counted : (cells : ℕ → ℤ) (b : Book) (lengths : Bool) (k : Call) → Sound b → b.is_open ≡ true
    → Counted b.fuse (event_writes cells b (calls lengths k)) (call cells b lengths k).book
call-counted cells b lengths k s o = go (decided cells b lengths k)
  where
    Is : Outcome → Type 0
    Is x = Counted b.fuse (record { rows = rows_between b.stored x.book.stored; pages = pages_of (ending k) x.answer.number }) x.book

    at : (t : Bool) → (through b k).is_open ≡ t
        → Is (cond t (record { answer = answer 0 (value cells b k); book = through b k }) (refused 5 (through b k)))
    at true r = subst (λ (n : ℕ). Counted b.fuse (record { rows = rows_between b.stored (through b k).stored; pages = pages_of (ending k) n }) (through b k))
        (rw r) (counted b (through b k) (uses-through b k s.shut) o)
    at false r = subst (λ (n : ℕ). Counted b.fuse (record { rows = rows_between b.stored (through b k).stored; pages = pages_of (ending k) n }) (through b k))
        (rw r) (counted b (through b k) (uses-through b k s.shut) o)

    go : Decided cells b lengths k (call cells b lengths k) → Is (call cells b lengths k)
    go (refuses n e) = subst Is (sym e)
        (subst (λ (p : ℕ). Counted b.fuse (record { rows = rows_between b.stored b.stored; pages = p }) b) (sym (no-page (ending k) n)) (counted_none b o))
    go (accepts l r z e) = subst Is (sym e) (at (through b k).is_open refl)

-- a log that is allowed has no more rows than it has room for
pub few-between : (old new : List Row) → allowed_log new ≡ true → rows_between old new ≤ row_limit
few-between old new al = let k = few-rows new al in omega arith

-- so that a call stores no more
pub call-few : (cells : ℕ → ℤ) (b : Book) (lengths : Bool) (k : Call) → Sound b → Typed k → (call_writes b k (call cells b lengths k)).rows ≤ row_limit
call-few cells b lengths k s t =
    let c = (call cells b lengths k).book in few-between b.stored c.stored (stored-allowed c (sound-call cells b lengths k s t))

-- of an opening that is not refused by 1, against the fuse that it is given
pub opening-counted : (cells : ℕ → ℤ) (b : Book) (f : Fuse) → Counted f (event_writes cells b (opens true f)) (opening b true f).book
opening-counted cells b f = subst (λ (x : Book). Counted f (record { rows = rows_between b.stored x.stored; pages = 0 }) x) (sym (opening-book b f))
    (counted (starting f b.stored) (reopened f b.stored) (uses-open f b.stored) refl)

-- an opening that is refused by 1 lands nothing
pub refused-opening : (cells : ℕ → ℤ) (b : Book) (f : Fuse) → ((opening b false f).book ≡ b) × (event_writes cells b (opens false f) ≡ no_writes)
unfolding opening
refused-opening cells b f = (refl, ap (λ (n : ℕ). record { rows = n; pages = 0 }) (same_rows b.stored))

-- a call of a closed book lands nothing
pub closed-writes : (cells : ℕ → ℤ) (b : Book) (lengths : Bool) (k : Call) → b.is_open ≡ false
    → ((call cells b lengths k).book ≡ b) × (event_writes cells b (calls lengths k) ≡ no_writes)
closed-writes cells b lengths k c = go (decided cells b lengths k)
  where
    go : Decided cells b lengths k (call cells b lengths k) → ((call cells b lengths k).book ≡ b) × (event_writes cells b (calls lengths k) ≡ no_writes)
    go (refuses n e) = (
      ap (λ (x : Outcome). x.book) e,
      ap (call_writes b k) e ∙ refused-writes b k n,
    )
    go (accepts l o z e) = clash _ o c
