-- Openings and calls keep what holds of every book (`Sound`): its rows are an allowed log, the tail is not too long, and a closed book is empty.
use Prim.Native.Nat.{ℕ, zero, suc, ◌≤◌, ◌<◌}
use native.Mathlib.Omega.{arith}
use mathlib.Core.Path.{◌≡◌, refl, ap, sym, ◌∙◌, subst}
use mathlib.Core.Bool.{Bool, true, false, cond, not}
use mathlib.Core.List.{List, [], ◌∷◌, ◌++◌, append-nil}
use lib.ListN.{length, length-append}
use lib.IntN.{ℤ}
use lib.Dec.{leb}
use borrow.Author.Tests.{leb-false, not-false}
use Rattle.book.specs.Lists.{times}
use Rattle.book.specs.Limits.{tail_limit}
use Rattle.book.specs.Rows.{Row}
use Rattle.book.specs.Ledger.{empty, ledger}
use Rattle.book.specs.Rules.{allowed_log}
use Rattle.book.specs.Cells.{last_on}
use Rattle.book.specs.Calls.{Call, Typed, Ending, waits, forces, flushes, ending}
use Rattle.book.specs.Power.{Book, Fuse, none, left, rows_of, ledger_of, formatted, land, store_row, force, store_page, append, add, add_all}
use Rattle.book.specs.Book.{closing, ◌else◌, refusal, adds, finish, through, value, Outcome, answer, refused, ended, accepted, decide, call, starting, reopened, reopen, opening}
use Rattle.book.specs.Events.{Event, opens, calls, happens, book_after}
use Rattle.book.specs.Logs.{Sound}
use Rattle.book.proofs.Lists.{clash, and_i}
use Rattle.book.proofs.Logs.{allowed-append, allowed-start, ledger-append}
use Rattle.book.proofs.Invariant.{Inv}
use Rattle.book.proofs.InvariantKept.{inv-log}
use Rattle.book.proofs.TakeBack.{take_back_lem, closing-closes}
use Rattle.book.proofs.Steps.{book_of, Extends, extends-through, extends-open}
use Rattle.book.proofs.Force.{force-empties, reopened-empty}
use Rattle.book.proofs.Adds.{passes, Whole, Fine, fine-adds}

pub sound-formatted : Sound formatted
sound-formatted = record { allowed = refl; tail = omega arith; shut = λ o. (refl, refl); whole = λ o. clash false o refl }

pub sound-inv : (b : Book) → Sound b → Inv (ledger_of b)
sound-inv b s = inv-log (rows_of b) s.allowed

pub stored-allowed : (b : Book) → Sound b → allowed_log b.stored ≡ true
stored-allowed b s = allowed-start b.stored (rows_of b) (b.waiting, refl) s.allowed

-- what the steps leave is sound again, if the rows that they add are fine and the tail is not too long
sound-extends : (b b' : Book) (rs : List Row) → allowed_log (rows_of b) ≡ true → Extends b rs b' → Fine (ledger_of b) rs
    → length b'.waiting ≤ tail_limit → Sound b'
sound-extends b b' rs s p f tail = record {
  allowed = al b'.is_open refl;
  tail = tail;
  shut = p.shut;
  whole = λ o. subst Whole (sym (ap ledger (p.rows o) ∙ ledger-append (rows_of b) rs)) f.whole;
}
  where
    all : allowed_log (rows_of b ++ rs) ≡ true
    all = rw (allowed-append empty (rows_of b) rs) (and_i _ _ s f.good)

    al : (t : Bool) → b'.is_open ≡ t → allowed_log (rows_of b') ≡ true
    al true o = rw (p.rows o) all
    al false o = rw ((p.shut o).0, append-nil b'.stored) (allowed-start b'.stored (rows_of b ++ rs) p.part all)

-- ── The tail is not too long ──────────────────────────────────────────────────────────────────────────────────────────

pub tail-add : (b : Book) (r : Row) → length b.waiting ≤ tail_limit → length (add b r).waiting ≤ tail_limit
unfolding add
tail-add b r h = go (leb tail_limit (length b.waiting)) refl
  where
    step : (c : Book) → length c.waiting < tail_limit → length (append c r).waiting ≤ tail_limit
    step c h = its c.is_open
      where
        its : (t : Bool) → length (cond t (book_of c.stored (c.waiting ++ (r ∷ [])) c.fuse true) c).waiting ≤ tail_limit
        its true = let k = length-append c.waiting (r ∷ []) in omega arith
        its false = omega arith

    go : (t : Bool) → leb tail_limit (length b.waiting) ≡ t → length (append (cond t (force b) b) r).waiting ≤ tail_limit
    go true e = step (force b) (rw (force-empties b) (omega arith))
    go false e = step b (leb-false tail_limit (length b.waiting) e)

pub tail_all : (b : Book) (rs : List Row) → length b.waiting ≤ tail_limit → length (add_all b rs).waiting ≤ tail_limit
tail_all b [] h = h
tail_all b (r ∷ rs) h = tail_all (add b r) rs (tail-add b r h)

tail-land : (f : Fuse) (old st wa : List Row) → length (land f old st wa).waiting ≤ length wa
tail-land none old st wa = omega arith
tail-land (left zero) old st wa = omega arith
tail-land (left (suc n)) old st wa = omega arith

tail-store : (b : Book) → length (store_row b).waiting ≤ length b.waiting
tail-store b = go b.stored b.waiting b.fuse b.is_open
  where
    go : (s w : List Row) (f : Fuse) (o : Bool) → length (store_row (book_of s w f o)).waiting ≤ length w
    go s [] f o = omega arith
    go s (r ∷ w) f o = let k = tail-land f s (s ++ (r ∷ [])) w in omega arith

pub tail-times : (n : ℕ) (b : Book) → length (times n store_row b).waiting ≤ length b.waiting
tail-times zero b = omega arith
tail-times (suc n) b = let k = tail-store b in let m = tail-times n (store_row b) in omega arith

tail-page : (b : Book) → length (store_page b).waiting ≤ length b.waiting
tail-page b = go b.is_open
  where
    go : (t : Bool) → length (cond t (land b.fuse b.stored b.stored b.waiting) b).waiting ≤ length b.waiting
    go true = tail-land b.fuse b.stored b.stored b.waiting
    go false = omega arith

tail-finish : (e : Ending) (b : Book) → length b.waiting ≤ tail_limit → length (finish e b).waiting ≤ tail_limit
tail-finish waits b h = h
tail-finish forces b h = rw (force-empties b) (omega arith)
tail-finish (flushes p) b h =
    let k = tail-times (last_on p b.waiting) b in let q = tail-page (times (last_on p b.waiting) store_row b) in omega arith

-- ── A call ────────────────────────────────────────────────────────────────────────────────────────────────────────────

pub sound-through : (b : Book) (k : Call) → Sound b → b.is_open ≡ true → Typed k → refusal b k ≡ 0 → Sound (through b k)
unfolding through
sound-through b k s o t e =
    sound-extends b (through b k) (adds b k) s.allowed (extends-through b k s.shut) (fine-adds b k (sound-inv b s) (s.whole o) t e)
    (tail-finish (ending k) (add_all b (adds b k)) (tail_all b (adds b k) s.tail))

pub ended-book : (v : ℤ) (b : Book) → (ended v b).book ≡ b
ended-book v b = go b.is_open
  where
    go : (t : Bool) → (cond t (record { answer = answer 0 v; book = b }) (refused 5 b)).book ≡ b
    go true = refl
    go false = refl

-- what the book decides of a call
pub data Decided (cells : ℕ → ℤ) (b : Book) (lengths : Bool) (k : Call) (o : Outcome) : Type 0 where
  -- refused, and the book is as before
  refuses : (n : ℕ) → o ≡ refused (suc n) b → Decided cells b lengths k o
  accepts : lengths ≡ true → b.is_open ≡ true → refusal b k ≡ 0 → o ≡ ended (value cells b k) (through b k) → Decided cells b lengths k o

pub decided : (cells : ℕ → ℤ) (b : Book) (lengths : Bool) (k : Call) → Decided cells b lengths k (call cells b lengths k)
unfolding call accepted
decided cells b lengths k = go ((1, not lengths) else (5, not b.is_open) else refusal b k) refl
  where
    go : (n : ℕ) → (1, not lengths) else (5, not b.is_open) else refusal b k ≡ n → Decided cells b lengths k (decide cells b k n)
    go zero e =
        let p = passes (not lengths) 0 _ e in
        let q = passes (not b.is_open) 4 _ p.1 in accepts (not-false lengths p.0) (not-false b.is_open q.0) q.1 refl
    go (suc n) e = refuses n refl

pub sound-call : (cells : ℕ → ℤ) (b : Book) (lengths : Bool) (k : Call) → Sound b → Typed k → Sound (call cells b lengths k).book
sound-call cells b lengths k s t = go (decided cells b lengths k)
  where
    go : Decided cells b lengths k (call cells b lengths k) → Sound (call cells b lengths k).book
    go (refuses n e) = subst (λ (o : Outcome). Sound o.book) (sym e) s
    go (accepts l o r e) = subst Sound (sym (ap (λ (x : Outcome). x.book) e ∙ ended-book (value cells b k) (through b k))) (sound-through b k s o t r)

-- ── An opening ────────────────────────────────────────────────────────────────────────────────────────────────────────

pub sound-reopened : (f : Fuse) (rs : List Row) → allowed_log rs ≡ true → Sound (reopened f rs)
sound-reopened f rs al =
    let i = inv-log rs al in
    let fine : Fine (ledger rs) (closing (ledger rs)) = record {
      good = (take_back_lem _ (ledger rs) i).good;
      whole = λ v h. clash false (rw (closing-closes (ledger rs) i) at h) refl;
    } in
    sound-extends (starting f rs) (reopened f rs) (closing (ledger rs)) (rw (append-nil rs) al) (extends-open f rs) (rw (append-nil rs) fine)
    (rw (reopened-empty f rs) (omega arith))

pub opening-book : (b : Book) (f : Fuse) → (opening b true f).book ≡ reopened f b.stored
unfolding opening reopen
opening-book b f = ended-book _ (reopened f b.stored)

pub sound-opening : (b : Book) (lengths : Bool) (f : Fuse) → Sound b → Sound (opening b lengths f).book
unfolding opening
sound-opening b true f s = subst Sound (sym (opening-book b f)) (sound-reopened f b.stored (stored-allowed b s))
sound-opening b false f s = s

-- ── Openings and calls in a row ───────────────────────────────────────────────────────────────────────────────────────

-- the call's arguments fit its types
abbrev pub TypedEvent : Event → Type 0
TypedEvent (opens lengths f) = Unit {0}
TypedEvent (calls lengths k) = Typed k

abbrev pub TypedEvents : List Event → Type 0
TypedEvents [] = Unit {0}
TypedEvents (e ∷ es) = TypedEvent e × TypedEvents es

pub sound-event : (cells : ℕ → ℤ) (b : Book) (e : Event) → Sound b → TypedEvent e → Sound (happens cells b e).book
sound-event cells b (opens lengths f) s t = sound-opening b lengths f s
sound-event cells b (calls lengths k) s t = sound-call cells b lengths k s t

pub sound-events : (cells : ℕ → ℤ) (b : Book) (es : List Event) → Sound b → TypedEvents es → Sound (book_after cells b es)
sound-events cells b [] s t = s
sound-events cells b (e ∷ es) s t = sound-events cells (happens cells b e).book es (sound-event cells b e s t.0) t.1
