-- 02, L7: "Since each begin takes one of 4,096 rows, refusal 6 never occurs any more in 01's sessions": a sound book has begun fewer visits than the limit,
-- so that none of its answers is 6.
use Prim.Native.Nat.{ℕ, zero, suc}
use native.Mathlib.Omega.{arith}
use mathlib.Core.Path.{◌≡◌, refl}
use mathlib.Core.Bool.{Bool, true, false, cond, not}
use mathlib.Core.Logic.{◌≢◌}
use lib.ListN.{length}
use lib.IntN.{ℤ}
use lib.Dec.{leb, ltb, eqb}
use borrow.Author.Tests.{eq-eqb, leb-true}
use Rattle.book.specs.Limits.{visit_limit, active_limit, page_limit}
use Rattle.book.specs.Rows.{is_cell}
use Rattle.book.specs.Ledger.{only, every}
use Rattle.book.specs.Rules.{is_active, room, scope_fits, holds_any}
use Rattle.book.specs.Calls.{Call}
use Rattle.book.specs.Power.{Book, ledger_of, rows_of}
use Rattle.book.specs.Book.{◌else◌, refusal, refused, ended, accepted, decide, call, reopened, reopen, opening, value, through}
use Rattle.book.specs.Events.{Event, opens, calls, happens}
use Rattle.book.specs.Logs.{Sound}
use Rattle.book.proofs.Lists.{clash, is_false}
use Rattle.book.proofs.InvariantKept.{inv-log, few-rows, rows-length}

-- the visits begun stay below the limit
pub visits-left : (b : Book) → Sound b → leb visit_limit (ledger_of b).begun ≡ false
visits-left b s =
    let few = (inv-log (rows_of b) s.allowed).few in
    let rows = few-rows (rows_of b) s.allowed in
    let same = rows-length (rows_of b) in
    is_false _ (λ h. let le = leb-true visit_limit (ledger_of b).begun h in omega arith)

-- ── No answer is 6 ────────────────────────────────────────────────────────────────────────────────────────────────────

-- a check with another number, and checks after it that do not give 6
other : (n : ℕ) (t : Bool) (later : ℕ) → eqb n 6 ≡ false → later ≢ 6 → ((n, t) else later) ≢ 6
other n true later a b e = clash (eqb n 6) (eq-eqb n 6 e) a
other n false later a b e = b e

none : ◌≢◌ {A = ℕ} 0 6
none e = omega arith

-- by 01's checks of the call
pub refusal-not-six : (b : Book) (k : Call) → Sound b → refusal b k ≢ 6
unfolding refusal
refusal-not-six b Call.begin s =
    let l = ledger_of b in rw (visits-left b s) (other 7 (leb active_limit (length l.active)) _ refl (other 8 (not (room l 2)) _ refl none))
refusal-not-six b (Call.change v c a) s =
    let l = ledger_of b in
    other 9 (not (is_active l v)) _ refl (other 10 (not (is_cell c)) _ refl
    (other 11 (not (scope_fits l v c)) _ refl (other 8 (not (room l 2)) _ refl none)))
refusal-not-six b (Call.hand_over g r c) s =
    let l = ledger_of b in
    other 9 (not (is_active l g)) _ refl (other 9 (not (is_active l r)) _ refl (other 12 (eqb g r) _ refl (other 10 (not (is_cell c)) _ refl
    (other 13 (not (holds_any l g (only c))) _ refl (other 8 (not (room l 1)) _ refl none)))))
refusal-not-six b (Call.commit v) s = other 9 (not (is_active (ledger_of b) v)) _ refl none
refusal-not-six b (Call.abort v) s = other 9 (not (is_active (ledger_of b) v)) _ refl none
refusal-not-six b Call.force s = none
refusal-not-six b (Call.flush p) s = other 14 (not (ltb p page_limit)) _ refl none
refusal-not-six b (Call.read c) s = other 10 (not (is_cell c)) _ refl none
refusal-not-six b (Call.hand_over_all g r) s =
    let l = ledger_of b in
    other 9 (not (is_active l g)) _ refl (other 9 (not (is_active l r)) _ refl (other 12 (eqb g r) _ refl
    (other 13 (not (holds_any l g every)) _ refl (other 8 (not (room l 1)) _ refl none))))

-- an accepted call answers 0 or 5
ended-not-six : (v : ℤ) (b : Book) → (ended v b).answer.number ≢ 6
ended-not-six v b = go b.is_open
  where
    go : (t : Bool) → (cond t (record { answer = record { number = 0; value = v }; book = b }) (refused 5 b)).answer.number ≢ 6
    go true e = omega arith
    go false e = omega arith

decide-not-six : (cells : ℕ → ℤ) (b : Book) (k : Call) (n : ℕ) → n ≢ 6 → (decide cells b k n).answer.number ≢ 6
unfolding accepted
decide-not-six cells b k zero h = ended-not-six (value cells b k) (through b k)
decide-not-six cells b k (suc n) h = h

pub call-not-six : (cells : ℕ → ℤ) (b : Book) (lengths : Bool) (k : Call) → Sound b → (call cells b lengths k).answer.number ≢ 6
unfolding call
call-not-six cells b lengths k s =
    decide-not-six cells b k _ (other 1 (not lengths) _ refl (other 5 (not b.is_open) _ refl (refusal-not-six b k s)))

-- 02, L7: "refusal 6 never occurs any more": no opening and no call of a sound book answers it
pub never-six : (cells : ℕ → ℤ) (b : Book) (e : Event) → Sound b → (happens cells b e).answer.number ≢ 6
unfolding opening reopen
never-six cells b (opens true f) s = ended-not-six _ (reopened f b.stored)
never-six cells b (opens false f) s = λ e. omega arith
never-six cells b (calls lengths k) s = call-not-six cells b lengths k s
