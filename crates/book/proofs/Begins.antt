-- 02, L4: a begin that is done has stored what waited and its row, which is in every later log, and a later begin has a higher number.
use Prim.Native.Nat.{ℕ, suc, ◌≤◌, ◌<◌}
use native.Mathlib.Omega.{arith}
use mathlib.Core.Path.{◌≡◌, refl, ap, sym, ◌∙◌, subst}
use mathlib.Core.Bool.{Bool}
use mathlib.Core.Logic.{◌≢◌}
use mathlib.Core.List.{List, [], ◌∷◌, ◌++◌}
use lib.ListN.{length, length-append}
use lib.IntN.{ℤ, pos}
use Rattle.book.specs.Lists.{StartsWith, foldl}
use Rattle.book.specs.Rows.{Row, begin, change, hand_over, undo, commit, abort, hand_over_all}
use Rattle.book.specs.Ledger.{Ledger, begun_after, after, ledger}
use Rattle.book.specs.Calls.{Call}
use Rattle.book.specs.Power.{Book, rows_of, ledger_of}
use Rattle.book.specs.Book.{adds, value, Outcome, call}
use Rattle.book.specs.Writes.{call_writes}
use Rattle.book.specs.Events.{Event, book_after}
use Rattle.book.specs.Logs.{Sound}
use Rattle.book.proofs.Lists.{starts-trans}
use Rattle.book.proofs.Logs.{ledger-append}
use Rattle.book.proofs.Sound.{TypedEvents, sound-call}
use Rattle.book.proofs.Claims.{grows-events, forced-done, forced-not-done}

-- the visit that the next begin starts
abbrev pub next_visit : Book → ℕ
next_visit b = suc (ledger_of b).begun

-- ── A begin that is done ──────────────────────────────────────────────────────────────────────────────────────────────

-- its row is stored after all others, and its value is the visit
pub record BeginDone (b : Book) (o : Outcome) : Type 0 where
  pub stored : o.book.stored ≡ rows_of b ++ (Row.begin (next_visit b) ∷ [])
  pub value : o.answer.value ≡ pos (next_visit b)

pub begin-done : (cells : ℕ → ℤ) (b : Book) (lengths : Bool) → Sound b → (call cells b lengths Call.begin).answer.number ≡ 0
    → BeginDone b (call cells b lengths Call.begin)
unfolding adds value
begin-done cells b lengths s d =
    let k = forced-done cells b lengths Call.begin (Row.begin (next_visit b)) s refl refl d in
    record { stored = k.stored; value = k.value }

-- it counts the rows that waited and its own: 65 where the tail is full
pub begin-writes : (cells : ℕ → ℤ) (b : Book) (lengths : Bool) → Sound b → (call cells b lengths Call.begin).answer.number ≡ 0
    → call_writes b Call.begin (call cells b lengths Call.begin) ≡ record { rows = suc (length b.waiting); pages = 0 }
begin-writes cells b lengths s d =
    let all = ap length (begin-done cells b lengths s d).stored ∙ length-append (rows_of b) (Row.begin (next_visit b) ∷ []) in
    let both = length-append b.stored b.waiting in
    ap (λ (n : ℕ). record { rows = n; pages = 0 }) (omega arith)

-- Refused or cut by power it has not stored its row, the last of its writes: what is stored is a first part of the rows before it.
pub begin-not-done : (cells : ℕ → ℤ) (b : Book) (lengths : Bool) → (call cells b lengths Call.begin).answer.number ≢ 0
    → StartsWith (call cells b lengths Call.begin).book.stored (rows_of b)
unfolding adds
begin-not-done cells b lengths d = forced-not-done cells b lengths Call.begin (Row.begin (next_visit b)) refl refl d

-- whatever happens later, the stored log starts with these rows
pub begin-starts : (cells : ℕ → ℤ) (b : Book) (lengths : Bool) → Sound b → (call cells b lengths Call.begin).answer.number ≡ 0
    → (es : List Event) → TypedEvents es
    → StartsWith (rows_of b ++ (Row.begin (next_visit b) ∷ [])) (book_after cells (call cells b lengths Call.begin).book es).stored
begin-starts cells b lengths s d es t =
    let after = (call cells b lengths Call.begin).book in
    subst (λ (l : List Row). StartsWith l (book_after cells after es).stored) (begin-done cells b lengths s d).stored
    (grows-events cells after es (sound-call cells b lengths Call.begin s tt) t)

-- ── The visits begun only grow ────────────────────────────────────────────────────────────────────────────────────────

begun-row : (n : ℕ) (r : Row) → n ≤ begun_after n r
begun-row n (begin v) = omega arith
begun-row n (change v c a) = omega arith
begun-row n (hand_over g r c) = omega arith
begun-row n (undo h c k a) = omega arith
begun-row n (commit v) = omega arith
begun-row n (abort v) = omega arith
begun-row n (hand_over_all g r) = omega arith

begun-rows : (l : Ledger) (rs : List Row) → l.begun ≤ (foldl after l rs).begun
unfolding after
begun-rows l [] = omega arith
begun-rows l (r ∷ rs) = let k = begun-row l.begun r in let m = begun-rows (after l r) rs in omega arith

pub begun-grows : (rs later : List Row) → StartsWith rs later → (ledger rs).begun ≤ (ledger later).begun
begun-grows rs later p =
    subst (λ (l : Ledger). (ledger rs).begun ≤ l.begun) (sym (ap ledger p.1 ∙ ledger-append rs p.0)) (begun-rows (ledger rs) p.0)

begun-next : (rs : List Row) (v : ℕ) → (ledger (rs ++ (Row.begin v ∷ []))).begun ≡ suc (ledger rs).begun
unfolding after
begun-next rs v = ap (λ (l : Ledger). l.begun) (ledger-append rs (Row.begin v ∷ []))

-- ── No number is given twice ──────────────────────────────────────────────────────────────────────────────────────────

-- A begin done, then any openings and calls: the next begin starts a visit with a higher number.
pub numbers-rise : (cells : ℕ → ℤ) (b : Book) (lengths : Bool) → Sound b → (call cells b lengths Call.begin).answer.number ≡ 0
    → (es : List Event) → TypedEvents es → next_visit b < next_visit (book_after cells (call cells b lengths Call.begin).book es)
numbers-rise cells b lengths s d es t =
    let later = book_after cells (call cells b lengths Call.begin).book es in
    let rows = rows_of b ++ (Row.begin (next_visit b) ∷ []) in
    let p = starts-trans rows later.stored (rows_of later) (begin-starts cells b lengths s d es t) (later.waiting, refl) in
    let m = begun-grows rows (rows_of later) p in
    let n = begun-next (rows_of b) (next_visit b) in
    omega arith
