-- What demand 3 asks of the book alone: stored logs only grow, and a commit that is done is in every later log, with all that its visit held.
use Prim.Native.Nat.{ℕ, suc, ◌-◌, ◌≤◌}
use native.Mathlib.Omega.{arith}
use mathlib.Core.Path.{◌≡◌, refl, ap, sym, ◌∙◌, subst}
use mathlib.Core.Bool.{Bool, true, false}
use mathlib.Core.Logic.{◌≢◌}
use mathlib.Core.List.{List, [], ◌∷◌, ◌++◌, append_assoc, append-nil}
use lib.ListN.{length, length-append}
use lib.Seq.{get_or_at}
use lib.IntN.{ℤ, pos}
use lib.Dec.{eqb}
use borrow.Author.Tests.{eq-eqb}
use Rattle.book.specs.Lists.{In, StartsWith}
use Rattle.book.specs.Rows.{Row}
use Rattle.book.specs.Ledger.{Change, Ledger, after}
use Rattle.book.specs.Rules.{allowed_log}
use Rattle.book.specs.Cells.{is_kept}
use Rattle.book.specs.Calls.{Call, Ending, forces, ending}
use Rattle.book.specs.Power.{Book, Fuse, rows_of, ledger_of, force, add_all}
use Rattle.book.specs.Book.{adds, finish, through, value, Answer, Outcome, call, opening}
use Rattle.book.specs.Pages.{row_at}
use Rattle.book.specs.Events.{Event, opens, calls, happens, book_after}
use Rattle.book.specs.Logs.{Logged, InSum, Sound}
use Rattle.book.proofs.Lists.{or_l, starts-refl, starts-trans}
use Rattle.book.proofs.Logs.{ledger-append}
use Rattle.book.proofs.Fate.{kept-stays}
use Rattle.book.proofs.Steps.{book_of, extends-through, extends-open}
use Rattle.book.proofs.Force.{force-empties, force-part, add-then-force}
use Rattle.book.proofs.Sound.{ended-book, Decided, refuses, accepts, decided, opening-book, TypedEvents, sound-event}
use Rattle.book.proofs.Openings.{ended-open, ended-done}

-- ── Logs only grow ────────────────────────────────────────────────────────────────────────────────────────────────────

pub grows-call : (cells : ℕ → ℤ) (b : Book) (lengths : Bool) (k : Call) → Sound b → StartsWith b.stored (call cells b lengths k).book.stored
grows-call cells b lengths k s = go (decided cells b lengths k)
  where
    go : Decided cells b lengths k (call cells b lengths k) → StartsWith b.stored (call cells b lengths k).book.stored
    go (refuses n e) = subst (λ (o : Outcome). StartsWith b.stored o.book.stored) (sym e) (starts-refl b.stored)
    go (accepts l o r e) =
        subst (λ (c : Book). StartsWith b.stored c.stored) (sym (ap (λ (x : Outcome). x.book) e ∙ ended-book (value cells b k) (through b k)))
        (extends-through b k s.shut).starts

pub grows-open : (b : Book) (lengths : Bool) (f : Fuse) → StartsWith b.stored (opening b lengths f).book.stored
unfolding opening
grows-open b true f = subst (λ (c : Book). StartsWith b.stored c.stored) (sym (opening-book b f)) (extends-open f b.stored).starts
grows-open b false f = starts-refl b.stored

pub grows : (cells : ℕ → ℤ) (b : Book) (e : Event) → Sound b → StartsWith b.stored (happens cells b e).book.stored
grows cells b (opens lengths f) s = grows-open b lengths f
grows cells b (calls lengths k) s = grows-call cells b lengths k s

pub grows-events : (cells : ℕ → ℤ) (b : Book) (es : List Event) → Sound b → TypedEvents es → StartsWith b.stored (book_after cells b es).stored
grows-events cells b [] s t = starts-refl b.stored
grows-events cells b (e ∷ es) s t =
    let b' = (happens cells b e).book in
    starts-trans b.stored b'.stored (book_after cells b' es).stored (grows cells b e s) (grows-events cells b' es (sound-event cells b e s t.0) t.1)

-- ── A call that forces and adds one row ───────────────────────────────────────────────────────────────────────────────

-- accepted and its power holds: all rows and its own are stored
pub forced-stored : (b : Book) (k : Call) (r : Row) → Sound b → ending k ≡ forces → adds b k ≡ r ∷ [] → (through b k).is_open ≡ true
    → (through b k).stored ≡ rows_of b ++ (r ∷ [])
unfolding through
forced-stored b k r s fc one o =
    let none : (through b k).waiting ≡ [] = ap (λ (e : Ending). (finish e (add_all b (adds b k))).waiting) fc ∙ force-empties (add_all b (adds b k)) in
    sym (append-nil _) ∙ sym (ap (λ (l : List Row). (through b k).stored ++ l) none) ∙ (extends-through b k s.shut).rows o ∙
    ap (λ (l : List Row). rows_of b ++ l) one

-- answered done: its row is stored after all others, and its value is the book's
pub record ForcedDone (cells : ℕ → ℤ) (b : Book) (k : Call) (r : Row) (o : Outcome) : Type 0 where
  pub stored : o.book.stored ≡ rows_of b ++ (r ∷ [])
  pub value : o.answer.value ≡ value cells b k

pub forced-done : (cells : ℕ → ℤ) (b : Book) (lengths : Bool) (k : Call) (r : Row) → Sound b → ending k ≡ forces → adds b k ≡ r ∷ []
    → (call cells b lengths k).answer.number ≡ 0 → ForcedDone cells b k r (call cells b lengths k)
forced-done cells b lengths k r s fc one d = go (decided cells b lengths k)
  where
    go : Decided cells b lengths k (call cells b lengths k) → ForcedDone cells b k r (call cells b lengths k)
    go (refuses n e) = let z : suc n ≡ 0 = ap (λ (o : Outcome). o.answer.number) (sym e) ∙ d in absurd (omega arith)
    go (accepts l o z e) =
        let opened = ended-open (value cells b k) (through b k) (ap (λ (x : Outcome). x.answer.number) (sym e) ∙ d) in
        record {
          stored =
              ap (λ (x : Outcome). x.book.stored) e ∙ ap (λ (x : Book). x.stored) (ended-book _ (through b k)) ∙
              forced-stored b k r s fc one opened;
          value = ap (λ (x : Outcome). x.answer.value) e ∙ ap (λ (a : Answer). a.value) (ended-done _ (through b k) opened);
        }

-- all its writes are one force, its own row the last
forced-by : (b : Book) (k : Call) (r : Row) → ending k ≡ forces → adds b k ≡ r ∷ [] → b.is_open ≡ true
    → through b k ≡ force (book_of b.stored (b.waiting ++ (r ∷ [])) b.fuse true)
unfolding through
forced-by b k r fc one o =
    ap (λ (e : Ending). finish e (add_all b (adds b k))) fc ∙ ap (λ (l : List Row). force (add_all b l)) one ∙
    ap (λ (t : Bool). force (add_all (book_of b.stored b.waiting b.fuse t) (r ∷ []))) o ∙ add-then-force (r ∷ []) b.waiting b.stored b.fuse

-- not answered done, whether a check refused it or the power failed: what is stored is a first part of the rows before it, and its own is not
pub forced-not-done : (cells : ℕ → ℤ) (b : Book) (lengths : Bool) (k : Call) (r : Row) → ending k ≡ forces → adds b k ≡ r ∷ []
    → (call cells b lengths k).answer.number ≢ 0 → StartsWith (call cells b lengths k).book.stored (rows_of b)
forced-not-done cells b lengths k r fc one d = go (decided cells b lengths k)
  where
    go : Decided cells b lengths k (call cells b lengths k) → StartsWith (call cells b lengths k).book.stored (rows_of b)
    go (refuses n e) = subst (λ (o : Outcome). StartsWith o.book.stored (rows_of b)) (sym e) (b.waiting, refl)
    go (accepts l o z e) = its (through b k).is_open refl
      where
        forced : through b k ≡ force (book_of b.stored (b.waiting ++ (r ∷ [])) b.fuse true)
        forced = forced-by b k r fc one o

        its : (t : Bool) → (through b k).is_open ≡ t → StartsWith (call cells b lengths k).book.stored (rows_of b)
        its true i = absurd (d (ap (λ (x : Outcome). x.answer.number) e ∙ ap (λ (a : Answer). a.number) (ended-done _ (through b k) i)))
        its false i =
            subst (λ (c : Book). StartsWith c.stored (rows_of b)) (sym (ap (λ (x : Outcome). x.book) e ∙ ended-book (value cells b k) (through b k) ∙ forced))
            (force-part b.stored b.waiting r b.fuse (ap (λ (c : Book). c.is_open) (sym forced) ∙ i))

-- what it leaves in each later log: its row
pub record RowLasts (b : Book) (r : Row) (later : List Row) : Type 0 where
  pub long : suc (length (rows_of b)) ≤ length later
  pub row : row_at later (suc (length (rows_of b))) ≡ r

pub row-lasts : (b : Book) (r : Row) (later : List Row) → StartsWith (rows_of b ++ (r ∷ [])) later → RowLasts b r later
row-lasts b r later p = record {
  long = let n = ap length is ∙ length-append (rows_of b) (r ∷ p.0) in omega arith;
  row =
      ap (λ (l : List Row). row_at l (suc (length (rows_of b)))) is ∙
      get_or_at (rows_of b) r p.0 (Row.begin 0) (suc (length (rows_of b)) - 1) (omega arith);
}
  where
    is : later ≡ rows_of b ++ (r ∷ p.0)
    is = p.1 ∙ append_assoc (rows_of b) (r ∷ []) p.0

-- ── A commit ──────────────────────────────────────────────────────────────────────────────────────────────────────────

-- 01: a commit answered done: its row is stored after all others, and its value is that row's number
pub record CommitDone (b : Book) (v : ℕ) (o : Outcome) : Type 0 where
  pub stored : o.book.stored ≡ rows_of b ++ (Row.commit v ∷ [])
  pub value : o.answer.value ≡ pos (suc (length (rows_of b)))

pub commit-done : (cells : ℕ → ℤ) (b : Book) (lengths : Bool) (v : ℕ) → Sound b → (call cells b lengths (Call.commit v)).answer.number ≡ 0
    → CommitDone b v (call cells b lengths (Call.commit v))
unfolding adds value
commit-done cells b lengths v s d =
    let k = forced-done cells b lengths (Call.commit v) (Row.commit v) s refl refl d in
    record { stored = k.stored; value = k.value ∙ ap pos (omega arith) }

-- 01: what a commit leaves in each later log: its row, and in the sum each change that its visit then held
pub record CommitLasts (b : Book) (v : ℕ) (later : List Row) : Type 0 where
  pub long : suc (length (rows_of b)) ≤ length later
  pub row : row_at later (suc (length (rows_of b))) ≡ Row.commit v
  pub sum : (x : Change) → Logged (rows_of b) x → x.holder ≡ v → InSum later x

commit-kept : (l : Ledger) (v : ℕ) (x : Change) → In x l.changes → x.holder ≡ v
    → In x (after l (Row.commit v)).changes × (is_kept (after l (Row.commit v)) x ≡ true)
unfolding after
commit-kept l v x m e = (m, or_l (eqb x.holder v) _ (eq-eqb x.holder v e))

pub commit-lasts : (b : Book) (v : ℕ) (later : List Row) → StartsWith (rows_of b ++ (Row.commit v ∷ [])) later → allowed_log later ≡ true
    → CommitLasts b v later
commit-lasts b v later p al = let k = row-lasts b (Row.commit v) later p in record { long = k.long; row = k.row; sum = sum }
  where
    sum : (x : Change) → Logged (rows_of b) x → x.holder ≡ v → InSum later x
    sum x m h = kept-stays (rows_of b ++ (Row.commit v ∷ [])) later x p al
        (subst (λ (l : Ledger). In x l.changes × (is_kept l x ≡ true)) (sym (ledger-append (rows_of b) (Row.commit v ∷ []))) (commit-kept (ledger_of b) v x m h))
