-- One visit that changes one cell over and over: what its rows come to, by induction over their number, and how far the log has room for it.
use Prim.Native.Nat.{ℕ, zero, suc, ◌+◌, ◌-◌, ◌≤◌}
use native.Mathlib.Omega.{arith}
use native.Mathlib.Nat.{zero-add, add-zero, add-suc, suc-add}
use mathlib.Core.Path.{◌≡◌, refl, ap, sym}
use mathlib.Core.Bool.{Bool, true, false}
use mathlib.Core.List.{List, [], ◌∷◌, ◌++◌, map, append_assoc}
use lib.ListN.{length, replicate}
use lib.IntN.{pos}
use lib.Dec.{leb}
use borrow.Author.Tests.{le-leb, lt-leb}
use Rattle.book.specs.Lists.{keep}
use Rattle.book.specs.Limits.{row_limit, tail_limit}
use Rattle.book.specs.Rows.{Row}
use Rattle.book.specs.Ledger.{Change, Ledger, continues, scope_from, after, ledger}
use Rattle.book.specs.Rules.{is_open_change, open_changes, reserve, room, scopes_in_use, scope_fits}
use Rattle.book.specs.Calls.{Call}
use Rattle.book.specs.Power.{Book, none, formatted, force, add}
use Rattle.book.specs.Book.{take_back, refusal, adds, through, value, accepted, call, reopened, reopen, opening, done, refused_by}
use Rattle.book.specs.Events.{opens, calls, book_after}
use Rattle.book.specs.Cases.{changes_of}
use Rattle.book.specs.Cells.{zeros}
use Rattle.book.proofs.Logs.{ledger-append}
use Rattle.book.proofs.InvariantKept.{rows-length}
use Rattle.book.proofs.Steps.{book_of}
use Rattle.book.proofs.Force.{force-lands}

-- ── The ledger ────────────────────────────────────────────────────────────────────────────────────────────────────────

-- the row of one change, and its call
abbrev pub one_row : Row
one_row = Row.change 1 0 (pos 1)

abbrev pub one_call : Call
one_call = Call.change 1 0 (pos 1)

-- the changes of i such rows after a begin
abbrev pub made : ℕ → List Change
made zero = []
made (suc i) =
    record {
      row = suc (suc i);
      maker = 1;
      cell = 0;
      amount = pos 1;
      holder = 1;
      handed = false;
      scope = scope_from (suc (suc i)) (keep (continues 1 0) (made i));
    } ∷ made i

-- what a begin and i such rows come to
abbrev pub come : ℕ → Ledger
come i = record { rows = suc i; begun = 1; active = 1 ∷ []; committed = []; undoing = []; undone = []; changes = made i }

pub come-after : (i : ℕ) → after (come i) one_row ≡ come (suc i)
unfolding after
come-after i = refl

all-open : (j i : ℕ) → length (keep (is_open_change (come j)) (made i)) ≡ i
all-open j zero = refl
all-open j (suc i) = ap suc (all-open j i)

-- all of them are open
pub come-open : (i : ℕ) → length (open_changes (come i)) ≡ i
come-open i = all-open i i

-- ── The limits ────────────────────────────────────────────────────────────────────────────────────────────────────────

pub scope-fits : (i : ℕ) → scope_fits (come i) 1 0 ≡ true
unfolding scopes_in_use
scope-fits zero = refl
scope-fits (suc i) = refl

pub has_room : (i : ℕ) → i ≤ 2046 → room (come i) 2 ≡ true
unfolding reserve
has_room i h = le-leb (1 + length (open_changes (come i)) + 2) (row_limit - suc i) (rw (come-open i) (omega arith))

pub no_room : (i : ℕ) → 2047 ≤ i → room (come i) 2 ≡ false
unfolding reserve
no_room i h = lt-leb (1 + length (open_changes (come i)) + 2) (row_limit - suc i) (rw (come-open i) (omega arith))

-- ── The book ──────────────────────────────────────────────────────────────────────────────────────────────────────────

-- an open book with no fuse
abbrev unfused : List Row → List Row → Book
unfused s w = book_of s w none true

-- an open book with no fuse whose rows come to `come i`
pub record Filled (b : Book) (i : ℕ) : Type 0 where
  pub stored : List Row
  pub waiting : List Row
  pub is : b ≡ unfused stored waiting
  pub comes : ledger (stored ++ waiting) ≡ come i

-- a row added to an open book with no fuse stands after the others
record Added (b : Book) (rs : List Row) : Type 0 where
  stored : List Row
  waiting : List Row
  is : b ≡ unfused stored waiting
  rows : stored ++ waiting ≡ rs

add-unfused : (s w : List Row) (r : Row) → Added (add (unfused s w) r) (s ++ w ++ (r ∷ []))
unfolding add
add-unfused s w r = go (leb tail_limit (length w)) refl
  where
    go : (t : Bool) → leb tail_limit (length w) ≡ t → Added (add (unfused s w) r) (s ++ w ++ (r ∷ []))
    go true e = record { stored = s ++ w; waiting = r ∷ []; is = rw (e, force-lands s w none tt) refl; rows = refl }
    go false e = record { stored = s; waiting = w ++ (r ∷ []); is = rw e refl; rows = sym (append_assoc s w (r ∷ [])) }

module _ (s w : List Row) (i : ℕ) (e : ledger (s ++ w) ≡ come i) where
  number : length (s ++ w) + 1 ≡ suc (suc i)
  number = let n = rows-length (s ++ w) in let k = ap (λ (l : Ledger). l.rows) e in omega arith

  accepts : i ≤ 2046 → call zeros (unfused s w) true one_call ≡ record { answer = done (pos (suc (suc i))); book = add (unfused s w) one_row }
  unfolding call refusal accepted through adds value
  accepts h = rw (e, scope-fits i, has_room i h) (rw (ap (λ (b : Book). b.is_open) (add-unfused s w one_row).is, number))

  refuses : 2047 ≤ i → (call zeros (unfused s w) true one_call).answer ≡ refused_by 8
  unfolding call refusal
  refuses h = rw (e, scope-fits i, no_room i h)

one_more_lem : (b : Book) (i : ℕ) → Filled b i → i ≤ 2046 → Filled (call zeros b true one_call).book (suc i)
one_more_lem b i a h = let g = add-unfused a.stored a.waiting one_row in record {
  stored = g.stored;
  waiting = g.waiting;
  is = rw (a.is, accepts a.stored a.waiting i a.comes h) g.is;
  comes = rw (g.rows, ledger-append (a.stored ++ a.waiting) (one_row ∷ []), a.comes) (come-after i);
}

many_more : (n i : ℕ) (b : Book) → Filled b i → n + i ≤ 2047 → Filled (book_after zeros b (map (calls true) (replicate n one_call))) (n + i)
many_more zero i b a h = rw (zero-add i) a
many_more (suc n) i b a h = rw (suc-add n i) (rw (← add-suc n i) (many_more n (suc i) _ (one_more_lem b i a (omega arith)) (omega arith)))

begun : Filled (book_after zeros formatted (opens true none ∷ calls true Call.begin ∷ [])) 0
unfolding after reserve scopes_in_use force add take_back refusal adds through value accepted call reopened reopen opening
begun = record { stored = Row.begin 1 ∷ []; waiting = []; is = refl; comes = refl }

-- the book after a begin and n changes
pub filled : (n : ℕ) → n ≤ 2047 → Filled (book_after zeros formatted (changes_of n)) n
filled n h = rw add-zero at (many_more n 0 _ begun (omega arith))

-- it takes one more up to the 2,047th, and refuses those after it by 8
pub takes-one-more : (b : Book) (i : ℕ) → Filled b i → i ≤ 2046 → (call zeros b true one_call).answer ≡ done (pos (suc (suc i)))
takes-one-more b i a h = rw (a.is, accepts a.stored a.waiting i a.comes h)

pub takes-no-more : (b : Book) (i : ℕ) → Filled b i → 2047 ≤ i → (call zeros b true one_call).answer ≡ refused_by 8
takes-no-more b i a h = rw a.is (refuses a.stored a.waiting i a.comes h)
