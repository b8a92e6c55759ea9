-- Calls that the book takes by what its rows come to, and two of them over and over: what the rows then come to, by induction and not by computing them.
use Prim.Native.Nat.{ℕ, zero, suc, ◌+◌, ◌≤◌, ◌<◌}
use native.Mathlib.Omega.{arith}
use native.Mathlib.Nat.{zero-add, add-suc, suc-add}
use mathlib.Core.Path.{◌≡◌, refl, ap, sym, ◌∙◌, subst}
use mathlib.Core.Bool.{Bool, true, false}
use mathlib.Core.List.{List, [], ◌∷◌, ◌++◌, map, append_assoc, append-nil}
use lib.ListN.{length}
use lib.Dec.{leb}
use Rattle.book.specs.Lists.{tabulate, join}
use Rattle.book.specs.Limits.{tail_limit}
use Rattle.book.specs.Rows.{Row}
use Rattle.book.specs.Ledger.{Ledger, after, ledger}
use Rattle.book.specs.Calls.{Call, Typed, Ending, waits, forces, flushes, ending}
use Rattle.book.specs.Power.{Book, none, add}
use Rattle.book.specs.Book.{refusal, adds, finish, through, value, accepted, call}
use Rattle.book.specs.Events.{calls, book_after}
use Rattle.book.specs.Logs.{Sound}
use Rattle.book.specs.Cells.{zeros}
use Rattle.book.proofs.Logs.{ledger-append}
use Rattle.book.proofs.Steps.{book_of}
use Rattle.book.proofs.Force.{force-lands}
use Rattle.book.proofs.Sound.{sound-call, ended-book}

-- ── One call ──────────────────────────────────────────────────────────────────────────────────────────────────────────

-- an open book with no fuse
abbrev unfused : List Row → List Row → Book
unfused s w = book_of s w none true

-- a sound one whose rows come to this ledger
pub record At (l : Ledger) (b : Book) : Type 0 where
  pub sound : Sound b
  pub stored : List Row
  pub waiting : List Row
  pub is : b ≡ book_of stored waiting none true
  pub comes : ledger (stored ++ waiting) ≡ l

-- the same, sound or not
record Comes (l : Ledger) (b : Book) : Type 0 where
  stored : List Row
  waiting : List Row
  is : b ≡ unfused stored waiting
  comes : ledger (stored ++ waiting) ≡ l

-- a call that adds a row stores no page
abbrev pub NoPage : Ending → Type 0
NoPage waits = Unit {0}
NoPage forces = Unit {0}
NoPage (flushes p) = ⊥

module _ (s w : List Row) (l : Ledger) (e : ledger (s ++ w) ≡ l) where
  -- a row more
  added : (r : Row) → Comes (after l r) (add (unfused s w) r)
  unfolding add
  added r = go (leb tail_limit (length w)) refl
    where
      more : ledger (s ++ w ++ (r ∷ [])) ≡ after l r
      more = ledger-append (s ++ w) (r ∷ []) ∙ ap (λ (x : Ledger). after x r) e

      go : (t : Bool) → leb tail_limit (length w) ≡ t → Comes (after l r) (add (unfused s w) r)
      go true q = record { stored = s ++ w; waiting = r ∷ []; is = rw (q, force-lands s w none tt); comes = more }
      go false q = record { stored = s; waiting = w ++ (r ∷ []); is = rw q; comes = ap ledger (sym (append_assoc s w (r ∷ []))) ∙ more }

  -- and a force or none
  finished : (end : Ending) → NoPage end → Comes l (finish end (unfused s w))
  finished waits p = record { stored = s; waiting = w; is = refl; comes = e }
  finished forces p = record { stored = s ++ w; waiting = []; is = force-lands s w none tt; comes = ap ledger (append-nil (s ++ w)) ∙ e }
  finished (flushes q) p = absurd p

module _ (s w : List Row) (l : Ledger) (e : ledger (s ++ w) ≡ l) where
  taken : (k : Call) (r : Row) → Typed k → Sound (unfused s w) → NoPage (ending k) → refusal (unfused s w) k ≡ 0 → adds (unfused s w) k ≡ r ∷ []
      → At (after l r) (call zeros (unfused s w) true k).book
  taken k r t so end ok rows = record {
    sound = sound-call zeros (unfused s w) true k so t;
    stored = f.stored;
    waiting = f.waiting;
    is = is ∙ ap (finish (ending k)) a.is ∙ f.is;
    comes = f.comes;
  }
    where
      is : (call zeros (unfused s w) true k).book ≡ finish (ending k) (add (unfused s w) r)
      is = unfold call accepted through in (rw ok (ended-book (value zeros (unfused s w) k) (through (unfused s w) k) ∙ rw rows))

      a : Comes (after l r) (add (unfused s w) r)
      a = added s w l e r

      f : Comes (after l r) (finish (ending k) (unfused a.stored a.waiting))
      f = finished a.stored a.waiting (after l r) a.comes (ending k) end

-- a book whose rows come to `l` takes the call, which adds one row and stores no page, and they come to `m`
pub record Takes (l : Ledger) (k : Call) (m : Ledger) : Type 0 where
  pub row : Row
  pub typed : Typed k
  pub end : NoPage (ending k)
  pub ok : (s w : List Row) → ledger (s ++ w) ≡ l → refusal (book_of s w none true) k ≡ 0
  pub rows : (s w : List Row) → ledger (s ++ w) ≡ l → adds (book_of s w none true) k ≡ row ∷ []
  pub comes : after l row ≡ m

next : (l m : Ledger) (k : Call) (b : Book) → Takes l k m → At l b → At m (call zeros b true k).book
next l m k b t a =
    let s = a.stored in
    let w = a.waiting in
    subst (λ (x : Book). At m (call zeros x true k).book) (sym a.is) (subst (λ (x : Ledger). At x (call zeros (unfused s w) true k).book) t.comes
    (taken s w l a.comes k t.row t.typed (subst Sound a.is a.sound) t.end (t.ok s w a.comes) (t.rows s w a.comes)))

-- ── Two calls over and over ───────────────────────────────────────────────────────────────────────────────────────────

module _ (first second : ℕ → Call) where
  -- n times, from the number i on
  abbrev pub rounds : ℕ → ℕ → List Call
  rounds n i = join (tabulate n i (λ j. first j ∷ second j ∷ []))

  module _ (at between : ℕ → Ledger) (limit : ℕ) (takes_first : (i : ℕ) → i < limit → Takes (at i) (first i) (between i))
      (takes-second : (i : ℕ) → i < limit → Takes (between i) (second i) (at (suc i))) where
    one-round : (i : ℕ) (b : Book) → i < limit → At (at i) b → At (at (suc i)) (call zeros (call zeros b true (first i)).book true (second i)).book
    one-round i b h a =
        next (between i) (at (suc i)) (second i) (call zeros b true (first i)).book (takes-second i h) (next (at i) (between i) (first i) b (takes_first i h) a)

    pub all-rounds : (n i : ℕ) (b : Book) → n + i ≤ limit → At (at i) b → At (at (n + i)) (book_after zeros b (map (calls true) (rounds n i)))
    all-rounds zero i b h a = rw (zero-add i) a
    all-rounds (suc n) i b h a = rw (suc-add n i) (rw (← add-suc n i) (all-rounds n (suc i) _ (omega arith) (one-round i b (omega arith) a)))
