-- Two books side by side between calls (`Alongside`): they match, and while they are open the calls find the same in both. Every call and every opening answers and
-- counts the same for both, and leaves two such books.
use Prim.Native.Nat.{ℕ, zero, suc}
use mathlib.Core.Bool.{Bool, true, false, cond, not}
use mathlib.Core.Path.{◌≡◌, refl, ap, ap₂, sym, ◌∙◌, subst}
use mathlib.Core.Logic.{inr}
use mathlib.Core.List.{List, [], ◌∷◌, ◌++◌, map, append-nil}
use lib.IntN.{ℤ, pos}
use Rattle.book.specs.Lists.{In, foldl}
use Rattle.book.specs.Rows.{Row}
use Rattle.book.specs.Ledger.{Change, Ledger, only, every, after, ledger}
use Rattle.book.specs.Rules.{is_active, open_changes, just, allowed_log}
use Rattle.book.specs.Calls.{Call, Typed, ending, Return, the_visit, the_row, the_cell, zero_value, returns}
use Rattle.book.specs.Power.{Book, Fuse, rows_of, ledger_of, force}
use Rattle.book.specs.Book.{undo_of, take_back, everyone, closing, ◌else◌, refusal, adds, through, value_of, value, answer, Outcome, refused, ended, accepted, decide, call, starting, reopened, reopen, opening}
use Rattle.book.specs.Events.{Event, opens, calls, happens, answers, book_after}
use Rattle.book.specs.SessionWrites.{event_writes, writes}
use Rattle.book.specs.Logs.{Sound}
use Rattle.book.proofs.Lists.{clash, keep_all}
use Rattle.book.proofs.Logs.{ledger-append}
use Rattle.book.proofs.InvariantKept.{inv-log}
use Rattle.book.proofs.TakeBack.{take_back_lem, closed-allowed, closed_none}
use Rattle.book.proofs.Scoped.{scoped-log}
use Rattle.book.proofs.Steps.{extends-through}
use Rattle.book.proofs.Adds.{fine-adds}
use Rattle.book.proofs.Sound.{sound-inv, stored-allowed, TypedEvent, TypedEvents, sound-event}
use Rattle.book.proofs.Openings.{reopened-stored}
use Rattle.book.proofs.Force.{reopened-empty}
use Rattle.book.proofs.Pairs.{pairs-imp}
use Rattle.book.proofs.SameOpen.{OpenAlike, SameOpen, open-pairs, SameRows, end, last-open, rows_join, taken-back-alike}
use Rattle.book.proofs.SameInUse.{HolderOver, SameOrOver, SameInUse, same-take-back, same-room, same-scope-fits, same-held, same_rows}
use Rattle.book.proofs.MatchingBooks.{same_length, Matching, matching-length, matching-stored, matching-cells, matching-open, matching-force, matching-finish, matching-adds}

pub record Alongside (b b' : Book) : Type 0 where
  pub matching : Matching b b'
  pub in_use : b.is_open ≡ true → SameInUse (ledger_of b) (ledger_of b')

-- ── A call ────────────────────────────────────────────────────────────────────────────────────────────────────────────

-- a check that the visit is active, and later ones that ask for it
where-active : (t : Bool) (n : ℕ) {m m' : ℕ} → (t ≡ true → m' ≡ m) → cond (not t) n m' ≡ cond (not t) n m
where-active true n f = f refl
where-active false n f = refl

module _ (b b' : Book) (s : SameInUse (ledger_of b) (ledger_of b')) where
  abbrev l : Ledger
  l = ledger_of b

  abbrev l' : Ledger
  l' = ledger_of b'

  -- the number that refuses it
  same-refusal : (k : Call) → refusal b' k ≡ refusal b k
  unfolding refusal
  same-refusal Call.begin = rw (s.begun, s.active, same-room l l' s 2)
  same-refusal (Call.change v c a) = rw s.active (where-active (is_active l v) 9 (λ e. rw (same-scope-fits l l' s v c e, same-room l l' s 2)))
  same-refusal (Call.hand_over g r c) = rw s.active (where-active (is_active l g) 9 (λ e. rw (same-held l l' s g (only c) e, same-room l l' s 1)))
  same-refusal (Call.commit v) = rw s.active
  same-refusal (Call.abort v) = rw s.active
  same-refusal Call.force = refl
  same-refusal (Call.flush p) = refl
  same-refusal (Call.read c) = refl
  same-refusal (Call.hand_over_all g r) = rw s.active (where-active (is_active l g) 9 (λ e. rw (same-held l l' s g every e, same-room l l' s 1)))

  -- the rows that it adds
  same-adds : (k : Call) → adds b' k ≡ adds b k
  unfolding adds
  same-adds Call.begin = rw s.begun
  same-adds (Call.change v c a) = refl
  same-adds (Call.hand_over g r c) = refl
  same-adds (Call.commit v) = refl
  same-adds (Call.abort v) = same-take-back l l' s (just v)
  same-adds Call.force = refl
  same-adds (Call.flush p) = refl
  same-adds (Call.read c) = refl
  same-adds (Call.hand_over_all g r) = refl

  -- what it returns
  same-value : (cells : ℕ → ℤ) (k : Call) → Matching b b' → value cells b' k ≡ value cells b k
  unfolding value
  same-value cells k t = go (returns k)
    where
      go : (x : Return) → value_of cells b' k x ≡ value_of cells b k x
      go the_visit = rw s.begun
      go the_row = rw (matching-length b b' t, same-adds k)
      go (the_cell c) = matching-cells cells b b' t c
      go zero_value = refl

-- what two outcomes have in common
pub record Same (o o' : Outcome) : Type 0 where
  pub answer : o'.answer ≡ o.answer
  pub book : Alongside o.book o'.book

-- both end by the power
same_ended : (v v' : ℤ) (b b' : Book) → v' ≡ v → Alongside b b' → Same (ended v b) (ended v' b')
same_ended v v' b b' e a =
    subst (λ (o : Bool). Same (ended v b) (cond o (record { answer = answer 0 v'; book = b' }) (refused 5 b'))) (sym a.matching.is_open) (go b.is_open)
  where
    go : (o : Bool)
        → Same (cond o (record { answer = answer 0 v; book = b }) (refused 5 b)) (cond o (record { answer = answer 0 v'; book = b' }) (refused 5 b'))
    go true = record { answer = ap (answer 0) e; book = a }
    go false = record { answer = refl; book = a }

module _ (b b' : Book) (s : Sound b) (s' : Sound b') (a : Alongside b b') where
  same-through : (k : Call) → Typed k → b.is_open ≡ true → refusal b k ≡ 0 → Alongside (through b k) (through b' k)
  same-through k t o e = record { matching = both; in_use = after-it }
    where
      use' : SameInUse (ledger_of b) (ledger_of b')
      use' = a.in_use o

      rows : SameRows (ledger_of b) (ledger_of b') (adds b k) (adds b k) × SameInUse (foldl after (ledger_of b) (adds b k)) (foldl after (ledger_of b') (adds b k))
      rows = same_rows (adds b k) (ledger_of b) (ledger_of b') use' (fine-adds b k (sound-inv b s) (s.whole o) t e).good

      both : Matching (through b k) (through b' k)
      both = unfold through in rw (same-adds b b' use' k) (matching-finish (ending k) _ _ (matching-adds b b' s.shut s'.shut a.matching rows.0))

      after-it : (through b k).is_open ≡ true → SameInUse (ledger_of (through b k)) (ledger_of (through b' k))
      after-it q =
          let p = ap ledger ((extends-through b k s.shut).rows q) ∙ ledger-append (rows_of b) (adds b k) in
          let p' = ap ledger ((extends-through b' k s'.shut).rows (both.is_open ∙ q)) ∙ ledger-append (rows_of b') (adds b' k) in
          rw (p, p', same-adds b b' use' k) rows.1

  same-call : (cells : ℕ → ℤ) (lengths : Bool) (k : Call) → Typed k → Same (call cells b lengths k) (call cells b' lengths k)
  unfolding call accepted
  same-call cells false k t = record { answer = refl; book = a }
  same-call cells true k t = subst (λ (o : Bool). Same (call cells b true k) (decide cells b' k ((5, not o) else refusal b' k))) (sym a.matching.is_open)
      (go b.is_open refl)
    where
      by : (n : ℕ) → b.is_open ≡ true → refusal b k ≡ n → Same (decide cells b k n) (decide cells b' k n)
      by zero o e = same_ended _ _ (through b k) (through b' k) (same-value b b' (a.in_use o) cells k a.matching) (same-through k t o e)
      by (suc n) o e = record { answer = refl; book = a }

      go : (o : Bool) → b.is_open ≡ o → Same (decide cells b k ((5, not o) else refusal b k)) (decide cells b' k ((5, not o) else refusal b' k))
      go true o =
          subst (λ (n : ℕ). Same (decide cells b k (refusal b k)) (decide cells b' k n)) (sym (same-refusal b b' (a.in_use o) k)) (by (refusal b k) o refl)
      go false o = record { answer = refl; book = a }

-- ── An opening ────────────────────────────────────────────────────────────────────────────────────────────────────────

-- the rows that it names
closing-is : (l : Ledger) → closing l ≡ map undo_of (open_changes l) ++ map Row.abort l.active
unfolding take_back
closing-is l = rw (keep_all (λ (x : Change). everyone x.holder) (open_changes l) (λ x m. refl), keep_all everyone l.active (λ v m. refl))

-- where no visit is active the holders of all changes have ended
closed-in-use : (rs rs' : List Row) → allowed_log rs ≡ true → allowed_log rs' ≡ true → (ledger rs).active ≡ [] → SameOpen (ledger rs) (ledger rs')
    → SameInUse (ledger rs) (ledger rs')
closed-in-use rs rs' al al' none s =
    record { rows = s.rows; begun = s.begun; active = s.active; undone = s.undone; changes = pairs-imp over s.changes }
  where
    is-over : (qs : List Row) → allowed_log qs ≡ true → (ledger qs).begun ≡ (ledger rs).begun → (x : Change) → In x (ledger qs).changes
        → HolderOver (ledger rs) x
    is-over qs e same x m =
        record { holder = record { old = rw same at ((inv-log qs e).good x m).held; over = rw none }; own = (scoped-log qs).own x m }

    over : (x y : Change) → In x (ledger rs).changes → In y (ledger rs').changes → OpenAlike (ledger rs) (ledger rs') x y
        → SameOrOver (ledger rs) x y
    over x y m n o = inr (is-over rs al refl x m, is-over rs' al' s.begun y n)

module _ (b b' : Book) (s : Sound b) (s' : Sound b') (t : Matching b b') where
  abbrev old : List Row
  old = b.stored

  abbrev old' : List Row
  old' = b'.stored

  same-closing : SameRows (ledger old) (ledger old') (closing (ledger old)) (closing (ledger old'))
  same-closing =
      let o = matching-open b b' t in
      let good = (take_back_lem everyone (ledger old) (inv-log old (stored-allowed b s))).good in
      let good' = (take_back_lem everyone (ledger old') (inv-log old' (stored-allowed b' s'))).good in
      rw (closing-is (ledger old), closing-is (ledger old'), o.active)
      (taken-back-alike (ledger old).active (ledger old) (ledger old') (open-pairs o.changes) o
      (rw (closing-is (ledger old)) at good) (rw (closing-is (ledger old'), o.active) at good'))

  same-reopened : (f : Fuse) → Alongside (reopened f old) (reopened f old')
  same-reopened f = record { matching = both; in_use = after-it }
    where
      start : Matching (starting f old) (starting f old')
      start = record { fuse = refl; is_open = refl; stored = t.stored; waiting = end (last-open t.stored) }

      both : Matching (reopened f old) (reopened f old')
      both = unfold reopened in matching-force _ _ (matching-adds {rs = closing (ledger old)} {rs' = closing (ledger old')} (starting f old) (starting f old')
          (λ o. clash true refl o) (λ o. clash true refl o) start (rw (append-nil old, append-nil old') same-closing))

      after-it : (reopened f old).is_open ≡ true → SameInUse (ledger_of (reopened f old)) (ledger_of (reopened f old'))
      after-it q =
          let is = ap₂ ◌++◌ (reopened-stored f old q) (reopened-empty f old) ∙ append-nil (old ++ closing (ledger old)) in
          let is' = ap₂ ◌++◌ (reopened-stored f old' (both.is_open ∙ q)) (reopened-empty f old') ∙ append-nil (old' ++ closing (ledger old')) in
          let al = stored-allowed b s in
          let al' = stored-allowed b' s' in
          rw (is, is') (closed-in-use (old ++ closing (ledger old)) (old' ++ closing (ledger old')) (closed-allowed old al) (closed-allowed old' al')
          (closed_none old al) (last-open (rows_join t.stored same-closing)))

  pub same-opening : Alongside b b' → (lengths : Bool) (f : Fuse) → Same (opening b lengths f) (opening b' lengths f)
  unfolding opening reopen
  same-opening a true f = same_ended _ _ (reopened f old) (reopened f old') (ap pos (same_length same-closing)) (same-reopened f)
  same-opening a false f = record { answer = refl; book = a }

-- ── Openings and calls in a row ───────────────────────────────────────────────────────────────────────────────────────

module _ (cells : ℕ → ℤ) where
  pub same-event : (b b' : Book) → Sound b → Sound b' → Alongside b b' → (e : Event) → TypedEvent e → Same (happens cells b e) (happens cells b' e)
  same-event b b' s s' a (opens lengths f) t = same-opening b b' s s' a.matching a lengths f
  same-event b b' s s' a (calls lengths k) t = same-call b b' s s' a cells lengths k t

  -- what it counts
  pub same_writes : (b b' : Book) → Alongside b b' → (e : Event) → Same (happens cells b e) (happens cells b' e) → event_writes cells b' e ≡ event_writes cells b e
  same_writes b b' a (opens lengths f) r = rw (matching-stored _ _ r.book.matching, matching-stored b b' a.matching)
  same_writes b b' a (calls lengths k) r = rw (matching-stored _ _ r.book.matching, matching-stored b b' a.matching, r.answer)

  -- of a list
  pub record SameList (b b' : Book) (es : List Event) : Type 0 where
    pub answers : answers cells b' es ≡ answers cells b es
    pub writes : writes cells b' es ≡ writes cells b es
    pub book : Alongside (book_after cells b es) (book_after cells b' es)

  pub same-list : (es : List Event) (b b' : Book) → Sound b → Sound b' → Alongside b b' → TypedEvents es → SameList b b' es
  same-list [] b b' s s' a t = record { answers = refl; writes = refl; book = a }
  same-list (e ∷ es) b b' s s' a t =
      let one = same-event b b' s s' a e t.0 in
      let more = same-list es _ _ (sound-event cells b e s t.0) (sound-event cells b' e s' t.0) one.book t.1 in
      record {
        answers = ap₂ ◌∷◌ one.answer more.answers;
        writes = ap₂ ◌∷◌ (same_writes b b' a e one) more.writes;
        book = more.book;
      }
