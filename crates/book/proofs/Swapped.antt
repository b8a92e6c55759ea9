-- 02, L5: of two single hand-overs of different cells that follow one another and are both accepted the swapped order is accepted too, and whatever comes later
-- gives the same answers, counts and sums, also where a cut keeps just one of the two rows, and where the power fails in the second.
use Prim.Native.Nat.{ℕ, zero, suc, ◌<◌}
use native.Mathlib.Omega.{arith}
use mathlib.Core.Bool.{Bool, true, false, cond, not}
use mathlib.Core.Path.{◌≡◌, refl, ap, ap₂, sym, ◌∙◌, subst}
use mathlib.Core.Logic.{◌≢◌, inl, inr}
use mathlib.Core.List.{List, [], ◌∷◌, ◌++◌}
use lib.ListN.{length, length-append, take}
use lib.Seq.{take-append-le}
use lib.IntN.{ℤ}
use lib.Dec.{leb, ltb, eqb}
use borrow.Author.Tests.{ltb-true, ltb-false, eq-eqb}
use Rattle.book.specs.Limits.{tail_limit}
use Rattle.book.specs.Rows.{Row, is_cell}
use Rattle.book.specs.Ledger.{Ledger, empty, only, after, ledger}
use Rattle.book.specs.Rules.{is_active, room, holds_any}
use Rattle.book.specs.Cells.{kept_sum}
use Rattle.book.specs.Calls.{Call}
use Rattle.book.specs.Power.{Book, Fuse, none, left, rows_of, ledger_of, closed, force, append, add}
use Rattle.book.specs.Book.{◌else◌, refusal, adds, through, value, Answer, done, refused_by, Outcome, refused, ended, accepted, decide, call, opening}
use Rattle.book.specs.Events.{Event, happens, book_after}
use Rattle.book.specs.Writes.{Writes, rows_between}
use Rattle.book.specs.SessionWrites.{event_writes}
use Rattle.book.specs.Logs.{Sound}
use Rattle.book.specs.Swapped.{Single, call_for, event_for, DoneOrCut, BothAccepted, one_then_other, EitherOrder}
use Rattle.book.proofs.Lists.{clash}
use Rattle.book.proofs.Logs.{ledger-append}
use Rattle.book.proofs.Steps.{book_of, extends-through}
use Rattle.book.proofs.Force.{force-lands, force-cut}
use Rattle.book.proofs.Adds.{needs}
use Rattle.book.proofs.Sound.{ended-book, Decided, refuses, accepts, decided, sound-through, TypedEvents, sound-events}
use Rattle.book.proofs.Openings.{ended-open, ready}
use Rattle.book.proofs.SwapRows.{row_of, NeedsOf, unrefused, needs-first, needs-second, after_both, one_of_two, both-rows}
use Rattle.book.proofs.SameOpen.{rows_refl}
use Rattle.book.proofs.SameInUse.{SameInUse, same-in-use-refl}
use Rattle.book.proofs.MatchingBooks.{Matching, matching-length, matching-stored, stored-cells, matching-adds}
use Rattle.book.proofs.MatchingEvents.{Alongside, same-opening, SameList, same-list}

-- ── A hand-over that no check refuses ─────────────────────────────────────────────────────────────────────────────────

-- what it comes to, by the power
abbrev comes_to : (ℕ → ℤ) → Book → Call → Outcome
comes_to cells b k = ended (value cells b k) (through b k)

-- the book is open, and no check refuses the call
record Takes (b : Book) (k : Call) : Type 0 where
  is_open : b.is_open ≡ true
  unrefused : refusal b k ≡ 0

it-comes-to : (cells : ℕ → ℤ) (b : Book) (k : Call) → Takes b k → call cells b true k ≡ comes_to cells b k
unfolding call accepted
it-comes-to cells b k t = ap (decide cells b k) (ap (λ (o : Bool). (5, not o) else refusal b k) t.is_open ∙ t.unrefused)

-- none of its checks has the number 5
other : (n : ℕ) (t : Bool) (later : ℕ) → eqb n 5 ≡ false → later ≢ 5 → ((n, t) else later) ≢ 5
other n true later a b e = clash (eqb n 5) (eq-eqb n 5 e) a
other n false later a b e = b e

not_five : (b : Book) (h : Single) → refusal b (call_for h) ≢ 5
unfolding refusal
not_five b h =
    let l = ledger_of b in
    other 9 (not (is_active l h.giver)) _ refl (other 9 (not (is_active l h.receiver)) _ refl (other 12 (eqb h.giver h.receiver) _ refl
    (other 10 (not (is_cell h.cell)) _ refl (other 13 (not (holds_any l h.giver (only h.cell))) _ refl (other 8 (not (room l 1)) _ refl
    (λ e. omega arith))))))

-- so of an open book one that is done or cut is refused by none
takes : (cells : ℕ → ℤ) (b : Book) (h : Single) → b.is_open ≡ true → DoneOrCut (call cells b true (call_for h)).answer.number → Takes b (call_for h)
unfolding call
takes cells b h o d = record { is_open = o; unrefused = go (refusal b (call_for h)) refl d }
  where
    go : (n : ℕ) → refusal b (call_for h) ≡ n → DoneOrCut (call cells b true (call_for h)).answer.number → refusal b (call_for h) ≡ 0
    go zero e d = e
    go (suc n) e d = shut d
      where
        is : (call cells b true (call_for h)).answer.number ≡ suc n
        is = ap (λ (m : ℕ). (decide cells b (call_for h) m).answer.number) (ap (λ (t : Bool). (5, not t) else refusal b (call_for h)) o ∙ e)

        shut : DoneOrCut (call cells b true (call_for h)).answer.number → refusal b (call_for h) ≡ 0
        shut (inl z) = let q : suc n ≡ 0 = sym is ∙ z in absurd (omega arith)
        shut (inr z) = absurd (not_five b h (e ∙ sym is ∙ z))

-- and the book of one that is done was open, and is
was-open : (cells : ℕ → ℤ) (b : Book) (k : Call) → (call cells b true k).answer.number ≡ 0 → (b.is_open ≡ true) × ((through b k).is_open ≡ true)
was-open cells b k d = go (decided cells b true k)
  where
    go : Decided cells b true k (call cells b true k) → (b.is_open ≡ true) × ((through b k).is_open ≡ true)
    go (refuses n e) = let z : suc n ≡ 0 = ap (λ (o : Outcome). o.answer.number) (sym e) ∙ d in absurd (omega arith)
    go (accepts l o z e) = (o, ended-open (value cells b k) (through b k) (ap (λ (x : Outcome). x.answer.number) (sym e) ∙ d))

-- the answer by the power
ended-answer : (v : ℤ) (b : Book) → (ended v b).answer ≡ cond b.is_open (done v) (refused_by 5)
ended-answer v b = go b.is_open
  where
    go : (t : Bool) → (cond t (record { answer = done v; book = b }) (refused 5 b)).answer ≡ cond t (done v) (refused_by 5)
    go true = refl
    go false = refl

ended-shut : (v : ℤ) (b : Book) → (ended v b).answer.number ≡ 5 → b.is_open ≡ false
ended-shut v b e = go b.is_open (ap (λ (x : Answer). x.number) (sym (ended-answer v b)) ∙ e)
  where
    go : (t : Bool) → (cond t (done v) (refused_by 5)).number ≡ 5 → t ≡ false
    go true e = absurd (omega arith)
    go false e = refl

same_answer : (v v' : ℤ) (b b' : Book) → v' ≡ v → b'.is_open ≡ b.is_open → (ended v' b').answer ≡ (ended v b).answer
same_answer v v' b b' e o =
    ended-answer v' b' ∙ ap₂ (λ (x : ℤ) (t : Bool). cond t (done x) (refused_by 5)) e o ∙ sym (ended-answer v b)

-- the rows that it lands
abbrev landed : Book → Book → Writes
landed b c = record { rows = rows_between b.stored c.stored; pages = 0 }

-- ── A row that is added ───────────────────────────────────────────────────────────────────────────────────────────────

-- the book that it is appended to, whatever row it is
abbrev readied : Book → Book
readied b = cond (leb tail_limit (length b.waiting)) (force b) b

-- the power holds: the row waits behind the others
add_open : (b : Book) (r : Row) → (add b r).is_open ≡ true → add b r ≡ book_of (readied b).stored ((readied b).waiting ++ (r ∷ [])) (readied b).fuse true
unfolding add
add_open b r = go (readied b)
  where
    go : (c : Book) → (append c r).is_open ≡ true → append c r ≡ book_of c.stored (c.waiting ++ (r ∷ [])) c.fuse true
    go c = its c.is_open refl
      where
        its : (t : Bool) → c.is_open ≡ t → (cond t (book_of c.stored (c.waiting ++ (r ∷ [])) c.fuse true) c).is_open ≡ true
            → cond t (book_of c.stored (c.waiting ++ (r ∷ [])) c.fuse true) c ≡ book_of c.stored (c.waiting ++ (r ∷ [])) c.fuse true
        its true e o = refl
        its false e o = clash _ o e

-- it fails: that was in the force of a full tail, and the row is nowhere
add-shut : (b : Book) (r : Row) → b.is_open ≡ true → (add b r).is_open ≡ false → (add b r ≡ force b) × ((force b).is_open ≡ false)
unfolding add
add-shut b r o = go (leb tail_limit (length b.waiting))
  where
    its : (c : Book) (t : Bool) → c.is_open ≡ t → (cond t (book_of c.stored (c.waiting ++ (r ∷ [])) c.fuse true) c).is_open ≡ false
        → (cond t (book_of c.stored (c.waiting ++ (r ∷ [])) c.fuse true) c ≡ c) × (c.is_open ≡ false)
    its c true e q = clash _ refl q
    its c false e q = (refl, e)

    go : (t : Bool) → (append (cond t (force b) b) r).is_open ≡ false → (append (cond t (force b) b) r ≡ force b) × ((force b).is_open ≡ false)
    go true q = its (force b) (force b).is_open refl q
    go false q = clash _ o (its b b.is_open refl q).1

-- a force that fails comes to the same, whatever the last of its rows is
last-not-kept : (s w : List Row) (r r' : Row) (f : Fuse) → (force (book_of s (w ++ (r ∷ [])) f true)).is_open ≡ false
    → force (book_of s (w ++ (r' ∷ [])) f true) ≡ force (book_of s (w ++ (r ∷ [])) f true)
last-not-kept s w r r' none o = clash _ (ap (λ (b : Book). b.is_open) (force-lands s (w ++ (r ∷ [])) none tt)) o
last-not-kept s w r r' (left m) o = go (ltb m (length (w ++ (r ∷ [])))) refl
  where
    part : (x : Row) → m < length (w ++ (r ∷ [])) → force (book_of s (w ++ (x ∷ [])) (left m) true) ≡ closed (s ++ take m w)
    part x few =
        let n = length-append w (r ∷ []) in
        let n' = length-append w (x ∷ []) in
        force-cut s (w ++ (x ∷ [])) m (omega arith) ∙ ap (λ (l : List Row). closed (s ++ l)) (take-append-le m w (x ∷ []) (omega arith))

    go : (t : Bool) → ltb m (length (w ++ (r ∷ []))) ≡ t → force (book_of s (w ++ (r' ∷ [])) (left m) true) ≡ force (book_of s (w ++ (r ∷ [])) (left m) true)
    go true h = let few = ltb-true m (length (w ++ (r ∷ []))) h in part r' few ∙ sym (part r few)
    go false h = clash _ (ap (λ (b : Book). b.is_open) (force-lands s (w ++ (r ∷ [])) (left m) (ltb-false m (length (w ++ (r ∷ []))) h))) o

-- ── Both, in either order ─────────────────────────────────────────────────────────────────────────────────────────────

module _ (cells : ℕ → ℤ) (b : Book) (s : Sound b) (h k : Single) (ne : h.cell ≢ k.cell) (one : Takes b (call_for h))
    (two : Takes (through b (call_for h)) (call_for k)) where
  -- the books after one of them, and after both
  abbrev b₁ : Book
  b₁ = through b (call_for h)

  abbrev b₁' : Book
  b₁' = through b (call_for k)

  abbrev b₂ : Book
  b₂ = through b₁ (call_for k)

  abbrev b₂' : Book
  b₂' = through b₁' (call_for h)

  ledger-one : (j : Single) → (through b (call_for j)).is_open ≡ true → ledger_of (through b (call_for j)) ≡ after (ledger_of b) (row_of j)
  unfolding adds
  ledger-one j o = ap ledger ((extends-through b (call_for j) s.shut).rows o) ∙ ledger-append (rows_of b) (row_of j ∷ [])

  need-one : NeedsOf (ledger_of b) h
  need-one = needs b h.giver h.receiver h.cell one.unrefused

  need-two : NeedsOf (after (ledger_of b) (row_of h)) k
  need-two = subst (λ (l : Ledger). NeedsOf l k) (ledger-one h two.is_open) (needs b₁ k.giver k.receiver k.cell two.unrefused)

  itself : Matching b b
  itself = record { fuse = refl; is_open = refl; stored = rows_refl b.stored empty; waiting = rows_refl b.waiting (ledger b.stored) }

  matching-one : Matching b₁ b₁'
  unfolding through adds
  matching-one = matching-adds b b s.shut s.shut itself (one_of_two (ledger_of b) h k ne need-one need-two)

  matching-both : Matching b₂ b₂'
  unfolding through adds
  matching-both = matching-adds b b s.shut s.shut itself (both-rows (ledger_of b) h k ne need-one need-two)

  -- the swapped order is accepted
  first_taken : Takes b (call_for k)
  first_taken = record { is_open = one.is_open; unrefused = unrefused b k (needs-first (ledger_of b) h k ne need-one need-two) }

  open' : b₁'.is_open ≡ true
  open' = matching-one.is_open ∙ two.is_open

  second-taken : Takes b₁' (call_for h)
  second-taken = record {
    is_open = open';
    unrefused =
        unrefused b₁' h (subst (λ (l : Ledger). NeedsOf l h) (sym (ledger-one k open')) (needs-second (ledger_of b) h k ne need-one need-two));
  }

  -- the books after both
  ledger-two : (i j : Single) → (through b (call_for i)).is_open ≡ true → (through (through b (call_for i)) (call_for j)).is_open ≡ true
      → ledger_of (through (through b (call_for i)) (call_for j)) ≡ after (after (ledger_of b) (row_of i)) (row_of j)
  unfolding adds
  ledger-two i j p o =
      let c = through b (call_for i) in
      ap ledger ((extends-through c (call_for j) (extends-through b (call_for i) s.shut).shut).rows o) ∙ ledger-append (rows_of c) (row_of j ∷ []) ∙
      ap (λ (l : Ledger). after l (row_of j)) (ledger-one i p)

  alongside : Alongside b₂ b₂'
  alongside = record { matching = matching-both; in_use = λ q. subst (SameInUse (ledger_of b₂)) (same q) (same-in-use-refl (ledger_of b₂)) }
    where
      same : b₂.is_open ≡ true → ledger_of b₂ ≡ ledger_of b₂'
      same q =
          ledger-two h k two.is_open q ∙ sym (after_both (ledger_of b) h k ne need-one need-two) ∙ sym (ledger-two k h open' (matching-both.is_open ∙ q))

  sound : Sound b₂
  sound = sound-through b₁ (call_for k) (sound-through b (call_for h) s one.is_open tt one.unrefused) two.is_open tt two.unrefused

  sound' : Sound b₂'
  sound' =
      sound-through b₁' (call_for h) (sound-through b (call_for k) s first_taken.is_open tt first_taken.unrefused) second-taken.is_open tt
      second-taken.unrefused

  -- what the two of them answer and count
  first-answer : (comes_to cells b (call_for k)).answer ≡ (comes_to cells b (call_for h)).answer
  unfolding value adds
  first-answer = same_answer _ _ b₁ b₁' refl matching-one.is_open

  second-answer : (comes_to cells b₁' (call_for h)).answer ≡ (comes_to cells b₁ (call_for k)).answer
  unfolding value adds
  second-answer = same_answer _ _ b₂ b₂' (rw (matching-length b₁ b₁' matching-one)) matching-both.is_open

  first-counts : landed b b₁' ≡ landed b b₁
  first-counts = rw (matching-stored b₁ b₁' matching-one)

  second-counts : landed b₁' b₂' ≡ landed b₁ b₂
  second-counts = rw (matching-stored b₁ b₁' matching-one, matching-stored b₂ b₂' matching-both)

  -- the power fails in the second
  cut-books : b₂.is_open ≡ false → b₂' ≡ b₂
  unfolding through adds
  cut-books q =
      let c = readied b in
      let is = add_open b (row_of h) two.is_open in
      let is' = add_open b (row_of k) open' in
      let shut = add-shut b₁ (row_of k) two.is_open q in
      let shut' = add-shut b₁' (row_of h) open' (matching-both.is_open ∙ q) in
      shut'.0 ∙ ap force is' ∙
      last-not-kept c.stored c.waiting (row_of h) (row_of k) c.fuse (ap (λ (x : Book). (force x).is_open) (sym is) ∙ shut.1) ∙
      ap force (sym is) ∙ sym shut.0

-- what two hand-overs that no check refuses come to
module _ (cells : ℕ → ℤ) (b : Book) (h k : Single) (one : Takes b (call_for h)) (two : Takes (through b (call_for h)) (call_for k)) where
  first-book : (call cells b true (call_for h)).book ≡ through b (call_for h)
  first-book = ap (λ (o : Outcome). o.book) (it-comes-to cells b (call_for h) one) ∙ ended-book (value cells b (call_for h)) (through b (call_for h))

  second_is : call cells (call cells b true (call_for h)).book true (call_for k) ≡ comes_to cells (through b (call_for h)) (call_for k)
  second_is = ap (λ (x : Book). call cells x true (call_for k)) first-book ∙ it-comes-to cells (through b (call_for h)) (call_for k) two

  second-book : (call cells (call cells b true (call_for h)).book true (call_for k)).book ≡ through (through b (call_for h)) (call_for k)
  second-book = ap (λ (o : Outcome). o.book) second_is ∙ ended-book _ (through (through b (call_for h)) (call_for k))

-- ── 02, L5 ────────────────────────────────────────────────────────────────────────────────────────────────────────────

-- after a ready opening the sum of a cell is what the rows come to, which is the same in both books
same-sums : (cells : ℕ → ℤ) (b b' : Book) → Sound b → Sound b' → Alongside b b' → (f : Fuse) → (opening b true f).answer.number ≡ 0 → (c : ℕ)
    → kept_sum cells (opening b' true f).book.stored c ≡ kept_sum cells (opening b true f).book.stored c
same-sums cells b b' s s' a f e c =
    let same = same-opening b b' s s' a.matching a true f in
    sym ((ready b' f s' (ap (λ (x : Answer). x.number) same.answer ∙ e)).sums cells c) ∙ stored-cells cells _ _ same.book.matching c ∙
    (ready b f s e).sums cells c

-- two books side by side, both sound
pub record Beside (b b' : Book) : Type 0 where
  pub sound : Sound b
  pub sound' : Sound b'
  pub alongside : Alongside b b'

module _ (cells : ℕ → ℤ) (b : Book) (h k : Single) (s : Sound b) (p : BothAccepted cells b h k) where
  one : Takes b (call_for h)
  one = takes cells b h (was-open cells b (call_for h) p.first).0 (inl p.first)

  two : Takes (through b (call_for h)) (call_for k)
  two = takes cells (through b (call_for h)) k (was-open cells b (call_for h) p.first).1
      (rw (it-comes-to cells b (call_for h) one, ended-book (value cells b (call_for h)) (through b (call_for h))) at p.second)

  swapped-first : Takes b (call_for k)
  swapped-first = first_taken cells b s h k p.apart one two

  swapped-second : Takes (through b (call_for k)) (call_for h)
  swapped-second = second-taken cells b s h k p.apart one two

  -- the books after both
  is : book_after cells b (one_then_other h k []) ≡ through (through b (call_for h)) (call_for k)
  is = second-book cells b h k one two

  is' : book_after cells b (one_then_other k h []) ≡ through (through b (call_for k)) (call_for h)
  is' = second-book cells b k h swapped-first swapped-second

  pub beside : Beside (book_after cells b (one_then_other h k [])) (book_after cells b (one_then_other k h []))
  beside = rw (is, is') (record {
    sound = sound cells b s h k p.apart one two;
    sound' = sound' cells b s h k p.apart one two;
    alongside = alongside cells b s h k p.apart one two;
  })

  -- the stored rows after one of them
  pub stored-between : (happens cells b (event_for k)).book.stored ≡ (happens cells b (event_for h)).book.stored
  unfolding through adds
  stored-between =
      ap (λ (x : Book). x.stored) (first-book cells b k h swapped-first swapped-second ∙ add_open b (row_of k) swapped-second.is_open) ∙
      ap (λ (x : Book). x.stored) (sym (first-book cells b h k one two ∙ add_open b (row_of h) two.is_open))

  -- what the two of them answer and count
  first-same : (happens cells b (event_for k)).answer ≡ (happens cells b (event_for h)).answer
  first-same =
      ap (λ (o : Outcome). o.answer) (it-comes-to cells b (call_for k) swapped-first) ∙ first-answer cells b s h k p.apart one two ∙
      ap (λ (o : Outcome). o.answer) (sym (it-comes-to cells b (call_for h) one))

  second-same : (happens cells (happens cells b (event_for k)).book (event_for h)).answer ≡ (happens cells (happens cells b (event_for h)).book (event_for k)).answer
  second-same =
      ap (λ (o : Outcome). o.answer) (second_is cells b k h swapped-first swapped-second) ∙ second-answer cells b s h k p.apart one two ∙
      ap (λ (o : Outcome). o.answer) (sym (second_is cells b h k one two))

  first-landed : event_writes cells b (event_for k) ≡ event_writes cells b (event_for h)
  first-landed =
      ap (landed b) (first-book cells b k h swapped-first swapped-second) ∙ first-counts cells b s h k p.apart one two ∙ ap (landed b) (sym (first-book cells b h k one two))

  second-landed : event_writes cells (happens cells b (event_for k)).book (event_for h) ≡ event_writes cells (happens cells b (event_for h)).book (event_for k)
  second-landed =
      ap₂ landed (first-book cells b k h swapped-first swapped-second) is' ∙ second-counts cells b s h k p.apart one two ∙ ap₂ landed (sym (first-book cells b h k one two)) (sym is)

  -- the books are one where the power fails in the second
  one-book : (happens cells (happens cells b (event_for h)).book (event_for k)).answer.number ≡ 5
      → book_after cells b (one_then_other k h []) ≡ book_after cells b (one_then_other h k [])
  one-book e =
      let shut = ended-shut _ _ (ap (λ (o : Outcome). o.answer.number) (sym (second_is cells b h k one two)) ∙ e) in
      is' ∙ cut-books cells b s h k p.apart one two shut ∙ sym is

pub either_order : (cells : ℕ → ℤ) (b : Book) (h k : Single) (es : List Event) → Sound b → TypedEvents es → BothAccepted cells b h k
    → EitherOrder cells b h k es
either_order cells b h k es s t p = record {
  accepted = record {
    apart = λ e. p.apart (sym e);
    first = ap (λ (x : Answer). x.number) (first-same cells b h k s p) ∙ p.first;
    second = subst (λ (x : Answer). DoneOrCut x.number) (sym (second-same cells b h k s p)) p.second;
  };
  answers = ap₂ ◌∷◌ (first-same cells b h k s p) (ap₂ ◌∷◌ (second-same cells b h k s p) later.answers);
  counts = ap₂ ◌∷◌ (first-landed cells b h k s p) (ap₂ ◌∷◌ (second-landed cells b h k s p) later.writes);
  sums = same-sums cells _ _ (sound-events cells _ es both.sound t) (sound-events cells _ es both.sound' t) later.book;
  cut = λ e. ap (λ (x : Book). book_after cells x es) (one-book cells b h k s p e);
}
  where
    both : Beside (book_after cells b (one_then_other h k [])) (book_after cells b (one_then_other k h []))
    both = beside cells b h k s p

    later : SameList cells (book_after cells b (one_then_other h k [])) (book_after cells b (one_then_other k h [])) es
    later = same-list cells es _ _ both.sound both.sound' both.alongside t
