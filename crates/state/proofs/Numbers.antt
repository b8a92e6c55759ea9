-- Each number that is listed for a call occurs (specs/Numbers), by an example, but for 6. Most are computed; a full log is reached by induction.
use Prim.Native.Nat.{ℕ, zero, suc, ◌+◌, ◌-◌, ◌<◌}
use native.Mathlib.Omega.{arith}
use mathlib.Core.Path.{◌≡◌, refl, ap, sym, subst, ◌∙◌}
use mathlib.Core.Logic.{◌≢◌}
use mathlib.Core.Bool.{Bool, true, false, ◌&&◌, ◌||◌}
use mathlib.Core.List.{List, [], ◌∷◌, ◌++◌, map}
use lib.ListN.{replicate}
use lib.IntN.{pos}
use lib.Dec.{eqb}
use borrow.Author.Tests.{eqb-true, ne_eqb, le-leb}
use Rattle.book.specs.Lists.{member, without, tabulate}
use Rattle.book.specs.Rows.{Row}
use Rattle.book.specs.Ledger.{Change, Ledger, after}
use Rattle.book.specs.Rules.{reserve, scopes_in_use}
use Rattle.book.specs.Calls.{Call}
use Rattle.book.specs.Power.{Book, Fuse, none, left, formatted, force, add}
use Rattle.book.specs.Book.{take_back, refusal, adds, through, value, accepted, call, reopened, reopen, opening}
use Rattle.book.specs.Events.{Event, opens, calls}
use Rattle.book.specs.Cells.{zeros}
use Rattle.book.proofs.Lists.{clash, and_l, and_r, stays-in}
use Rattle.book.proofs.Visits.{call-not-six}
use Rattle.book.proofs.Sound.{TypedEvents, sound-formatted, sound-events}
use Rattle.state.specs.CallContracts.{numbers}
use Rattle.state.specs.Numbers.{code_of, reached, Occurs, NumbersOccur, SixNeverOccurs}
use Rattle.state.proofs.Rounds.{At, Takes, rounds, all-rounds}

-- ── An example ────────────────────────────────────────────────────────────────────────────────────────────────────────

-- after these calls of a session with no fuse
abbrev after_calls : List Call → Book
after_calls ks = reached none (map (calls true) ks)

-- the book after them is the one that an example needs
found : {l : Ledger} (ks : List Call) (k : Call) (n : ℕ) → At l (after_calls ks) → (call zeros (after_calls ks) true k).answer.number ≡ n → Occurs (code_of k) n
found ks k n a e = record { fuse = none; before = map (calls true) ks; sound = a.sound; lengths = true; asked = k; kind = refl; number = e }

-- by computing
gives : (f : Fuse) (es : List Event) (lengths : Bool) (k : Call) (n : ℕ) → TypedEvents es → (call zeros (reached f es) lengths k).answer.number ≡ n
    → Occurs (code_of k) n
gives f es lengths k n t e = record {
  fuse = f;
  before = es;
  sound = sound-events zeros formatted (opens true f ∷ es) sound-formatted (tt, t);
  lengths = lengths;
  asked = k;
  kind = refl;
  number = e;
}

-- the same after calls of a session with no fuse
computed : (ks : List Call) (k : Call) (n : ℕ) → TypedEvents (map (calls true) ks) → (call zeros (after_calls ks) true k).answer.number ≡ n → Occurs (code_of k) n
computed ks = gives none (map (calls true) ks) true

-- a buffer of another length
wrong-length : (k : Call) → Occurs (code_of k) 1
wrong-length k = gives none [] false k 1 tt (unfold call in refl)

-- the power failed in a begin
closed : (k : Call) → Occurs (code_of k) 5
unfolding after reserve scopes_in_use force add take_back refusal adds through value accepted call reopened reopen opening
closed k = gives (left 0) (calls true Call.begin ∷ []) true k 5 (omega arith) refl

-- ── A full log ────────────────────────────────────────────────────────────────────────────────────────────────────────

-- so many rows, of which those after the fourth hand the change of row 3 to and fro between two visits
abbrev handed : ℕ → ℕ → Ledger
handed n holder =
    let x : Change = record { row = 3; maker = 1; cell = 0; amount = pos 1; holder = holder; handed = true; scope = 3 } in
    record { rows = n; begun = 2; active = 2 ∷ 1 ∷ []; committed = []; undoing = []; undone = []; changes = x ∷ [] }

abbrev with_first : ℕ → Ledger
with_first i = handed (5 + (i + i)) 1

abbrev with_second : ℕ → Ledger
with_second i = handed (6 + (i + i)) 2

takes-there : (i : ℕ) → i < 2044 → Takes (with_first i) (Call.hand_over 1 2 0) (with_second i)
unfolding refusal adds after reserve
takes-there i h = record {
  row = Row.hand_over 1 2 0;
  typed = tt;
  end = tt;
  ok = λ s w e. rw (e, le-leb 4 (4096 - (5 + (i + i))) (omega arith));
  rows = λ s w e. refl;
  comes = ap (λ (n : ℕ). handed n 2) (omega arith);
}

takes_back : (i : ℕ) → i < 2044 → Takes (with_second i) (Call.hand_over 2 1 0) (with_first (suc i))
unfolding refusal adds after reserve
takes_back i h = record {
  row = Row.hand_over 2 1 0;
  typed = tt;
  end = tt;
  ok = λ s w e. rw (e, le-leb 4 (4096 - (6 + (i + i))) (omega arith));
  rows = λ s w e. refl;
  comes = ap (λ (n : ℕ). handed n 1) (omega arith);
}

abbrev two_visits : List Call
two_visits = Call.begin ∷ Call.begin ∷ Call.change 1 0 (pos 1) ∷ Call.hand_over 1 2 0 ∷ Call.hand_over 2 1 0 ∷ []

two-visits : At (with_first 0) (after_calls two_visits)
unfolding after reserve scopes_in_use force add take_back refusal adds through value accepted call reopened reopen opening
two-visits = record {
  sound = sound-events zeros formatted (opens true none ∷ map (calls true) two_visits) sound-formatted (omega arith);
  stored = Row.begin 1 ∷ Row.begin 2 ∷ [];
  waiting = Row.change 1 0 (pos 1) ∷ Row.hand_over 1 2 0 ∷ Row.hand_over 2 1 0 ∷ [];
  is = refl;
  comes = refl;
}

abbrev fills : ℕ → List Call
fills n = two_visits ++ rounds (λ i. Call.hand_over 1 2 0) (λ i. Call.hand_over 2 1 0) n 0

-- no row is free beyond the reserve
no_room : (n : ℕ) → n + 0 ≡ 2044 → Occurs 1 8 × Occurs 2 8 × Occurs 3 8 × Occurs 9 8
no_room n e = (
  found (fills n) Call.begin 8 full (begins _ full),
  found (fills n) (Call.change 1 0 (pos 1)) 8 full (changes _ full),
  found (fills n) (Call.hand_over 1 2 0) 8 full (hands_over _ full),
  found (fills n) (Call.hand_over_all 1 2) 8 full (hands_over_all _ full),
)
  where
    full : At (handed 4093 1) (after_calls (fills n))
    full =
        rw e at (all-rounds (λ i. Call.hand_over 1 2 0) (λ i. Call.hand_over 2 1 0) with_first with_second 2044 takes-there takes_back n 0 _ (omega arith) two-visits)

    begins : (b : Book) → At (handed 4093 1) b → (call zeros b true Call.begin).answer.number ≡ 8
    begins b a = unfold call refusal reserve in (rw (a.is, a.comes))

    changes : (b : Book) → At (handed 4093 1) b → (call zeros b true (Call.change 1 0 (pos 1))).answer.number ≡ 8
    changes b a = unfold call refusal reserve scopes_in_use in (rw (a.is, a.comes))

    hands_over : (b : Book) → At (handed 4093 1) b → (call zeros b true (Call.hand_over 1 2 0)).answer.number ≡ 8
    hands_over b a = unfold call refusal reserve in (rw (a.is, a.comes))

    hands_over_all : (b : Book) → At (handed 4093 1) b → (call zeros b true (Call.hand_over_all 1 2)).answer.number ≡ 8
    hands_over_all b a = unfold call refusal reserve in (rw (a.is, a.comes))

-- ── Every number ──────────────────────────────────────────────────────────────────────────────────────────────────────

data Each (P : ℕ → Type 0) : List ℕ → Type 0 where
  end : Each P []
  ◌and◌ : {n : ℕ} {ns : List ℕ} → P n → Each P ns → Each P (n ∷ ns)

infixr 20 ◌and◌
shown : {P : ℕ → Type 0} {ns : List ℕ} → Each P ns → (n : ℕ) → member n ns ≡ true → P n
shown end n e = clash false e refl
shown {P} (◌and◌ {n = m} {ns} p ps) n e = go (eqb n m) refl (shown ps n) e
  where
    go : (t : Bool) → eqb n m ≡ t → (member n ns ≡ true → P n) → (t || member n ns) ≡ true → P n
    go true q rest e = subst P (sym (eqb-true n m q)) p
    go false q rest e = rest e

-- each number of the first list stands in the second
abbrev within : List ℕ → List ℕ → Bool
within [] ns = true
within (m ∷ ms) ns = member m ns && within ms ns

member-within : (ms ns : List ℕ) → within ms ns ≡ true → (n : ℕ) → member n ms ≡ true → member n ns ≡ true
member-within [] ns h n e = clash false e refl
member-within (m ∷ ms) ns h n e = go (eqb n m) refl (member-within ms ns (and_r (member m ns) (within ms ns) h) n) e
  where
    go : (t : Bool) → eqb n m ≡ t → (member n ms ≡ true → member n ns ≡ true) → (t || member n ms) ≡ true → member n ns ≡ true
    go true q rest e = subst (λ (i : ℕ). member i ns ≡ true) (sym (eqb-true n m q)) (and_l (member m ns) (within ms ns) h)
    go false q rest e = rest e

-- one visit; two, of which the first changed cell 0; n cells changed by visit 1
abbrev one : List Call
one = Call.begin ∷ []

abbrev two : List Call
two = Call.begin ∷ Call.begin ∷ Call.change 1 0 (pos 1) ∷ []

abbrev scopes : ℕ → ℕ → List Call
scopes n from = tabulate n from (λ c. Call.change 1 c (pos 1))

typed-scopes : (n from : ℕ) → TypedEvents (map (calls true) (scopes n from))
typed-scopes zero from = tt
typed-scopes (suc n) from = (tt, typed-scopes n (suc from))

of-begin : Each (Occurs 1) (0 ∷ 1 ∷ 5 ∷ 7 ∷ 8 ∷ [])
unfolding after reserve scopes_in_use force add take_back refusal adds through value accepted call reopened reopen opening
of-begin =
    computed [] Call.begin 0 (omega arith) refl and wrong-length Call.begin and closed Call.begin and
    computed (replicate 16 Call.begin) Call.begin 7 (omega arith) refl and (no_room 2044 refl).0 and end

of-change : Each (Occurs 2) (0 ∷ 1 ∷ 5 ∷ 9 ∷ 10 ∷ 11 ∷ 8 ∷ [])
unfolding after reserve scopes_in_use force add take_back refusal adds through value accepted call reopened reopen opening
of-change =
    let k = Call.change 1 0 (pos 1) in
    computed one k 0 (omega arith) refl and wrong-length k and closed k and computed [] k 9 (omega arith) refl and
    computed one (Call.change 1 224 (pos 1)) 10 (omega arith) refl and
    computed (Call.begin ∷ scopes 64 0) (Call.change 1 64 (pos 1)) 11 (tt, typed-scopes 64 0) refl and (no_room 2044 refl).1 and end

of-hand_over : Each (Occurs 3) (0 ∷ 1 ∷ 5 ∷ 9 ∷ 12 ∷ 10 ∷ 13 ∷ 8 ∷ [])
unfolding after reserve scopes_in_use force add take_back refusal adds through value accepted call reopened reopen opening
of-hand_over =
    let k = Call.hand_over 1 2 0 in
    computed two k 0 (omega arith) refl and wrong-length k and closed k and computed [] k 9 (omega arith) refl and
    computed two (Call.hand_over 1 1 0) 12 (omega arith) refl and computed two (Call.hand_over 1 2 224) 10 (omega arith) refl and
    computed two (Call.hand_over 1 2 1) 13 (omega arith) refl and (no_room 2044 refl).2 and end

of-commit : Each (Occurs 4) (0 ∷ 1 ∷ 5 ∷ 9 ∷ [])
unfolding after reserve scopes_in_use force add take_back refusal adds through value accepted call reopened reopen opening
of-commit =
    let k = Call.commit 1 in
    computed one k 0 (omega arith) refl and wrong-length k and closed k and computed [] k 9 (omega arith) refl and end

of-abort : Each (Occurs 5) (0 ∷ 1 ∷ 5 ∷ 9 ∷ [])
unfolding after reserve scopes_in_use force add take_back refusal adds through value accepted call reopened reopen opening
of-abort =
    let k = Call.abort 1 in
    computed one k 0 (omega arith) refl and wrong-length k and closed k and computed [] k 9 (omega arith) refl and end

of-flush : Each (Occurs 6) (0 ∷ 1 ∷ 5 ∷ 14 ∷ [])
unfolding after reserve scopes_in_use force add take_back refusal adds through value accepted call reopened reopen opening
of-flush =
    let k = Call.flush 0 in
    computed [] k 0 (omega arith) refl and wrong-length k and closed k and computed [] (Call.flush 32) 14 (omega arith) refl and end

of-force : Each (Occurs 7) (0 ∷ 1 ∷ 5 ∷ [])
unfolding after reserve scopes_in_use force add take_back refusal adds through value accepted call reopened reopen opening
of-force = computed [] Call.force 0 (omega arith) refl and wrong-length Call.force and closed Call.force and end

of-read : Each (Occurs 8) (0 ∷ 1 ∷ 5 ∷ 10 ∷ [])
unfolding after reserve scopes_in_use force add take_back refusal adds through value accepted call reopened reopen opening
of-read =
    let k = Call.read 0 in
    computed [] k 0 (omega arith) refl and wrong-length k and closed k and computed [] (Call.read 224) 10 (omega arith) refl and end

of-hand_over_all : Each (Occurs 9) (0 ∷ 1 ∷ 5 ∷ 9 ∷ 12 ∷ 13 ∷ 8 ∷ [])
unfolding after reserve scopes_in_use force add take_back refusal adds through value accepted call reopened reopen opening
of-hand_over_all =
    let k = Call.hand_over_all 1 2 in
    computed two k 0 (omega arith) refl and wrong-length k and closed k and computed [] k 9 (omega arith) refl and
    computed two (Call.hand_over_all 1 1) 12 (omega arith) refl and computed two (Call.hand_over_all 2 1) 13 (omega arith) refl and (no_room 2044 refl).3 and end

-- numbers with an example, and a list of no others but 6
by-examples : {P : ℕ → Type 0} {ns : List ℕ} → Each P ns → (ms : List ℕ) → within (without 6 ms) ns ≡ true → (n : ℕ) → member n ms ≡ true → n ≢ 6 → P n
by-examples {P} {ns} ps ms h n e d =
    shown ps n (member-within (without 6 ms) ns h n (stays-in n 6 ms (ne_eqb 6 n (λ q. d (sym q))) ∙ e))

pub numbers-occur : NumbersOccur
unfolding NumbersOccur
numbers-occur Call.begin = by-examples of-begin (numbers Call.begin) refl
numbers-occur (Call.change v c a) = by-examples of-change (numbers (Call.change v c a)) refl
numbers-occur (Call.hand_over g r c) = by-examples of-hand_over (numbers (Call.hand_over g r c)) refl
numbers-occur (Call.commit v) = by-examples of-commit (numbers (Call.commit v)) refl
numbers-occur (Call.abort v) = by-examples of-abort (numbers (Call.abort v)) refl
numbers-occur Call.force = by-examples of-force (numbers Call.force) refl
numbers-occur (Call.flush p) = by-examples of-flush (numbers (Call.flush p)) refl
numbers-occur (Call.read c) = by-examples of-read (numbers (Call.read c)) refl
numbers-occur (Call.hand_over_all g r) = by-examples of-hand_over_all (numbers (Call.hand_over_all g r)) refl

pub six-never-occurs : SixNeverOccurs
unfolding SixNeverOccurs
six-never-occurs code o = call-not-six zeros (reached o.fuse o.before) o.lengths o.asked o.sound o.number
