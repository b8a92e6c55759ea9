-- What was handed over survives if the receiver commits (specs/Survives).
use Prim.Native.Nat.{ℕ, suc}
use native.Mathlib.Omega.{arith}
use mathlib.Core.Path.{◌≡◌, refl, ap, sym, ◌∙◌, subst}
use mathlib.Core.Bool.{Bool, true, false, ◌&&◌, ◌||◌}
use mathlib.Core.Logic.{◌⊎◌, inl, inr}
use mathlib.Core.List.Memᴰ
use mathlib.Core.List.{List, [], ◌∷◌, ◌++◌, map, map-append, append_assoc, head-eq_of_cons-eq, tail-eq_of_cons-eq}
use lib.IntN.{ℤ}
use lib.Dec.{eqb}
use borrow.Author.Tests.{eq-eqb}
use Rattle.book.specs.Lists.{In, any, keep, foldl}
use Rattle.book.specs.Rows.{Row}
use Rattle.book.specs.Ledger.{Change, Ledger, only, every, given, pass, after}
use Rattle.book.specs.Rules.{open_held, just}
use Rattle.book.specs.Calls.{Call}
use Rattle.book.specs.Power.{Book, rows_of, ledger_of, formatted}
use Rattle.book.specs.Book.{undo_of, take_back, adds, through, value, Answer, Outcome, ended, call, opening}
use Rattle.book.specs.Events.{happens, answers, book_after}
use Rattle.book.specs.SessionWrites.{NoStart}
use Rattle.book.specs.Logs.{Logged, InSum, Sound}
use Rattle.book.proofs.Lists.{clash, and_i, foldl-append, there}
use Rattle.book.proofs.Logs.{ledger-append}
use Rattle.book.proofs.Steps.{extends-through}
use Rattle.book.proofs.Sound.{TypedEvents, ended-book, Decided, refuses, accepts, decided, sound-formatted, sound-event, sound-events}
use Rattle.book.proofs.Openings.{ended-done}
use Rattle.state.specs.World.{World, right_lengths}
use Rattle.state.specs.CallContracts.{answered_by, cells_of}
use Rattle.sessions.specs.Host.{Called, Step, opened, called, steps, answer_of, event_of}
use Rattle.sessions.specs.Demand3.{book_of, log_of, Holds, Demand3}
use Rattle.sessions.specs.Made.{session_of}
use Rattle.sessions.specs.Survives.{gives, gave, Survives, HandedOverSurvives, HandedOverSurvivesOfCalls}
use Rattle.sessions.proofs.Along.{book-append}
use Rattle.sessions.proofs.Demand3.{demand-3}
use Rattle.sessions.proofs.Places.{answer_at_lem, typed-parts, steps-typed}
use Rattle.sessions.proofs.Made.{contracts}

-- ── The rows of a call ────────────────────────────────────────────────────────────────────────────────────────────────

-- taking back passes no change on
undos-leave : (l : Ledger) (xs : List Change) → (foldl after l (map undo_of xs)).changes ≡ l.changes
unfolding after
undos-leave l [] = refl
undos-leave l (x ∷ xs) = undos-leave (after l (undo_of x)) xs

aborts-leave : (l : Ledger) (vs : List ℕ) → (foldl after l (map Row.abort vs)).changes ≡ l.changes
unfolding after
aborts-leave l [] = refl
aborts-leave l (v ∷ vs) = aborts-leave (after l (Row.abort v)) vs

taking-leaves : (l : Ledger) (v : ℕ) → (foldl after l (take_back (just v) l)).changes ≡ l.changes
unfolding take_back
taking-leaves l v =
    let undos = map undo_of (open_held (just v) l) in
    ap (λ (m : Ledger). m.changes) (foldl-append after l undos (map Row.abort (keep (just v) l.active))) ∙
    aborts-leave (foldl after l undos) (keep (just v) l.active) ∙ undos-leave l (open_held (just v) l)

-- a hand-over by another visit, or of another cell, leaves the change as it is
not-passed : (g r : ℕ) (cs : ℕ → Bool) (y : Change) → (eqb y.holder g && cs y.cell) ≡ false → pass g r cs y ≡ y
not-passed g r cs y e = rw e

-- the rows of a call that is no hand-over of the change
rows-keep : (b : Book) (k : Call) (y : Change) → gives y.holder y.cell k ≡ false → Logged (rows_of b) y → In y (foldl after (ledger_of b) (adds b k)).changes
unfolding adds after
rows-keep b Call.begin y e m = m
rows-keep b (Call.change v c a) y e m = there m
rows-keep b (Call.hand_over g r c) y e m = Memᴰ.cast (sym (not-passed g r (only c) y e)) (Memᴰ.map (pass g r (only c)) m)
rows-keep b (Call.commit v) y e m = m
rows-keep b (Call.abort v) y e m = subst (In y) (sym (taking-leaves (ledger_of b) v)) m
rows-keep b Call.force y e m = m
rows-keep b (Call.flush p) y e m = m
rows-keep b (Call.read c) y e m = m
rows-keep b (Call.hand_over_all g r) y e m = Memᴰ.cast (sym (not-passed g r every y (ap (λ (t : Bool). t && true) e))) (Memᴰ.map (pass g r every) m)

-- those of the hand-over itself
passed : (g r : ℕ) (cs : ℕ → Bool) (x : Change) → x.holder ≡ g → cs x.cell ≡ true → pass g r cs x ≡ given r x
passed g r cs x h c = rw (and_i _ _ (eq-eqb x.holder g h) c)

rows-hand : (b : Book) (k : Call) (g r c : ℕ) (x : Change) → (k ≡ Call.hand_over g r c) ⊎ (k ≡ Call.hand_over_all g r) → x.holder ≡ g → x.cell ≡ c
    → Logged (rows_of b) x
    → In (given r x) (foldl after (ledger_of b) (adds b k)).changes
unfolding adds after
rows-hand b k g r c x (inl e) h q m = subst (λ (j : Call). In (given r x) (foldl after (ledger_of b) (adds b j)).changes) (sym e)
    (Memᴰ.cast (sym (passed g r (only c) x h (eq-eqb x.cell c q))) (Memᴰ.map (pass g r (only c)) m))
rows-hand b k g r c x (inr e) h q m = subst (λ (j : Call). In (given r x) (foldl after (ledger_of b) (adds b j)).changes) (sym e)
    (Memᴰ.cast (sym (passed g r every x h refl)) (Memᴰ.map (pass g r every) m))

-- ── A call by the book ────────────────────────────────────────────────────────────────────────────────────────────────

-- the book is closed, or the change is logged or waits
data Stays (y : Change) (b : Book) : Type 0 where
  shut : b.is_open ≡ false → Stays y b
  held : Logged (rows_of b) y → Stays y b

-- the book after an accepted call, if its rows leave the change where the power holds
through-leaves : (b : Book) (k : Call) (y : Change) → Sound b → ((through b k).is_open ≡ true → In y (foldl after (ledger_of b) (adds b k)).changes)
    → Stays y (through b k)
through-leaves b k y s m = go (through b k).is_open refl
  where
    go : (t : Bool) → (through b k).is_open ≡ t → Stays y (through b k)
    go true o = held (subst (λ (rs : List Row). Logged rs y) (sym ((extends-through b k s.shut).rows o))
        (subst (λ (l : Ledger). In y l.changes) (sym (ledger-append (rows_of b) (adds b k))) (m o)))
    go false o = shut o

module _ (cells : ℕ → ℤ) where
  -- an accepted call, by the power
  abbrev number-of : Outcome → ℕ
  number-of o = o.answer.number

  done-open : (b : Book) (k : Call) (o : Outcome) → o ≡ ended (value cells b k) (through b k) → (through b k).is_open ≡ true → number-of o ≡ 0
  done-open b k o e runs = ap number-of e ∙ ap (λ (a : Answer). a.number) (ended-done (value cells b k) (through b k) runs)

  book-of : (b : Book) (k : Call) (o : Outcome) → o ≡ ended (value cells b k) (through b k) → o.book ≡ through b k
  book-of b k o e = ap (λ (x : Outcome). x.book) e ∙ ended-book (value cells b k) (through b k)

  -- a call that hands nothing of it on where it is done
  call-leaves : (b : Book) (lengths : Bool) (k : Call) (y : Change) → Sound b
      → (number-of (call cells b lengths k) ≡ 0 → gives y.holder y.cell k ≡ false)
      → Stays y b → Stays y (call cells b lengths k).book
  call-leaves b lengths k y s other = go (decided cells b lengths k)
    where
      go : Decided cells b lengths k (call cells b lengths k) → Stays y b → Stays y (call cells b lengths k).book
      go (refuses n e) st = subst (λ (o : Outcome). Stays y o.book) (sym e) st
      go (accepts l o r e) (shut c) = clash b.is_open o c
      go (accepts l o r e) (held m) = subst (Stays y) (sym (book-of b k (call cells b lengths k) e))
          (through-leaves b k y s (λ runs. rows-keep b k y (other (done-open b k (call cells b lengths k) e runs)) m))

  -- the hand-over itself
  hand-leaves : (b : Book) (lengths : Bool) (k : Call) (g r c : ℕ) (x : Change) → Sound b → (k ≡ Call.hand_over g r c) ⊎ (k ≡ Call.hand_over_all g r)
      → x.holder ≡ g → x.cell ≡ c → Logged (rows_of b) x → number-of (call cells b lengths k) ≡ 0 → Stays (given r x) (call cells b lengths k).book
  hand-leaves b lengths k g r c x s hands h q m done = go (decided cells b lengths k)
    where
      go : Decided cells b lengths k (call cells b lengths k) → Stays (given r x) (call cells b lengths k).book
      go (refuses n e) = let z : suc n ≡ 0 = ap number-of (sym e) ∙ done in absurd (omega arith)
      go (accepts l o z e) = subst (Stays (given r x)) (sym (book-of b k (call cells b lengths k) e))
          (through-leaves b k (given r x) s (λ runs. rows-hand b k g r c x hands h q m))

  -- a call of a closed book is not done
  closed-not-done : (b : Book) (lengths : Bool) (k : Call) {X : Type 0} → b.is_open ≡ false → number-of (call cells b lengths k) ≡ 0 → X
  closed-not-done b lengths k {X} c done = go (decided cells b lengths k)
    where
      go : Decided cells b lengths k (call cells b lengths k) → X
      go (refuses n e) = let z : suc n ≡ 0 = ap number-of (sym e) ∙ done in absurd (omega arith)
      go (accepts l o z e) = clash b.is_open o c

  -- ── The steps of a session ──────────────────────────────────────────────────────────────────────────────────────────

  -- the answers after the first steps
  answers-from : (xs ys : List Step) (b : Book) → map answer_of (xs ++ ys) ≡ answers cells b (map event_of (xs ++ ys))
      → map answer_of ys ≡ answers cells (book_after cells b (map event_of xs)) (map event_of ys)
  answers-from [] ys b e = e
  answers-from (x ∷ xs) ys b e = answers-from xs ys (happens cells b (event_of x)).book (tail-eq_of_cons-eq e)

  no-first : (s t : Bool) → (s || t) ≡ false → s ≡ false
  no-first true t e = e
  no-first false t e = refl

  no-later : (s t : Bool) → (s || t) ≡ false → t ≡ false
  no-later true t e = clash true refl e
  no-later false t e = e

  not-given : (t : Bool) (n : ℕ) → (t && eqb n 0) ≡ false → n ≡ 0 → t ≡ false
  not-given true n e z = clash (eqb n 0) (eq-eqb n 0 z) e
  not-given false n e z = refl

  step-leaves : (b : Book) (s : Step) (y : Change) → Sound b → answer_of s ≡ (happens cells b (event_of s)).answer → NoStart (event_of s ∷ [])
      → gave y.holder y.cell s ≡ false → Stays y b → Stays y (happens cells b (event_of s)).book
  unfolding opening
  step-leaves b (opened o) y s a none other st =
      subst (λ (t : Bool). Stays y (opening b t o.fuse).book) (sym none.0) st
  step-leaves b (called c) y s a none other st = call-leaves b (right_lengths c.given) c.call y s
      (λ z. not-given (gives y.holder y.cell c.call) c.result.answer.number other (ap (λ (x : Answer). x.number) a ∙ z)) st

  steps-leave : (xs ys : List Step) (b : Book) (y : Change) → Sound b → TypedEvents (map event_of xs)
      → map answer_of (xs ++ ys) ≡ answers cells b (map event_of (xs ++ ys)) → NoStart (map event_of xs) → any (gave y.holder y.cell) xs ≡ false
      → Stays y b → Stays y (book_after cells b (map event_of xs))
  steps-leave [] ys b y s t a none other st = st
  steps-leave (x ∷ xs) ys b y s t a none other st =
      steps-leave xs ys (happens cells b (event_of x)).book y (sound-event cells b (event_of x) s t.0) t.1 (tail-eq_of_cons-eq a) none.1
      (no-later (gave y.holder y.cell x) _ other)
      (step-leaves b x y s (head-eq_of_cons-eq a) (none.0, tt) (no-first (gave y.holder y.cell x) _ other) st)

-- ── The whole list ────────────────────────────────────────────────────────────────────────────────────────────────────

module _ (cells : ℕ → ℤ) (own : World) (ss : List Step) (all : Holds cells own ss) (typed : TypedEvents (map event_of ss)) where
  pub survives : Survives cells ss
  survives giver receiver cell h x m holder its ys zs e =
      let y = given receiver x in
      let first = h.before in
      let c = h.hand_over in
      let d = h.commit in
      let up_to = first ++ (called c ∷ h.between) in
      let rest = called d ∷ h.later in
      let b = book_of cells first in
      let answers-all = subst (λ (l : List Step). map answer_of l ≡ answers cells formatted (map event_of l)) h.are all.answers in
      let t = typed-parts (map event_of first) (map event_of (called c ∷ (h.between ++ rest)))
      (subst TypedEvents (ap (map event_of) h.are ∙ map-append event_of first (called c ∷ (h.between ++ rest))) typed) in
      let u = typed-parts (map event_of h.between) (map event_of rest) (subst TypedEvents (map-append event_of h.between rest) t.1.1) in
      let s = sound-events cells formatted (map event_of first) sound-formatted t.0 in
      let from = answers-from cells first (called c ∷ (h.between ++ rest)) formatted answers-all in
      let given-now = hand-leaves cells b (right_lengths c.given) c.call giver receiver cell x s h.hands holder its m
      (ap (λ (a : Answer). a.number) (sym (head-eq_of_cons-eq from)) ∙ h.handed) in
      let b1 = (call cells b (right_lengths c.given) c.call).book in
      let at-commit = steps-leave cells h.between rest b1 y (sound-event cells b (event_of (called c)) s t.1.0) u.0 (tail-eq_of_cons-eq from)
      h.one_session (subst (λ (k : ℕ). any (gave receiver k) h.between ≡ false) (sym its) h.holds) given-now in
      let same : book_of cells up_to ≡ book_after cells b1 (map event_of h.between) = book-append cells formatted first (called c ∷ h.between) in
      let is : ss ≡ up_to ++ (called d ∷ (ys ++ zs)) =
      h.are ∙ ap (λ (l : List Step). first ++ (called c ∷ (h.between ++ (called d ∷ l)))) e ∙
      sym (append_assoc first (called c ∷ h.between) (called d ∷ (ys ++ zs))) in
      let answer-d = answer_at_lem cells up_to h.later (called d) formatted
      (subst (λ (l : List Step). map answer_of l ≡ answers cells formatted (map event_of l)) (sym (append_assoc first (called c ∷ h.between) rest)) answers-all) in
      subst (λ (l : List Step). InSum (log_of cells l) y) (append_assoc first (called c ∷ h.between) (called d ∷ ys))
      (ends (book_of cells up_to) y d (subst (Stays y) (sym same) at-commit) (ap (λ (a : Answer). a.number) (sym answer-d) ∙ h.committed)
      ((all.commits up_to ys zs d receiver is h.commits h.committed).sum y))
    where
      ends : (b : Book) (y : Change) (d : Called) {X : Type 0} → Stays y b → (call cells b (right_lengths d.given) d.call).answer.number ≡ 0
          → (Logged (rows_of b) y → y.holder ≡ y.holder → X) → X
      ends b y d (shut c) z f = closed-not-done cells b (right_lengths d.given) d.call c z
      ends b y d (held l) z f = f l refl

pub handed-over-survives : HandedOverSurvives
unfolding HandedOverSurvives Demand3
handed-over-survives values given format post done ss host meets =
    survives (cells_of values) format.world (steps ss) (demand-3 values given format post done ss host meets) (steps-typed format.world (steps ss) host)

pub handed-over-survives-of-calls : HandedOverSurvivesOfCalls
unfolding HandedOverSurvivesOfCalls HandedOverSurvives
handed-over-survives-of-calls format done ss host =
    handed-over-survives format.cells format.given (answered_by format.return) format.ensures.post done (map session_of ss) host (contracts ss)
