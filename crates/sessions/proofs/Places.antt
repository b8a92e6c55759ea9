-- Places in lists of events and of steps: an event beside two others that follow one another, and the book's answers and counts after the events before
-- a place.
use Prim.Native.Nat.{ℕ}
use native.Mathlib.Omega.{arith}
use mathlib.Core.Bool.{Bool, true}
use mathlib.Core.Path.{◌≡◌, refl, ap, ap₂, sym, ◌∙◌, subst}
use mathlib.Core.List.{List, [], ◌∷◌, ◌++◌, map, map-append, append-nil, head-eq_of_cons-eq, tail-eq_of_cons-eq}
use lib.ListN.{length}
use lib.IntN.{ℤ}
use Rattle.book.specs.Power.{Book, Fuse}
use Rattle.book.specs.Calls.{Call}
use Rattle.book.specs.Book.{Answer}
use Rattle.book.specs.Events.{Event, opens, calls, happens, answers, book_after}
use Rattle.book.specs.Writes.{Writes}
use Rattle.book.specs.SessionWrites.{event_writes, writes}
use Rattle.book.specs.Swapped.{Single, one_then_other}
use Rattle.book.proofs.Sound.{TypedEvents}
use Rattle.state.specs.World.{World}
use Rattle.sessions.specs.Host.{Step, opened, called, answer_of, writes_of, event_of, Host}
use Rattle.sessions.specs.Swapped.{TwoHandOvers}
use Rattle.sessions.proofs.Along.{typed}

-- ── Places in lists ─────────────────────────────────────────────────────────────────────────────────────────────────────────────

module _ {A : Type 0} where
  -- two first parts of one length are one list, and so are the rests
  pub parts : (xs ys xs' ys' : List A) → length xs ≡ length xs' → xs ++ ys ≡ xs' ++ ys' → (xs ≡ xs') × (ys ≡ ys')
  parts [] ys [] ys' n e = (refl, e)
  parts [] ys (x ∷ xs') ys' n e = absurd (omega arith)
  parts (x ∷ xs) ys [] ys' n e = absurd (omega arith)
  parts (x ∷ xs) ys (x' ∷ xs') ys' n e =
      let r = parts xs ys xs' ys' (omega arith) (tail-eq_of_cons-eq e) in (ap₂ ◌∷◌ (head-eq_of_cons-eq e) r.0, r.1)

  -- where an element stands in a list with two others next to one another
  pub data Place (before : List A) (a b : A) (later : List A) (xs : List A) (e : A) : Type 0 where
    in_before : (zs : List A) → before ≡ xs ++ (e ∷ zs) → Place before a b later xs e
    is_first : e ≡ a → Place before a b later xs e
    is_second : e ≡ b → Place before a b later xs e
    in_later : (zs ws : List A) → xs ≡ before ++ (a ∷ b ∷ zs) → later ≡ zs ++ (e ∷ ws) → Place before a b later xs e

  pub place : (before : List A) (a b : A) (later xs : List A) (e : A) (ys : List A) → before ++ (a ∷ b ∷ later) ≡ xs ++ (e ∷ ys) → Place before a b later xs e
  place [] a b later [] e ys q = is_first (sym (head-eq_of_cons-eq q))
  place [] a b later (x ∷ []) e ys q = is_second (sym (head-eq_of_cons-eq (tail-eq_of_cons-eq q)))
  place [] a b later (x ∷ y ∷ xs) e ys q = in_later xs ys
      (ap₂ ◌∷◌ (sym (head-eq_of_cons-eq q)) (ap (λ (z : A). z ∷ xs) (sym (head-eq_of_cons-eq (tail-eq_of_cons-eq q)))))
      (tail-eq_of_cons-eq (tail-eq_of_cons-eq q))
  place (z ∷ before) a b later [] e ys q = in_before before (ap (λ (x : A). x ∷ before) (head-eq_of_cons-eq q))
  place (z ∷ before) a b later (x ∷ xs) e ys q = go (place before a b later xs e ys (tail-eq_of_cons-eq q))
    where
      go : Place before a b later xs e → Place (z ∷ before) a b later (x ∷ xs) e
      go (in_before zs p) = in_before zs (ap₂ ◌∷◌ (head-eq_of_cons-eq q) p)
      go (is_first p) = is_first p
      go (is_second p) = is_second p
      go (in_later zs ws p r) = in_later zs ws (ap₂ ◌∷◌ (sym (head-eq_of_cons-eq q)) p) r

  -- the first parts, of one length, of two such lists, the one with the two in the other order
  pub data FirstParts (before : List A) (a b : A) (later xs xs' : List A) : Type 0 where
    same : xs' ≡ xs → FirstParts before a b later xs xs'
    between : xs ≡ before ++ (a ∷ []) → xs' ≡ before ++ (b ∷ []) → FirstParts before a b later xs xs'
    behind : (zs ws : List A) → later ≡ zs ++ ws → xs ≡ before ++ (a ∷ b ∷ zs) → xs' ≡ before ++ (b ∷ a ∷ zs) → FirstParts before a b later xs xs'

  pub first-parts : (before : List A) (a b : A) (later xs ys xs' ys' : List A) → length xs' ≡ length xs → before ++ (a ∷ b ∷ later) ≡ xs ++ ys
      → before ++ (b ∷ a ∷ later) ≡ xs' ++ ys'
      → FirstParts before a b later xs xs'
  first-parts before a b later [] ys [] ys' n p q = same refl
  first-parts before a b later [] ys (x' ∷ xs') ys' n p q = absurd (omega arith)
  first-parts before a b later (x ∷ xs) ys [] ys' n p q = absurd (omega arith)
  first-parts [] a b later (x ∷ []) ys (x' ∷ []) ys' n p q =
      between (ap (λ (z : A). z ∷ []) (sym (head-eq_of_cons-eq p))) (ap (λ (z : A). z ∷ []) (sym (head-eq_of_cons-eq q)))
  first-parts [] a b later (x ∷ []) ys (x' ∷ y' ∷ xs') ys' n p q = absurd (omega arith)
  first-parts [] a b later (x ∷ y ∷ xs) ys (x' ∷ []) ys' n p q = absurd (omega arith)
  first-parts [] a b later (x ∷ y ∷ xs) ys (x' ∷ y' ∷ xs') ys' n p q =
      let u = tail-eq_of_cons-eq p in
      let v = tail-eq_of_cons-eq q in
      let r = parts xs ys xs' ys' (omega arith) (sym (tail-eq_of_cons-eq u) ∙ tail-eq_of_cons-eq v) in
      behind xs ys (tail-eq_of_cons-eq u) (ap₂ (λ (w z : A). w ∷ z ∷ xs) (sym (head-eq_of_cons-eq p)) (sym (head-eq_of_cons-eq u)))
      (ap₂ (λ (w z : A). w ∷ z ∷ xs') (sym (head-eq_of_cons-eq q)) (sym (head-eq_of_cons-eq v)) ∙ ap (λ (l : List A). b ∷ a ∷ l) (sym r.0))
  first-parts (z ∷ before) a b later (x ∷ xs) ys (x' ∷ xs') ys' n p q =
      go (first-parts before a b later xs ys xs' ys' (omega arith) (tail-eq_of_cons-eq p) (tail-eq_of_cons-eq q))
    where
      go : FirstParts before a b later xs xs' → FirstParts (z ∷ before) a b later (x ∷ xs) (x' ∷ xs')
      go (same e) = same (ap₂ ◌∷◌ (sym (head-eq_of_cons-eq q) ∙ head-eq_of_cons-eq p) e)
      go (between e e') = between (ap₂ ◌∷◌ (sym (head-eq_of_cons-eq p)) e) (ap₂ ◌∷◌ (sym (head-eq_of_cons-eq q)) e')
      go (behind us vs l e e') = behind us vs l (ap₂ ◌∷◌ (sym (head-eq_of_cons-eq p)) e) (ap₂ ◌∷◌ (sym (head-eq_of_cons-eq q)) e')

-- ── The book along a list ─────────────────────────────────────────────────────────────────────────────────────────────

module _ (cells : ℕ → ℤ) where
  -- what comes after the first events
  pub answers-then : (xs ys zs : List Event) (b : Book) → answers cells (book_after cells b xs) ys ≡ answers cells (book_after cells b xs) zs
      → answers cells b (xs ++ ys) ≡ answers cells b (xs ++ zs)
  answers-then [] ys zs b e = e
  answers-then (x ∷ xs) ys zs b e = ap (λ (r : List Answer). (happens cells b x).answer ∷ r) (answers-then xs ys zs (happens cells b x).book e)

  pub writes_then : (xs ys zs : List Event) (b : Book) → writes cells (book_after cells b xs) ys ≡ writes cells (book_after cells b xs) zs
      → writes cells b (xs ++ ys) ≡ writes cells b (xs ++ zs)
  writes_then [] ys zs b e = e
  writes_then (x ∷ xs) ys zs b e = ap (λ (r : List Writes). event_writes cells b x ∷ r) (writes_then xs ys zs (happens cells b x).book e)

  -- the answer of a step, where each answer is the book's
  pub answer_at_lem : (xs ys : List Step) (s : Step) (b : Book) → map answer_of (xs ++ (s ∷ ys)) ≡ answers cells b (map event_of (xs ++ (s ∷ ys)))
      → answer_of s ≡ (happens cells (book_after cells b (map event_of xs)) (event_of s)).answer
  answer_at_lem [] ys s b e = head-eq_of_cons-eq e
  answer_at_lem (x ∷ xs) ys s b e = answer_at_lem xs ys s (happens cells b (event_of x)).book (tail-eq_of_cons-eq e)

  -- and so its counts
  pub writes_at : (xs ys : List Step) (s : Step) (b : Book) → map writes_of (xs ++ (s ∷ ys)) ≡ writes cells b (map event_of (xs ++ (s ∷ ys)))
      → writes_of s ≡ event_writes cells (book_after cells b (map event_of xs)) (event_of s)
  writes_at [] ys s b e = head-eq_of_cons-eq e
  writes_at (x ∷ xs) ys s b e = writes_at xs ys s (happens cells b (event_of x)).book (tail-eq_of_cons-eq e)

  -- and the answers of two steps that follow one another
  pub answers-of-two : (xs ys : List Step) (s t : Step) (b : Book)
      → map answer_of (xs ++ (s ∷ t ∷ ys)) ≡ answers cells b (map event_of (xs ++ (s ∷ t ∷ ys)))
      → (answer_of s ≡ (happens cells (book_after cells b (map event_of xs)) (event_of s)).answer) ×
      (answer_of t ≡ (happens cells (happens cells (book_after cells b (map event_of xs)) (event_of s)).book (event_of t)).answer)
  answers-of-two [] ys s t b e = (head-eq_of_cons-eq e, head-eq_of_cons-eq (tail-eq_of_cons-eq e))
  answers-of-two (x ∷ xs) ys s t b e = answers-of-two xs ys s t (happens cells b (event_of x)).book (tail-eq_of_cons-eq e)

-- the answers at one place of two lists
pub answers_at : (xs ys xs' ys' : List Step) (s s' : Step) → length xs' ≡ length xs → map answer_of (xs' ++ (s' ∷ ys')) ≡ map answer_of (xs ++ (s ∷ ys))
    → answer_of s' ≡ answer_of s
answers_at [] ys [] ys' s s' n e = head-eq_of_cons-eq e
answers_at [] ys (x ∷ xs') ys' s s' n e = absurd (omega arith)
answers_at (x ∷ xs) ys [] ys' s s' n e = absurd (omega arith)
answers_at (x ∷ xs) ys (x' ∷ xs') ys' s s' n e = answers_at xs ys xs' ys' s s' (omega arith) (tail-eq_of_cons-eq e)

-- ── Steps by their events ─────────────────────────────────────────────────────────────────────────────────────────────

pub no-events : {x : Event} {xs : List Event} {X : Type 0} → Path (List Event) [] (x ∷ xs) → X
no-events e = let z : ◌≡◌ {A = ℕ} 0 1 = cc e in absurd (omega arith)

pub no-opening : {l l' : Bool} {f : Fuse} {k : Call} {X : Type 0} → Path Event (opens l f) (calls l' k) → X
no-opening e = let z : ◌≡◌ {A = ℕ} 0 1 = cc e in absurd (omega arith)

-- the events of steps with two hand-overs that follow one another
pub events-of-two : (before : List Event) (h k : Single) (later : List Event) (ss : List Step) → TwoHandOvers before h k later ss
    → map event_of ss ≡ before ++ one_then_other h k later
events-of-two before h k later ss w =
    ap (map event_of) w.are ∙ map-append event_of w.xs (called w.c ∷ called w.d ∷ w.ys) ∙
    ap₂ ◌++◌ w.events_before (ap₂ ◌∷◌ w.one (ap₂ ◌∷◌ w.other w.events_later))

-- and the steps of such events
pub two-hand-overs : (before : List Event) (h k : Single) (later : List Event) (ss : List Step) → map event_of ss ≡ before ++ one_then_other h k later
    → TwoHandOvers before h k later ss
two-hand-overs [] h k later [] e = no-events e
two-hand-overs [] h k later (opened o ∷ ss) e = no-opening (head-eq_of_cons-eq e)
two-hand-overs [] h k later (called c ∷ []) e = no-events (tail-eq_of_cons-eq e)
two-hand-overs [] h k later (called c ∷ opened o ∷ ss) e = no-opening (head-eq_of_cons-eq (tail-eq_of_cons-eq e))
two-hand-overs [] h k later (called c ∷ called d ∷ ss) e = record {
  xs = [];
  c = c;
  d = d;
  ys = ss;
  are = refl;
  events_before = refl;
  one = head-eq_of_cons-eq e;
  other = head-eq_of_cons-eq (tail-eq_of_cons-eq e);
  events_later = tail-eq_of_cons-eq (tail-eq_of_cons-eq e);
}
two-hand-overs (x ∷ before) h k later [] e = no-events e
two-hand-overs (x ∷ before) h k later (s ∷ ss) e =
    let r = two-hand-overs before h k later ss (tail-eq_of_cons-eq e) in
    record {
      xs = s ∷ r.xs;
      c = r.c;
      d = r.d;
      ys = r.ys;
      are = ap (λ (l : List Step). s ∷ l) r.are;
      events_before = ap₂ ◌∷◌ (head-eq_of_cons-eq e) r.events_before;
      one = r.one;
      other = r.other;
      events_later = r.events_later;
    }

pub typed-parts : (xs ys : List Event) → TypedEvents (xs ++ ys) → TypedEvents xs × TypedEvents ys
typed-parts [] ys t = (tt, t)
typed-parts (x ∷ xs) ys t = let r = typed-parts xs ys t.1 in ((t.0, r.0), r.1)

pub typed-join : (xs ys : List Event) → TypedEvents xs → TypedEvents ys → TypedEvents (xs ++ ys)
typed-join [] ys t u = u
typed-join (x ∷ xs) ys t u = (t.0, typed-join xs ys t.1 u)

pub steps-typed : (own : World) (ss : List Step) → Host own true ss → TypedEvents (map event_of ss)
steps-typed own ss host = typed own true ss [] (subst (Host own true) (sym (append-nil ss)) host)
