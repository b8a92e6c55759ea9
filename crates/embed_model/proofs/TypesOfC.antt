-- The types of the functions for C (specs/EveryList) at the ends of their ranges: the last number that C can hand over, and the first that it cannot.
use Prim.Native.Nat.{ℕ, ◌≤◌}
use native.Mathlib.Omega.{arith}
use mathlib.Core.Bool.{true}
use mathlib.Core.Path.{◌≡◌, refl, subst}
use mathlib.Core.List.{List, [], ◌∷◌, ◌++◌, map}
use lib.IntN.{ℤ, pos, negsuc}
use borrow.Author.Tests.{le-leb}
use Rattle.book.specs.Calls.{Call}
use Rattle.book.specs.Power.{none, left}
use Rattle.book.specs.Events.{Event}
use Rattle.state.specs.World.{fuse_of_number}
use Rattle.embed_model.specs.Arrays.{Arrays, arrays}
use Rattle.embed_model.specs.Host.{OpeningMade, CallMade, StepMade, opens, calls, steps_made}
use Rattle.embed_model.specs.EveryList.{Below, ArraysOfC, FuseOfC, CallOfC, MadeOfC, StepOfC, StepsOfC, EventsOfC, SessionsOfC}

-- ── Calls ─────────────────────────────────────────────────────────────────────────────────────────────────────────────

-- C has each of these calls
abbrev OfC : List Call → Type 0
OfC ks = EventsOfC (map (Event.calls true) ks)

-- every call, with these visits, this cell or page, and this amount
abbrev every : ℕ → ℕ → ℕ → ℤ → List Call
every v w c a =
    Call.begin ∷ Call.change v c a ∷ Call.hand_over v w c ∷ Call.commit v ∷ Call.abort v ∷ Call.force ∷ Call.flush c ∷ Call.read c ∷ Call.hand_over_all v w ∷ []

pub highest-arguments : OfC (every 65535 65535 255 (pos 32767))
highest-arguments = omega arith

pub lowest-arguments : OfC (every 0 0 0 (negsuc 32767))
lowest-arguments = omega arith

-- and all between: visits of 16 bits, cells and pages of 8, amounts from -32,768 to 32,767
pub visits-of-c : (v w : ℕ) → v ≤ 65535 → w ≤ 65535 →
    OfC (Call.change v 0 (pos 0) ∷ Call.hand_over v w 0 ∷ Call.commit v ∷ Call.abort v ∷ Call.hand_over_all v w ∷ [])
visits-of-c v w p q = omega arith

pub cells-of-c : (c : ℕ) → c ≤ 255 → OfC (Call.change 0 c (pos 0) ∷ Call.hand_over 0 0 c ∷ Call.read c ∷ [])
cells-of-c c p = omega arith

pub pages-of-c : (p : ℕ) → p ≤ 255 → OfC (Call.flush p ∷ [])
pages-of-c p q = omega arith

pub ends-of-amounts : OfC (Call.change 0 0 (pos 32767) ∷ Call.change 0 0 (negsuc 32767) ∷ [])
ends-of-amounts = omega arith

pub amounts-of-c : (a : ℕ) → a ≤ 32767 → OfC (Call.change 0 0 (pos a) ∷ Call.change 0 0 (negsuc a) ∷ [])
amounts-of-c a p = rw (le-leb a 32767 p) (omega arith)

-- C has no such call
abbrev NotOfC : List Call → Type 0
NotOfC [] = Unit {0}
NotOfC (k ∷ ks) = (CallOfC k → ⊥) × NotOfC ks

pub visits-end : NotOfC
    (Call.change 65536 0 (pos 0) ∷ Call.hand_over 65536 0 0 ∷ Call.hand_over 0 65536 0 ∷ Call.commit 65536 ∷ Call.abort 65536 ∷ Call.hand_over_all 65536 0 ∷
    Call.hand_over_all 0 65536 ∷ [])
visits-end = omega arith

pub cells-end : NotOfC (Call.change 0 256 (pos 0) ∷ Call.hand_over 0 0 256 ∷ Call.flush 256 ∷ Call.read 256 ∷ [])
cells-end = omega arith

pub amounts-end : NotOfC (Call.change 0 0 (pos 32768) ∷ Call.change 0 0 (negsuc 32768) ∷ [])
amounts-end = ((λ t. t.2), ((λ t. t.2), tt))

-- ── Fuses ─────────────────────────────────────────────────────────────────────────────────────────────────────────────

pub highest-fuse : FuseOfC (left 4294967294) × FuseOfC none × (FuseOfC (left 4294967295) → ⊥)
highest-fuse = (omega arith, tt, λ t. omega arith)

pub all-fuses : (n : ℕ) → n ≤ 4294967294 → FuseOfC (left n)
all-fuses n h = omega arith

-- the number of 32 bits that each is handed over as
pub fuses-by-number : (fuse_of_number 4294967294 ≡ left 4294967294) × (fuse_of_number 4294967295 ≡ none) × (fuse_of_number 0 ≡ left 0)
fuses-by-number = (refl, refl, refl)

-- ── Arrays ────────────────────────────────────────────────────────────────────────────────────────────────────────────

-- arrays of one number each
abbrev single : ℕ → ℕ → ℕ → ℕ → ℕ → ℕ → ℕ → Arrays
single head visits scopes tail copy log charts =
    arrays (head ∷ []) (visits ∷ []) (scopes ∷ []) (tail ∷ []) (copy ∷ []) (log ∷ []) (charts ∷ [])

pub highest-numbers : ArraysOfC (single 4294967295 65535 65535 255 255 255 255)
unfolding Below
highest-numbers =
    record { head = omega arith; visits = omega arith; scopes = omega arith; tail = omega arith; copy = omega arith; log = omega arith; charts = omega arith }

-- no array has a higher one
pub numbers-end : (head visits scopes tail copy log charts : ℕ) → ArraysOfC (single head visits scopes tail copy log charts)
    → (head ≤ 4294967295) × (visits ≤ 65535) × (scopes ≤ 65535) × (tail ≤ 255) × (copy ≤ 255) × (log ≤ 255) × (charts ≤ 255)
unfolding Below
numbers-end head visits scopes tail copy log charts t = omega arith

-- what a function is lent, the number of 64 bits that it gives back, and what it leaves
pub made-of-c : (x : Arrays) (r : ℕ) (y : Arrays) → MadeOfC x r y → ArraysOfC x × (r ≤ 18446744073709551615) × ArraysOfC y
made-of-c x r y m = (m.given, omega arith, m.leaves)

-- an opening's fuse has 32 bits
pub opening-of-c : (o : OpeningMade) → StepOfC (opens o) → (o.fuse ≤ 4294967295) × MadeOfC o.given o.number o.leaves
opening-of-c o t = (omega arith, t.1)

pub call-of-c : (c : CallMade) → StepOfC (calls c) → CallOfC c.call × MadeOfC c.given c.number c.leaves
call-of-c c t = t

-- of any step of the sessions that `EveryListOfC` gives
pub each-step-of-c : (own : Arrays) (es : List Event) (l : SessionsOfC own es) (xs ys : List StepMade) (s : StepMade)
    → steps_made l.sessions ≡ xs ++ (s ∷ ys) → StepOfC s
each-step-of-c own es l xs ys s e = go xs (subst StepsOfC e l.typed)
  where
    go : (xs : List StepMade) → StepsOfC (xs ++ (s ∷ ys)) → StepOfC s
    go [] t = t.0
    go (x ∷ xs) t = go xs t.1
