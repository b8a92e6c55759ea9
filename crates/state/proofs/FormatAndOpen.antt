-- Format at its limits, and what format and open look at first (document 01, "Refusals by place"). All hold by computing.
use Prim.Native.Nat.{ℕ}
use mathlib.Core.Path.{◌≡◌, refl}
use mathlib.Core.Bool.{true}
use mathlib.Core.List.{List, [], ◌∷◌, map}
use lib.ListN.{replicate, set}
use lib.IntN.{ℤ, pos, negsuc}
use Rattle.book.specs.Power.{none, left}
use Rattle.book.specs.Book.{answer}
use Rattle.state.specs.World.{World, right_lengths, fuse_of_number, cleared}
use Rattle.state.specs.CallContracts.{answered, bad_cell, formats, opens}

-- z in cell c, 0 in the other 223
abbrev one_value : ℕ → ℤ → List ℤ
one_value c z = set (replicate 224 (pos 0)) c z

-- ── Format: 1, 2 ──────────────────────────────────────────────────────────────────────────────────────────────────────

-- 01: "a cell beyond ±1,000,000", in the first cell and in the last; 224 where there is none
pub highest-value : bad_cell (one_value 0 (pos 1000000)) ≡ 224
highest-value = refl

pub lowest-value : bad_cell (one_value 223 (negsuc 999999)) ≡ 224
lowest-value = refl

pub too-high-value : bad_cell (one_value 0 (pos 1000001)) ≡ 0
too-high-value = refl

pub too-low-value : bad_cell (one_value 223 (negsuc 1000000)) ≡ 223
too-low-value = refl

-- any world with the right lengths
module _ (w : World) (right : right_lengths w ≡ true) where
  pub format-done : (formats (one_value 5 (pos 1000000)) w).answer ≡ answer 0 (pos 0)
  unfolding formats
  format-done = rw right refl

  -- 01: "gives the first such cell", and a refused call changes nothing
  pub format-gives-cell : formats (set (one_value 200 (pos 2000000)) 5 (pos 2000000)) w ≡ answered 2 (pos 5) w
  unfolding formats
  format-gives-cell = rw right refl

-- 1 before 2: the log has no bytes, and the first value is beyond
pub format-1-before-2 : formats (one_value 0 (pos 2000000)) (cleared [] []) ≡ answered 1 (pos 0) (cleared [] [])
unfolding formats
format-1-before-2 = refl

-- ── Open: 1, then 3, 16 or 17, 4, 5 (all but the first in the book's TwoViolations) ───────────────────────────────────

-- 1 before 3: the log has one byte, and that is of no kind
pub open-1-before-3 : opens none (cleared (7 ∷ []) []) ≡ answered 1 (pos 0) (cleared (7 ∷ []) [])
unfolding opens
open-1-before-3 = refl

-- 01: "4294967295 is none"; every other number is that many writes
pub fuse-numbers : map fuse_of_number (0 ∷ 4294967294 ∷ 4294967295 ∷ []) ≡ left 0 ∷ left 4294967294 ∷ none ∷ []
fuse-numbers = refl
