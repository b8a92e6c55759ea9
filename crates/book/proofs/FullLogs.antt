-- Logs with hardly a free row, for the worked examples. One change is handed to and fro between two visits some two thousand times: what the rows come
-- to, and that they are allowed, is shown by induction, so that an example need not compute them.
use Prim.Native.Nat.{ℕ, zero, suc, ◌+◌, ◌-◌, ◌≤◌}
use native.Mathlib.Omega.{arith}
use mathlib.Core.Path.{◌≡◌, refl, ap, ◌∙◌}
use mathlib.Core.Bool.{true}
use mathlib.Core.List.{List, [], ◌∷◌, ◌++◌}
use lib.ListN.{length}
use lib.IntN.{pos}
use borrow.Author.Tests.{le-leb}
use Rattle.book.specs.Lists.{foldl, member, tabulate}
use Rattle.book.specs.Limits.{row_limit}
use Rattle.book.specs.Rows.{Row, fits}
use Rattle.book.specs.Ledger.{Change, Ledger, empty, after, ledger}
use Rattle.book.specs.Rules.{reserve, lawful, within_limits, allowed, all_allowed, allowed_log}
use Rattle.book.proofs.Lists.{and_i}
use Rattle.book.proofs.Logs.{allowed-append, ledger-append}
use Rattle.book.proofs.WorkedExamples.{computes, visits}

-- ── To and fro ────────────────────────────────────────────────────────────────────────────────────────────────────────

abbrev there : Row
there = Row.hand_over 1 2 0

abbrev back : Row
back = Row.hand_over 2 1 0

unfoldable pub to_and_fro : ℕ → List Row
to_and_fro zero = []
to_and_fro (suc n) = there ∷ back ∷ to_and_fro n

-- k visits, a change of cell 0 by the first, handed over and back
abbrev start : ℕ → List Row
start k = visits k ++ (Row.change 1 0 (pos 1) ∷ there ∷ back ∷ [])

-- what k visits and such rows come to, n in all: these visits are active, and visit h holds the change
abbrev one_change : ℕ → List ℕ → ℕ → ℕ → Ledger
one_change k active n h =
    let x : Change = record { row = suc k; maker = 1; cell = 0; amount = pos 1; holder = h; handed = true; scope = suc k } in
    record { rows = n; begun = k; active = active; committed = []; undoing = []; undone = []; changes = x ∷ [] }

module _ (k : ℕ) (active : List ℕ) where
  to-and-fro : (n i : ℕ) → foldl after (one_change k active i 1) (to_and_fro n) ≡ one_change k active (n + n + i) 1
  unfolding to_and_fro after
  to-and-fro zero i = ap (λ (m : ℕ). one_change k active m 1) (omega arith)
  to-and-fro (suc n) i = to-and-fro n (suc (suc i)) ∙ ap (λ (m : ℕ). one_change k active m 1) (omega arith)

  module _ (one : member 1 active ≡ true) (two : member 2 active ≡ true) where
    there-allowed : (i : ℕ) → suc (i + length active + 1) ≤ row_limit → allowed (one_change k active i 1) there ≡ true
    unfolding allowed fits lawful within_limits reserve
    there-allowed i h = rw (one, two, le-leb (length active + 1 + 1) (row_limit - i) (omega arith))

    back-allowed : (i : ℕ) → suc (i + length active + 1) ≤ row_limit → allowed (one_change k active i 2) back ≡ true
    unfolding allowed fits lawful within_limits reserve
    back-allowed i h = rw (one, two, le-leb (length active + 1 + 1) (row_limit - i) (omega arith))

    -- as long as the free rows are at least the reserve
    to-and-fro-allowed : (n i : ℕ) → n + n + i + length active + 1 ≤ row_limit → all_allowed (one_change k active i 1) (to_and_fro n) ≡ true
    unfolding to_and_fro after
    to-and-fro-allowed zero i h = refl
    to-and-fro-allowed (suc n) i h =
        and_i _ _ (there-allowed i (omega arith)) (and_i _ _ (back-allowed (suc i) (omega arith)) (to-and-fro-allowed n (suc (suc i)) (omega arith)))

-- a log is allowed if its first part is, and the rest after what that comes to
allowed-both : {l : Ledger} (xs ys : List Row) → allowed_log xs ≡ true → ledger xs ≡ l → all_allowed l ys ≡ true → allowed_log (xs ++ ys) ≡ true
allowed-both xs ys a e b = allowed-append empty xs ys ∙ and_i _ _ a (rw e b)

-- the visits and the change first, then n times to and fro
unfoldable pub filled : ℕ → ℕ → List Row
filled k n = start k ++ to_and_fro n

module _ (k i : ℕ) (active : List ℕ) (e : ledger (start k) ≡ one_change k active i 1) where
  filled-comes : (n : ℕ) → ledger (filled k n) ≡ one_change k active (n + n + i) 1
  unfolding filled
  filled-comes n = ledger-append (start k) (to_and_fro n) ∙ ap (λ (l : Ledger). foldl after l (to_and_fro n)) e ∙ to-and-fro k active n i

  filled-allowed : allowed_log (start k) ≡ true → member 1 active ≡ true → member 2 active ≡ true → (n : ℕ) → n + n + i + length active + 1 ≤ row_limit
      → allowed_log (filled k n) ≡ true
  unfolding filled
  filled-allowed a one two n h = allowed-both (start k) (to_and_fro n) a e (to-and-fro-allowed k active one two n i h)

-- ── Two visits ────────────────────────────────────────────────────────────────────────────────────────────────────────

-- what so many rows of two visits come to, and which of the two holds the change
abbrev two_visits : ℕ → ℕ → Ledger
two_visits n h = one_change 2 (2 ∷ 1 ∷ []) n h

two_started : ledger (start 2) ≡ two_visits 5 1
unfolding after
two_started = refl

two-come : (n : ℕ) → ledger (filled 2 n) ≡ two_visits (n + n + 5) 1
two-come = filled-comes 2 5 (2 ∷ 1 ∷ []) two_started

two-allowed : (n : ℕ) → n + n + 8 ≤ row_limit → allowed_log (filled 2 n) ≡ true
unfolding computes
two-allowed n h = filled-allowed 2 5 (2 ∷ 1 ∷ []) two_started refl refl refl n (omega arith)

-- Two visits are active and one change is open, so the reserve is 3.
unfoldable pub rows4091 : List Row
rows4091 = filled 2 2043

unfoldable pub rows4092 : List Row
rows4092 = rows4091 ++ (there ∷ [])

unfoldable pub rows4093 : List Row
rows4093 = rows4092 ++ (back ∷ [])

-- The three rows of the reserve take the change back and end both visits: all 4,096 rows are used.
unfoldable pub rows4096 : List Row
rows4096 = rows4093 ++ (Row.undo 1 0 3 (pos 1) ∷ Row.abort 2 ∷ Row.abort 1 ∷ [])

pub comes-4091 : ledger rows4091 ≡ two_visits 4091 1
unfolding rows4091
comes-4091 = two-come 2043

pub comes-4092 : ledger rows4092 ≡ two_visits 4092 2
unfolding rows4092 after
comes-4092 = ledger-append rows4091 (there ∷ []) ∙ rw comes-4091 refl

pub comes-4093 : ledger rows4093 ≡ two_visits 4093 1
unfolding rows4093 after
comes-4093 = ledger-append rows4092 (back ∷ []) ∙ rw comes-4092 refl

-- they are allowed, and so are all of their first parts (Logs, allowed-start)
pub allowed-4096 : allowed_log rows4096 ≡ true
unfolding computes rows4091 rows4092 rows4093 rows4096
allowed-4096 =
    allowed-both rows4093 _ (allowed-both rows4092 _ (allowed-both rows4091 _ (two-allowed 2043 (omega arith)) comes-4091 refl) comes-4092 refl) comes-4093 refl

-- ── Sixteen visits ────────────────────────────────────────────────────────────────────────────────────────────────────

-- Sixteen visits are active and one change is open: the reserve is 17, and as many rows are free.
unfoldable pub sixteen_visits : List Row
sixteen_visits = filled 16 2030

abbrev sixteen_active : List ℕ
sixteen_active = (ledger (visits 16)).active

sixteen-started : ledger (start 16) ≡ one_change 16 sixteen_active 19 1
unfolding after
sixteen-started = refl

pub comes-sixteen : ledger sixteen_visits ≡ one_change 16 sixteen_active 4079 1
unfolding sixteen_visits
comes-sixteen = filled-comes 16 19 sixteen_active sixteen-started 2030

pub allowed-sixteen : allowed_log sixteen_visits ≡ true
unfolding computes sixteen_visits
allowed-sixteen = filled-allowed 16 19 sixteen_active sixteen-started refl refl refl 2030 (omega arith)

-- ── 64 scopes ─────────────────────────────────────────────────────────────────────────────────────────────────────────

-- changes of 63 cells more: with that of cell 0, 64 scopes are in use
abbrev more_scopes : List Row
more_scopes = tabulate 63 1 (λ c. Row.change 1 c (pos 1))

-- Two visits are active and 64 changes are open: the reserve is 66, and as many rows are free.
unfoldable pub scopes_used_up : List Row
scopes_used_up = filled 2 1981 ++ more_scopes

pub allowed-scopes : allowed_log scopes_used_up ≡ true
unfolding computes scopes_used_up
allowed-scopes = allowed-both (filled 2 1981) more_scopes (two-allowed 1981 (omega arith)) (two-come 1981) refl
