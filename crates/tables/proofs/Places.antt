-- The flat visits and their places: how many there are, what stands at each, and what two stores to one of them do. Assumes nothing.
use Rattle.std.proofs.Common.{◌≡◌, ℕ, ◌+◌, ◌*◌, ◌<◌, Bool, ◌≢◌, List, ◌++◌, ◌≤◌, length, get_or, set, take, replicate, ◌∙◌, zero-add, add-zero, arith, length-set, get_or-set_other, get_or-set_same}
use Rattle.tables_model.specs.Entries.{flag}
use Rattle.tables_model.specs.Layout.{active_at, actives}
use Rattle.tables_model.specs.Meaning.{vacant}
use Rattle.tables.proofs.Flat.{tabulate-length, tabulate-at, tabulate-set, places-cut, cleared, handed-back}
use Rattle.book.specs.Lists.{pad_to}

pub actives-length : (vs : List ℕ) → length (actives vs) ≡ 16
unfolding actives
actives-length vs = tabulate-length 16 0 (active_at vs)

pub actives-at : (vs : List ℕ) (i : ℕ) → i < 16 → get_or (actives vs) i vacant ≡ active_at vs i
unfolding actives
actives-at vs i h = tabulate-at 16 0 i (active_at vs) vacant h ∙ rw zero-add

-- what a function that reads places goes by
pub ruleset places_read = (actives-at, actives-length)

pub actives-zero : (n : ℕ) → n ≡ 32 → actives (replicate n 0) ≡ replicate 16 vacant
unfolding actives
actives-zero n e = rw e

-- where all numbers from place k on are 0, the places from k on are vacant
pub actives-cut : (vs : List ℕ) (k n : ℕ) → k ≤ 16 → length vs ≡ 32 → actives (take (2 * k) vs ++ replicate n 0) ≡ pad_to 16 vacant (take k (actives vs))
unfolding actives
actives-cut = places-cut active_at vacant 2 16 (λ t u i h. rw (rw add-zero at (h 0 (omega arith)), h 1 (omega arith))) (λ t i h. rw (rw add-zero at (h 0), h 1))

-- what a function that vacates the rest of the places goes by
pub ruleset places_cleared = (cleared, actives-cut)

-- two numbers set, the second behind the first
abbrev pub pair : List ℕ → ℕ → ℕ → ℕ → List ℕ
pair vs a x y = set (set vs a x) (a + 1) y

pair-here : (vs : List ℕ) (i x : ℕ) (b : Bool) → 2 * i + 1 < length vs → active_at (pair vs (2 * i) x (flag b)) i ≡ record { visit = record { 0 = x }; bears = b }
pair-here vs i x b w =
    let first : get_or (pair vs (2 * i) x (flag b)) (2 * i) 0 ≡ x = get_or-set_other (set vs (2 * i) x) (2 * i + 1) (2 * i) (flag b) 0 (λ e. omega arith) ∙ get_or-set_same vs (2 * i) x 0 (omega arith) in
    let second : get_or (pair vs (2 * i) x (flag b)) (2 * i + 1) 0 ≡ flag b = get_or-set_same (set vs (2 * i) x) (2 * i + 1) (flag b) 0 (simp length-set w) in
    rw (first, second, handed-back b)

pair-away : (vs : List ℕ) (i j x y : ℕ) → j ≢ i → active_at (pair vs (2 * i) x y) j ≡ active_at vs j
pair-away vs i j x y h =
    let first : get_or (pair vs (2 * i) x y) (2 * j) 0 ≡ get_or vs (2 * j) 0 =
    get_or-set_other (set vs (2 * i) x) (2 * i + 1) (2 * j) y 0 (λ e. h (omega arith)) ∙ get_or-set_other vs (2 * i) (2 * j) x 0 (λ e. h (omega arith)) in
    let second : get_or (pair vs (2 * i) x y) (2 * j + 1) 0 ≡ get_or vs (2 * j + 1) 0 =
    get_or-set_other (set vs (2 * i) x) (2 * i + 1) (2 * j + 1) y 0 (λ e. h (omega arith)) ∙ get_or-set_other vs (2 * i) (2 * j + 1) x 0 (λ e. h (omega arith)) in
    rw (first, second)

-- the visits after the two stores
pub pair_set : (vs : List ℕ) (i x : ℕ) (b : Bool) → i < 16 → length vs ≡ 32
    → actives (pair vs (2 * i) x (flag b)) ≡ set (actives vs) i (record { visit = record { 0 = x }; bears = b })
unfolding actives
pair_set vs i x b w z =
    let p = pair vs (2 * i) x (flag b) in
    let k : 0 + i ≡ i = omega arith in
    tabulate-set 16 0 i (active_at p) (active_at vs) w (λ j e. pair-away vs i j x (flag b) (λ q. e (omega arith))) ∙ rw (k, pair-here vs i x b (omega arith))
