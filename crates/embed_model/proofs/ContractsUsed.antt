-- Each clause of the contracts of the functions for C (specs/Called, specs/PageOfC), at arrays that a function is lent and numbers that it gives back:
-- what it says of them. A clause that says less is refused here.
use Prim.Native.Nat.{ℕ}
use native.Mathlib.Omega.{arith}
use mathlib.Core.Bool.{true}
use mathlib.Core.Path.{◌≡◌, refl, ap, sym, ◌∙◌}
use mathlib.Core.Logic.{◌≢◌}
use mathlib.Core.List.{List, [], ◌∷◌}
use lib.ListN.{length, get_or, replicate}
use lib.IntN.{pos}
use Rattle.book.specs.Rows.{Row}
use Rattle.book.specs.Calls.{Call}
use Rattle.book.specs.Book.{Answer, answer, done, refused_by}
use Rattle.book.specs.Writes.{no_writes}
use Rattle.book.specs.LogBytes.{log_bytes}
use Rattle.book.proofs.Lists.{clash}
use Rattle.book.proofs.LogBytes.{log-long, log-good}
use Rattle.book.proofs.WorkedExamples.{computes}
use Rattle.state.specs.World.{right_lengths, fuse_of_number}
use Rattle.state.specs.CallContracts.{Answered, formats}
use Rattle.state.proofs.OpenedStores.{opens-refused}
use Rattle.recovery_model.specs.PageAlone.{RedoneAlone, redone_alone, PageAlone}
use Rattle.recovery_model.proofs.PageAlone.{page-alone}
use Rattle.embed_model.specs.Arrays.{Arrays, arrays, world_in, RamLengths, Zero}
use Rattle.embed_model.specs.Packed.{answer_in, writes_in}
use Rattle.embed_model.specs.Called.{FormatsOfC, OpensOfC, CallsOfC}
use Rattle.embed_model.specs.PageOfC.{RedoesOfC}

-- ── RAM ───────────────────────────────────────────────────────────────────────────────────────────────────────────────

-- the five arrays of RAM have these lengths
abbrev HasLengths : Arrays → Type 0
HasLengths x =
    (length x.head ≡ 8) × (length x.visits ≡ 32) × (length x.scopes ≡ 448) × (length x.tail ≡ 1024) × (length x.copy ≡ 1024)

pub ram-lengths : (x : Arrays) → RamLengths x → HasLengths x
ram-lengths x l = (l.head, l.visits, l.scopes, l.tail, l.copy)

-- every number of theirs is 0
abbrev HasZeros : Arrays → Type 0
HasZeros x =
    (x.head ≡ replicate 8 0) × (x.visits ≡ replicate 32 0) × (x.scopes ≡ replicate 448 0) × (x.tail ≡ replicate 1024 0) × (x.copy ≡ replicate 1024 0)

pub ram-zeros : (x : Arrays) → Zero x → HasZeros x
ram-zeros x z = (z.head, z.visits, z.scopes, z.tail, z.copy)

-- ── Format ────────────────────────────────────────────────────────────────────────────────────────────────────────────

module _ (given : Arrays) (r : ℕ) (leaves : Arrays) (right : right_lengths (world_in given) ≡ true) where
  -- the first value is 1,000,001: refused by 2 with cell 0, and nothing changes
  pub format-beyond-bound : FormatsOfC (pos 1000001 ∷ replicate 223 (pos 0)) given r leaves
      → (answer_in r ≡ answer 2 (pos 0)) × (writes_in r ≡ no_writes) × (leaves ≡ given) × HasLengths leaves
  unfolding formats
  format-beyond-bound f =
      let is = rw right at f.does.is in
      let a : answer_in r ≡ answer 2 (pos 0) = ap (λ (x : Answered). x.answer) is in
      let n = ap (λ (x : Answer). x.number) a in
      (a, ap (λ (x : Answered). x.writes) is, f.keeps (λ z. omega arith), ram-lengths leaves f.sized)

  -- every value is 0: done, the log has no row, and RAM is 0
  pub format-of-zeros : FormatsOfC (replicate 224 (pos 0)) given r leaves
      → (answer_in r ≡ answer 0 (pos 0)) × (writes_in r ≡ no_writes) × (leaves.log ≡ log_bytes []) × HasZeros leaves × HasLengths leaves
  unfolding formats world_in
  format-of-zeros f =
      let is = rw right at f.does.is in
      let a : answer_in r ≡ answer 0 (pos 0) = ap (λ (x : Answered). x.answer) is in (
        a,
        ap (λ (x : Answered). x.writes) is,
        ap (λ (x : Answered). x.world.log) is,
        ram-zeros leaves (f.clears (ap (λ (x : Answer). x.number) a)),
        ram-lengths leaves f.sized,
      )

-- ── Open ──────────────────────────────────────────────────────────────────────────────────────────────────────────────

module _ (fuse : ℕ) (leaves : Arrays) where
  -- a log without a byte: refused by 1, and nothing changes
  pub open-without-log : (head visits scopes tail copy charts : List ℕ) (r : ℕ) →
      let given : Arrays = arrays head visits scopes tail copy [] charts in
      OpensOfC fuse given r leaves → (answer_in r ≡ answer 1 (pos 0)) × (writes_in r ≡ no_writes) × (leaves ≡ given) × HasLengths leaves
  unfolding world_in
  open-without-log head visits scopes tail copy charts r o =
      let is = o.does.is ∙ opens-refused (fuse_of_number fuse) _ refl in
      let a : answer_in r ≡ answer 1 (pos 0) = ap (λ (x : Answered). x.answer) is in
      (a, ap (λ (x : Answered). x.writes) is, o.keeps (ap (λ (x : Answer). x.number) a), ram-lengths leaves o.sized)

  -- RAM is 0 after an opening that gave back this number
  abbrev Clears : Arrays → ℕ → Type 0
  Clears given r = OpensOfC fuse given r leaves → HasZeros leaves × HasLengths leaves

  -- 3, 16 and 17 with row 1, 4 with page 0; 5 after two rows were stored
  pub open-rejected-or-cut : (given : Arrays) →
      Clears given 12884901889 × Clears given 68719476737 × Clears given 73014444033 × Clears given 17179869184 × Clears given 2220498092032
  unfolding answer_in
  open-rejected-or-cut given =
      let go : (r : ℕ) → (answer_in r).number ≢ 0 → (answer_in r).number ≢ 1 → Clears given r =
      λ r z n o. (ram-zeros leaves (o.clears z n), ram-lengths leaves o.sized) in (
        go 12884901889 (λ e. omega arith) (λ e. omega arith),
        go 68719476737 (λ e. omega arith) (λ e. omega arith),
        go 73014444033 (λ e. omega arith) (λ e. omega arith),
        go 17179869184 (λ e. omega arith) (λ e. omega arith),
        go 2220498092032 (λ e. omega arith) (λ e. omega arith),
      )

-- ── The other calls ───────────────────────────────────────────────────────────────────────────────────────────────────

module _ (k : Call) (leaves : Arrays) where
  -- nothing has changed after a call that gave back this number
  abbrev Keeps : Arrays → ℕ → Type 0
  Keeps given r = CallsOfC k given r leaves → (leaves ≡ given) × HasLengths leaves

  -- every refusal but 5: 1, and 6 to 14
  pub call-refused-keeps : (given : Arrays) →
      Keeps given 4294967296 × Keeps given 25769803776 × Keeps given 30064771072 × Keeps given 34359738368 × Keeps given 38654705664 ×
      Keeps given 42949672960 × Keeps given 47244640256 × Keeps given 51539607552 × Keeps given 55834574848 × Keeps given 60129542144
  unfolding answer_in
  call-refused-keeps given =
      let go : (r : ℕ) → (answer_in r).number ≢ 0 → (answer_in r).number ≢ 5 → Keeps given r = λ r z n c. (c.keeps z n, ram-lengths leaves c.sized) in (
        go 4294967296 (λ e. omega arith) (λ e. omega arith),
        go 25769803776 (λ e. omega arith) (λ e. omega arith),
        go 30064771072 (λ e. omega arith) (λ e. omega arith),
        go 34359738368 (λ e. omega arith) (λ e. omega arith),
        go 38654705664 (λ e. omega arith) (λ e. omega arith),
        go 42949672960 (λ e. omega arith) (λ e. omega arith),
        go 47244640256 (λ e. omega arith) (λ e. omega arith),
        go 51539607552 (λ e. omega arith) (λ e. omega arith),
        go 55834574848 (λ e. omega arith) (λ e. omega arith),
        go 60129542144 (λ e. omega arith) (λ e. omega arith),
      )

  module _ (visits scopes tail copy log charts : List ℕ) (r : ℕ) where
    -- lent with this head
    abbrev lent : List ℕ → Arrays
    lent head = arrays head visits scopes tail copy log charts

    -- RAM of zeros is a closed store: with buffers of 01's lengths the answer is 5, and nothing changes
    pub call-of-closed : right_lengths (world_in (lent (replicate 8 0))) ≡ true → CallsOfC k (lent (replicate 8 0)) r leaves
        → (answer_in r ≡ answer 5 (pos 0)) × (writes_in r ≡ no_writes) × (leaves ≡ lent (replicate 8 0))
    unfolding world_in
    call-of-closed right c =
        let is = c.does.shut right refl in (ap (λ (x : Answered). x.answer) is, ap (λ (x : Answered). x.writes) is, c.shut refl)

    -- an open store with a counter beyond its limit (65 rows wait): nothing changes
    pub call-beyond-limits : CallsOfC k (lent (1 ∷ 0 ∷ 0 ∷ 0 ∷ 65 ∷ 0 ∷ 0 ∷ 0 ∷ [])) r leaves → leaves ≡ lent (1 ∷ 0 ∷ 0 ∷ 0 ∷ 65 ∷ 0 ∷ 0 ∷ 0 ∷ [])
    unfolding world_in
    call-beyond-limits c = c.shut refl

    -- an open store of one visit whose fuse has no write left, and a 5: the power failed, and RAM is 0
    pub call-cut : CallsOfC k (lent (1 ∷ 1 ∷ 0 ∷ 1 ∷ 0 ∷ 1 ∷ 1 ∷ 0 ∷ [])) 21474836480 leaves → HasZeros leaves
    unfolding world_in answer_in
    call-cut c = ram-zeros leaves (c.cut refl refl)

  -- a call that is done with row 3 leaves the store open
  pub call-done : (given : Arrays) → CallsOfC k given 3 leaves → (get_or leaves.head 0 0 ≢ 0) × HasLengths leaves
  unfolding world_in answer_in
  call-done given c = ((λ e. clash true refl (sym (c.done refl) ∙ rw e)), ram-lengths leaves c.sized)

-- a begin that is done has stored its row and no page, and the state counts one row more
pub begin-stores : (given leaves : Arrays) → CallsOfC Call.begin given 1099511627777 leaves → get_or given.head 3 0 ≡ 0
    → (get_or leaves.head 3 0 ≡ 1) × (writes_in 1099511627777 ≡ record { rows = 1; pages = 0 })
unfolding world_in answer_in writes_in
begin-stores given leaves c e = let n = c.does.rows refl in (omega arith, refl)

-- ── A page alone ──────────────────────────────────────────────────────────────────────────────────────────────────────

-- a begin, and a change of cell 0 by 7
abbrev two_rows : List Row
two_rows = Row.begin 1 ∷ Row.change 1 0 (pos 7) ∷ []

-- page 0 of zeros becomes the page of cell 0 with 7, and bears row 2; no row and no page is stored
pub redo-of-zeros : (r : ℕ) (leaves : List ℕ) → RedoesOfC (log_bytes two_rows) 0 (replicate 32 0) r leaves
    → (answer_in r ≡ done (pos 0)) × (leaves ≡ 2 ∷ 0 ∷ 0 ∷ 0 ∷ 7 ∷ replicate 27 0) × (writes_in r ≡ record { rows = 0; pages = 0 })
unfolding PageAlone computes
redo-of-zeros r leaves d =
    let is = sym d.does ∙ page-alone (log_bytes two_rows) two_rows (log-long two_rows (omega arith)) (log-good two_rows refl (omega arith)) 0 (replicate 32 0)
    (omega arith) refl refl in
    (ap (λ (x : RedoneAlone). x.answer) is, ap (λ (x : RedoneAlone). x.page) is, d.writes)

-- page 32 of a log without a byte is refused by 1, and the page is as it was
pub redo-refused : (r : ℕ) (page leaves : List ℕ) → RedoesOfC [] 32 page r leaves → (answer_in r ≡ refused_by 1) × (leaves ≡ page)
unfolding redone_alone
redo-refused r page leaves d = (sym (ap (λ (x : RedoneAlone). x.answer) d.does), sym (ap (λ (x : RedoneAlone). x.page) d.does))
