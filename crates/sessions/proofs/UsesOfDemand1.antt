-- What each field of demand 1 says of a call that meets its contract: which numbers it never answers, and what a refusal, a rejected store and a power failure
-- leave. A field that said less would not give it.
use mathlib.Core.Path.{◌≡◌, refl, ap, sym, ◌∙◌}
use mathlib.Core.Bool.{true, false}
use mathlib.Core.Logic.{◌≢◌}
use mathlib.Core.List.{List, [], ◌∷◌}
use native.Mathlib.Omega.{arith}
use Prim.Native.Nat.{ℕ}
use lib.IntN.{ℤ, pos}
use Rattle.book.specs.Lists.{member}
use Rattle.book.specs.Calls.{Call}
use Rattle.book.specs.Power.{Fuse}
use Rattle.book.specs.Writes.{no_writes}
use Rattle.book.proofs.Lists.{clash}
use Rattle.state.specs.World.{World, works, cleared}
use Rattle.state.specs.CallContracts.{Answered, FormatPost, OpenPost, CallPost, numbers}
use Rattle.sessions.specs.Demand1.{format_numbers, open_numbers, FormatAnswers, OpenAnswers, CallAnswers}
use Rattle.sessions.proofs.Demand1.{demand-1}

-- a number that the list does not have
unlisted : (n m : ℕ) (ns : List ℕ) → member n ns ≡ true → member m ns ≡ false → n ≢ m
unlisted n m ns e f q = clash (member m ns) (ap (λ (i : ℕ). member i ns) (sym q) ∙ e) f

-- ── Format ────────────────────────────────────────────────────────────────────────────────────────────────────────────

module _ (values : List ℤ) (given : World) (x : Answered) (post : FormatPost values given x) where
  format-says : FormatAnswers given x
  format-says = demand-1.formats values given x post

  -- `number`: never 3 or 5
  pub format-numbers : (x.answer.number ≢ 3) × (x.answer.number ≢ 5)
  format-numbers = (unlisted _ 3 format_numbers format-says.number refl, unlisted _ 5 format_numbers format-says.number refl)

  -- `refused`: a cell out of range, or a buffer of another length, and nothing changes and is stored
  pub format-refused : (x.answer.number ≡ 2 → x.world ≡ given) × (x.answer.number ≡ 1 → x.world ≡ given) × (x.answer.number ≡ 2 → x.writes ≡ no_writes)
  format-refused = (
    λ e. ap (λ (r : Answered). r.world) (format-says.refused (λ z. omega arith)),
    λ e. ap (λ (r : Answered). r.world) (format-says.refused (λ z. omega arith)),
    λ e. ap (λ (r : Answered). r.writes) (format-says.refused (λ z. omega arith)),
  )

  -- `done`: copy, tail and scopes are cleared, the store is closed, and the value is 0
  pub format-done : x.answer.number ≡ 0 →
      (x.world ≡ cleared x.world.log x.world.charts) × (x.answer.value ≡ pos 0) × (x.writes ≡ no_writes)
  format-done z =
      let is = format-says.done z in
      (ap (λ (r : Answered). r.world) is, ap (λ (r : Answered). r.answer.value) is, ap (λ (r : Answered). r.writes) is)

-- ── Open ──────────────────────────────────────────────────────────────────────────────────────────────────────────────

module _ (f : Fuse) (given : World) (x : Answered) (post : OpenPost f given x) where
  open-says : OpenAnswers given x
  open-says = demand-1.opens f given x post

  -- `number`: never 2 or 9
  pub open-numbers : (x.answer.number ≢ 2) × (x.answer.number ≢ 9)
  open-numbers = (unlisted _ 2 open_numbers open-says.number refl, unlisted _ 9 open_numbers open-says.number refl)

  -- `refused`: state, copy and scopes are those that it was given, and nothing is counted
  pub open-refused : x.answer.number ≡ 1 → (x.world ≡ given) × (x.writes ≡ no_writes)
  open-refused z = (ap (λ (r : Answered). r.world) (open-says.refused z), ap (λ (r : Answered). r.writes) (open-says.refused z))

  -- `rejected`: by each of the four numbers, log and charts unchanged and the store closed
  pub open-rejected : (n : ℕ) → x.answer.number ≡ n → member n (3 ∷ 16 ∷ 17 ∷ 4 ∷ []) ≡ true →
      x.world ≡ cleared given.log given.charts
  open-rejected n e m =
      let other : (k : ℕ) → member k (3 ∷ 16 ∷ 17 ∷ 4 ∷ []) ≡ false → x.answer.number ≢ k = λ k no. unlisted _ k (3 ∷ 16 ∷ 17 ∷ 4 ∷ [])
      (ap (λ (i : ℕ). member i (3 ∷ 16 ∷ 17 ∷ 4 ∷ [])) e ∙ m) no in
      ap (λ (r : Answered). r.world) (open-says.rejected (other 0 refl) (other 1 refl) (other 5 refl))

  -- `failed`: the charts unchanged, copy, tail and scopes cleared, and the store closed
  pub open-failed : x.answer.number ≡ 5 → (x.world ≡ cleared x.world.log given.charts) × (x.writes.pages ≡ 0)
  open-failed z = let is = open-says.failed z in (ap (λ (r : Answered). r.world) is, ap (λ (r : Answered). r.writes.pages) is)

-- ── The other calls ───────────────────────────────────────────────────────────────────────────────────────────────────

module _ (k : Call) (given : World) (x : Answered) (post : CallPost k given x) where
  call-says : CallAnswers k given x
  call-says = demand-1.calls k given x post

  -- `refused`: by 8 and by 13 nothing changes, and nothing is counted
  pub call-refused : (x.answer.number ≡ 8 → x.world ≡ given) × (x.answer.number ≡ 13 → x.world ≡ given) × (x.answer.number ≡ 8 → x.writes ≡ no_writes)
  call-refused = (
    λ e. ap (λ (r : Answered). r.world) (call-says.refused (λ z. omega arith) (λ z. omega arith)),
    λ e. ap (λ (r : Answered). r.world) (call-says.refused (λ z. omega arith) (λ z. omega arith)),
    λ e. ap (λ (r : Answered). r.writes) (call-says.refused (λ z. omega arith) (λ z. omega arith)),
  )

  -- `shut`: a store that was closed is as it was
  pub call-shut : x.answer.number ≡ 5 → works given.state ≡ false → (x.world ≡ given) × (x.writes ≡ no_writes)
  call-shut z w = (ap (λ (r : Answered). r.world) (call-says.shut z w), ap (λ (r : Answered). r.writes) (call-says.shut z w))

  -- `failed`: one in which the power failed is closed, its charts unchanged, and copy, tail and scopes cleared
  pub call-failed : x.answer.number ≡ 5 → works given.state ≡ true → (x.world ≡ cleared x.world.log given.charts) × (x.writes.pages ≡ 0)
  call-failed z w = let is = call-says.failed z w in (ap (λ (r : Answered). r.world) is, ap (λ (r : Answered). r.writes.pages) is)

-- `number`: a read is never refused by 9, nor a commit by 8
pub read-never-9 : (c : ℕ) (given : World) (x : Answered) → CallPost (Call.read c) given x → x.answer.number ≢ 9
read-never-9 c given x post = unlisted _ 9 (numbers (Call.read c)) (demand-1.calls (Call.read c) given x post).number refl

pub commit-never-8 : (v : ℕ) (given : World) (x : Answered) → CallPost (Call.commit v) given x → x.answer.number ≢ 8
commit-never-8 v given x post = unlisted _ 8 (numbers (Call.commit v)) (demand-1.calls (Call.commit v) given x post).number refl
