-- The contracts of the functions for C, over the arrays lent to a call, the number it gives back and the arrays it leaves. Of the worlds that the arrays
-- are, each is the relation of the store's own call (crate `state`); beyond that it says of every number of RAM what a refusal and a power failure leave.
use Rattle.std.specs.Prelude.{ℕ, true, false, ◌≡◌, ◌≢◌, List, ℤ}
use Rattle.book.specs.Calls.{Call}
use Rattle.book.specs.Book.{answer}
use Rattle.state.specs.World.{is_open_phase, works, fuse_of_number}
use Rattle.state.specs.CallContracts.{Answered, FormatPost, OpenPost, CallPost}
use Rattle.embed_model.specs.Arrays.{Arrays, world_in, RamLengths, Zero}
use Rattle.embed_model.specs.Packed.{answer_in, writes_in}

-- what a call gave back and left
abbrev pub answered_in : ℕ → Arrays → Answered
answered_in r x = record { answer = answer_in r; world = world_in x; writes = writes_in r }

-- `chart_format_on`, lent these values of the cells
pub record FormatsOfC (values : List ℤ) (given : Arrays) (r : ℕ) (leaves : Arrays) : Type 0 where
  pub does : FormatPost values (world_in given) (answered_in r leaves)
  -- a refusal changes nothing
  pub keeps : (answer_in r).number ≢ 0 → leaves ≡ given
  -- a new store is closed
  pub clears : (answer_in r).number ≡ 0 → Zero leaves
  pub sized : RamLengths leaves

-- `chart_open_on` with this fuse
pub record OpensOfC (fuse : ℕ) (given : Arrays) (r : ℕ) (leaves : Arrays) : Type 0 where
  pub does : OpenPost (fuse_of_number fuse) (world_in given) (answered_in r leaves)
  -- refused for a length: nothing changes
  pub keeps : (answer_in r).number ≡ 1 → leaves ≡ given
  -- the store is rejected, or the power failed
  pub clears : (answer_in r).number ≢ 0 → (answer_in r).number ≢ 1 → Zero leaves
  pub sized : RamLengths leaves

-- the others, each with the call that its name and arguments are
pub record CallsOfC (k : Call) (given : Arrays) (r : ℕ) (leaves : Arrays) : Type 0 where
  pub does : CallPost k (world_in given) (answered_in r leaves)
  -- a refusal changes nothing
  pub keeps : (answer_in r).number ≢ 0 → (answer_in r).number ≢ 5 → leaves ≡ given
  -- nor does any call of a store that is closed, or whose counters are beyond their limits; `does` says that it answers 5
  pub shut : works (world_in given).state ≡ false → leaves ≡ given
  -- a 5 of any other store is a power failure
  pub cut : works (world_in given).state ≡ true → (answer_in r).number ≡ 5 → Zero leaves
  -- a call that is done leaves the store open
  pub done : (answer_in r).number ≡ 0 → is_open_phase (world_in leaves).state.phase ≡ true
  pub sized : RamLengths leaves
