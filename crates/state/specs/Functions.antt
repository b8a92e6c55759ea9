-- The contracts of the public functions: what each gives back and leaves is as its relation has it (specs/CallContracts), and its answer has the case of its call.
use Rattle.std.specs.Prelude.{List, ℤ}
use Rattle.book.specs.Calls.{returns}
use Rattle.state.specs.declared.ram.Fuse.{Fuse}
use Rattle.state.specs.declared.requests.Request.{Request}
use Rattle.state.specs.Answers.{nothing, written, done_case, HasCase}
use Rattle.state.specs.Requests.{call_of}
use Rattle.state.specs.World.{World, allowance}
use Rattle.state.specs.CallContracts.{Returned, answered_by, FormatPost, OpenPost, CallPost}

-- `format`, lent these values of the cells
pub record Formats (values : List ℤ) (given : World) (x : Returned) : Type 0 where
  pub post : FormatPost values given (answered_by x)
  pub case : HasCase nothing x.result.answer

-- `open` with this fuse
pub record Opens (fuse : Fuse) (given : World) (x : Returned) : Type 0 where
  pub post : OpenPost (allowance fuse) given (answered_by x)
  pub case : HasCase written x.result.answer

-- `call` with this request
pub record Calls (request : Request) (given : World) (x : Returned) : Type 0 where
  pub post : CallPost (call_of request) given (answered_by x)
  pub case : HasCase (done_case (returns (call_of request))) x.result.answer
