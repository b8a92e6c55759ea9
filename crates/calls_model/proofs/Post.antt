-- A performed call keeps the contract of the calls, whatever it was handed.
use Rattle.book.specs.Calls.{Call, Typed}
use Rattle.state.specs.World.{World}
use Rattle.state.specs.CallContracts.{CallPost}
use Rattle.calls_model.specs.Perform.{performed}
use Rattle.calls_model.proofs.AnyWorld.{number-listed, wrong-lengths, idle-store, nothing-changes, power-failed}
use Rattle.calls_model.proofs.AnyCounts.{any-counts}
use Rattle.calls_model.proofs.ByTheBook.{by-the-book}

pub performed-post : (w : World) (k : Call) → Typed k → CallPost k w (performed w k)
performed-post w k t = record {
  table = number-listed w k;
  lengths = wrong-lengths w k;
  shut = idle-store w k;
  keeps = nothing-changes w k;
  cut = power-failed w k;
  rows = (any-counts w k).rows;
  few = (any-counts w k).few;
  pages = (any-counts w k).pages;
  is = by-the-book w k t;
}
