-- 02, L3: the forward part of an opening is the pages redone alone.
use Rattle.std.specs.Prelude.{ℕ, true, ◌≡◌, List}
use Rattle.book.specs.Lists.{foldl}
use Rattle.book.specs.Limits.{page_limit}
use Rattle.book.specs.Rows.{Row}
use Rattle.book.specs.Numbers.{AreBytes}
use Rattle.book.specs.LogBytes.{good, read_log}
use Rattle.book.specs.Opening.{bad_page}
use Rattle.state.specs.declared.ram.Fuse.{Fuse}
use Rattle.state.specs.World.{World, right_lengths, allowance}
use Rattle.state.specs.CallContracts.{opens}
use Rattle.recovery_model.specs.Scan.{scanned}
use Rattle.recovery_model.specs.Charts.{redo_charts}
use Rattle.recovery_model.specs.Openings.{no_index, backward_from}
use Rattle.recovery_model.specs.PageAlone.{with_redone, AllPages}

-- the opening of this world goes backward from this copy
pub record GoesBackwardFrom (f : Fuse) (w : World) (copy : List ℕ) : Type 0 where
  -- what its own loop over the pages gives
  pub forward : copy ≡ redo_charts w.log (scanned w.log no_index).rows w.charts
  -- what it hands to its backward part
  pub backward : opens (allowance f) w ≡ backward_from f w.log w.charts (scanned w.log no_index) copy

-- every opening whose checks pass goes backward from the copy that the 32 pages give, each redone alone, in any order and any of them more than once
unfoldable pub AnyOrderAlone : Type 0
AnyOrderAlone =
    (f : Fuse) (w : World) → right_lengths w ≡ true → AreBytes w.charts →
    (rs : List Row) → read_log w.log ≡ good rs → bad_page rs w.charts ≡ page_limit →
    (ps : List ℕ) → AllPages ps → GoesBackwardFrom f w (foldl (with_redone w.log) w.charts ps)
