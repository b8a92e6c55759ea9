-- An opening of a store whose log is allowed and whose pages are as of their marks leaves what stands for the book after it.
use Prim.Native.Nat.{ℕ, ◌+◌, ◌≤◌, ◌<◌}
use native.Mathlib.Omega.{arith}
use mathlib.Core.Path.{◌≡◌, ap, ◌∙◌}
use mathlib.Core.Bool.{true, false}
use mathlib.Core.List.{List}
use lib.IntN.{ℤ, pos}
use Rattle.book.specs.Limits.{page_limit}
use Rattle.book.specs.Rows.{Row}
use Rattle.book.specs.Rules.{allowed_log}
use Rattle.book.specs.Power.{Fuse}
use Rattle.book.specs.Book.{Outcome, reopen}
use Rattle.book.specs.LogBytes.{log_bytes}
use Rattle.book.specs.Writes.{opening_writes}
use Rattle.book.specs.Opening.{bad_page, open_bytes}
use Rattle.book.proofs.InvariantKept.{few-rows}
use Rattle.book.proofs.Pages.{Bounded, charts-good}
use Rattle.book.proofs.OpenBytes.{open-bytes}
use Rattle.state.specs.World.{World, right_lengths, copy_of, world_of, Charts}
use Rattle.state.specs.CallContracts.{Answered, answered, opened_world, opens}

-- what the book makes of an opening of these stored rows, in the values that stand for it
abbrev pub by_opening : (ℕ → ℤ) → List Row → List ℕ → Outcome → Answered
by_opening cells rs charts o = record { answer = o.answer; world = world_of cells o.book charts; writes = opening_writes rs o }

-- it goes by the stored bytes
pub opens-bytes : (f : Fuse) (w : World) → right_lengths w ≡ true → opens f w ≡ opened_world w.charts (open_bytes f w.log w.charts)
unfolding opens
opens-bytes f w e = rw e

module _ (cells : ℕ → ℤ) (n : ℕ) (small : Bounded n cells) (rs : List Row) (al : allowed_log rs ≡ true) where
  pub opens-book : n + 134217728 < 2147483648 → (f : Fuse) (w : World) → right_lengths w ≡ true → w.log ≡ log_bytes rs → Charts cells rs w.charts
      → bad_page rs w.charts ≡ page_limit → opens f w ≡ by_opening cells rs w.charts (reopen f rs)
  unfolding world_of copy_of
  opens-book bound f w e log C good = opens-bytes f w e ∙ rw log
      (ap (opened_world w.charts) (open-bytes cells n small bound rs al (few-rows rs al) C.marks (λ p h. C.own p) f w.charts C.are good))

  -- cells that were formatted stay within what an opening takes
  pub charts-accepted : n + 134217728 ≤ 200000000 → (charts : List ℕ) → Charts cells rs charts → bad_page rs charts ≡ page_limit
  charts-accepted h charts C = ap (bad_page rs) C.are ∙ charts-good cells n small (omega arith) rs al (few-rows rs al) C.marks (λ p k. C.own p) h

-- an opening lent a buffer of another length
pub opens-refused : (f : Fuse) (w : World) → right_lengths w ≡ false → opens f w ≡ answered 1 (pos 0) w
unfolding opens
opens-refused f w e = rw e
