-- 02, L6: what an opening of the bytes of a log costs (specs/OpeningCost).
use Prim.Native.Nat.{ℕ}
use native.Mathlib.Omega.{arith}
use mathlib.Core.Path.{◌≡◌}
use mathlib.Core.Bool.{Bool, true, false, cond}
use mathlib.Core.List.{List}
use lib.Dec.{ltb}
use Rattle.book.specs.Limits.{page_limit}
use Rattle.book.specs.Rows.{Row}
use Rattle.book.specs.Rules.{allowed_log}
use Rattle.book.specs.Power.{Fuse}
use Rattle.book.specs.Book.{reopen}
use Rattle.book.specs.LogBytes.{log_bytes}
use Rattle.book.specs.Opening.{rejected, recovered, bad_page, open_bytes}
use Rattle.book.specs.OpeningCost.{Cost}
use Rattle.book.proofs.InvariantKept.{few-rows}
use Rattle.book.proofs.LogBytes.{log-good}
use Rattle.book.proofs.OpeningCost.{reopen-cost, refused-cost}

-- of the bytes of an allowed log, whatever the charts are
pub bytes-cost : (f : Fuse) (rs : List Row) (charts : List ℕ) → allowed_log rs ≡ true
    → Cost rs (open_bytes f (log_bytes rs) charts).answer (open_bytes f (log_bytes rs) charts).writes
unfolding open_bytes
bytes-cost f rs charts al = rw (log-good rs al (few-rows rs al)) (go (bad_page rs charts) (ltb (bad_page rs charts) page_limit))
  where
    go : (p : ℕ) (t : Bool) → let o = cond t (rejected 4 p (log_bytes rs)) (recovered rs charts (reopen f rs)) in Cost rs o.answer o.writes
    go p true = refused-cost rs _ (λ z. omega arith)
    go p false = reopen-cost f rs al
