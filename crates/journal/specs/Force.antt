-- A run of stored writes: rows of the tail go to the end of the log until one is beyond the fuse.
use Rattle.std.specs.Prelude.{ℕ, zero, suc, ◌+◌, ◌-◌, ◌*◌, ◌≤◌, ◌≡◌, List, [], ◌∷◌, ◌++◌, take, drop, replicate, Option, Some, None}
use Rattle.book.specs.Limits.{row_limit, row_length, log_length, tail_limit}
use Rattle.state.specs.declared.ram.Phase.TheVariants.{Closed}
use Rattle.state.specs.declared.ram.Fuse.{Fuse}
use Rattle.state.specs.declared.ram.Fuse.TheVariants.{Unlimited, Left}
use Rattle.state.specs.World.{tail_length}
use Rattle.journal.specs.declared.Control.{Control}
use Rattle.journal.specs.declared.force.Run.{Run}
use Rattle.journal.specs.Writes.{put_row}

-- the first m rows of the tail
unfoldable pub chunks : ℕ → List ℕ → List (List ℕ)
chunks zero b = []
chunks (suc m) b = take row_length b ∷ chunks m (drop row_length b)

-- how a run ended, and the log after it
pub record Ran : Type 0 where
  pub run : Run
  pub log : List ℕ

-- the rows go to places k, k + 1, .. of the log, one write each, until one is beyond the fuse
unfoldable pub runs : Fuse → ℕ → List ℕ → List (List ℕ) → Ran
runs f k log [] = record { run = record { fuse = Some f; stored = k }; log = log }
runs Unlimited k log (r ∷ rs) = runs Unlimited (suc k) (put_row log k r) rs
runs (Left zero) k log (r ∷ rs) = record { run = record { fuse = None; stored = k }; log = log }
runs (Left (suc n)) k log (r ∷ rs) = runs (Left n) (suc k) (put_row log k r) rs

-- closed after a cut; the rows that landed stay counted
abbrev pub closed_at : ℕ → Control
closed_at stored = record { phase = Closed; fuse = Unlimited; stored = stored; waiting = 0 }

-- the control where so many rows are stored and wait, by the fuse that is left
abbrev pub control_by : Option Fuse → Control → ℕ → ℕ → Control
control_by (Some f) c stored waiting = record { phase = c.phase; fuse = f; stored = stored; waiting = waiting }
control_by None c stored waiting = closed_at stored

-- after a run that leaves so many rows waiting
abbrev pub control_after : Control → ℕ → Run → Control
control_after c waiting run = control_by run.fuse c run.stored waiting

-- the tail without the first m of its w rows: the others move to the front, zeros follow; what is behind the w rows (in a sound store zeros) stays
abbrev pub shifted : ℕ → ℕ → List ℕ → List ℕ
shifted m w tail = take (row_length * (w - m)) (drop (row_length * m) tail) ++ (replicate (row_length * m) 0 ++ drop (row_length * w) tail)

-- the lengths of 01, and counters within them
pub record Sizes (c : Control) (log tail : ℕ) : Type 0 where
  pub log-long : log ≡ log_length
  pub tail-long : tail ≡ tail_length
  pub few : c.waiting ≤ tail_limit
  pub room : c.stored + c.waiting ≤ row_limit
