-- `runfile::run::Store::turns` meets its contract. The loop's invariant: i calls were made and their lines written. Assumes nothing.
use mathlib.Core.Path.{◌≡◌}
use lib.ListN.{length}
use Rattle.runfile.specs.Play.{world_in}
use Rattle.runfile.proofs.Turns.{InTurns}
use Rattle.runfile.proofs.run.Store.turns.Given as goal

abbrev pub invariant-loop-i : goal.invariant-loop-i
invariant-loop-i l =
    InTurns l.file l.place l.n l.session (world_in l.initial.self) l.initial.out.bytes.now l.initial.out.at l.i (world_in l.self) l.out.bytes.now l.out.at
    × (l.out.bytes.ghost_name ≡ l.initial.out.bytes.ghost_name) × (length l.out.bytes.now ≡ length l.initial.out.bytes.now)
