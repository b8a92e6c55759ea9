-- `runfile::run::Store::sessions` meets its contract. The loop's invariant: i sessions were played and their lines written. Assumes nothing.
use mathlib.Core.Path.{◌≡◌}
use lib.ListN.{length}
use Rattle.runfile.specs.Play.{world_in}
use Rattle.runfile.proofs.Sessions.{InSessions}
use Rattle.runfile.proofs.run.Store.sessions.Given as goal

abbrev pub invariant-loop-i : goal.invariant-loop-i
invariant-loop-i l =
    InSessions l.file l.s (world_in l.initial.self) l.initial.out.bytes.now l.initial.out.at l.i l.place (world_in l.self) l.out.bytes.now l.out.at
    × (l.out.bytes.ghost_name ≡ l.initial.out.bytes.ghost_name) × (length l.out.bytes.now ≡ length l.initial.out.bytes.now)
