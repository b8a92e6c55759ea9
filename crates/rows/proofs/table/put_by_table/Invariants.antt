-- `rows::table::put_by_table` meets its contract: what is left of the loop gives what the whole does. Assumes nothing.
use mathlib.Core.Path.{◌≡◌}
use Prim.Native.Nat.{◌-◌}
use Rattle.rows.specs.Table.{fill}
use Rattle.rows.proofs.table.put_by_table.Given as goal

abbrev pub invariant-loop-i : goal.invariant-loop-i
invariant-loop-i l = fill 16 0 l.kind l.f l.initial.b ≡ fill (16 - l.i) l.i l.kind l.f l.b
