-- `rows::table::is_as_table` meets its contract: no byte so far is wrong, and none of the rest, exactly if the whole is as the table says. Assumes nothing.
use mathlib.Core.Path.{◌≡◌}
use mathlib.Core.Bool.{◌&&◌}
use Prim.Native.Nat.{◌-◌}
use lib.Dec.{eqb}
use Rattle.rows.specs.Table.{as_table}
use Rattle.rows.proofs.table.is_as_table.Given as goal

abbrev pub invariant-loop-i : goal.invariant-loop-i
invariant-loop-i l = as_table 16 0 l.kind l.b ≡ (eqb l.wrong 0 && as_table (16 - l.i) l.i l.kind l.b)
