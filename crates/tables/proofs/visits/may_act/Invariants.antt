-- `tables::visits::may_act` meets its contract. The loop's invariant: the visit is among all places in use if it was seen or is among those left, and
-- an undo row bears it among all if one does among those left. Assumes nothing.
use Rattle.std.proofs.Common.{◌≡◌, ◌||◌, take}
use Rattle.book.specs.Lists.{any}
use Rattle.tables_model.specs.Visits.{is_of, is_bearer}
use Rattle.tables_model.specs.Layout.{actives}
use Rattle.tables.proofs.Loops.{left}
use Rattle.tables.proofs.visits.may_act.Given as goal

abbrev pub invariant-loop-i : goal.invariant-loop-i
invariant-loop-i l = let places = take l.fn.t.count (actives l.visits) in
    let rest = left l.fn.t.count l.i (actives l.visits) in
    (any (is_of l.v.0) places ≡ l.seen || any (is_of l.v.0) rest) × (any (is_bearer l.v.0) places ≡ any (is_bearer l.v.0) rest)
