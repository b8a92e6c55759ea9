-- `recovery::open::open_scanned` meets its contract. Assumes nothing.
use Rattle.std.proofs.Common.{arith, lt-ltb, sym}
use Rattle.recovery.proofs.Settling.{opening-refused}
use Rattle.recovery.proofs.Searches.{below-Some}
use Rattle.recovery.proofs.open.open_scanned.Goals as goal
use Rattle.recovery.proofs.open.open_scanned.Goals.{in-Some, in_default+in-Some-bad_page}

pub returns : goal.returns
returns c =
    let z = c.clear.ensures in
    let none = c.default.ensures in
    opening-refused _ _ _ _ _ _ _ _ (rw z.0) z.2 (rw z.1 (omega arith, omega arith)) (rw (z.0, z.1, none.0, none.1)
    (elim c.match-s.branch [
      | in-Some w ↦ rw (w.in-Some.is, w.refusal-is, w.refusal_of-refusal.ensures)
      | in_default+in-Some-bad_page w ↦ let k = below-Some 32 _ w.in-Some-bad_page.p (sym w.in-Some-bad_page.ensures) in
          rw (w.in_default.is, w.refusal-is, lt-ltb _ _ k.0, k.1)
    ]))
