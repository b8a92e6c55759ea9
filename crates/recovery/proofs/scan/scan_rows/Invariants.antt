-- `recovery::scan::scan_rows` meets its contract.
use Rattle.std.proofs.Common.{◌≡◌, ◌-◌, length}
use Rattle.tables_model.specs.Rows.{index}
use Rattle.tables_model.specs.Visits.{InRange}
use Rattle.recovery_model.specs.Scan.{scan_from}
use Rattle.recovery.proofs.scan.scan_rows.Given as goal

abbrev pub invariant-loop-k : goal.invariant-loop-k
invariant-loop-k l = (length l.visits ≡ length l.initial.visits)
    × (length l.scopes ≡ length l.initial.scopes)
    × InRange l.counts.count l.counts.used
    × (scan_from 4096 0 l.log (index l.initial.counts l.initial.visits l.initial.scopes) ≡ scan_from (4096 - l.k) l.k l.log (index l.counts l.visits l.scopes))
