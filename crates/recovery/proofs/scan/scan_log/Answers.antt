-- `recovery::scan::scan_log` meets its contract. Assumes nothing.
use Rattle.std.proofs.Common.{◌≡◌, length, ap, not, ◌∙◌}
use Rattle.tables.proofs.Flat.{entries-zero}
use Rattle.tables.proofs.Places.{actives-zero}
use Rattle.wal.proofs.Clearing.{none-counted}
use Rattle.recovery_model.specs.Openings.{no_index}
use Rattle.recovery_model.specs.Checking.{found}
use Rattle.recovery_model.specs.Scan.{scan_from}
use Rattle.recovery.proofs.ScanTurns.{all-rows, bad-row}
use Rattle.recovery.proofs.scan.scan_log.Goals as goal
use Rattle.recovery.proofs.scan.scan_log.Goals.{then-is_none, else-is_none}

pub returns : goal.returns
returns c =
    let r = c.scan_rows-s in
    let started : found r.result r.new.visits r.new.scopes ≡ scan_from 4096 0 c.args.log.now no_index =
    r.ensures ∙
    rw (none-counted _ c.default.ensures, c.fill.ensures.after (λ y e. e), c.fill-2.ensures.after (λ y e. e), actives-zero (length c.args.visits.now) search, entries-zero (length c.args.scopes.now) search) in
    elim c.if-is_none.branch [
      | then-is_none w ↦ rw w.s-is (all-rows _ _ _ started (c.is_none.ensures ∙ ap not w.if-is_none.true) _ w.first_set-s.ensures)
      | else-is_none w ↦ rw w.s-is (bad-row _ _ _ started (c.is_none.ensures ∙ ap not w.if-is_none.false))
    ]
