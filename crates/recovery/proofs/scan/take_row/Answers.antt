-- `recovery::scan::take_row` meets its contract. Assumes nothing.
use Rattle.std.proofs.Common.{sym, ◌∙◌, add-one}
use Rattle.rows.proofs.Meanings.{meant-coded}
use Rattle.tables.proofs.Verdicts.{allowed-takes}
use Rattle.wal.proofs.LookUps.{or-zero}
use Rattle.recovery.proofs.ScanTurns.{allowed}
use Rattle.recovery.proofs.scan.take_row.Goals as goal

pub step-requires : goal.step-requires
step-requires c = record { ready = c.requires.ready; takes = allowed-takes _ _ _ _ (sym (allowed _ c.in_ok-map_err.ensures.variant ∙ c.judge.ensures)) }

pub returns : goal.returns
returns c =
    let given = c.unwrap_or_default in
    let before = or-zero c.before_undone-before.result _ (λ l d. d) given.result given.ensures ∙ c.before_undone-before.ensures.0 c.args.visits.now in
    let judged = rw (c.named_by-named.ensures, meant-coded) at (allowed _ c.in_ok-map_err.ensures.variant ∙ c.judge.ensures) in
    rw (← judged, c.step.ensures, before, add-one)
