-- `recovery::scan::scan_rows` meets its contract.
use Rattle.std.proofs.Common.{◌≡◌, sym, ◌∙◌, arith, refl}
use Rattle.tables_model.specs.Rows.{index}
use Rattle.recovery.proofs.ScanTurns.{taken-turn, ends-turn, bad-turn, scan-end, judged-range}
use Rattle.recovery.proofs.scan.scan_rows.Goals as goal

pub loop-k-preserved : goal.loop-k-preserved
loop-k-preserved c =
    let j = c.judge_row in
    let l = c.loop-k in
    let judged = rw c.in-Ok-Some.field-0-is at c.in-Ok-Some.ensures in (
      j.auto.visits ∙ l.invariant.0,
      j.auto.scopes ∙ l.invariant.1,
      rw (← judged) at (judged-range c.args.log.now l.k (index l.counts l.visits l.scopes) l.invariant.2),
      l.invariant.3 ∙ taken-turn _ _ _ _ (omega arith) judged refl,
    )

pub returns-in-Ok-None : goal.returns-in-Ok-None
returns-in-Ok-None c =
    let judged = rw c.in-Ok-None.field-0-is at c.in-Ok-None.ensures in
    sym (c.loop-k.invariant.3 ∙ ends-turn _ _ _ _ (omega arith) judged refl)

pub returns-in-Err : goal.returns-in-Err
returns-in-Err c =
    sym (c.loop-k.invariant.3 ∙ bad-turn _ _ _ _ (omega arith) c.in-Err.ensures _ refl)

pub returns : goal.returns
returns c =
    let l = c.loop-k in
    let e : l.k ≡ 4096 = omega arith in
    sym (l.invariant.3 ∙ scan-end _ _ _ (omega arith) ∙ rw e)
