-- `calls::accept::accept` meets its contract. Assumes nothing.
use mir.Syntax.{w16}
use mir.Facts.{to_z-of_z}
use borrow.Author.Rules.{rules}
use Rattle.calls.proofs.accept.accept.Goals.{in-Begin, in-Change, in-HandOver, in-HandOverAll, in-Commit, in-Abort, in-Force, in-Flush, in-Read}
use Rattle.calls.proofs.accept.accept.Goals as goal

-- each call's own function has said it
pub returns-clause-accepted : goal.returns-clause-accepted
returns-clause-accepted c =
    elim c.match-request.branch [
      | in-Begin w ↦ rw (w.in-Begin.is, w.result-is, w.log-is, w.charts-is, w.copy-is, w.tail-is, w.visits-is, w.scopes-is) (w.accept_begin.ensures _)
      | in-Change w ↦
          let amount = to_z-of_z {w = w16} {z = w.in-Change.z} (search rules) in
          rw (w.in-Change.is, w.result-is, w.log-is, w.charts-is, w.copy-is, w.tail-is, w.visits-is, w.scopes-is) (rw amount at (w.accept_change.ensures c.args.charts.now))
      | in-HandOver w ↦ rw (w.in-HandOver.is, w.result-is, w.log-is, w.charts-is, w.copy-is, w.tail-is, w.visits-is, w.scopes-is) (w.accept_hand_over.ensures _)
      | in-HandOverAll w ↦ rw (w.in-HandOverAll.is, w.result-is, w.log-is, w.charts-is, w.copy-is, w.tail-is, w.visits-is, w.scopes-is) (w.accept_hand_over_all.ensures _)
      | in-Commit w ↦ rw (w.in-Commit.is, w.result-is, w.log-is, w.charts-is, w.copy-is, w.tail-is, w.visits-is, w.scopes-is) (w.accept_commit.ensures _)
      | in-Abort w ↦ rw (w.in-Abort.is, w.result-is, w.log-is, w.charts-is, w.copy-is, w.tail-is, w.visits-is, w.scopes-is) (w.accept_abort.ensures _)
      | in-Force w ↦ rw (w.in-Force.is, w.result-is, w.log-is, w.charts-is, w.copy-is, w.tail-is, w.visits-is, w.scopes-is) (w.accept_force.ensures _)
      | in-Flush w ↦ rw (w.in-Flush.is, w.result-is, w.log-is, w.charts-is, w.copy-is, w.tail-is, w.visits-is, w.scopes-is) w.accept_flush.ensures
      | in-Read w ↦ rw (w.in-Read.is, w.result-is, w.log-is, w.charts-is, w.copy-is, w.tail-is, w.visits-is, w.scopes-is) (w.accept_read.ensures.0 _)
    ]
