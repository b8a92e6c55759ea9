-- `recovery::backward::backward` meets its contract. Assumes nothing.
use Rattle.std.proofs.Common.{◌≡◌, length, ◌∙◌, add-zero}
use Rattle.tables_model.specs.Layout.{actives}
use Rattle.wal.proofs.Counters.{fits-again}
use Rattle.wal.specs.Writing.{ram}
use Rattle.recovery.proofs.BackwardSteps.{fits-start, counters-fallen, counters-aborted, three-steps}
use Rattle.recovery.proofs.backward.backward.Goals as goal

pub abort_all-e-requires : goal.abort_all-e-requires
abort_all-e-requires c =
    let s = c.args.s in
    let t = c.take_back-d in
    let tail : length c.args.tail.now ≡ 1024 = search in
    let copy : length c.args.copy.now ≡ 1024 = search in
    let fits = fits-start c.args.fuse s.rows s.few _ _ _ c.requires.log_len tail copy in
    let fallen = counters-fallen c.args.fuse s.rows s.few _ _ _ _ _ _ t.ensures in
    (fits-again fits fallen t.auto.log t.auto.tail t.auto.copy, search, s.range.count)

pub force-requires : goal.force-requires
force-requires c =
    let s = c.args.s in
    let t = c.take_back-d in
    let e = c.abort_all-e in
    let fallen = counters-fallen c.args.fuse s.rows s.few _ _ _ _ _ _ t.ensures in
    let n = rw (← e.ensures) at (counters-aborted s.counts.count (actives c.args.visits.now) (ram t.result t.new.log t.new.tail t.new.copy) fallen) in
    record { log-long = e.auto.log ∙ t.auto.log ∙ c.requires.log_len; tail-long = e.auto.tail ∙ t.auto.tail ∙ search; few = n.few; room = n.room }

pub returns : goal.returns
returns c =
    three-steps _ _ _ _ _ _ _ _ (c.take_back-d.ensures ∙ rw (add-zero, c.requires.tail_value)) c.abort_all-e.ensures c.force.ensures
