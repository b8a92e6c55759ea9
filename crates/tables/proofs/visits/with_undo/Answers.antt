-- `tables::visits::with_undo` meets its contract. The loop's invariant: the places passed are marked, the others are places they were. Assumes nothing.
use Rattle.std.proofs.Common.{◌≡◌, ◌<◌, true, length, get_or, arith}
use lib.Seq.{set-get_or}
use Rattle.tables_model.specs.Visits.{marked}
use Rattle.tables_model.specs.Layout.{actives}
use Rattle.tables_model.specs.Meaning.{vacant}
use Rattle.tables.proofs.Loops.{mapped_next}
use Rattle.tables.proofs.Places.{actives-length}
use Rattle.tables.proofs.visits.with_undo.Goals as goal
use Rattle.tables.proofs.visits.with_undo.Goals.{then-eq, else-eq}

pub loop-i-preserved : goal.loop-i-preserved
loop-i-preserved c =
    let l = c.loop-i in
    let v = c.args.v.0 in
    let now = actives l.visits in
    let places = actives c.args.visits.now in
    let h : l.i < length places = rw actives-length (omega (arith, c.requires.within, c.loop-i-test.true)) in
    let turn = rw (← l.invariant) at (mapped_next (marked v) l.i places vacant h) in
    elim c.if-eq.branch [
      | then-eq w ↦
          let put : record { visit = c.active_at-a.result.visit; bears = true } ≡ marked v (get_or now l.i vacant) =
          rw (← c.active_at-a.ensures, ← c.eq.ensures, w.if-eq.true) in
          rw (w.visits-is, w.put_active.ensures, put) turn
      | else-eq w ↦
          let same : marked v (get_or now l.i vacant) ≡ get_or now l.i vacant = rw (← c.active_at-a.ensures, ← c.eq.ensures, w.if-eq.false) in
          rw w.visits-is (rw (same, set-get_or) at turn)
    ]
