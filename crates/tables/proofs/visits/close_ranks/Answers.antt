-- `tables::visits::close_ranks` meets its contract. The loop's invariant: the places kept, and those left without the visit, are all places without the visit. Assumes nothing.
use Rattle.std.proofs.Common.{◌≡◌, ◌≤◌, true, false, length, get_or, sym, ap, ◌∙◌, arith, length-take-le}
use Rattle.tables_model.specs.Layout.{actives}
use Rattle.tables_model.specs.Meaning.{vacant}
use Rattle.tables.proofs.Ending.{stays}
use Rattle.tables.proofs.Loops.{ranks-kept, ranks-left, ranks-end}
use Rattle.tables.proofs.Places.{actives-length}
use Rattle.tables.proofs.visits.close_ranks.Goals as goal
use Rattle.tables.proofs.visits.close_ranks.Goals.{then-ne, else-ne}

pub loop-i-preserved : goal.loop-i-preserved
loop-i-preserved c =
    let l = c.loop-i in
    let p = stays c.args.v.0 in
    let n = c.args.t.count in
    let places = actives l.visits in
    let long : n ≤ length places = rw actives-length c.requires.within in
    let kept = ranks-kept p n l.kept l.i places vacant l.invariant.0 c.loop-i-test.true long in
    let left = ranks-left p n l.kept l.i places vacant c.loop-i-test.true long in
    elim c.if-ne.branch [
      | then-ne w ↦
          let stay : p (get_or places l.i vacant) ≡ true = rw (← c.active_at-a.ensures) (sym c.ne.ensures ∙ w.if-ne.true) in
          (omega arith, rw (w.kept-is, w.visits-is, w.put_active.ensures, c.active_at-a.ensures) (kept stay ∙ l.invariant.1))
      | else-ne w ↦
          let gone : p (get_or places l.i vacant) ≡ false = rw (← c.active_at-a.ensures) (sym c.ne.ensures ∙ w.if-ne.false) in
          (omega arith, rw (w.kept-is, w.visits-is) (left gone ∙ l.invariant.1))
    ]

pub returns : goal.returns
returns c =
    let l = c.loop-i in
    let places = actives l.visits in
    let e = sym (ranks-end (stays c.args.v.0) c.args.t.count l.kept l.i places c.loop-i-test.false) ∙ l.invariant.1 in
    let w : l.kept ≤ length places = rw actives-length (omega (arith, c.requires.within)) in
    record {
      kept = e;
      count = sym (length-take-le l.kept places w) ∙ ap length e;
      room = omega (arith, c.requires.within);
    }
