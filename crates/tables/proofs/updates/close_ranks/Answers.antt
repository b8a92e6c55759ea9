-- `tables::updates::close_ranks` meets its contract. The loop's invariant: the entries kept, and those left that another visit holds, are all that another visit holds. Assumes nothing.
use Rattle.std.proofs.Common.{◌≡◌, ◌≤◌, true, false, length, get_or, set, sym, ap, ◌∙◌, arith, length-take-le}
use lib.Seq.{set-get_or}
use Rattle.book.specs.Scopes.{unused}
use Rattle.tables_model.specs.Layout.{entries}
use Rattle.tables.proofs.Ending.{held_by_other}
use Rattle.tables.proofs.Loops.{ranks-kept, ranks-left, ranks-end}
use Rattle.tables.proofs.Flat.{entries-length}
use Rattle.tables.proofs.updates.close_ranks.Goals as goal
use Rattle.tables.proofs.updates.close_ranks.Goals.{then-ne, then-kept-i, else-kept-i, else-ne}

pub loop-i-preserved : goal.loop-i-preserved
loop-i-preserved c =
    let l = c.loop-i in
    let p = held_by_other c.args.v.0 in
    let n = c.args.used in
    let ss = entries l.t in
    let long : n ≤ length ss = rw entries-length c.requires.within in
    let kept = ranks-kept p n l.kept l.i ss unused l.invariant.0 c.loop-i-test.true long in
    let left = ranks-left p n l.kept l.i ss unused c.loop-i-test.true long in
    elim c.if-ne.branch [
      | then-ne w ↦
          let stay : p (get_or ss l.i unused) ≡ true = rw (← c.entry_at-e.ensures) (sym c.ne.ensures ∙ w.if-ne.true) in
          elim w.if-kept-i.branch [
            | then-kept-i x ↦ (omega arith, rw (w.kept-is, w.t-is, x.t-is, x.put_entry.ensures, c.entry_at-e.ensures) (kept stay ∙ l.invariant.1))
            | else-kept-i x ↦
                let same : set ss l.kept (get_or ss l.i unused) ≡ ss = rw (x.if-kept-i.false, set-get_or) in
                (omega arith, rw (w.kept-is, w.t-is, x.t-is) (rw same at (kept stay) ∙ l.invariant.1))
          ]
      | else-ne w ↦
          let gone : p (get_or ss l.i unused) ≡ false = rw (← c.entry_at-e.ensures) (sym c.ne.ensures ∙ w.if-ne.false) in
          (omega arith, rw (w.kept-is, w.t-is) (left gone ∙ l.invariant.1))
    ]

pub returns : goal.returns
returns c =
    let l = c.loop-i in
    let ss = entries l.t in
    let e = sym (ranks-end (held_by_other c.args.v.0) c.args.used l.kept l.i ss c.loop-i-test.false) ∙ l.invariant.1 in
    let w : l.kept ≤ length ss = rw entries-length (omega (arith, c.requires.within)) in
    record {
      kept = e;
      count = sym (length-take-le l.kept ss w) ∙ ap length e;
      within = omega (arith, c.requires.within);
    }
