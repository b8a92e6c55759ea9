-- `tables::updates::hand_over` meets its contract. The loop's invariant: the entries passed are handed on, the others are as they were. Assumes nothing.
use Rattle.std.proofs.Common.{◌≡◌, ◌<◌, length, get_or, ◌∙◌, arith}
use lib.Seq.{set-get_or}
use Rattle.book.specs.Scopes.{unused}
use Rattle.tables_model.specs.Table.{among, handed_on}
use Rattle.tables_model.specs.Entries.{scope_in}
use Rattle.tables_model.specs.Layout.{entries}
use Rattle.tables.proofs.Loops.{mapped_next}
use Rattle.tables.proofs.Flat.{entries-length}
use Rattle.tables.proofs.updates.hand_over.Goals as goal
use Rattle.tables.proofs.updates.hand_over.Goals.{then-is_held, else-is_held}

pub loop-i-preserved : goal.loop-i-preserved
loop-i-preserved c =
    let l = c.loop-i in
    let on = handed_on c.args.g.0 c.args.r.0 (among c.args.cs) in
    let now = entries l.t in
    let ss = entries c.args.t.now in
    let h : l.i < length ss = rw entries-length (omega (arith, c.requires.within, c.loop-i-test.true)) in
    let turn = rw (← l.invariant) at (mapped_next on l.i ss unused h) in
    elim c.if-is_held.branch [
      | then-is_held w ↦
          let put : scope_in w.passed.result ≡ on (get_or now l.i unused) =
          w.passed.ensures ∙ rw (← c.entry_at-e.ensures, ← c.is_held.ensures, w.if-is_held.true) in
          rw (w.t-is, w.put_entry.ensures, put) turn
      | else-is_held w ↦
          let same : on (get_or now l.i unused) ≡ get_or now l.i unused = rw (← c.entry_at-e.ensures, ← c.is_held.ensures, w.if-is_held.false) in
          rw w.t-is (rw (same, set-get_or) at turn)
    ]
