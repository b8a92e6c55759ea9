-- `tables::lookup::highest` meets its contract. The loop's invariant: the search of all entries in use gives what the search of those left gives, from the best one so far. Assumes nothing.
use Rattle.std.proofs.Common.{◌∙◌, arith, le-ltb, lt-ltb, ne_eqb}
use Rattle.tables.proofs.Searches.{found_at, highest_next}
use Rattle.tables.proofs.lookup.highest.Goals as goal
use Rattle.tables.proofs.lookup.highest.Goals.{then-last-x, else-last-x}

pub loop-i-preserved : goal.loop-i-preserved
loop-i-preserved c =
    let l = c.loop-i in
    let turn = highest_next c.args.w c.args.t.now c.args.used l.i l.last (found_at l.last l.found) c.loop-i-test.true c.requires.within in
    l.invariant ∙ turn ∙ elim c.if-last-x.branch [
      | then-last-x z ↦ rw (← c.last_by-x.ensures, lt-ltb _ _ z.if-last-x.true, z.last-is, z.found-is, ne_eqb c.last_by-x.result 0 (λ e. omega arith))
      | else-last-x z ↦ rw (← c.last_by-x.ensures, le-ltb _ _ z.if-last-x.false, z.last-is, z.found-is)
    ]
