-- `cores::crossing::flat_into` meets its contract. Assumes nothing.
use Prim.Native.Nat.{◌<◌}
use mathlib.Core.Path.{◌≡◌, ◌∙◌}
use native.Mathlib.Omega.{arith}
use lib.ListN.{length}
use Rattle.book.specs.Scopes.{unused}
use Rattle.tables_model.specs.Entries.{scope_in}
use Rattle.tables_model.specs.Layout.{entries}
use Rattle.tables_model.specs.Meaning.{scope_of}
use Rattle.tables.proofs.Flat.{entries-length}
use Rattle.cores.proofs.Crossings.{crossed-next, crossed-all}
use borrow.Author.Rules.{rules}
use Rattle.cores.proofs.crossing.flat_into.Goals as goal

pub loop-i-preserved : goal.loop-i-preserved
loop-i-preserved c =
    let long : length c.args.t ≡ 64 = search rules in
    let l = c.loop-i in
    let p = c.put_entry in
    let below : l.i < 64 = omega arith in
    let h : l.i < length c.args.t = omega (arith, long) in
    let k : l.i < length (entries l.f) = rw entries-length below in
    (p.auto.t ∙ l.invariant.0, rw p.ensures (crossed-next scope_in c.args.t (entries l.f) l.i l.invariant.1 (scope_of unused) h k))

pub returns : goal.returns
returns c =
    let long : length c.args.t ≡ 64 = search rules in
    let l = c.loop-i in
    crossed-all scope_in c.args.t (entries l.f) l.i l.invariant.1 (omega (arith, long)) (rw entries-length (omega arith))
