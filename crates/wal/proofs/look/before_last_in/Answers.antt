-- `wal::look::before_last_in` meets its contract.
use Prim.Native.Nat.{◌+◌, ◌-◌, ◌*◌}
use mathlib.Core.Path.{◌≡◌, sym, ◌∙◌}
use native.Mathlib.Omega.{arith}
use Rattle.wal.specs.Looking.{row_of_part}
use Rattle.wal.proofs.LookUps.{part-row, finds, passes, begins-at, ends-at}
use Rattle.wal.proofs.look.before_last_in.Goals as goal

pub loop-n-init : goal.loop-n-init
loop-n-init c =
    let a = c.args in
    rw (c.min-above.ensures, c.from-2.ensures) (begins-at a.b.now a.base a.rows a.s.maker.0 a.s.cell.0 a.s.first.0 a.s.last.0)

pub returns-then-is_change_by : goal.returns-then-is_change_by
returns-then-is_change_by c =
    let l = c.loop-n in
    let a = c.args in
    let e : 16 * (l.n - 1 - a.base - 1) + 16 - 16 * (l.n - 1 - a.base - 1) ≡ 16 = omega arith in
    let is = sym c.is_change_by.ensures ∙ c.if-is_change_by.true in
    let look = row_of_part a.b.now a.base a.rows in
    let here = part-row a.b.now a.base a.rows (l.n - 1) (omega arith) (omega arith) in
    let found = finds look a.s.maker.0 a.s.cell.0 a.s.first.0 (l.n - 1) l.n (omega arith) (omega arith) (omega arith) (rw here (rw e at is)) in
    (sym (l.invariant ∙ found), omega arith, omega arith)

pub loop-n-preserved : goal.loop-n-preserved
loop-n-preserved c =
    let l = c.loop-n in
    let a = c.args in
    let e : 16 * (l.n - 1 - a.base - 1) + 16 - 16 * (l.n - 1 - a.base - 1) ≡ 16 = omega arith in
    let isnt = sym c.is_change_by.ensures ∙ c.if-is_change_by.false in
    let look = row_of_part a.b.now a.base a.rows in
    let here = part-row a.b.now a.base a.rows (l.n - 1) (omega arith) (omega arith) in
    let passed = passes look a.s.maker.0 a.s.cell.0 a.s.first.0 (l.n - 1) l.n (omega arith) (omega arith) (rw here (rw e at isnt)) in
    l.invariant ∙ passed

pub returns : goal.returns
returns c =
    let l = c.loop-n in
    let a = c.args in
    (sym (l.invariant ∙ ends-at a.b.now a.base a.rows a.s.maker.0 a.s.cell.0 a.s.first.0 l.n (omega arith)), omega arith, tt)
