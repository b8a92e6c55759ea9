-- `recovery::format::bad_cell` meets its contract. The loop's invariant: the cells before `c` passed, so the first that fails is the first from `c` on. Assumes nothing.
use Rattle.std.proofs.Common.{ℕ, Bool, get_or, pos, sym, ◌∙◌, arith, lt-ltb, le-ltb, to_z-of_z, w32, SFits}
use Rattle.book.specs.Numbers.{within}
use Rattle.book.specs.Limits.{format_bound}
use Rattle.recovery.proofs.PageTurns.{passed, failed, all-passed}
use Rattle.recovery.proofs.format.bad_cell.Goals as goal

pub loop-c-preserved : goal.loop-c-preserved
loop-c-preserved c =
    let l = c.loop-c in
    let fits : SFits w32 (get_or c.args.cells.now l.c (pos 0)) = record { sfits = c.is_format-arg-1.given } in
    l.invariant ∙ passed 224 _ l.c (omega arith) (sym (c.is_format.ensures ∙ rw (to_z-of_z fits)) ∙ c.if-not-is_format.false)

pub returns-then-not-is_format : goal.returns-then-not-is_format
returns-then-not-is_format c =
    let l = c.loop-c in
    let fits : SFits w32 (get_or c.args.cells.now l.c (pos 0)) = record { sfits = c.is_format-arg-1.given } in
    let test : ℕ → Bool = λ k. within format_bound (get_or c.args.cells.now k (pos 0)) in
    rw (l.invariant, failed 224 test l.c (omega arith) (sym (c.is_format.ensures ∙ rw (to_z-of_z fits)) ∙ c.if-not-is_format.true), lt-ltb l.c 224 (omega arith))

pub returns : goal.returns
returns c =
    let l = c.loop-c in
    let test : ℕ → Bool = λ k. within format_bound (get_or c.args.cells.now k (pos 0)) in
    rw (l.invariant, all-passed 224 test l.c (omega arith), le-ltb l.c 224 (omega arith))
