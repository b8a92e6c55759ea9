-- `recovery::format::format` meets its contract. Assumes nothing.
use Rattle.std.proofs.Common.{sym, arith, lt-ltb, eq-eqb, ne_eqb}
use Rattle.recovery_model.specs.Answering.{format_bytes}
use Rattle.recovery.proofs.FormatPages.{cell-found, no-cell-found, no_rows, formatted-done}
use Rattle.recovery.proofs.format.format.Goals as goal

pub returns-then-cells-ne-CELL_LIMIT : goal.returns-then-cells-ne-CELL_LIMIT
unfolding format_bytes
returns-then-cells-ne-CELL_LIMIT c = rw (ne_eqb _ _ c.if-cells-ne-CELL_LIMIT.true)

pub overflow_cast-result : goal.overflow_cast-result
overflow_cast-result c =
    let k = cell-found c.args.cells.now c.in-Some.c c.in-Some.ensures in
    record { fits = omega (arith, k.0, k.1) }

pub returns-in-Some : goal.returns-in-Some
unfolding format_bytes
returns-in-Some c =
    let k = cell-found c.args.cells.now c.in-Some.c c.in-Some.ensures in
    rw (eq-eqb _ _ c.if-cells-ne-CELL_LIMIT.false, lt-ltb _ _ k.0, k.1)

pub returns : goal.returns
returns c =
    let long = c.if-cells-ne-CELL_LIMIT.false in
    rw (no_rows _ _ (c.fill.ensures.after (λ y e. e)) c.requires.0, c.build_charts.ensures) (sym (formatted-done _ _ _ long (no-cell-found c.args.cells.now c.in_default.ensures)))
