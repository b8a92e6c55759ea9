-- `rows::reader::read_row` meets its contract. Assumes nothing.
use Rattle.std.proofs.Common.{◌∙◌, sym, ap, rules}
use Rattle.book.specs.RowBytes.{row_of}
use Rattle.rows.specs.Reading.{read_of}
use Rattle.rows.specs.declared.Read.TheVariants.{Valid}
use Rattle.rows.proofs.Meanings.{meant-coded, coded-meant}
use Rattle.rows.proofs.RoundTrip.{some-kind, read-kind}
use Rattle.rows.proofs.reader.read_row.Goals as goal

pub returns-then-in_range : goal.returns-then-in_range
returns-then-in_range c =
    let b = c.args.b.now in
    let n = c.args.n.0 in
    let is = sym c.has_row_bytes.ensures ∙ c.if-has_row_bytes.true in
    rw (read-kind n b (some-kind n b is), is, ← (meant-coded (row_of b)), ← c.row_in-row.ensures, ← c.in_range.ensures, c.if-in_range.true)
    (ap Valid (sym (coded-meant _)))

pub returns-else-in_range : goal.returns-else-in_range
returns-else-in_range c =
    let b = c.args.b.now in
    let n = c.args.n.0 in
    let is = sym c.has_row_bytes.ensures ∙ c.if-has_row_bytes.true in
    rw (read-kind n b (some-kind n b is), is, ← (meant-coded (row_of b)), ← c.row_in-row.ensures, ← c.in_range.ensures, c.if-in_range.false)

pub returns-then-is_blank : goal.returns-then-is_blank
unfolding read_of
returns-then-is_blank c = search rules

pub returns-else-is_blank : goal.returns-else-is_blank
unfolding read_of
returns-else-is_blank c = search rules
