-- `rows::reader::has_row_bytes` meets its contract. Assumes nothing.
use Rattle.std.proofs.Common.{◌≡◌, eqb, arith, rules, ◌≤◌, ◌∙◌, sym}
use Rattle.book.specs.Numbers.{number}
use Rattle.book.proofs.Lists.{is_false}
use Rattle.rows.proofs.ByTable.{known-kind, not-as-table, own-number}
use Rattle.rows.proofs.reader.has_row_bytes.Goals.{then-contains, else-contains}
use Rattle.rows.proofs.reader.has_row_bytes.Goals as goal

pub returns-then-is_as_table : goal.returns-then-is_as_table
returns-then-is_as_table c =
    elim c.if-contains.branch [
      | then-contains w ↦
          let n = c.args.n.0 in
          let b = c.args.b.now in
          let kind = c.from-kind.ensures in
          let from : 1 ≤ c.from-kind.result = search rules in
          let to : c.from-kind.result ≤ 7 = search rules in
          let table = sym w.is_as_table.ensures ∙ sym w.value-is ∙ c.if-is_as_table.true in
          let own : c.eq.result ≡ eqb (number 2 b 4) n = search rules in
          rw own (own-number n b (omega arith) c.requires (λ i. (c.type_inv.b i).fits) (omega arith) (omega arith) (rw kind at table))
      | else-contains w ↦ absurd (cc)
    ]

pub returns-else-is_as_table : goal.returns-else-is_as_table
returns-else-is_as_table c =
    elim c.if-contains.branch [
      | then-contains w ↦
          let table = sym w.is_as_table.ensures ∙ sym w.value-is ∙ c.if-is_as_table.false in
          c.if-is_as_table.false ∙ sym (not-as-table c.args.n.0 c.args.b.now (omega arith) (rw c.from-kind.ensures at table))
      | else-contains w ↦
          c.if-is_as_table.false ∙ sym (is_false _ (λ t.
          let k = known-kind c.args.n.0 c.args.b.now (omega arith) t in
          let from : 1 ≤ c.from-kind.result = omega arith in
          let to : c.from-kind.result ≤ 7 = omega arith in
          search rules))
    ]
