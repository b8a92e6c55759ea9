-- `embed::packed::joined` meets its contract. Assumes nothing.
use native.Mathlib.Omega.{arith}
use mathlib.Core.Path.{◌≡◌, ap, ◌∙◌}
use mir.Syntax.{w32}
use mir.Val.{SFits, of_z}
use mir.Facts.{to_z-of_z}
use borrow.Author.Rules.{rules}
use Rattle.embed.proofs.Answers.{answer-packed}
use Rattle.embed.proofs.packed.joined.Goals as goal

pub returns : goal.returns
returns c =
    let value-fits : SFits w32 c.args.value = search rules in
    let x = c.args in
    let bits : c.cast_unsigned.result ≡ of_z w32 x.value = c.cast_unsigned.ensures ∙ ap (of_z w32) (to_z-of_z value-fits) in
    rw (c.from.ensures, c.from-2.ensures, bits) (answer-packed x.number x.value x.rows x.pages (omega arith) value-fits (omega arith))
