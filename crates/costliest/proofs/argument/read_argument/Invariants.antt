-- `costliest::argument::read_argument` meets its contract. The loop's invariant: what the bytes so far ask for, and then the others, is what all ask for.
use mathlib.Core.Path.{◌≡◌}
use lib.ListN.{drop}
use Rattle.std.proofs.Common.{Ok}
use Rattle.book.specs.Lists.{foldl}
use Rattle.costliest.specs.Argument.{next, asked}
use Rattle.costliest.proofs.argument.read_argument.Given as goal

abbrev pub invariant-loop-b : goal.invariant-loop-b
invariant-loop-b l = foldl next (Ok l.n) (drop l.b-index l.text) ≡ asked l.text
