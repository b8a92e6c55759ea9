-- The ranges of a row's fields: a change that has 16 bits is in its range, so that `in_range` does not test it. Assumes nothing.
use mathlib.Core.Path.{◌≡◌}
use mathlib.Core.Bool.{true}
use native.Mathlib.Omega.{arith}
use lib.IntN.{ℤ, pos, negsuc}
use borrow.Author.Tests.{le-leb}
use mir.Syntax.{w16}
use mir.Val.{SFits}
use Rattle.book.specs.Rows.{is_amount}

pub amount-in-range : (a : ℤ) → SFits w16 a → is_amount a ≡ true
amount-in-range (pos a) f = le-leb a 32767 (omega arith)
amount-in-range (negsuc a) f = rw (le-leb a 32767 (omega arith))

pub ruleset of_amounts = (amount-in-range)
