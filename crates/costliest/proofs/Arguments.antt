-- Arguments by example: which ask for a log, and which do not. They hold by computing. Assumes nothing.
use mathlib.Core.Path.{◌≡◌, refl}
use mathlib.Core.List.{[], ◌∷◌}
use Rattle.run_lines.specs.Lines.{decimal}
use Rattle.std.proofs.Common.{Some, None, Ok, Err}
use Rattle.costliest.specs.Argument.{no_number, asked}

pub record Arguments : Type 0 where
  pub zero : asked (decimal 0) ≡ Ok (Some 0)
  pub nine : asked (decimal 9) ≡ Ok (Some 9)
  pub ten : asked (decimal 10) ≡ Ok (Some 10)
  pub most : asked (decimal 2048) ≡ Ok (Some 2048)
  pub one_more_lem : asked (decimal 2049) ≡ Err no_number
  pub ten-times : asked (decimal 20480) ≡ Err no_number
  pub empty : asked [] ≡ Ok None
  -- `+5`, `-5`, `05`, `00`, `5 `, ` 5`, `/` and `:`, which stand before 0 and after 9
  pub plus : asked (43 ∷ 53 ∷ []) ≡ Err no_number
  pub minus : asked (45 ∷ 53 ∷ []) ≡ Err no_number
  pub zero-first : asked (48 ∷ 53 ∷ []) ≡ Err no_number
  pub two-zeros : asked (48 ∷ 48 ∷ []) ≡ Err no_number
  pub space-after : asked (53 ∷ 32 ∷ []) ≡ Err no_number
  pub space-before : asked (32 ∷ 53 ∷ []) ≡ Err no_number
  pub before-digits : asked (47 ∷ []) ≡ Err no_number
  pub after-digits : asked (58 ∷ []) ≡ Err no_number

pub arguments : Arguments
unfolding asked decimal
arguments = record {
  zero = refl;
  nine = refl;
  ten = refl;
  most = refl;
  one_more_lem = refl;
  ten-times = refl;
  empty = refl;
  plus = refl;
  minus = refl;
  zero-first = refl;
  two-zeros = refl;
  space-after = refl;
  space-before = refl;
  before-digits = refl;
  after-digits = refl;
}
