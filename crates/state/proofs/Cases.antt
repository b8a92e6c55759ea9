-- An answer with a number other than 0 is a refusal.
use mathlib.Core.Path.{◌≡◌, refl}
use mathlib.Core.Logic.{◌≢◌}
use Rattle.std.specs.Prelude.{Result, Ok, Err}
use Rattle.state.specs.declared.answers.Done.{Done}
use Rattle.state.specs.declared.answers.Refusal.{Refusal}
use Rattle.state.specs.Answers.{number_and_value, refusal, case_of}

pub refusal-case : (a : Result Done Refusal) → (number_and_value a).number ≢ 0 → case_of a ≡ refusal
refusal-case (Ok d) h = absurd (h refl)
refusal-case (Err r) h = refl
