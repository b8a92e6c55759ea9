-- `costliest::argument::read_argument` meets its contract. The loop's invariant: what the bytes so far ask for, and then the others, is what all ask for.
use mathlib.Core.Path.{◌≡◌, refl, sym, ap, ◌∙◌}
use mathlib.Core.List.{List, [], ◌∷◌}
use Prim.Native.Nat.{ℕ, suc}
use native.Mathlib.Omega.{arith}
use lib.ListN.{get_or, drop}
use lib.Seq.{drop-cons}
use Rattle.std.proofs.Common.{Ok, Err}
use Rattle.std.proofs.lemmas.Result.{err_from_is_err_and}
use Rattle.book.specs.Lists.{foldl}
use Rattle.costliest.specs.declared.argument.NoNumber.{NoNumber}
use Rattle.costliest.specs.Argument.{Asked, next, number, asked}
use Rattle.costliest.proofs.argument.read_argument.Goals as goal

pub loop-b-init : goal.loop-b-init
unfolding asked
loop-b-init c = refl

-- whatever follows bytes that are no number, they are none
none-with : (e : NoNumber) (bs : List ℕ) → foldl next (Err e) bs ≡ Err e
none-with e [] = refl
none-with e (b ∷ bs) = none-with e bs

pub returns-in_err-further : goal.returns-in_err-further
returns-in_err-further c =
    let l = c.loop-b in
    let text = c.args.text.now in
    let error = err_from_is_err_and c.from_residual.result c.from_residual.ensures.1 in
    let read : next (Ok l.n) (get_or text l.b-index 0) ≡ Err error.0 = ap number (sym c.in_err-further.ensures) in
    let rest = drop (suc l.b-index) text in
    error.1 ∙ sym (none-with error.0 rest) ∙ ap (λ (a : Asked). foldl next a rest) (sym read) ∙ sym (ap (foldl next (Ok l.n)) (drop-cons text l.b-index 0 (omega arith))) ∙ l.invariant
