-- What a format and an opening come to on the lent bytes, against their promises. Assumes nothing.
use mathlib.Core.Path.{◌≡◌, refl, ◌∙◌}
use mathlib.Core.Logic.{inr}
use mathlib.Core.Bool.{true, false}
use mathlib.Core.List.{List}
use lib.IntN.{ℤ}
use Rattle.book.specs.Numbers.{AreBytes}
use Rattle.state.specs.declared.ram.Fuse.{Fuse}
use Rattle.state.specs.World.{World, right_lengths}
use Rattle.state.specs.Answers.{written, HasCase}
use Rattle.state.specs.CallContracts.{Returned, answered_by, formats, opens}
use Rattle.state.specs.Functions.{Formats, Opens}
use Rattle.recovery_model.specs.Openings.{no_index, checked_by, opens_by}
use Rattle.recovery_model.specs.Scan.{scanned}
use Rattle.recovery_model.proofs.Post.{opens_by_lem}
use Rattle.cores.proofs.Lengths.{wrong_length}

pub format-wrong : (values : List ℤ) (w : World) → right_lengths w ≡ false → Formats values w (wrong_length w)
unfolding formats
format-wrong values w e = record { post = record { is = rw e }; case = inr refl }

pub open-wrong : (f : Fuse) (w : World) → right_lengths w ≡ false → Opens f w (wrong_length w)
unfolding opens
open-wrong f w e = record { post = record { is = rw e }; case = inr refl }

pub opened : (f : Fuse) (w : World) → AreBytes w.charts → (x : Returned) → answered_by x ≡ checked_by f w.log w.charts (scanned w.log no_index)
    → HasCase written x.result.answer → right_lengths w ≡ true → Opens f w x
unfolding opens_by
opened f w bytes x is case e =
    let by : checked_by f w.log w.charts (scanned w.log no_index) ≡ opens_by f w = rw e in
    record { post = record { is = is ∙ by ∙ opens_by_lem f w bytes }; case = case }
