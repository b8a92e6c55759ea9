-- `journal::writes::put_page` meets its contract. Assumes nothing.
use native.Mathlib.Omega.{arith}
use mathlib.Core.Path.{◌≡◌, sym, ◌∙◌}
use mathlib.Core.List.{◌++◌, append-nil}
use lib.ListN.{take, drop, length-drop, drop_of_length-le}
use lib.Seq.{take-add, take_all, length-take-le}
use Rattle.journal.proofs.Shifts.{put_both}
use Rattle.journal.proofs.writes.put_page.Goals as goal

pub returns : goal.returns
returns c =
    let a = c.args in
    let page = a.page.now in
    let old = a.stored.now in
    let front = take 16 page in
    let back = take 16 (drop 16 page) in
    let long = length-take-le 16 page (omega arith) in
    let rest = length-take-le 16 (drop 16 page) (simp length-drop (omega arith)) in
    let whole : front ++ back ≡ page = sym (take-add 16 16 page) ∙ take_all 32 page (omega arith) in
    let one = c.put_sixteen.ensures in
    let both = put_both old front back 0 16 16 long rest (omega arith) in
    let f = rw one at c.put_sixteen-2.ensures in
    f ∙ both ∙ rw (whole, drop_of_length-le old {i = 32} (omega arith)) (append-nil page)
