-- What the statements on a page redone alone say (document 02, L3), each taken to a fact: of the last page, and of two orders of the pages.
use Prim.Native.Nat.{ℕ}
use native.Mathlib.Omega.{arith}
use mathlib.Core.Path.{◌≡◌, refl, ap, sym, ◌∙◌}
use mathlib.Core.Bool.{Bool, true, false, ◌||◌}
use mathlib.Core.List.{List, ◌∷◌}
use lib.ListN.{length}
use lib.IntN.{pos}
use lib.Dec.{eqb}
use Rattle.book.specs.Lists.{tabulate, foldl}
use Rattle.book.specs.Rows.{Row}
use Rattle.book.specs.Book.{done}
use Rattle.book.specs.Numbers.{AreBytes}
use Rattle.book.specs.LogBytes.{good, read_log}
use Rattle.book.specs.Pages.{page_bytes, chart_bytes, page_at, is_page, redone}
use Rattle.book.specs.Opening.{bad_page}
use Rattle.state.specs.declared.ram.Fuse.TheVariants.{Left}
use Rattle.state.specs.World.{World, right_lengths}
use Rattle.recovery_model.specs.Scan.{scanned}
use Rattle.recovery_model.specs.Charts.{redo_charts}
use Rattle.recovery_model.specs.Openings.{no_index, backward_from}
use Rattle.recovery_model.specs.PageAlone.{RedoneAlone, redone_alone, PageAlone, with_redone, AllPages, AnyOrder, CopyAlone}
use Rattle.recovery_model.specs.ForwardByPages.{GoesBackwardFrom, AnyOrderAlone}
use Rattle.state.specs.CallContracts.{opens}
use Rattle.book.specs.Power.{left}
use Rattle.recovery_model.proofs.PageOrder.{all-pages}

-- the pages from the first to the last, and the last one before them all: it is redone twice
abbrev in_order : List ℕ
in_order = tabulate 32 0 (λ p. p)

abbrev last_twice : List ℕ
last_twice = 31 ∷ in_order

last-twice : AllPages last_twice
last-twice p h = go (eqb p 31) (all-pages p h)
  where
    go : (t : Bool) {m : Bool} → m ≡ true → (t || m) ≡ true
    go true e = refl
    go false e = e

-- the last page, of an allowed log whose check it passes
pub last-page-alone : PageAlone → (log : List ℕ) (rs : List Row) → length log ≡ 65536 → read_log log ≡ good rs → (bs : List ℕ) → length bs ≡ 32
    → is_page rs 31 bs ≡ true → ((redone_alone log 31 bs).answer ≡ done (pos 0)) × ((redone_alone log 31 bs).page ≡ page_bytes (redone rs 31 bs))
unfolding PageAlone
last-page-alone said log rs long e bs size pass =
    let is = said log rs long e 31 bs (omega arith) size pass in
    (ap (λ (r : RedoneAlone). r.answer) is, ap (λ (r : RedoneAlone). r.page) is)

-- any 1,024 bytes, beside any log
pub same_copy : AnyOrder → (log charts : List ℕ) → length charts ≡ 1024 → AreBytes charts
    → foldl (with_redone log) charts last_twice ≡ foldl (with_redone log) charts in_order
unfolding AnyOrder
same_copy said log charts size bytes = said log charts size bytes last_twice last-twice ∙ sym (said log charts size bytes in_order all-pages)

pub copy-of-the-book : CopyAlone → (log charts : List ℕ) → length log ≡ 65536 → length charts ≡ 1024 → AreBytes charts → (rs : List Row) → read_log log ≡ good rs
    → bad_page rs charts ≡ 32 → foldl (with_redone log) charts last_twice ≡ chart_bytes (λ p. redone rs p (page_at charts p))
unfolding CopyAlone
copy-of-the-book said log charts long size bytes rs e pass = said log charts long size bytes rs e pass last_twice last-twice

-- an opening with a fuse, which goes backward from that copy
module _ (said : AnyOrderAlone) (w : World) (right : right_lengths w ≡ true) (bytes : AreBytes w.charts) (rs : List Row) (e : read_log w.log ≡ good rs)
    (pass : bad_page rs w.charts ≡ 32)
  where
    from-copy : GoesBackwardFrom (Left 3) w (foldl (with_redone w.log) w.charts last_twice)
    unfolding AnyOrderAlone
    from-copy = said (Left 3) w right bytes rs e pass last_twice last-twice

    pub loop-over-pages : foldl (with_redone w.log) w.charts last_twice ≡ redo_charts w.log (scanned w.log no_index).rows w.charts
    loop-over-pages = from-copy.forward

    pub backward-from-copy : opens (left 3) w ≡
        backward_from (Left 3) w.log w.charts (scanned w.log no_index) (foldl (with_redone w.log) w.charts last_twice)
    backward-from-copy = from-copy.backward
