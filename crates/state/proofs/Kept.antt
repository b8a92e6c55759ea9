-- What stands for a book goes on standing for the book after each call that meets its contract.
use Prim.Native.Nat.{ℕ, ◌+◌, ◌<◌}
use mathlib.Core.Path.{◌≡◌, refl, ap, sym, subst}
use mathlib.Core.Bool.{true}
use mathlib.Core.List.{List}
use lib.IntN.{ℤ}
use Rattle.book.specs.Limits.{cell_limit, chart_bound, move_bound}
use Rattle.book.specs.Calls.{Call, Typed, ending}
use Rattle.book.specs.Power.{Book}
use Rattle.book.specs.Book.{call}
use Rattle.book.specs.Numbers.{within}
use Rattle.book.specs.Logs.{Sound}
use Rattle.book.proofs.Sound.{sound-call}
use Rattle.state.specs.World.{World, world_of, Charts, Represents}
use Rattle.state.specs.CallContracts.{Answered, CallPost, charts_after, by_book}
use Rattle.state.proofs.Lengths.{represented-lengths}
use Rattle.state.proofs.StoredCharts.{charts-call}

-- the values that a sound book comes to stand for it
pub represents-world : (cells : ℕ → ℤ) (b : Book) (charts : List ℕ) → ((c : ℕ) → c < cell_limit → within (chart_bound + move_bound) (cells c) ≡ true) → Sound b
    → Charts cells b.stored charts → Represents cells b (world_of cells b charts)
unfolding world_of
represents-world cells b charts r s C = record { range = r; sound = s; charts = C; is = refl }

pub kept : (cells : ℕ → ℤ) (b : Book) (k : Call) (given : World) (x : Answered) → Represents cells b given → Typed k → CallPost k given x
    → Represents cells (call cells b true k).book x.world
unfolding by_book
kept cells b k given x r t post =
    let is = post.is (represented-lengths cells b given r) cells b r in
    subst (Represents cells (call cells b true k).book) (sym (ap (λ (x : Answered). x.world) is))
    (represents-world cells (call cells b true k).book (charts_after cells b (ending k) (call cells b true k).answer.number given.charts) r.range
    (sound-call cells b true k r.sound t) (charts-call cells b k given.charts r.sound r.charts))
