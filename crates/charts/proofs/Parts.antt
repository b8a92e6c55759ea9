-- Beyond the last page of the charts there are no bytes: what is read there is 0, and nothing moves. Assumes nothing.
use Rattle.std.proofs.Common.{◌≡◌, ℕ, ◌*◌, ◌/◌, ◌≤◌, List, [], length, take, ℤ, pos, sym, ap, append-nil, arith, drop_of_length-le, take_all}
use Rattle.book.specs.Rows.{moves}
use Rattle.book.specs.Pages.{page_at, page_of, cell_of}
use Rattle.charts.specs.Moves.{page_moved, charts_moved}

module _ (bs : List ℕ) (long : length bs ≡ 1024) where
  pub page-beyond : (p : ℕ) → 32 ≤ p → page_at bs p ≡ []
  page-beyond p h = let beyond : length bs ≤ 32 * p = omega arith in ap (take 32) (drop_of_length-le bs beyond)

  pub mark-beyond : (p : ℕ) → 32 ≤ p → 0 ≡ (page_of (page_at bs p)).mark
  unfolding page_of
  mark-beyond p h = rw (page-beyond p h)

  pub cell-beyond : (c : ℕ) → 224 ≤ c → pos 0 ≡ cell_of bs c
  unfolding page_of
  cell-beyond c h = rw (page-beyond (c / 7) (omega arith))

  pub moved-beyond : (c : ℕ) (z : ℤ) (n : ℕ) → 224 ≤ c → bs ≡ charts_moved bs (moves c z) n
  unfolding page_moved charts_moved
  moved-beyond c z n h =
      let beyond : length bs ≤ 32 * (c / 7) = omega arith in
      sym (rw (take_all (32 * (c / 7)) bs beyond, drop_of_length-le bs beyond) (append-nil bs))
