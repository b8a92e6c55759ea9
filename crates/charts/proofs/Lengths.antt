-- A move changes no length, whatever the bytes. Assumes nothing.
use Rattle.std.proofs.Common.{◌≡◌, ℕ, ◌+◌, ◌*◌, ◌%◌, List, length, ℤ, ◌∙◌}
use lib.Seq.{sets, length-sets}
use Rattle.book.specs.Numbers.{le, number, bits_of}
use Rattle.charts.specs.Moves.{page_moved}

pub page-length : (bs : List ℕ) (j : ℕ) (z : ℤ) (n : ℕ) → length (page_moved bs j z n) ≡ length bs
unfolding page_moved
page-length bs j z n =
    length-sets (sets bs 0 (le 2 n)) (4 + 4 * j) (le 4 ((number 4 bs (4 + 4 * j) + bits_of 32 z) % 4294967296)) ∙ length-sets bs 0 (le 2 n)
