-- The part of the check of a page that goes by its bytes alone.
use Rattle.std.specs.Prelude.{ℕ, Bool, ◌&&◌, List, ◌==◌}
use Rattle.book.specs.Limits.{places, chart_bound}
use Rattle.book.specs.Lists.{first_failing}
use Rattle.book.specs.Numbers.{number, within}
use Rattle.book.specs.Pages.{page_of}

-- 01, open, pages: bytes 2-3 are zero, and no cell is beyond ±200,000,000
unfoldable pub is_sound : List ℕ → Bool
is_sound bs = number 2 bs 2 == 0 && first_failing places 0 (λ j. within chart_bound ((page_of bs).cell j)) == places
