-- One stored write: what it does to the fuse, and to the bytes where it lands.
use Rattle.std.specs.Prelude.{ℕ, zero, suc, ◌*◌, List, ◌++◌, take, drop, Option, Some, None}
use Rattle.book.specs.Limits.{row_length, page_length}
use Rattle.state.specs.declared.ram.Fuse.{Fuse}
use Rattle.state.specs.declared.ram.Fuse.TheVariants.{Unlimited, Left}

-- 01: the write after the last one doesn't land
abbrev pub spend_of : Fuse → Option Fuse
spend_of Unlimited = Some Unlimited
spend_of (Left zero) = None
spend_of (Left (suc n)) = Some (Left n)

-- the list with `size` numbers replaced from place a on
abbrev pub put_at : ℕ → List ℕ → ℕ → List ℕ → List ℕ
put_at size l a r = take a l ++ (r ++ drop size (drop a l))

abbrev pub put_row : List ℕ → ℕ → List ℕ → List ℕ
put_row log k row = put_at row_length log (row_length * k) row

abbrev pub put_page : List ℕ → ℕ → List ℕ → List ℕ
put_page charts p page = put_at page_length charts (page_length * p) page

-- old or new, never a mixture
abbrev pub if_lands : Option Fuse → List ℕ → List ℕ → List ℕ
if_lands (Some f) new old = new
if_lands None new old = old
