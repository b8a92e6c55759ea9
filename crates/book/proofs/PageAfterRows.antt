-- 01: flush forces the tail up to the page's mark, then writes the page. So when the page is stored, no change or undo row of the page waits.
use Prim.Native.Nat.{ℕ, zero, suc}
use native.Mathlib.Omega.{arith}
use mathlib.Core.Path.{◌≡◌, refl, ap, ◌∙◌}
use mathlib.Core.Bool.{Bool, true, false}
use mathlib.Core.List.{List, [], ◌∷◌, ◌++◌}
use lib.ListN.{drop, drop_of_length-le}
use Rattle.book.specs.Lists.{times}
use Rattle.book.specs.Rows.{Row}
use Rattle.book.specs.Cells.{last_on}
use Rattle.book.specs.Calls.{flushes}
use Rattle.book.specs.Power.{Book, Fuse, none, left, store_row, store_page}
use Rattle.book.specs.Book.{finish}
use Rattle.book.proofs.Lists.{clash}
use Rattle.book.proofs.Steps.{book_of}
use Rattle.book.proofs.Force.{times-closed}
use Rattle.book.proofs.Marks.{last-drop}

-- n rows of the tail stored one by one leave the rest waiting, where the book is open after them
waits-after : (n : ℕ) (w s : List Row) (f : Fuse) → (times n store_row (book_of s w f true)).is_open ≡ true
    → (times n store_row (book_of s w f true)).waiting ≡ drop n w
waits-after zero w s f o = refl
waits-after (suc n) [] s f o = waits-after n [] s f o ∙ drop_of_length-le [] {i = n} (omega arith)
waits-after (suc n) (r ∷ w) s none o = waits-after n w (s ++ (r ∷ [])) none o
waits-after (suc n) (r ∷ w) s (left zero) o = clash _ o (ap (λ (b : Book). b.is_open) (times-closed n s))
waits-after (suc n) (r ∷ w) s (left (suc m)) o = waits-after n w (s ++ (r ∷ [])) (left m) o

-- a page write leaves the waiting rows, where the book is open after it; and it was open before
page-waits : (b : Book) → (store_page b).is_open ≡ true → (b.is_open ≡ true) × ((store_page b).waiting ≡ b.waiting)
page-waits b = go b.stored b.waiting b.fuse b.is_open
  where
    go : (s w : List Row) (f : Fuse) (t : Bool) → (store_page (book_of s w f t)).is_open ≡ true → (t ≡ true) × ((store_page (book_of s w f t)).waiting ≡ w)
    go s w none true o = (refl, refl)
    go s w (left zero) true o = clash _ o refl
    go s w (left (suc n)) true o = (refl, refl)
    go s w f false o = clash _ o refl

-- 01: when a flush is done, no change or undo row of the page waits
pub flush-stores : (b : Book) (p : ℕ) → b.is_open ≡ true → (finish (flushes p) b).is_open ≡ true → last_on p (finish (flushes p) b).waiting ≡ 0
flush-stores b p o = go b.stored b.waiting b.fuse b.is_open o
  where
    go : (s w : List Row) (f : Fuse) (t : Bool) → t ≡ true → (finish (flushes p) (book_of s w f t)).is_open ≡ true
        → last_on p (finish (flushes p) (book_of s w f t)).waiting ≡ 0
    go s w f true e q =
        let k = page-waits (times (last_on p w) store_row (book_of s w f true)) q in
        ap (last_on p) (k.1 ∙ waits-after (last_on p w) w s f k.0) ∙ last-drop p w
    go s w f false e q = clash _ e refl
