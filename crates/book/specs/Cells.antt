-- What a log comes to in a cell: by its rows, and by the changes whose last holder has a commit row (document 00, demand 3).
use Rattle.std.specs.Prelude.{ℕ, suc, ◌/◌, Bool, false, cond, ◌&&◌, ◌||◌, List, [], ◌∷◌, map, ℤ, pos, ◌+ℤ◌, eqb, leb}
use Rattle.book.specs.Lists.{keep, member, total}
use Rattle.book.specs.Limits.{places}
use Rattle.book.specs.Rows.{Row, Effect, nothing, moves, effect}
use Rattle.book.specs.Ledger.{Change, Ledger, ledger}

-- formatted at zero
abbrev pub zeros : ℕ → ℤ
zeros c = pos 0

-- what an effect moves cell c by
abbrev pub moved : ℕ → Effect → ℤ
moved c nothing = pos 0
moved c (moves k a) = cond (eqb k c) a (pos 0)

-- the row moves cell c by this much
abbrev pub moved_by : ℕ → Row → ℤ
moved_by c r = moved c (effect r)

-- the rows applied to cell c, from the value on that they start from
abbrev pub applied : (ℕ → ℤ) → List Row → ℕ → ℤ
applied cells rs c = cells c +ℤ total (map (moved_by c) rs)

-- 01: cell c is on page c / 7
abbrev pub page_of_cell : ℕ → ℕ
page_of_cell c = c / places

-- the effect is on the page
abbrev pub touches : ℕ → Effect → Bool
touches p nothing = false
touches p (moves c a) = eqb (page_of_cell c) p

-- the row is a change or an undo of the page
abbrev pub on_page : ℕ → Row → Bool
on_page p r = touches p (effect r)

-- 01: the page's mark, the number of its last change or undo row; 0 for none
abbrev pub last_on : ℕ → List Row → ℕ
last_on p [] = 0
last_on p (r ∷ rs) = let n = last_on p rs in cond (leb 1 n || on_page p r) (suc n) 0

-- the change's last holder has a commit row
abbrev pub is_kept : Ledger → Change → Bool
is_kept l x = member x.holder l.committed

-- 00: the formatted value plus the sum of the logged changes whose last holder has a commit row
unfoldable pub kept_sum : (ℕ → ℤ) → List Row → ℕ → ℤ
kept_sum cells rs c =
    let l = ledger rs in cells c +ℤ total (map (λ x. x.amount) (keep (λ x. eqb x.cell c && is_kept l x) l.changes))
