-- The code's rows and the book's: what a row of the code means, and the row of the code that means one of the book. The same of effects.
use Rattle.std.specs.Prelude.{neg_ℤ}
use Rattle.book.specs.Rows as book
use Rattle.rows.specs.declared.Row.{Row}
use Rattle.rows.specs.declared.Row.TheVariants.{Begin, Change, HandOver, Undo, Commit, Abort, HandOverAll}
use Rattle.rows.specs.declared.Effect.{Effect}
use Rattle.rows.specs.declared.Effect.TheVariants.{Nothing, Adds, Subtracts}

-- the book's row that a row of the code means
abbrev pub meant : Row → book.Row
meant (Begin v) = book.Row.begin v.0
meant (Change v c a) = book.Row.change v.0 c.0 a
meant (HandOver g r c) = book.Row.hand_over g.0 r.0 c.0
meant (Undo h c n a) = book.Row.undo h.0 c.0 n.0 a
meant (Commit v) = book.Row.commit v.0
meant (Abort v) = book.Row.abort v.0
meant (HandOverAll g r) = book.Row.hand_over_all g.0 r.0

-- the row of the code that means a row of the book
abbrev pub coded : book.Row → Row
coded (book.Row.begin v) = Begin (record { 0 = v })
coded (book.Row.change v c a) = Change (record { 0 = v }) (record { 0 = c }) a
coded (book.Row.hand_over g r c) = HandOver (record { 0 = g }) (record { 0 = r }) (record { 0 = c })
coded (book.Row.undo h c n a) = Undo (record { 0 = h }) (record { 0 = c }) (record { 0 = n }) a
coded (book.Row.commit v) = Commit (record { 0 = v })
coded (book.Row.abort v) = Abort (record { 0 = v })
coded (book.Row.hand_over_all g r) = HandOverAll (record { 0 = g }) (record { 0 = r })

-- what a row does to the charts, in the code's terms
abbrev pub effect_of : Row → Effect
effect_of (Begin v) = Nothing
effect_of (Change v c a) = Adds c a
effect_of (HandOver g r c) = Nothing
effect_of (Undo h c n a) = Subtracts c a
effect_of (Commit v) = Nothing
effect_of (Abort v) = Nothing
effect_of (HandOverAll g r) = Nothing

-- the book's effect that an effect of the code means
abbrev pub effect_meant : Effect → book.Effect
effect_meant Nothing = book.Effect.nothing
effect_meant (Adds c a) = book.Effect.moves c.0 a
effect_meant (Subtracts c a) = book.Effect.moves c.0 (neg_ℤ a)
