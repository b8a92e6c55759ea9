-- Document 02, L6, "The costliest opening": how many rows an opening writes, by the rows of the log, and for each number of rows a log whose opening writes
-- the most.
use Rattle.std.specs.Prelude.{ℕ, zero, suc, ◌-◌, ◌≤◌, Bool, true, false, ◌≡◌, ◌↔◌, List, [], ◌∷◌, length, replicate, pos}
use Rattle.book.specs.Lists.{In}
use Rattle.book.specs.Limits.{row_limit, cost_limit}
use Rattle.book.specs.Rows.{Row, begin, change, hand_over, undo, commit, abort, hand_over_all}
use Rattle.book.specs.Rules.{allowed_log}
use Rattle.book.specs.Book.{Answer}
use Rattle.book.specs.Writes.{Writes}

-- 02: "a begin or a change"
abbrev pub is_begin_or_change : Row → Bool
is_begin_or_change (begin v) = true
is_begin_or_change (change v c a) = true
is_begin_or_change (hand_over g r c) = false
is_begin_or_change (undo h c n a) = false
is_begin_or_change (commit v) = false
is_begin_or_change (abort v) = false
is_begin_or_change (hand_over_all g r) = false

-- 02: "each of its rows is a begin or a change"
abbrev pub BeginsAndChanges : List Row → Type 0
BeginsAndChanges rs = (r : Row) → In r rs → is_begin_or_change r ≡ true

-- What an opening costs that finds a log of these rows, n of them, and gives this answer and these counts of stored writes. It may be ready, cut by the power
-- or refused; it writes no page.
pub record Cost (rs : List Row) (a : Answer) (w : Writes) : Type 0 where
  -- 02: "no opening writes more than n rows"
  pub most : w.rows ≤ length rs
  -- 02: "For n above 2,048 the bound is 4,096 - n"; it is one for every n
  pub free : w.rows ≤ row_limit - length rs
  -- so 2,048 is the worst case of all
  pub worst : w.rows ≤ cost_limit
  pub pages : w.pages ≡ 0
  -- 02: "A log of n rows reaches n exactly when each of its rows is a begin or a change": in an opening that ends ready
  pub reaches : a.number ≡ 0 → (w.rows ≡ length rs) ↔ BeginsAndChanges rs
  -- and no opening, cut or not, writes n rows for a log that has any other row
  pub only : w.rows ≡ length rs → BeginsAndChanges rs
  -- a ready opening reports the rows that it wrote
  pub reports : a.number ≡ 0 → a.value ≡ pos w.rows

-- 02: "one such log for each n": no row, or a begin and then changes of one cell by this visit
unfoldable pub costliest : ℕ → List Row
costliest zero = []
costliest (suc i) = begin 1 ∷ replicate i (change 1 0 (pos 1))

-- a log of n rows that is allowed and, being of begins and changes alone, reaches n
pub record Costliest (n : ℕ) (rs : List Row) : Type 0 where
  pub long : length rs ≡ n
  pub allowed : allowed_log rs ≡ true
  pub each : BeginsAndChanges rs
