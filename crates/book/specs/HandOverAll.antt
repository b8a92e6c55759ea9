-- Document 02, L2, "Handing over a whole visit": what it says of the single hand-overs that a row of kind 7 stands for. No other definition needs these; the laws
-- are in proofs/HandOverAll and proofs/HeldCells.
use Rattle.std.specs.Prelude.{ℕ, ◌+◌, Bool, true, cond, ◌&&◌, ◌≡◌, List, [], ◌∷◌, map, leb}
use Rattle.book.specs.Lists.{In, keep, foldl, member, tabulate}
use Rattle.book.specs.Limits.{cell_limit}
use Rattle.book.specs.Rows.{Row, begin, change, hand_over, undo, commit, abort, hand_over_all, is_cell}
use Rattle.book.specs.Ledger.{Change, Ledger, only, after}
use Rattle.book.specs.Rules.{reserve, scope_fits, holds_any, lawful, allowed}
use Rattle.book.specs.Scopes.{Scope, scopes_of}
use Rattle.book.specs.Calls.{Call}
use Rattle.book.specs.Power.{Book}
use Rattle.book.specs.Book.{refusal}

-- ── Counted as all those single hand-overs ────────────────────────────────────────────────────────────────────────────

-- the ledger with these changes, without the number of rows
abbrev pub with_changes : Ledger → List Change → Ledger
with_changes l xs = record {
  rows = 0;
  begun = l.begun;
  active = l.active;
  committed = l.committed;
  undoing = l.undoing;
  undone = l.undone;
  changes = xs;
}

-- all of the ledger but the number of rows
abbrev pub but_rows : Ledger → Ledger
but_rows l = with_changes l l.changes

-- the rows of the single hand-overs of these cells
abbrev pub singles : ℕ → ℕ → List ℕ → List Row
singles g r cs = map (hand_over g r) cs

-- the list has each cell of which the giver holds a change
abbrev pub HasHeld : Ledger → ℕ → List ℕ → Type 0
HasHeld l g cs = (x : Change) → In x l.changes → x.holder ≡ g → member x.cell cs ≡ true

-- those of n cells from `from` on of which the visit holds a change, ascending
abbrev pub held_from : Ledger → ℕ → ℕ → ℕ → List ℕ
held_from l g n from = keep (λ c. holds_any l g (only c)) (tabulate n from (λ c. c))

-- 02: "every cell of which the giver holds a change", each once, ascending
abbrev pub held_cells : Ledger → ℕ → List ℕ
held_cells l g = held_from l g cell_limit 0

-- each row is lawful after those before it; the ranges of the fields and the free rows are left out, since the single hand-overs take one row each
abbrev pub all_lawful : Ledger → List Row → Bool
all_lawful l [] = true
all_lawful l (row ∷ rs) = lawful l row && all_lawful (after l row) rs

-- 02: a row of kind 7 "means the hand-over of every cell of which the giver holds a change"
pub record MeansSingles (l : Ledger) (g r : ℕ) : Type 0 where
  -- the list has the cells of which the giver holds a change, and no other
  pub cells : (c : ℕ) → member c (held_cells l g) ≡ (holds_any l g (only c) && is_cell c)
  -- the single hand-overs of these cells are lawful, one after another
  pub follow : all_lawful l (singles g r (held_cells l g)) ≡ true
  -- and they come to what the row of kind 7 comes to, but for the number of rows
  pub same : but_rows (after l (hand_over_all g r)) ≡ but_rows (foldl after l (singles g r (held_cells l g)))

-- ── After whatever rows follow ────────────────────────────────────────────────────────────────────────────────────────

-- the single hand-overs take d rows more, so that row k, if it comes after the first n, is d higher
abbrev pub number_after : ℕ → ℕ → ℕ → ℕ
number_after n d k = cond (leb k n) k (k + d)

-- a later row, which names a row by its number there if it is an undo row
abbrev pub renumbered_row : (ℕ → ℕ) → Row → Row
renumbered_row f (begin v) = begin v
renumbered_row f (change v c a) = change v c a
renumbered_row f (hand_over g r c) = hand_over g r c
renumbered_row f (undo h c k a) = undo h c (f k) a
renumbered_row f (commit v) = commit v
renumbered_row f (abort v) = abort v
renumbered_row f (hand_over_all g r) = hand_over_all g r

abbrev pub renumbered_change : (ℕ → ℕ) → Change → Change
renumbered_change f x =
    record { row = f x.row; maker = x.maker; cell = x.cell; amount = x.amount; holder = x.holder; handed = x.handed; scope = f x.scope }

abbrev pub renumbered_scope : (ℕ → ℕ) → Scope → Scope
renumbered_scope f s =
    record { maker = s.maker; holder = s.holder; cell = s.cell; first = f s.first; last = f s.last; handed = s.handed; count = s.count }

-- two ledgers that are the same but for the number of rows and for row numbers
pub record Renumbered (f : ℕ → ℕ) (l m : Ledger) : Type 0 where
  pub begun : m.begun ≡ l.begun
  pub active : m.active ≡ l.active
  pub committed : m.committed ≡ l.committed
  pub undoing : m.undoing ≡ l.undoing
  pub undone : m.undone ≡ map f l.undone
  pub changes : m.changes ≡ map (renumbered_change f) l.changes

-- 02: "Row rules, scopes and the sum over last holders then count kind 7 as all those single hand-overs": what the next row needs of visits, cells, holders and
-- undo rows, of the sixteen visits, the scopes and the reserve, and the scopes in use
pub record CountsAlike (f : ℕ → ℕ) (l m : Ledger) : Type 0 where
  pub rules : (row : Row) → lawful m (renumbered_row f row) ≡ lawful l row
  pub active : m.active ≡ l.active
  pub fits : (v c : ℕ) → scope_fits m v c ≡ scope_fits l v c
  pub reserve : reserve m ≡ reserve l
  pub scopes : scopes_of m ≡ map (renumbered_scope f) (scopes_of l)

-- ── Accepted exactly where a single hand-over is ──────────────────────────────────────────────────────────────────────

-- 02: "It is accepted exactly where the two visits would be for a single cell, the giver holds something and one row is free beyond the reserve", of the call
pub record AcceptedAlike (b : Book) (g r : ℕ) : Type 0 where
  pub some : refusal b (Call.hand_over_all g r) ≡ 0 → (c : ℕ) × (refusal b (Call.hand_over g r c) ≡ 0)
  pub all : (c : ℕ) → refusal b (Call.hand_over g r c) ≡ 0 → refusal b (Call.hand_over_all g r) ≡ 0

-- and of the row
pub record AllowedAlike (l : Ledger) (g r : ℕ) : Type 0 where
  pub some : allowed l (hand_over_all g r) ≡ true → (c : ℕ) × (allowed l (hand_over g r c) ≡ true)
  pub all : (c : ℕ) → allowed l (hand_over g r c) ≡ true → allowed l (hand_over_all g r) ≡ true
