-- What a list of rows comes to (document 01, "Row rules"): visits, changes with their holders and scopes, undo rows.
use Rattle.std.specs.Prelude.{ℕ, suc, Bool, true, false, cond, not, ◌&&◌, List, [], ◌∷◌, map, ℤ, eqb}
use Rattle.book.specs.Lists.{keep, any, foldl, without}
use Rattle.book.specs.Rows.{Row, begin, change, hand_over, undo, commit, abort, hand_over_all}

-- A logged change, and what the rows after it have made of it.
pub record Change : Type 0 where
  pub row : ℕ  -- its row number
  pub maker : ℕ  -- the visit that made it
  pub cell : ℕ
  pub amount : ℤ
  pub holder : ℕ  -- 01: the holder
  pub handed : Bool  -- the cell was handed over since; a change's first hand-over is always by its maker, who holds it until then
  pub scope : ℕ  -- 01: its scope, named by the row of the scope's first change

-- The lists have the newest first.
pub record Ledger : Type 0 where
  pub rows : ℕ  -- the number of rows
  pub begun : ℕ  -- the number of begin rows
  pub active : List ℕ  -- 01: the active visits
  pub committed : List ℕ  -- the visits with a commit row
  pub undoing : List ℕ  -- the visits that an undo row bears
  pub undone : List ℕ  -- the rows that an undo row names
  pub changes : List Change

-- no rows
abbrev pub empty : Ledger
empty = record { rows = 0; begun = 0; active = []; committed = []; undoing = []; undone = []; changes = [] }

-- ── A change, and its scope ───────────────────────────────────────────────────────────────────────────────────────────

-- v made this change of c, and has not handed c over since
abbrev pub continues : ℕ → ℕ → Change → Bool
continues v c x = eqb x.maker v && eqb x.cell c && not x.handed

-- 01: a change of c by v starts a new scope, unless v changed c before and has not handed c over since
abbrev pub starts_scope : Ledger → ℕ → ℕ → Bool
starts_scope l v c = not (any (continues v c) l.changes)

-- the scope of the first change of the list, or the new one of row n
abbrev pub scope_from : ℕ → List Change → ℕ
scope_from n [] = n
scope_from n (x ∷ xs) = x.scope

-- the change that the next row makes
abbrev pub new_change : Ledger → ℕ → ℕ → ℤ → Change
new_change l v c a = record {
  row = suc l.rows;
  maker = v;
  cell = c;
  amount = a;
  holder = v;
  handed = false;
  scope = scope_from (suc l.rows) (keep (continues v c) l.changes);
}

-- ── Hand-over ─────────────────────────────────────────────────────────────────────────────────────────────────────────

-- the set of cells with c alone
abbrev pub only : ℕ → ℕ → Bool
only c k = eqb k c

-- the set of all cells
abbrev pub every : ℕ → Bool
every k = true

-- the visit holds the change, and its cell is of the set
abbrev pub holds : ℕ → (ℕ → Bool) → Change → Bool
holds v cs x = eqb x.holder v && cs x.cell

-- the change with another holder
abbrev pub given : ℕ → Change → Change
given r x = record { row = x.row; maker = x.maker; cell = x.cell; amount = x.amount; holder = r; handed = true; scope = x.scope }

-- 01: a hand-over makes the receiver the holder of all changes of that cell that the giver holds, wherever they stand in the log
abbrev pub pass : ℕ → ℕ → (ℕ → Bool) → Change → Change
pass g r cs x = cond (holds g cs x) (given r x) x

-- ── One row more ──────────────────────────────────────────────────────────────────────────────────────────────────────

-- begin rows so far
abbrev pub begun_after : ℕ → Row → ℕ
begun_after n (begin v) = suc n
begun_after n (change v c a) = n
begun_after n (hand_over g r c) = n
begun_after n (undo h c k a) = n
begun_after n (commit v) = n
begun_after n (abort v) = n
begun_after n (hand_over_all g r) = n

-- 01: active, from its begin until its commit or abort
abbrev pub active_after : List ℕ → Row → List ℕ
active_after vs (begin v) = v ∷ vs
active_after vs (change v c a) = vs
active_after vs (hand_over g r c) = vs
active_after vs (undo h c k a) = vs
active_after vs (commit v) = without v vs
active_after vs (abort v) = without v vs
active_after vs (hand_over_all g r) = vs

-- 01: the visits with a commit row
abbrev pub committed_after : List ℕ → Row → List ℕ
committed_after vs (begin v) = vs
committed_after vs (change v c a) = vs
committed_after vs (hand_over g r c) = vs
committed_after vs (undo h c k a) = vs
committed_after vs (commit v) = v ∷ vs
committed_after vs (abort v) = vs
committed_after vs (hand_over_all g r) = vs

-- 01: the visits that an undo row bears
abbrev pub undoing_after : List ℕ → Row → List ℕ
undoing_after vs (begin v) = vs
undoing_after vs (change v c a) = vs
undoing_after vs (hand_over g r c) = vs
undoing_after vs (undo h c k a) = h ∷ vs
undoing_after vs (commit v) = vs
undoing_after vs (abort v) = vs
undoing_after vs (hand_over_all g r) = vs

-- 01: the rows that an undo row names
abbrev pub undone_after : List ℕ → Row → List ℕ
undone_after ns (begin v) = ns
undone_after ns (change v c a) = ns
undone_after ns (hand_over g r c) = ns
undone_after ns (undo h c k a) = k ∷ ns
undone_after ns (commit v) = ns
undone_after ns (abort v) = ns
undone_after ns (hand_over_all g r) = ns

-- a change joins the changes, a hand-over passes some on; 02, L2: one of a whole visit those of every cell that the giver holds before the row
abbrev pub changes_after : Ledger → Row → List Change
changes_after l (begin v) = l.changes
changes_after l (change v c a) = new_change l v c a ∷ l.changes
changes_after l (hand_over g r c) = map (pass g r (only c)) l.changes
changes_after l (undo h c k a) = l.changes
changes_after l (commit v) = l.changes
changes_after l (abort v) = l.changes
changes_after l (hand_over_all g r) = map (pass g r every) l.changes

-- the ledger with the row
unfoldable pub after : Ledger → Row → Ledger
after l r = record {
  rows = suc l.rows;
  begun = begun_after l.begun r;
  active = active_after l.active r;
  committed = committed_after l.committed r;
  undoing = undoing_after l.undoing r;
  undone = undone_after l.undone r;
  changes = changes_after l r;
}

-- the ledger after a hand-over of a set of cells
abbrev pub handed_over : Ledger → ℕ → ℕ → (ℕ → Bool) → Ledger
handed_over l g r cs = record {
  rows = suc l.rows;
  begun = l.begun;
  active = l.active;
  committed = l.committed;
  undoing = l.undoing;
  undone = l.undone;
  changes = map (pass g r cs) l.changes;
}

-- what the rows come to, from the first on
abbrev pub ledger : List Row → Ledger
ledger rs = foldl after empty rs
