-- What the functions over the scope table compute, as equations on its 64 entries. `used` is the number of entries in use; the rest is not looked at.
use Rattle.std.specs.Prelude.{ℕ, suc, ◌+◌, ◌-◌, ◌%◌, ◌≤◌, ◌<◌, ◌≡◌, Bool, true, false, cond, not, ◌&&◌, List, [], ◌∷◌, ◌++◌, map, length, take, drop, set, get_or, eqb, ltb, Option, Some, None}
use Rattle.book.specs.Lists.{keep, any, pad_to}
use Rattle.book.specs.Limits.{scope_limit}
use Rattle.book.specs.Ledger.{only, every}
use Rattle.book.specs.Scopes.{Scope, unused}
use Rattle.tables_model.specs.declared.Whom.{Whom}
use Rattle.tables_model.specs.declared.Whom.TheVariants.{One, All}
use Rattle.tables_model.specs.declared.CellSet.{CellSet}
use Rattle.tables_model.specs.declared.CellSet.TheVariants.{Only, Every}
use Rattle.tables_model.specs.Layout.{entries as entries_of, flat_length}

-- ── Looking ───────────────────────────────────────────────────────────────────────────────────────────────────────────

-- the first of the entries from number i on that passes the test
abbrev pub find_from : (Scope → Bool) → ℕ → List Scope → Option ℕ
find_from p i [] = None
find_from p i (s ∷ ss) = let rest = find_from p (suc i) ss in cond (p s) (Some i) rest

unfoldable pub find : (Scope → Bool) → ℕ → List Scope → Option ℕ
find p used ss = find_from p 0 (take used ss)

-- the maker changed the cell in this scope, and has not handed it over since
abbrev pub grows : ℕ → ℕ → Scope → Bool
grows v c s = eqb s.maker v && eqb s.cell c && not s.handed

-- the holder has changes of a cell of the set in this scope
abbrev pub is_held : ℕ → (ℕ → Bool) → Scope → Bool
is_held v cs s = eqb s.holder v && cs s.cell

unfoldable pub holds_cell : ℕ → ℕ → (ℕ → Bool) → List Scope → Bool
holds_cell used v cs ss = any (is_held v cs) (take used ss)

-- the cells that a hand-over is about
abbrev pub among : CellSet → ℕ → Bool
among (Only c) k = only c.0 k
among Every k = every k

-- the visits that a take-back is about
abbrev pub covers : Whom → ℕ → Bool
covers (One v) u = eqb u v.0
covers All u = true

-- the entry with the highest open change of these visits: the greatest `last`, none where all are 0. `best` and `found` are what was seen so far.
abbrev pub highest_from : Whom → ℕ → ℕ → Option ℕ → List Scope → Option ℕ
highest_from w i best found [] = found
highest_from w i best found (s ∷ ss) =
    let better = highest_from w (suc i) s.last (Some i) ss in
    let rest = highest_from w (suc i) best found ss in
    cond (covers w s.holder && ltb best s.last) better rest

unfoldable pub highest : Whom → ℕ → List Scope → Option ℕ
highest w used ss = highest_from w 0 0 None (take used ss)

-- that row, 0 for none
abbrev pub last_at : Option ℕ → List Scope → ℕ
last_at (Some i) ss = (get_or ss i unused).last
last_at None ss = 0

-- the open changes: what the entries count
abbrev pub count_all : List Scope → ℕ
count_all [] = 0
count_all (s ∷ ss) = s.count + count_all ss

unfoldable pub open_count : ℕ → List Scope → ℕ
open_count used ss = count_all (take used ss)

-- ── Changing ──────────────────────────────────────────────────────────────────────────────────────────────────────────

-- the table after a row, and the entries then in use
pub record Scopes : Type 0 where
  pub used : ℕ
  pub entries : List Scope

-- the count is a number of 16 bits, so that of a table of any origin wraps; the ledger's counts stay far below
abbrev pub grown : ℕ → Scope → Scope
grown n s = record {
  maker = s.maker;
  holder = s.holder;
  cell = s.cell;
  first = s.first;
  last = n;
  handed = s.handed;
  count = (s.count + 1) % 65536;
}

abbrev pub started : ℕ → ℕ → ℕ → Scope
started n v c = record { maker = v; holder = v; cell = c; first = n; last = n; handed = false; count = 1 }

abbrev pub changed_at : ℕ → ℕ → ℕ → ℕ → Option ℕ → List Scope → Scopes
changed_at used n v c (Some i) ss = record { used = used; entries = set ss i (grown n (get_or ss i unused)) }
changed_at used n v c None ss = record { used = suc used; entries = set ss used (started n v c) }

-- a change in row n: it grows the scope that may grow, or starts one behind the last
unfoldable pub scopes_changed : ℕ → ℕ → ℕ → ℕ → List Scope → Scopes
scopes_changed used n v c ss = changed_at used n v c (find (grows v c) used ss) ss

abbrev pub passed : ℕ → Scope → Scope
passed r s = record { maker = s.maker; holder = r; cell = s.cell; first = s.first; last = s.last; handed = true; count = s.count }

abbrev pub handed_on : ℕ → ℕ → (ℕ → Bool) → Scope → Scope
handed_on g r cs s = cond (is_held g cs s) (passed r s) s

-- a hand-over: every entry of these cells that the giver holds
unfoldable pub scopes_handed : ℕ → ℕ → ℕ → (ℕ → Bool) → List Scope → List Scope
scopes_handed used g r cs ss = map (handed_on g r cs) (take used ss) ++ drop used ss

-- the entries that another visit holds
abbrev pub held_by_others : ℕ → ℕ → List Scope → List Scope
held_by_others used v ss = keep (λ s. not (eqb s.holder v)) (take used ss)

-- a commit or an abort: the others close ranks
unfoldable pub scopes_ended : ℕ → ℕ → List Scope → Scopes
scopes_ended used v ss = record { used = length (held_by_others used v ss); entries = pad_to scope_limit unused (held_by_others used v ss) }

abbrev pub lowered : ℕ → Scope → Scope
lowered before s = record {
  maker = s.maker;
  holder = s.holder;
  cell = s.cell;
  first = s.first;
  last = before;
  handed = s.handed;
  count = s.count - 1;
}

abbrev pub undone_at : Option ℕ → ℕ → List Scope → List Scope
undone_at (Some i) before ss = set ss i (lowered before (get_or ss i unused))
undone_at None before ss = ss

-- an undo of the highest open change of the visits; `before` is the row before it in its scope, 0 for none. The entry stays, though it may be empty:
-- by 01 it is in use until its holder ends.
unfoldable pub scopes_undone : Whom → ℕ → ℕ → List Scope → List Scope
scopes_undone w used before ss = undone_at (highest w used ss) before ss

-- ── What the functions ask, and what they leave ───────────────────────────────────────────────────────────────────────

-- a flat table and the entries in use
abbrev pub scopes_in : ℕ → List ℕ → Scopes
scopes_in used t = record { used = used; entries = entries_of t }

-- the table has its length, and the entry found lies within it
abbrev pub Reaches : ℕ → Option ℕ → Type 0
Reaches size (Some i) = (size ≡ flat_length) × (i < scope_limit)
Reaches size None = size ≡ flat_length

-- a change has a scope that may grow, or a vacant entry
pub record MayNote (t : List ℕ) (used v c : ℕ) : Type 0 where
  pub long : length t ≡ flat_length
  pub within : used ≤ scope_limit
  pub room : find (grows v c) used (entries_of t) ≡ None → used < scope_limit

-- the entry's highest open change, 0 where these visits do not hold it
abbrev pub last_by : Whom → Scope → ℕ
last_by w s = cond (covers w s.holder) s.last 0

-- the entries that another visit holds stand first
pub record ClosedRanks (used v : ℕ) (ss : List Scope) (x : Scopes) : Type 0 where
  pub kept : take x.used x.entries ≡ held_by_others used v ss
  pub count : x.used ≡ length (held_by_others used v ss)
  pub within : x.used ≤ scope_limit
