-- Which row is allowed after which (document 01, "Row rules"). Ranges of fields, rules and limits are separate tests, joined in `allowed`; `LogBytes.judge` has
-- the bytes too.
use Rattle.std.specs.Prelude.{ℕ, suc, ◌+◌, ◌-◌, Bool, true, false, not, ◌&&◌, ◌||◌, List, [], ◌∷◌, length, ℤ, leb, ltb, eqb}
use Rattle.book.specs.Lists.{keep, any, member, eq_z}
use Rattle.book.specs.Limits.{row_limit, active_limit, scope_limit}
use Rattle.book.specs.Rows.{Row, begin, change, hand_over, undo, commit, abort, hand_over_all, fits}
use Rattle.book.specs.Ledger.{Change, Ledger, empty, after, starts_scope, only, every, holds}

-- ── The words of the rules ────────────────────────────────────────────────────────────────────────────────────────────

-- 01: active
abbrev pub is_active : Ledger → ℕ → Bool
is_active l v = member v l.active

-- 01: an undo row bears the visit
abbrev pub bears_undo : Ledger → ℕ → Bool
bears_undo l v = member v l.undoing

-- 01: an undo row names the change
abbrev pub is_undone : Ledger → Change → Bool
is_undone l x = member x.row l.undone

-- 01: open, the holder is active and no undo row names the change
abbrev pub is_open_change : Ledger → Change → Bool
is_open_change l x = is_active l x.holder && not (is_undone l x)

-- the open changes, highest row first
abbrev pub open_changes : Ledger → List Change
open_changes l = keep (is_open_change l) l.changes

-- the open changes that these visits hold, highest row first
abbrev pub open_held : (ℕ → Bool) → Ledger → List Change
open_held who l = keep (λ x. who x.holder) (open_changes l)

-- the set of visits with v alone
abbrev pub just : ℕ → ℕ → Bool
just v u = eqb u v

-- 01: reserve = active visits + open changes
unfoldable pub reserve : Ledger → ℕ
reserve l = length l.active + length (open_changes l)

-- 01: free = 4,096 less the rows of log and tail
abbrev pub free : Ledger → ℕ
free l = row_limit - l.rows

-- free is at least reserve + n
abbrev pub room : Ledger → ℕ → Bool
room l n = leb (reserve l + n) (free l)

-- the change starts a scope that is in use: its holder is active
abbrev pub starts_in_use : Ledger → Change → Bool
starts_in_use l x = eqb x.scope x.row && is_active l x.holder

-- 01: the scopes in use, those whose changes' holder is active; each is counted at the change that starts it
unfoldable pub scopes_in_use : Ledger → ℕ
scopes_in_use l = length (keep (starts_in_use l) l.changes)

-- the change starts no scope, or fewer than 64 are in use
abbrev pub scope_fits : Ledger → ℕ → ℕ → Bool
scope_fits l v c = not (starts_scope l v c) || ltb (scopes_in_use l) scope_limit

-- the visit holds a change of a cell of the set
abbrev pub holds_any : Ledger → ℕ → (ℕ → Bool) → Bool
holds_any l v cs = any (holds v cs) l.changes

-- giver and receiver are two active visits that no undo row bears
abbrev pub may_pass : Ledger → ℕ → ℕ → Bool
may_pass l g r = not (eqb g r) && is_active l g && is_active l r && not (bears_undo l g) && not (bears_undo l r)

-- they are, and the giver holds a change of a cell of the set
abbrev pub may_hand_over : Ledger → ℕ → ℕ → (ℕ → Bool) → Bool
may_hand_over l g r cs = may_pass l g r && holds_any l g cs

-- the list's first change has this row number, cell and amount
abbrev pub is_first : List Change → ℕ → ℕ → ℤ → Bool
is_first [] n c a = false
is_first (x ∷ xs) n c a = eqb x.row n && eqb x.cell c && eq_z x.amount a

-- ── The rules ─────────────────────────────────────────────────────────────────────────────────────────────────────────

-- 01: what a row needs of visits, cells, holders and undo rows; 02, L2: one of kind 7 that the two visits are as for a single cell, and that "the giver
-- holds something"
unfoldable pub lawful : Ledger → Row → Bool
lawful l (begin v) = eqb v (suc l.begun)
lawful l (change v c a) = is_active l v && not (bears_undo l v)
lawful l (hand_over g r c) = may_hand_over l g r (only c)
lawful l (undo h c n a) = is_first (open_held (just h) l) n c a
lawful l (commit v) = is_active l v && not (bears_undo l v)
lawful l (abort v) = is_active l v && not (any (λ x. just v x.holder) (open_changes l))
lawful l (hand_over_all g r) = may_hand_over l g r every

-- 01: what a row needs of the sixteen visits, the scopes and the free rows; 02, L2: one of kind 7 that "one row is free beyond the reserve"
unfoldable pub within_limits : Ledger → Row → Bool
within_limits l (begin v) = ltb (length l.active) active_limit && room l 2
within_limits l (change v c a) = scope_fits l v c && room l 2
within_limits l (hand_over g r c) = room l 1
within_limits l (undo h c n a) = true
within_limits l (commit v) = true
within_limits l (abort v) = true
within_limits l (hand_over_all g r) = room l 1

-- 01: a row is allowed after the rows before it
unfoldable pub allowed : Ledger → Row → Bool
allowed l r = fits r && lawful l r && within_limits l r

-- every row is allowed after the rows before it
abbrev pub all_allowed : Ledger → List Row → Bool
all_allowed l [] = true
all_allowed l (r ∷ rs) = allowed l r && all_allowed (after l r) rs

-- 01: an allowed log
abbrev pub allowed_log : List Row → Bool
allowed_log rs = all_allowed empty rs
