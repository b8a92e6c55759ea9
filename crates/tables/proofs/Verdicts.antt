-- What the row rules give to the functions: where the entries found lie, and what an allowed row has room for. Assumes nothing.
use Rattle.std.proofs.Common.{◌≡◌, ℕ, ◌≤◌, Bool, true, false, ◌&&◌, List, [], sym, refl, arith, ltb-true, eqb-true, Option, Some, None, Ok}
use Rattle.book.specs.Rows.{Row, begin, change, hand_over, undo, commit, abort, hand_over_all}
use Rattle.book.specs.Scopes.{Scope}
use Rattle.tables_model.specs.declared.Counts.{Counts}
use Rattle.tables_model.specs.declared.Whom.{Whom}
use Rattle.tables_model.specs.Table.{highest, Reaches, MayNote}
use Rattle.tables_model.specs.Rows.{Index, grows_by, Changes, lawful_by, within_limits_by, verdict, judge_by, Takes}
use Rattle.tables.proofs.Searches.{highest-below}

-- the entry with the highest open change lies within the table
reaches-by : (w : Whom) (used size : ℕ) (ss : List Scope) (f : Option ℕ) → highest w used ss ≡ f → used ≤ 64 → size ≡ 448 → Reaches size f
reaches-by w used size ss (Some i) e h k = (k, omega (arith, highest-below w used ss i e))
reaches-by w used size ss None e h k = k

pub reaches : (w : Whom) (used size : ℕ) (ss : List Scope) (f : Option ℕ) → f ≡ highest w used ss → used ≤ 64 → size ≡ 448 → Reaches size f
reaches w used size ss f e = reaches-by w used size ss f (sym e)

-- a change that has an entry may be noted
pub may_note : (t : Counts) (s : List ℕ) (v c : ℕ) → Changes t s v c → MayNote s t.used v c
unfolding grows_by
may_note t s v c h = record {
  long = h.ranged.long;
  within = h.ranged.range.used;
  room = λ e. ltb-true _ _ (rw e at (h.entry []));
}

-- ── An allowed row ────────────────────────────────────────────────────────────────────────────────────────────────────

both_left : (a b : Bool) → a && b ≡ true → a ≡ true
both_left true b e = refl
both_left false b e = e

-- both tests were passed
tests : (l w : Bool) → verdict l w ≡ Ok tt → (l ≡ true) × (w ≡ true)
tests true true e = (refl, refl)
tests true false e = cc
tests false w e = cc

takes : (x : Index) (rows : ℕ) (named r : Row) → lawful_by x named r ≡ true → within_limits_by x rows r ≡ true → Takes x r
unfolding lawful_by within_limits_by
takes x rows named (begin v) l w = record { room = ltb-true _ _ (both_left _ _ w); next = eqb-true _ _ l }
takes x rows named (change v c a) l w = both_left _ _ w
takes x rows named (hand_over g r c) l w = tt
takes x rows named (undo h c n a) l w = tt
takes x rows named (commit v) l w = tt
takes x rows named (abort v) l w = tt
takes x rows named (hand_over_all g r) l w = tt

-- the tables have room for what an allowed row adds to them
pub allowed-takes : (x : Index) (rows : ℕ) (named r : Row) → judge_by x rows named r ≡ Ok tt → Takes x r
unfolding judge_by
allowed-takes x rows named r e = let k = tests (lawful_by x named r) (within_limits_by x rows r) e in takes x rows named r k.0 k.1
