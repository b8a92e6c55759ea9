-- What the writer's fill leaves of a row's fields is the row's bytes. Assumes nothing.
use mathlib.Core.Path.{◌≡◌, refl, ap, ◌∙◌}
use mathlib.Core.List.{List, [], ◌∷◌}
use Prim.Native.Nat.{ℕ}
use lib.ListN.{length, get_or}
use Rattle.book.specs.RowBytes.{may_be, row_bytes}
use Rattle.rows.specs.Meaning.{meant}
use Rattle.rows.specs.Table.{masked, fill}
use Rattle.rows.specs.Writing.{fields_of, field_bytes}
use Rattle.rows.specs.declared.Row.{Row}
use Rattle.rows.specs.declared.Row.TheVariants.{Begin, Change, HandOver, Undo, Commit, Abort, HandOverAll}
use Rattle.rows.proofs.Sixteen.{sixteen}

-- a fill of all 16 bytes leaves nothing of what was there
abbrev all : ℕ → List ℕ → List ℕ
all k f =
    masked (may_be k 0) (get_or f 0 0) ∷ masked (may_be k 1) (get_or f 1 0) ∷ masked (may_be k 2) (get_or f 2 0) ∷ masked (may_be k 3) (get_or f 3 0) ∷
    masked (may_be k 4) (get_or f 4 0) ∷ masked (may_be k 5) (get_or f 5 0) ∷ masked (may_be k 6) (get_or f 6 0) ∷ masked (may_be k 7) (get_or f 7 0) ∷
    masked (may_be k 8) (get_or f 8 0) ∷ masked (may_be k 9) (get_or f 9 0) ∷ masked (may_be k 10) (get_or f 10 0) ∷ masked (may_be k 11) (get_or f 11 0) ∷
    masked (may_be k 12) (get_or f 12 0) ∷ masked (may_be k 13) (get_or f 13 0) ∷ masked (may_be k 14) (get_or f 14 0) ∷ masked (may_be k 15) (get_or f 15 0) ∷ []

over : (k : ℕ) (f : List ℕ) (x0 x1 x2 x3 x4 x5 x6 x7 x8 x9 x10 x11 x12 x13 x14 x15 : ℕ)
    → fill 16 0 k f (x0 ∷ x1 ∷ x2 ∷ x3 ∷ x4 ∷ x5 ∷ x6 ∷ x7 ∷ x8 ∷ x9 ∷ x10 ∷ x11 ∷ x12 ∷ x13 ∷ x14 ∷ x15 ∷ []) ≡ all k f
unfolding fill
over k f x0 x1 x2 x3 x4 x5 x6 x7 x8 x9 x10 x11 x12 x13 x14 x15 = refl

filled : (k : ℕ) (f b : List ℕ) → length b ≡ 16 → fill 16 0 k f b ≡ all k f
filled k f b e = ap (fill 16 0 k f) (sixteen b e) ∙ over k f _ _ _ _ _ _ _ _ _ _ _ _ _ _ _ _

pub written : (r : Row) (n : ℕ) (b : List ℕ) → length b ≡ 16
    → fill 16 0 (fields_of r).kind (field_bytes (fields_of r) n) b ≡ row_bytes n (meant r)
unfolding row_bytes
written (Begin v) n b e = filled 1 (field_bytes (fields_of (Begin v)) n) b e
written (Change v c a) n b e = filled 2 (field_bytes (fields_of (Change v c a)) n) b e
written (HandOver g r c) n b e = filled 3 (field_bytes (fields_of (HandOver g r c)) n) b e
written (Undo h c u a) n b e = filled 4 (field_bytes (fields_of (Undo h c u a)) n) b e
written (Commit v) n b e = filled 5 (field_bytes (fields_of (Commit v)) n) b e
written (Abort v) n b e = filled 6 (field_bytes (fields_of (Abort v)) n) b e
written (HandOverAll g r) n b e = filled 7 (field_bytes (fields_of (HandOverAll g r)) n) b e
