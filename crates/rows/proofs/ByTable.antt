-- The reader's tests of 16 bytes are the book's: the table's line of the kind, the known kinds, the own number. Assumes nothing.
use mathlib.Core.Path.{◌≡◌, refl, ap, sym, ◌∙◌}
use mathlib.Core.Bool.{Bool, true, false}
use mathlib.Core.List.{List, [], ◌∷◌}
use Prim.Native.Nat.{ℕ, zero, suc, ◌+◌, ◌≤◌, ◌<◌}
use native.Mathlib.Omega.{arith}
use native.Mathlib.Nat.{zero-add, add-zero, add-suc, suc-add, le_of_suc-le-suc, not-suc-le-zero}
use lib.ListN.{length, get_or}
use lib.Dec.{eqb}
use borrow.Author.Tests.{eqb-true, eqb-false, eq-eqb}
use Rattle.book.specs.Limits.{kind_limit}
use Rattle.book.specs.Numbers.{number}
use Rattle.book.specs.RowBytes.{may_be, is_row_bytes}
use Rattle.book.proofs.Lists.{and_l, and_r, and_i, clash, is_false}
use Rattle.book.proofs.RowBytes.{by-table, table-bytes}
use Rattle.rows.specs.Table.{ok_byte, as_table}
use Rattle.rows.specs.Reading.{is_blank}
use Rattle.rows.proofs.Sixteen.{sixteen}

-- ── The loop's test says of each byte what the table says ─────────────────────────────────────────────────────────────

ok-is-zero : (m x : ℕ) → ok_byte m x ≡ true → m ≡ 0 → x ≡ 0
ok-is-zero zero x e z = eqb-true x 0 e
ok-is-zero (suc m) x e z = absurd (omega arith)

is_ok : (m x : ℕ) → (m ≡ 0 → x ≡ 0) → ok_byte m x ≡ true
is_ok zero x h = eq-eqb x 0 (h refl)
is_ok (suc m) x h = refl

zeros : (m i k : ℕ) (b : List ℕ) → as_table m i k b ≡ true → (j : ℕ) → j < m → may_be k (i + j) ≡ 0 → get_or b (i + j) 0 ≡ 0
unfolding as_table
zeros zero i k b e j h = absurd (not-suc-le-zero h)
zeros (suc m) i k b e zero h = rw (add-zero i) (ok-is-zero (may_be k i) (get_or b i 0) (and_l _ (as_table m (suc i) k b) e))
zeros (suc m) i k b e (suc j) h =
    rw (add-suc i j, ← (suc-add i j)) (zeros m (suc i) k b (and_r (ok_byte (may_be k i) (get_or b i 0)) _ e) j (le_of_suc-le-suc h))

passes : (m i k : ℕ) (b : List ℕ) → ((j : ℕ) → j < m → may_be k (i + j) ≡ 0 → get_or b (i + j) 0 ≡ 0) → as_table m i k b ≡ true
unfolding as_table
passes zero i k b z = refl
passes (suc m) i k b z =
    and_i _ _ (is_ok (may_be k i) (get_or b i 0) (rw (add-zero i) at (z 0 (omega arith))))
    (passes m (suc i) k b (λ j h. rw (suc-add i j, ← (add-suc i j)) (z (suc j) (omega arith))))

-- ── Sixteen zeros ─────────────────────────────────────────────────────────────────────────────────────────────────────

blank : (x0 x1 x2 x3 x4 x5 x6 x7 x8 x9 x10 x11 x12 x13 x14 x15 : ℕ)
    → as_table 16 0 0 (x0 ∷ x1 ∷ x2 ∷ x3 ∷ x4 ∷ x5 ∷ x6 ∷ x7 ∷ x8 ∷ x9 ∷ x10 ∷ x11 ∷ x12 ∷ x13 ∷ x14 ∷ x15 ∷ []) ≡
    is_blank (x0 ∷ x1 ∷ x2 ∷ x3 ∷ x4 ∷ x5 ∷ x6 ∷ x7 ∷ x8 ∷ x9 ∷ x10 ∷ x11 ∷ x12 ∷ x13 ∷ x14 ∷ x15 ∷ [])
unfolding as_table
blank x0 x1 x2 x3 x4 x5 x6 x7 x8 x9 x10 x11 x12 x13 x14 x15 = refl

pub blank-by-table : (b : List ℕ) → length b ≡ 16 → as_table 16 0 0 b ≡ is_blank b
blank-by-table b e =
    ap (as_table 16 0 0) (sixteen b e) ∙ blank _ _ _ _ _ _ _ _ _ _ _ _ _ _ _ _ ∙ sym (ap is_blank (sixteen b e))

-- ── A row's bytes ─────────────────────────────────────────────────────────────────────────────────────────────────────

module _ (n : ℕ) (b : List ℕ) (below : n < 65536) where
  pub known-kind : is_row_bytes n b ≡ true → (1 ≤ get_or b 0 0) × (get_or b 0 0 ≤ kind_limit)
  known-kind t = let k = by-table n b below t in (k.from, k.to)

  pub not-as-table : as_table 16 0 (get_or b 0 0) b ≡ false → is_row_bytes n b ≡ false
  not-as-table e =
      is_false _ (λ t. clash _ (passes 16 0 (get_or b 0 0) b (λ j h. rw (zero-add j) ((by-table n b below t).zeros j h))) e)

  pub own-number : length b ≡ 16 → ((i : ℕ) → get_or b i 0 < 256) → 1 ≤ get_or b 0 0 → get_or b 0 0 ≤ kind_limit
      → as_table 16 0 (get_or b 0 0) b ≡ true → eqb (number 2 b 4) n ≡ is_row_bytes n b
  own-number long byte from to e = go (eqb (number 2 b 4) n) refl
    where
      go : (t : Bool) → eqb (number 2 b 4) n ≡ t → t ≡ is_row_bytes n b
      go true q =
          sym (table-bytes n b long byte (record {
            from = from;
            to = to;
            own = eqb-true _ n q;
            zeros = λ j h z. rw (zero-add j) at (zeros 16 0 (get_or b 0 0) b e j h (rw (zero-add j) z));
          }))
      go false q = sym (is_false _ (λ t. eqb-false _ n q (by-table n b below t).own))
