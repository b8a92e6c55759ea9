-- The round trip: what a row's bytes are read as, and what the bytes of a row that was read are. Assumes nothing.
use mathlib.Core.Path.{◌≡◌, refl, ap, sym, ◌∙◌}
use mathlib.Core.Bool.{Bool, true, false, cond}
use mathlib.Core.List.{List, [], append-nil}
use Prim.Native.Nat.{ℕ, ◌≤◌}
use native.Mathlib.Omega.{arith}
use lib.ListN.{get_or, replicate}
use lib.IntN.{pos, negsuc}
use Rattle.book.specs.Rows as book
use Rattle.book.specs.Rows.{is_visit, is_cell, fits}
use Rattle.book.specs.RowBytes.{kind_of, row_bytes, row_of, is_row_bytes}
use Rattle.book.proofs.Lists.{and_i, is_false}
use Rattle.book.proofs.RowBytes.{eq_bytes-true, row-kind, kind-known, row_back, row-bytes, row-exact}
use Rattle.rows.specs.Meaning.{meant, coded}
use Rattle.rows.specs.Reading.{is_blank, read_by, read_of}
use Rattle.rows.specs.declared.Row.{Row}
use Rattle.rows.specs.declared.Read.TheVariants.{Valid, Blank, Malformed}
use Rattle.rows.proofs.Meanings.{meant-coded, coded-meant}

-- ── Blank bytes have kind 0, and a row's bytes have not ───────────────────────────────────────────────────────────────

pub row-not-zero : (n : ℕ) (r : book.Row) → 1 ≤ get_or (row_bytes n r) 0 0
row-not-zero n r =
    let kind : get_or (row_bytes n r) 0 0 ≡ kind_of r = ap (λ (l : List ℕ). get_or l 0 0) (sym (append-nil (row_bytes n r))) ∙ row-kind n r [] in
    rw kind (kind-known r).0

blank-zero : (bs : List ℕ) → is_blank bs ≡ true → get_or bs 0 0 ≡ 0
blank-zero bs e = ap (λ (l : List ℕ). get_or l 0 0) (eq_bytes-true bs (replicate 16 0) e)

pub not-blank : (bs : List ℕ) → 1 ≤ get_or bs 0 0 → is_blank bs ≡ false
not-blank bs h = is_false _ (λ e. let z = blank-zero bs e in omega arith)

pub some-kind : (n : ℕ) (bs : List ℕ) → is_row_bytes n bs ≡ true → 1 ≤ get_or bs 0 0
some-kind n bs e =
    let same : get_or bs 0 0 ≡ get_or (row_bytes n (row_of bs)) 0 0 = ap (λ (l : List ℕ). get_or l 0 0) (row-exact n bs e) in
    rw same (row-not-zero n (row_of bs))

pub zero-not-row : (n : ℕ) (bs : List ℕ) → get_or bs 0 0 ≡ 0 → is_row_bytes n bs ≡ false
zero-not-row n bs z = is_false _ (λ e. let k = some-kind n bs e in omega arith)

-- ── What is read, by the kind ─────────────────────────────────────────────────────────────────────────────────────────

pub read-blank : (n : ℕ) (bs : List ℕ) → is_blank bs ≡ true → read_of n bs ≡ Blank
unfolding read_of
read-blank n bs e = rw e

-- kind 0, and another byte set
pub read-zero : (n : ℕ) (bs : List ℕ) → get_or bs 0 0 ≡ 0 → is_blank bs ≡ false → read_of n bs ≡ Malformed
unfolding read_of
read-zero n bs z e = rw (e, zero-not-row n bs z)

-- another kind
pub read-kind : (n : ℕ) (bs : List ℕ) → 1 ≤ get_or bs 0 0
    → read_of n bs ≡ read_by (is_row_bytes n bs) (fits (row_of bs)) bs
unfolding read_of
read-kind n bs h = rw (not-blank bs h)

-- ── Both ways ─────────────────────────────────────────────────────────────────────────────────────────────────────────

-- a row that was written is read as that row
pub read-written : (n : ℕ) (r : Row) → fits (meant r) ≡ true → read_of n (row_bytes n (meant r)) ≡ Valid r
read-written n r f =
    read-kind n (row_bytes n (meant r)) (row-not-zero n (meant r)) ∙
    rw (row-bytes n (meant r) f, row_back n (meant r) f, f) (ap Valid (coded-meant r))

-- the bytes are those of row n, and its fields are in their ranges
pub record IsRow (n : ℕ) (bs : List ℕ) (r : Row) : Type 0 where
  pub bytes : bs ≡ row_bytes n (meant r)
  pub fit : fits (meant r) ≡ true

-- bytes that are read as a row are the bytes of that row
pub written_read : (n : ℕ) (bs : List ℕ) (r : Row) → read_of n bs ≡ Valid r → IsRow n bs r
unfolding read_of
written_read n bs r e = go (is_blank bs) (is_row_bytes n bs) (fits (row_of bs)) refl refl e
  where
    go : (s t u : Bool) → is_row_bytes n bs ≡ t → fits (row_of bs) ≡ u → cond s Blank (read_by t u bs) ≡ Valid r → IsRow n bs r
    go true t u p q f = let z : ◌≡◌ {A = ℕ} 0 1 = cc in absurd (omega arith)
    go false true true p q f =
        let is : coded (row_of bs) ≡ r = cc in
        let same : row_of bs ≡ meant r = sym (meant-coded (row_of bs)) ∙ ap meant is in
        record {
          bytes = row-exact n bs p ∙ ap (row_bytes n) same;
          fit = ap fits (sym same) ∙ q;
        }
    go false true false p q f = let z : ◌≡◌ {A = ℕ} 0 1 = cc in absurd (omega arith)
    go false false u p q f = let z : ◌≡◌ {A = ℕ} 0 1 = cc in absurd (omega arith)

-- ── The outermost changes come back exactly ───────────────────────────────────────────────────────────────────────────

module _ (n v c : ℕ) (visit : is_visit v ≡ true) (cell : is_cell c ≡ true) where
  pub lowest-back : read_of n (row_bytes n (book.Row.change v c (negsuc 32767))) ≡ Valid (coded (book.Row.change v c (negsuc 32767)))
  unfolding fits
  lowest-back = read-written n (coded (book.Row.change v c (negsuc 32767))) (and_i _ _ (and_i _ _ visit cell) refl)

  pub highest-back : read_of n (row_bytes n (book.Row.change v c (pos 32767))) ≡ Valid (coded (book.Row.change v c (pos 32767)))
  unfolding fits
  highest-back = read-written n (coded (book.Row.change v c (pos 32767))) (and_i _ _ (and_i _ _ visit cell) refl)
