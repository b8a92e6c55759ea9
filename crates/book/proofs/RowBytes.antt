-- A row's 16 bytes (specs/RowBytes): they are read back as the row, and they are the bytes that the table of document 01 describes, and no others.
use Prim.Native.Nat.{ℕ, zero, suc, ◌+◌, ◌*◌, ◌/◌, ◌%◌, ◌≤◌, ◌<◌}
use native.Mathlib.Omega.{arith}
use native.Mathlib.Nat.{add-zero}
use mathlib.Core.Path.{◌≡◌, refl, ap, ap₂, sym, ◌∙◌, subst}
use mathlib.Core.Bool.{true, false, ◌&&◌}
use mathlib.Core.List.{List, [], ◌∷◌, ◌++◌, append-nil}
use lib.ListN.{length, get_or, drop, replicate}
use lib.Seq.{get_or-drop}
use lib.IntN.{ℤ, pos, negsuc}
use lib.Dec.{eqb, leb}
use borrow.Author.Tests.{eqb-true, eq-eqb, leb-true}
use Rattle.book.specs.Lists.{eq_bytes, tabulate}
use Rattle.book.specs.Limits.{visit_limit, kind_limit}
use Rattle.book.specs.Rows.{Row, is_visit, is_cell, is_amount, is_row_number, fits}
use Rattle.book.specs.Numbers.{le, number, bits_of, signed}
use Rattle.book.specs.RowBytes.{kind_of, may_be_set, may_be, row_bytes, row_of_kind, pair, row_of, is_row_bytes}
use Rattle.book.proofs.Lists.{and_i, and_l, and_r, clash}
use Rattle.book.proofs.Blocks.{listed}
use Rattle.book.proofs.Numbers.{two_bytes, two_back, two-below, signed-bits, bits-signed, amount-bits}

-- ── Equal bytes, as a test ────────────────────────────────────────────────────────────────────────────────────────────

pub eq_bytes-refl : (xs : List ℕ) → eq_bytes xs xs ≡ true
eq_bytes-refl [] = refl
eq_bytes-refl (x ∷ xs) = and_i _ _ (eq-eqb x x refl) (eq_bytes-refl xs)

pub eq_bytes-true : (xs ys : List ℕ) → eq_bytes xs ys ≡ true → xs ≡ ys
eq_bytes-true [] [] e = refl
eq_bytes-true [] (y ∷ ys) e = clash false e refl
eq_bytes-true (x ∷ xs) [] e = clash false e refl
eq_bytes-true (x ∷ xs) (y ∷ ys) e = ap₂ ◌∷◌ (eqb-true x y (and_l _ (eq_bytes xs ys) e)) (eq_bytes-true xs ys (and_r (eqb x y) _ e))

-- ── A row's bytes in front of others ──────────────────────────────────────────────────────────────────────────────────

pub row-long : (n : ℕ) (r : Row) → length (row_bytes n r) ≡ 16
unfolding row_bytes
row-long n (Row.begin v) = refl
row-long n (Row.change v c a) = refl
row-long n (Row.hand_over g r c) = refl
row-long n (Row.undo h c u a) = refl
row-long n (Row.commit v) = refl
row-long n (Row.abort v) = refl
row-long n (Row.hand_over_all g r) = refl

-- byte 0 is the kind, bytes 4 and 5 are the own number
pub row-kind : (n : ℕ) (r : Row) (t : List ℕ) → get_or (row_bytes n r ++ t) 0 0 ≡ kind_of r
unfolding row_bytes
row-kind n (Row.begin v) t = refl
row-kind n (Row.change v c a) t = refl
row-kind n (Row.hand_over g r c) t = refl
row-kind n (Row.undo h c u a) t = refl
row-kind n (Row.commit v) t = refl
row-kind n (Row.abort v) t = refl
row-kind n (Row.hand_over_all g r) t = refl

pub kind-known : (r : Row) → (1 ≤ kind_of r) × (kind_of r ≤ kind_limit)
kind-known (Row.begin v) = omega arith
kind-known (Row.change v c a) = omega arith
kind-known (Row.hand_over g r c) = omega arith
kind-known (Row.undo h c u a) = omega arith
kind-known (Row.commit v) = omega arith
kind-known (Row.abort v) = omega arith
kind-known (Row.hand_over_all g r) = omega arith

pub row-own : (n : ℕ) (r : Row) → n < 65536 → number 2 (row_bytes n r) 4 ≡ n
unfolding row_bytes
row-own n (Row.begin v) h = two_bytes n h
row-own n (Row.change v c a) h = two_bytes n h
row-own n (Row.hand_over g r c) h = two_bytes n h
row-own n (Row.undo k c u a) h = two_bytes n h
row-own n (Row.commit v) h = two_bytes n h
row-own n (Row.abort v) h = two_bytes n h
row-own n (Row.hand_over_all g r) h = two_bytes n h

-- ── The row is read back ──────────────────────────────────────────────────────────────────────────────────────────────

amount-back : (a : ℤ) → is_amount a ≡ true → signed 16 (bits_of 16 a % 256 + 256 * (bits_of 16 a / 256 % 256 + 256 * 0)) ≡ a
amount-back a e = let k = signed-bits 16 a (amount-bits a e) in rw (two_bytes (bits_of 16 a) k.1) k.0

visit-back : (v : ℕ) → is_visit v ≡ true → v % 256 + 256 * (v / 256 % 256) ≡ v
visit-back v e = let h = leb-true v visit_limit (and_r (leb 1 v) _ e) in omega arith

pub row_back : (n : ℕ) (r : Row) → fits r ≡ true → row_of (row_bytes n r) ≡ r
unfolding row_bytes fits
row_back n (Row.begin v) e = rw (visit-back v e)
row_back n (Row.change v c a) e =
    rw (visit-back v (and_l _ _ (and_l (is_visit v && is_cell c) _ e)), add-zero c) (ap (Row.change v c) (amount-back a (and_r (is_visit v && is_cell c) _ e)))
row_back n (Row.hand_over g r c) e =
    let both = and_l (is_visit g && is_visit r) _ e in rw (visit-back g (and_l _ _ both), visit-back r (and_r (is_visit g) _ both), add-zero c)
row_back n (Row.undo h c u a) e =
    let num : is_row_number u ≡ true = search (and_l, and_r) in
    let vis : is_visit h ≡ true = search (and_l, and_r) in
    let low = leb-true u 4096 (and_r (leb 1 u) _ num) in
    rw (visit-back h vis, add-zero c)
    (ap₂ (λ (x : ℕ) (z : ℤ). Row.undo h c x z) (two_bytes u (omega arith)) (amount-back a (and_r (is_visit h && is_cell c && is_row_number u) _ e)))
row_back n (Row.commit v) e = rw (visit-back v e)
row_back n (Row.abort v) e = rw (visit-back v e)
row_back n (Row.hand_over_all g r) e = rw (visit-back g (and_l _ _ e), visit-back r (and_r (is_visit g) _ e))

-- a row's own bytes are a row's bytes
pub row-bytes : (n : ℕ) (r : Row) → fits r ≡ true → is_row_bytes n (row_bytes n r) ≡ true
row-bytes n r f = subst (λ (q : Row). eq_bytes (row_bytes n q) (row_bytes n r) ≡ true) (sym (row_back n r f)) (eq_bytes-refl (row_bytes n r))

-- bytes that pass are those of the row that they are read as
pub row-exact : (n : ℕ) (bs : List ℕ) → is_row_bytes n bs ≡ true → bs ≡ row_bytes n (row_of bs)
row-exact n bs e = sym (eq_bytes-true (row_bytes n (row_of bs)) bs e)

-- the outermost fields: the lowest and the highest change, the last visit, cell and row
lowest-back : row_of (row_bytes 4096 (Row.undo visit_limit 223 4095 (negsuc 32767))) ≡ Row.undo visit_limit 223 4095 (negsuc 32767)
unfolding row_bytes
lowest-back = refl

highest-back : row_of (row_bytes 4096 (Row.change visit_limit 223 (pos 32767))) ≡ Row.change visit_limit 223 (pos 32767)
unfolding row_bytes
highest-back = refl

-- row 300, an undo of row 258 by holder 2: -200 is 65,336, or 56 and 255
undo-bytes : row_bytes 300 (Row.undo 2 223 258 (negsuc 199)) ≡ 4 ∷ 2 ∷ 0 ∷ 223 ∷ 44 ∷ 1 ∷ 2 ∷ 1 ∷ 56 ∷ 255 ∷ 0 ∷ 0 ∷ 0 ∷ 0 ∷ 0 ∷ 0 ∷ []
unfolding row_bytes
undo-bytes = refl

-- ── The constant table ────────────────────────────────────────────────────────────────────────────────────────────────

-- zero where the line of the table has 0
ZeroWhere : List ℕ → List ℕ → Type 0
ZeroWhere [] [] = Unit {0}
ZeroWhere [] (x ∷ xs) = (x ≡ 0) × ZeroWhere [] xs
ZeroWhere (m ∷ ms) [] = Unit {0}
ZeroWhere (m ∷ ms) (x ∷ xs) = (m ≡ 0 → x ≡ 0) × ZeroWhere ms xs

zero-at : (ms xs : List ℕ) → ZeroWhere ms xs → (i : ℕ) → get_or ms i 0 ≡ 0 → get_or xs i 0 ≡ 0
unfolding ZeroWhere
zero-at [] [] z i e = refl
zero-at [] (x ∷ xs) z zero e = z.0
zero-at [] (x ∷ xs) z (suc i) e = zero-at [] xs z.1 i refl
zero-at (m ∷ ms) [] z i e = refl
zero-at (m ∷ ms) (x ∷ xs) z zero e = z.0 e
zero-at (m ∷ ms) (x ∷ xs) z (suc i) e = zero-at ms xs z.1 i e

-- 01: every byte not named for a kind is zero
pub bytes-by-table : (n : ℕ) (r : Row) (i : ℕ) → may_be (kind_of r) i ≡ 0 → get_or (row_bytes n r) i 0 ≡ 0
unfolding ZeroWhere row_bytes
bytes-by-table n r = zero-at (get_or may_be_set (kind_of r) []) (row_bytes n r) (line n r)
  where
    line : (n : ℕ) (r : Row) → ZeroWhere (get_or may_be_set (kind_of r) []) (row_bytes n r)
    line n (Row.begin v) = omega arith
    line n (Row.change v c a) = omega arith
    line n (Row.hand_over g r c) = omega arith
    line n (Row.undo h c u a) = omega arith
    line n (Row.commit v) = omega arith
    line n (Row.abort v) = omega arith
    line n (Row.hand_over_all g r) = omega arith

-- What a reader tests of 16 bytes: a known kind, the own number, and zero where the table says so.
pub record ByTable (n : ℕ) (bs : List ℕ) : Type 0 where
  pub from : 1 ≤ get_or bs 0 0
  pub to : get_or bs 0 0 ≤ kind_limit
  pub own : number 2 bs 4 ≡ n
  pub zeros : (i : ℕ) → i < 16 → may_be (get_or bs 0 0) i ≡ 0 → get_or bs i 0 ≡ 0

-- a row's bytes pass those tests
pub by-table : (n : ℕ) (bs : List ℕ) → n < 65536 → is_row_bytes n bs ≡ true → ByTable n bs
by-table n bs h e = subst (ByTable n) (sym (row-exact n bs e)) (its (row_of bs))
  where
    its : (r : Row) → ByTable n (row_bytes n r)
    its r =
        let kind : get_or (row_bytes n r) 0 0 ≡ kind_of r = ap (λ (l : List ℕ). get_or l 0 0) (sym (append-nil (row_bytes n r))) ∙ row-kind n r [] in
        record {
          from = rw kind (kind-known r).0;
          to = rw kind (kind-known r).1;
          own = row-own n r h;
          zeros = λ i k z. bytes-by-table n r i (rw kind at z);
        }

-- and 16 bytes that pass them are those of the row that they are read as
pub table-bytes : (n : ℕ) (bs : List ℕ) → length bs ≡ 16 → ((i : ℕ) → get_or bs i 0 < 256) → ByTable n bs → is_row_bytes n bs ≡ true
unfolding row_bytes
table-bytes n bs long byte t =
    rw (go (get_or bs 0 0) refl t.from t.to t.zeros ∙ sym (listed bs ∙ ap (λ (m : ℕ). tabulate m 0 b) long)) (eq_bytes-refl bs)
  where
    b : ℕ → ℕ
    b i = get_or bs i 0

    same : (k v r c w q : ℕ) (N U A Z : List ℕ) → k ≡ b 0 → v ≡ b 1 → r ≡ b 2 → c ≡ b 3 → N ≡ b 4 ∷ b 5 ∷ [] → U ≡ b 6 ∷ b 7 ∷ [] → A ≡ b 8 ∷ b 9 ∷ []
        → w ≡ b 10 → q ≡ b 11 → Z ≡ b 12 ∷ b 13 ∷ b 14 ∷ b 15 ∷ [] → k ∷ v ∷ r ∷ c ∷ N ++ U ++ A ++ (w ∷ q ∷ Z) ≡ tabulate 16 0 b
    same k v r c w q N U A Z ek ev er ec e_n e_u e_a ew eq e_z = rw (ek, ev, er, ec, e_n, e_u, e_a, ew, eq, e_z)

    two : (i : ℕ) → le 2 (number 2 bs i) ≡ b i ∷ b (suc i) ∷ []
    two i = two_back (b i) (b (suc i)) (byte i) (byte (suc i))

    own : le 2 n ≡ b 4 ∷ b 5 ∷ []
    own = ap (le 2) (sym t.own) ∙ two 4

    amount : le 2 (bits_of 16 (signed 16 (number 2 bs 8))) ≡ b 8 ∷ b 9 ∷ []
    amount = ap (le 2) (bits-signed 16 (number 2 bs 8) (two-below (b 8) (b 9) (byte 8) (byte 9))) ∙ two 8

    -- bytes that the line of kind k has as zero: one, two, and the last four
    Zeros : ℕ → Type 0
    Zeros k = (i : ℕ) → i < 16 → may_be k i ≡ 0 → b i ≡ 0

    none : (k : ℕ) → Zeros k → (i : ℕ) → i < 16 → may_be k i ≡ 0 → 0 ≡ b i
    none k z i h e = sym (z i h e)

    none-two : (k : ℕ) → Zeros k → (i : ℕ) → i < 15 → may_be k i ≡ 0 → may_be k (suc i) ≡ 0 → 0 ∷ 0 ∷ [] ≡ b i ∷ b (suc i) ∷ []
    none-two k z i h e f = rw (z i (omega arith) e, z (suc i) (omega arith) f)

    none_last : (k : ℕ) → Zeros k → drop 12 (get_or may_be_set k []) ≡ replicate 4 0 → replicate 4 0 ≡ b 12 ∷ b 13 ∷ b 14 ∷ b 15 ∷ []
    none_last k z e = rw (z 12 (omega arith) (at 0), z 13 (omega arith) (at 1), z 14 (omega arith) (at 2), z 15 (omega arith) (at 3))
      where
        at : (j : ℕ) → get_or (get_or may_be_set k []) (12 + j) 0 ≡ get_or (replicate 4 0) j 0
        at j = sym (get_or-drop 12 (get_or may_be_set k []) j 0) ∙ ap (λ (l : List ℕ). get_or l j 0) e

    -- a visit's low byte and its high one
    low : (i j : ℕ) → pair bs i j % 256 ≡ b i
    low i j = let h = byte i in omega arith

    high : (i j : ℕ) → pair bs i j / 256 % 256 ≡ b j
    high i j = let h = byte i in let k = byte j in omega arith

    c : number 1 bs 3 ≡ b 3
    c = add-zero (b 3)

    go : (k : ℕ) → k ≡ b 0 → 1 ≤ k → k ≤ kind_limit → Zeros k
        → row_bytes n (row_of_kind (k + 256 * 0) (pair bs 1 10) (pair bs 2 11) (number 1 bs 3) (number 2 bs 6) (signed 16 (number 2 bs 8))) ≡
        tabulate 16 0 b
    go zero e l h z = absurd (omega arith)
    go (suc zero) e l h z =
        same 1 _ 0 0 _ 0 _ _ _ _ e (low 1 10) (none 1 z 2 (omega arith) refl) (none 1 z 3 (omega arith) refl) own (none-two 1 z 6 (omega arith) refl refl)
        (none-two 1 z 8 (omega arith) refl refl) (high 1 10) (none 1 z 11 (omega arith) refl) (none_last 1 z refl)
    go (suc (suc zero)) e l h z =
        same 2 _ 0 _ _ 0 _ _ _ _ e (low 1 10) (none 2 z 2 (omega arith) refl) c own (none-two 2 z 6 (omega arith) refl refl) amount
        (high 1 10) (none 2 z 11 (omega arith) refl) (none_last 2 z refl)
    go (suc (suc (suc zero))) e l h z =
        same 3 _ _ _ _ _ _ _ _ _ e (low 1 10) (low 2 11) c own (none-two 3 z 6 (omega arith) refl refl) (none-two 3 z 8 (omega arith) refl refl)
        (high 1 10) (high 2 11) (none_last 3 z refl)
    go (suc (suc (suc (suc zero)))) e l h z =
        same 4 _ 0 _ _ 0 _ _ _ _ e (low 1 10) (none 4 z 2 (omega arith) refl) c own (two 6) amount (high 1 10) (none 4 z 11 (omega arith) refl)
        (none_last 4 z refl)
    go (suc (suc (suc (suc (suc zero))))) e l h z =
        same 5 _ 0 0 _ 0 _ _ _ _ e (low 1 10) (none 5 z 2 (omega arith) refl) (none 5 z 3 (omega arith) refl) own (none-two 5 z 6 (omega arith) refl refl)
        (none-two 5 z 8 (omega arith) refl refl) (high 1 10) (none 5 z 11 (omega arith) refl) (none_last 5 z refl)
    go (suc (suc (suc (suc (suc (suc zero)))))) e l h z =
        same 6 _ 0 0 _ 0 _ _ _ _ e (low 1 10) (none 6 z 2 (omega arith) refl) (none 6 z 3 (omega arith) refl) own (none-two 6 z 6 (omega arith) refl refl)
        (none-two 6 z 8 (omega arith) refl refl) (high 1 10) (none 6 z 11 (omega arith) refl) (none_last 6 z refl)
    go (suc (suc (suc (suc (suc (suc (suc zero))))))) e l h z =
        same 7 _ _ 0 _ _ _ _ _ _ e (low 1 10) (low 2 11) (none 7 z 3 (omega arith) refl) own (none-two 7 z 6 (omega arith) refl refl)
        (none-two 7 z 8 (omega arith) refl refl) (high 1 10) (high 2 11) (none_last 7 z refl)
    go (suc (suc (suc (suc (suc (suc (suc (suc k)))))))) e l h z = absurd (omega arith)
