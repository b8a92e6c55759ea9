-- Eight bytes as a call: the fields that are to be zero for each code, and the call that they are. Assumes nothing.
use mathlib.Core.Path.{◌≡◌, refl, ap, sym, ◌∙◌}
use mathlib.Core.Bool.{Bool, true, false, ◌&&◌, and_assoc, and-true}
use mathlib.Core.List.{List}
use Prim.Native.Nat.{ℕ, zero, suc, ◌+◌, ◌/◌, ◌%◌, ◌≤◌, ◌<◌}
use native.Mathlib.Omega.{arith}
use lib.ListN.{length, get_or, take, drop}
use lib.Seq.{drop-cons}
use lib.Dec.{eqb}
use borrow.Author.Tests.{eqb-true, eqb-false, eq-eqb, ne_eqb}
use Rattle.book.specs.Lists.{eq_bytes}
use Rattle.book.specs.Numbers.{number, signed}
use Rattle.book.proofs.Lists.{eqb-sym}
use Rattle.book.proofs.Numbers.{two_bytes, two_back, two-below, bits-signed}
use Rattle.book.specs.RowBytes.{pair}
use Rattle.run_reader.specs.File.{call_fields, call_bytes, visit_at, receiver_at, call_at, is_call_at}
use Rattle.run_reader.specs.Fields.{is_call, unused_zero}

-- ── The fields that are to be zero ────────────────────────────────────────────────────────────────────────────────────

-- two numbers are the same exactly if their two bytes are
two-alike : (x y : ℕ) → x < 65536 → y < 65536 → (eqb (x % 256) (y % 256) && (eqb (x / 256 % 256) (y / 256 % 256) && true)) ≡ eqb x y
two-alike x y p q = go (eqb (x % 256) (y % 256)) (eqb (x / 256 % 256) (y / 256 % 256)) refl refl
  where
    go : (l h : Bool) → eqb (x % 256) (y % 256) ≡ l → eqb (x / 256 % 256) (y / 256 % 256) ≡ h → (l && (h && true)) ≡ eqb x y
    go true true e f = sym (eq-eqb x y (omega (arith, two_bytes x p, two_bytes y q, eqb-true _ _ e, eqb-true _ _ f)))
    go true false e f = sym (ne_eqb x y (λ n. eqb-false _ _ f (ap (λ (m : ℕ). m / 256 % 256) n)))
    go false h e f = sym (ne_eqb x y (λ n. eqb-false _ _ e (ap (λ (m : ℕ). m % 256) n)))

-- the low bytes of visit and receiver, the cell, the change's two, and the high bytes: by fields
by-fields : (v r c x y v' r' : Bool)
    → (v && (r && (c && (x && (y && (v' && (r' && true))))))) ≡ ((v && (v' && true)) && ((r && (r' && true)) && (c && (x && (y && true)))))
by-fields false r c x y v' r' = refl
by-fields true false c x y false r' = refl
by-fields true true false x y false r' = refl
by-fields true true true false y false r' = refl
by-fields true true true true false false r' = refl
by-fields true true true true true false r' = refl
by-fields true false c x y true r' = refl
by-fields true true c x y true true = refl
by-fields true true false x y true false = refl
by-fields true true true false y true false = refl
by-fields true true true true false true false = refl
by-fields true true true true true true false = refl

same : (n : ℕ) → eqb n n ≡ true
same n = eq-eqb n n refl

four : (a b c d : Bool) → (a && (b && (c && d))) ≡ (a && b && c && d)
four false b c d = refl
four true b c d = sym (and_assoc b c d)

-- visit v, receiver r, cell or page c, and the change's bits x
module _ (v r c x : ℕ) (visit : v < 65536) (receiver : r < 65536) (below : x < 65536) where
  -- two calls compared by their bytes, of which the first has visit w, receiver s, cell d and the change's bits z
  alike : (w s d z : ℕ) → w < 65536 → s < 65536 → z < 65536
      → (eqb (w % 256) (v % 256) && (eqb (s % 256) (r % 256) && (eqb d c && (eqb (z % 256) (x % 256) && (eqb (z / 256 % 256) (x / 256 % 256) &&
      (eqb (w / 256 % 256) (v / 256 % 256) && (eqb (s / 256 % 256) (r / 256 % 256) && true))))))) ≡ (eqb w v && (eqb s r && (eqb d c && eqb z x)))
  alike w s d z hw hs hz =
      by-fields (eqb (w % 256) (v % 256)) (eqb (s % 256) (r % 256)) (eqb d c) (eqb (z % 256) (x % 256)) (eqb (z / 256 % 256) (x / 256 % 256))
      (eqb (w / 256 % 256) (v / 256 % 256)) (eqb (s / 256 % 256) (r / 256 % 256)) ∙
      rw (two-alike w v hw visit, two-alike s r hs receiver, two-alike z x hz below)

  none-used : (eqb 0 v && (eqb 0 r && (eqb 0 c && eqb 0 x))) ≡ (eqb v 0 && eqb r 0 && eqb c 0 && eqb x 0)
  none-used = rw (eqb-sym 0 v, eqb-sym 0 r, eqb-sym 0 c, eqb-sym 0 x) (four (eqb v 0) (eqb r 0) (eqb c 0) (eqb x 0))

  visit-used : (eqb v v && (eqb 0 r && (eqb 0 c && eqb 0 x))) ≡ (eqb r 0 && eqb c 0 && eqb x 0)
  visit-used = rw (same v, eqb-sym 0 r, eqb-sym 0 c, eqb-sym 0 x) (sym (and_assoc (eqb r 0) (eqb c 0) (eqb x 0)))

  cell-used : (eqb 0 v && (eqb 0 r && (eqb c c && eqb 0 x))) ≡ (eqb v 0 && eqb r 0 && eqb x 0)
  cell-used = rw (same c, eqb-sym 0 v, eqb-sym 0 r, eqb-sym 0 x) (sym (and_assoc (eqb v 0) (eqb r 0) (eqb x 0)))

  by-code : (k : ℕ) → is_call k v r c (signed 16 x) ≡ unused_zero k v r c x
  unfolding call_bytes
  by-code zero = refl
  by-code (suc zero) = rw (bits-signed 16 x below) (alike 0 0 0 0 (omega arith) (omega arith) (omega arith) ∙ none-used)
  by-code (suc (suc zero)) =
      rw (bits-signed 16 x below) (alike v 0 c x visit (omega arith) below ∙ rw (same v, same c, same x, eqb-sym 0 r) (and-true (eqb r 0)))
  by-code (suc (suc (suc zero))) = rw (bits-signed 16 x below) (alike v r c 0 visit receiver (omega arith) ∙ rw (same v, same r, same c) (eqb-sym 0 x))
  by-code (suc (suc (suc (suc zero)))) = rw (bits-signed 16 x below) (alike v 0 0 0 visit (omega arith) (omega arith) ∙ visit-used)
  by-code (suc (suc (suc (suc (suc zero))))) = rw (bits-signed 16 x below) (alike v 0 0 0 visit (omega arith) (omega arith) ∙ visit-used)
  by-code (suc (suc (suc (suc (suc (suc zero)))))) = rw (bits-signed 16 x below) (alike 0 0 c 0 (omega arith) (omega arith) (omega arith) ∙ cell-used)
  by-code (suc (suc (suc (suc (suc (suc (suc zero))))))) = rw (bits-signed 16 x below) (alike 0 0 0 0 (omega arith) (omega arith) (omega arith) ∙ none-used)
  by-code (suc (suc (suc (suc (suc (suc (suc (suc zero)))))))) = rw (bits-signed 16 x below) (alike 0 0 c 0 (omega arith) (omega arith) (omega arith) ∙ cell-used)
  by-code (suc (suc (suc (suc (suc (suc (suc (suc (suc zero))))))))) =
      rw (bits-signed 16 x below) (alike v r 0 0 visit receiver (omega arith) ∙ rw (same v, same r, eqb-sym 0 c, eqb-sym 0 x) refl)
  by-code (suc (suc (suc (suc (suc (suc (suc (suc (suc (suc k)))))))))) =
      rw (ne_eqb 9 (suc (suc (suc (suc (suc (suc (suc (suc (suc (suc k)))))))))) (λ e. omega arith)) refl

-- ── At a place of the file ────────────────────────────────────────────────────────────────────────────────────────────

-- a visit's low byte and its high one
low : (bs : List ℕ) → ((i : ℕ) → get_or bs i 0 < 256) → (i j : ℕ) → pair bs i j % 256 ≡ get_or bs i 0
low bs byte i j = let h = byte i in omega arith

high : (bs : List ℕ) → ((i : ℕ) → get_or bs i 0 < 256) → (i j : ℕ) → pair bs i j / 256 % 256 ≡ get_or bs j 0
high bs byte i j = let h = byte i in let k = byte j in omega arith

-- the eight bytes from `at` on are the fields of what is read there
eight-bytes : (bs : List ℕ) (at : ℕ) → at + 8 ≤ length bs → ((i : ℕ) → get_or bs i 0 < 256)
    → call_fields (get_or bs at 0) (visit_at bs at) (receiver_at bs at) (get_or bs (at + 3) 0) (signed 16 (number 2 bs (at + 4))) ≡ take 8 (drop at bs)
eight-bytes bs at h byte =
    let i1 = suc at in
    let i2 = suc i1 in
    let i3 = suc i2 in
    let i4 = suc i3 in
    let i5 = suc i4 in
    let i6 = suc i5 in
    let i7 = suc i6 in
    let e1 : at + 1 ≡ i1 = omega arith in
    let e2 : at + 2 ≡ i2 = omega arith in
    let e3 : at + 3 ≡ i3 = omega arith in
    let e4 : at + 4 ≡ i4 = omega arith in
    let e6 : at + 6 ≡ i6 = omega arith in
    let e7 : at + 7 ≡ i7 = omega arith in
    let change = two_back (get_or bs i4 0) (get_or bs i5 0) (byte i4) (byte i5) in
    let change-low : number 2 bs i4 % 256 ≡ get_or bs i4 0 = ap (λ (l : List ℕ). get_or l 0 0) change in
    let change-high : number 2 bs i4 / 256 % 256 ≡ get_or bs i5 0 = ap (λ (l : List ℕ). get_or l 1 0) change in
    rw (
      e1,
      e2,
      e3,
      e4,
      e6,
      e7,
      low bs byte i1 i6,
      high bs byte i1 i6,
      low bs byte i2 i7,
      high bs byte i2 i7,
      bits-signed 16 (number 2 bs i4) (two-below (get_or bs i4 0) (get_or bs i5 0) (byte i4) (byte i5)),
      change-low,
      change-high,
      drop-cons bs at 0 (omega arith),
      drop-cons bs i1 0 (omega arith),
      drop-cons bs i2 0 (omega arith),
      drop-cons bs i3 0 (omega arith),
      drop-cons bs i4 0 (omega arith),
      drop-cons bs i5 0 (omega arith),
      drop-cons bs i6 0 (omega arith),
      drop-cons bs i7 0 (omega arith),
    )

-- the fields of what is read at a place tell whether a call stands there
pub call_here : (bs : List ℕ) (at : ℕ) → at + 8 ≤ length bs → ((i : ℕ) → get_or bs i 0 < 256)
    → unused_zero (get_or bs at 0) (visit_at bs at) (receiver_at bs at) (get_or bs (at + 3) 0) (number 2 bs (at + 4)) ≡ is_call_at bs at
unfolding is_call_at call_at
call_here bs at h byte =
    sym (by-code (visit_at bs at) (receiver_at bs at) (get_or bs (at + 3) 0) (number 2 bs (at + 4)) (word (at + 1) (at + 6)) (word (at + 2) (at + 7))
    (let k = byte (at + 4) in let l = byte (suc (at + 4)) in omega arith) (get_or bs at 0)) ∙
    ap (eq_bytes (call_bytes (call_at bs at))) (eight-bytes bs at h byte)
  where
    word : (i j : ℕ) → pair bs i j < 65536
    word i j = let k = byte i in let l = byte j in omega arith
