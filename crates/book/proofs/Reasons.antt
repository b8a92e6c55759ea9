-- Why a row is not allowed (specs/Reading): the number that `judge` gives the 16 bytes of a row is that of the reason (`judge-reason`), and no row has two
-- reasons (`one-reason`).
use Prim.Native.Nat.{ℕ, zero, suc, ◌<◌}
use native.Mathlib.Omega.{arith}
use mathlib.Core.Path.{◌≡◌, refl, ap, sym, ◌∙◌, subst}
use mathlib.Core.Bool.{Bool, true, false, not, ◌&&◌, ◌||◌}
use mathlib.Core.List.{List}
use lib.ListN.{length, get_or, get_or-eq_default}
use lib.Dec.{eqb, leb, ltb}
use borrow.Author.Tests.{eqb-true, eqb-false, eq-eqb, leb-true, leb-false, ltb-true, ltb-false}
use Rattle.book.specs.Lists.{member}
use Rattle.book.specs.Limits.{kind_limit}
use Rattle.book.specs.Rows.{fits}
use Rattle.book.specs.Ledger.{Ledger}
use Rattle.book.specs.Rules.{lawful, within_limits}
use Rattle.book.specs.Numbers.{AreBytes, number}
use Rattle.book.specs.RowBytes.{may_be, row_of, is_row_bytes}
use Rattle.book.specs.LogBytes.{judge}
use Rattle.book.specs.Reading.{WrongBytes, after_end, at_end, unknown_kind, set_byte, other_number, Reason, wrong_bytes, breaks_rule, over_limit, log_numbers}
use Rattle.book.proofs.Lists.{clash}
use Rattle.book.proofs.RowBytes.{ByTable, by-table, table-bytes}
use Rattle.book.proofs.LogBytes.{tested}

-- ── Wrong bytes ───────────────────────────────────────────────────────────────────────────────────────────────────────

-- all numbers below m pass the test, or one fails it
data Search (m : ℕ) (p : ℕ → Bool) : Type 0 where
  all : ((i : ℕ) → i < m → p i ≡ true) → Search m p
  fails : (i : ℕ) → p i ≡ false → Search m p

search-below : (m : ℕ) (p : ℕ → Bool) → Search m p
search-below zero p = all (λ i h. absurd (omega arith))
search-below (suc m) p = go (p m) refl (search-below m p)
  where
    go : (t : Bool) → p m ≡ t → Search m p → Search (suc m) p
    go false e s = fails m e
    go true e (fails i f) = fails i f
    go true e (all f) = all (λ i h. its i h (eqb i m) refl)
      where
        its : (i : ℕ) → i < suc m → (t : Bool) → eqb i m ≡ t → p i ≡ true
        its i h true q = ap p (eqb-true i m q) ∙ e
        its i h false q = let ne = eqb-false i m q in f i (omega arith)

module _ (l : Ledger) (n : ℕ) (bs : List ℕ) (long : length bs ≡ 16) where
  -- 16 bytes that are not those of a row n: one of them is wrong
  wrong-bytes : AreBytes bs → is_row_bytes n bs ≡ false → WrongBytes l n bs
  wrong-bytes byte e = go (eqb k 0) refl (leb k kind_limit) refl (eqb (number 2 bs 4) n) refl (search-below 16 as_table)
    where
      k : ℕ
      k = get_or bs 0 0

      -- zero, or the table lets it be other than zero
      as_table : ℕ → Bool
      as_table i = not (eqb (may_be (get_or bs 0 0) i) 0) || eqb (get_or bs i 0) 0

      set-byte : (i : ℕ) (s t : Bool) → eqb (may_be (get_or bs 0 0) i) 0 ≡ s → eqb (get_or bs i 0) 0 ≡ t → (not s || t) ≡ false → WrongBytes l n bs
      set-byte i true false p q f = set_byte i (eqb-true _ 0 p) (eqb-false _ 0 q)
      set-byte i true true p q f = clash true refl f
      set-byte i false t p q f = clash true refl f

      zero-byte : (i : ℕ) (s t : Bool) → eqb (may_be (get_or bs 0 0) i) 0 ≡ s → eqb (get_or bs i 0) 0 ≡ t → (not s || t) ≡ true → may_be (get_or bs 0 0) i ≡ 0
          → get_or bs i 0 ≡ 0
      zero-byte i s true p q f z = eqb-true _ 0 q
      zero-byte i true false p q f z = clash false f refl
      zero-byte i false false p q f z = absurd (eqb-false _ 0 p z)

      go : (z : Bool) → eqb k 0 ≡ z → (u : Bool) → leb k kind_limit ≡ u → (o : Bool) → eqb (number 2 bs 4) n ≡ o → Search 16 as_table → WrongBytes l n bs
      go true z u p o q s = at_end (eqb-true k 0 z)
      go false z false p o q s = unknown_kind (leb-false k kind_limit p)
      go false z true p false q s = other_number (eqb-false (number 2 bs 4) n q)
      go false z true p true q (fails i f) = set-byte i _ _ refl refl f
      go false z true p true q (all f) =
          let ne = eqb-false k 0 z in
          clash (is_row_bytes n bs) (table-bytes n bs long byte (record {
            from = omega arith;
            to = leb-true k kind_limit p;
            own = eqb-true (number 2 bs 4) n q;
            zeros = λ i h. zero-byte i _ _ refl refl (f i h);
          })) e

  -- and none of a row's 16 bytes is
  right-bytes : n < 65536 → suc l.rows ≡ n → is_row_bytes n bs ≡ true → WrongBytes l n bs → ⊥
  right-bytes h next e = go
    where
      t : ByTable n bs
      t = by-table n bs h e

      go : WrongBytes l n bs → ⊥
      go (after_end p) = omega arith
      go (at_end z) = let f = t.from in omega arith
      go (unknown_kind p) = let f = t.to in omega arith
      go (set_byte i z ne) = zero-byte (ltb i 16) refl
        where
          zero-byte : (s : Bool) → ltb i 16 ≡ s → ⊥
          zero-byte true p = ne (t.zeros i (ltb-true i 16 p) z)
          zero-byte false p = let k = ltb-false i 16 p in ne (get_or-eq_default bs 0 {n = i} (omega arith))
      go (other_number ne) = ne t.own

  -- ── The number ──────────────────────────────────────────────────────────────────────────────────────────────────────

  pub judge-reason : AreBytes bs → n < 65536 → suc l.rows ≡ n → eqb (judge l n bs) 0 ≡ false → Reason l n bs (judge l n bs)
  unfolding judge
  judge-reason byte h next = go (is_row_bytes n bs) refl (fits (row_of bs) && lawful l (row_of bs)) refl (within_limits l (row_of bs)) refl
    where
      go : (s : Bool) → is_row_bytes n bs ≡ s → (t : Bool) → (fits (row_of bs) && lawful l (row_of bs)) ≡ t → (u : Bool) → within_limits l (row_of bs) ≡ u
          → eqb (tested s t u) 0 ≡ false → Reason l n bs (tested s t u)
      go false p t q u r e = wrong_bytes (wrong-bytes byte p)
      go true p false q u r e = breaks_rule (record { bytes = right-bytes h next p; rule = q })
      go true p true q false r e = over_limit (record { bytes = right-bytes h next p; rules = q; limit = r })
      go true p true q true r e = clash true refl e

-- whatever the bytes are, it is one of three
pub judge-listed : (l : Ledger) (n : ℕ) (bs : List ℕ) → eqb (judge l n bs) 0 ≡ false → member (judge l n bs) log_numbers ≡ true
unfolding judge
judge-listed l n bs = go (is_row_bytes n bs) (fits (row_of bs) && lawful l (row_of bs)) (within_limits l (row_of bs))
  where
    go : (s t u : Bool) → eqb (tested s t u) 0 ≡ false → member (tested s t u) log_numbers ≡ true
    go false t u e = refl
    go true false u e = refl
    go true true false e = refl
    go true true true e = clash true refl e

-- what holds of the three holds of a number of the list
pub each_number : (P : ℕ → Type 0) → P 3 → P 16 → P 17 → (k : ℕ) → member k log_numbers ≡ true → P k
each_number P three sixteen seventeen k = go (eqb k 3) refl (eqb k 16) refl (eqb k 17) refl
  where
    go : (s : Bool) → eqb k 3 ≡ s → (t : Bool) → eqb k 16 ≡ t → (u : Bool) → eqb k 17 ≡ u → (s || (t || (u || false))) ≡ true → P k
    go true p t q u r e = subst P (sym (eqb-true k 3 p)) three
    go false p true q u r e = subst P (sym (eqb-true k 16 q)) sixteen
    go false p false q true r e = subst P (sym (eqb-true k 17 r)) seventeen
    go false p false q false r e = clash false e refl

-- bytes come before rules and limits, rules before limits
pub one-reason : {l : Ledger} {n : ℕ} {bs : List ℕ} {j k : ℕ} → Reason l n bs j → Reason l n bs k → j ≡ k
one-reason (wrong_bytes w) (wrong_bytes v) = refl
one-reason (wrong_bytes w) (breaks_rule b) = absurd (b.bytes w)
one-reason (wrong_bytes w) (over_limit o) = absurd (o.bytes w)
one-reason (breaks_rule b) (wrong_bytes w) = absurd (b.bytes w)
one-reason (breaks_rule b) (breaks_rule c) = refl
one-reason (breaks_rule b) (over_limit o) = clash _ o.rules b.rule
one-reason (over_limit o) (wrong_bytes w) = absurd (o.bytes w)
one-reason (over_limit o) (breaks_rule b) = clash _ o.rules b.rule
one-reason (over_limit o) (over_limit p) = refl
