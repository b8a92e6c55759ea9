-- The bytes of a log (specs/LogBytes): an opening reads a log as some rows exactly when these are allowed and the bytes are theirs.
use Prim.Native.Nat.{ℕ, zero, suc, ◌+◌, ◌-◌, ◌*◌, ◌≤◌}
use native.Mathlib.Omega.{arith}
use mathlib.Core.Path.{◌≡◌, refl, ap, ap₂, sym, ◌∙◌, subst}
use mathlib.Core.Bool.{Bool, true, false, cond, not, ◌&&◌}
use mathlib.Core.List.{List, [], ◌∷◌, ◌++◌, append_assoc}
use lib.ListN.{length, length-append, length-drop, length-replicate, get_or, take, drop, replicate, take-append-drop, replicate-append-replicate}
use lib.Seq.{take_at, drop_at}
use lib.Dec.{eqb}
use borrow.Author.Tests.{eqb-true, ne_eqb}
use Rattle.book.specs.Lists.{eq_bytes}
use Rattle.book.specs.Rows.{Row, fits}
use Rattle.book.specs.Ledger.{Ledger, empty, after}
use Rattle.book.specs.Rules.{lawful, within_limits, allowed, all_allowed, allowed_log}
use Rattle.book.specs.RowBytes.{row_bytes, row_of, is_row_bytes}
use Rattle.book.specs.LogBytes.{rows_bytes, log_bytes, judge, Log, good, bad, cons_log, read_end, read_rows, read_log}
use Rattle.book.proofs.Lists.{and_i, and_l, and_r}
use Rattle.book.proofs.RowBytes.{eq_bytes-true, row-long, row-kind, kind-known, row_back, row-bytes, row-exact}

-- ── Zero bytes ────────────────────────────────────────────────────────────────────────────────────────────────────────

abbrev pub blank : ℕ → List ℕ
blank n = replicate n 0

pub blank-same : (m n : ℕ) → m ≡ n → blank m ≡ blank n
blank-same m n e = ap blank e

-- a blank row in front of blank rows
pub blank-cons : (k : ℕ) → blank (16 * suc k) ≡ blank 16 ++ blank (16 * k)
blank-cons k = blank-same (16 * suc k) (16 + 16 * k) (omega arith) ∙ sym (replicate-append-replicate 16 (16 * k) 0)

-- ── The bytes of rows from number n on, in a log that has k rows from there on ────────────────────────────────────────

abbrev pub padded : ℕ → ℕ → List Row → List ℕ
padded k n rs = rows_bytes n rs ++ blank (16 * (k - length rs))

pub padded-nil : (k n : ℕ) → padded k n [] ≡ blank (16 * k)
padded-nil k n = blank-same (16 * (k - 0)) (16 * k) (omega arith)

pub padded-cons : (k n : ℕ) (r : Row) (rs : List Row) → padded (suc k) n (r ∷ rs) ≡ row_bytes n r ++ padded k (suc n) rs
padded-cons k n r rs =
    append_assoc (row_bytes n r) (rows_bytes (suc n) rs) _ ∙
    ap (λ (z : List ℕ). row_bytes n r ++ (rows_bytes (suc n) rs ++ z)) (blank-same (16 * (suc k - suc (length rs))) (16 * (k - length rs)) (omega arith))

pub rows_long : (n : ℕ) (rs : List Row) → length (rows_bytes n rs) ≡ 16 * length rs
rows_long n [] = refl
rows_long n (r ∷ rs) =
    let k = length-append (row_bytes n r) (rows_bytes (suc n) rs) in let m = row-long n r in let j = rows_long (suc n) rs in omega arith

pub log-padded : (rs : List Row) → log_bytes rs ≡ padded 4096 1 rs
unfolding log_bytes
log-padded rs =
    let k = rows_long 1 rs in
    ap (λ (z : List ℕ). rows_bytes 1 rs ++ z) (blank-same (65536 - length (rows_bytes 1 rs)) (16 * (4096 - length rs)) (omega arith))

-- 01: the stored log has 65,536 bytes
pub log-long : (rs : List Row) → length rs ≤ 4096 → length (log_bytes rs) ≡ 65536
log-long rs h =
    let e = ap length (log-padded rs) in let a = length-append (rows_bytes 1 rs) (blank (16 * (4096 - length rs))) in
    let z = length-replicate {A = ℕ} (16 * (4096 - length rs)) 0 in let k = rows_long 1 rs in omega arith

-- ── A row is judged ───────────────────────────────────────────────────────────────────────────────────────────────────

-- the three tests in their order: bytes, rules, limits
abbrev pub tested : Bool → Bool → Bool → ℕ
tested s t u = cond (not s) 3 (cond (not t) 16 (cond (not u) 17 0))

pub allowed-fits : (l : Ledger) (r : Row) → allowed l r ≡ true → fits r ≡ true
unfolding allowed
allowed-fits l r e = search (and_l, and_r)

-- the bytes of an allowed row pass
pub judge-good : (l : Ledger) (n : ℕ) (r : Row) → allowed l r ≡ true → judge l n (row_bytes n r) ≡ 0
unfolding judge allowed
judge-good l n r e =
    let fl = and_l (fits r && lawful l r) _ e in
    rw (row-bytes n r (and_l (fits r) _ fl), row_back n r (and_l (fits r) _ fl), fl, and_r (fits r && lawful l r) _ e)

-- what passes is allowed, and its bytes are those of a row
pub judge-exact : (l : Ledger) (n : ℕ) (bs : List ℕ) → judge l n bs ≡ 0 → (is_row_bytes n bs ≡ true) × (allowed l (row_of bs) ≡ true)
unfolding judge allowed
judge-exact l n bs = go (is_row_bytes n bs) (fits (row_of bs) && lawful l (row_of bs)) (within_limits l (row_of bs))
  where
    go : (s t u : Bool) → tested s t u ≡ 0 → (s ≡ true) × ((t && u) ≡ true)
    go true true true e = (refl, refl)
    go true true false e = absurd (omega arith)
    go true false u e = absurd (omega arith)
    go false t u e = absurd (omega arith)

-- ── An allowed log is read as its rows ────────────────────────────────────────────────────────────────────────────────

end-good : (k n : ℕ) (bs : List ℕ) → bs ≡ blank (16 * k) → read_end k n bs ≡ good []
end-good zero n bs e = refl
end-good (suc k) n bs e =
    let is = e ∙ blank-cons k in
    rw (ap (take 16) is) (end-good k (suc n) (drop 16 bs) (ap (drop 16) is))

pub rows-good : (rs : List Row) (k n : ℕ) (l : Ledger) (bs : List ℕ) → length rs ≤ k → all_allowed l rs ≡ true → bs ≡ padded k n rs
    → read_rows k n l bs ≡ good rs
rows-good [] zero n l bs h al e = refl
rows-good [] (suc k) n l bs h al e =
    let is = e ∙ padded-nil (suc k) n in
    let top : get_or bs 0 0 ≡ 0 = ap (λ (z : List ℕ). get_or z 0 0) (is ∙ blank-cons k) in
    rw top (end-good (suc k) n bs is)
rows-good (r ∷ rs) zero n l bs h al e = absurd (omega arith)
rows-good (r ∷ rs) (suc k) n l bs h al e =
    let rest = padded k (suc n) rs in
    let is : bs ≡ row_bytes n r ++ rest = e ∙ padded-cons k n r rs in
    let this = and_l (allowed l r) _ al in
    let head = ap (take 16) is ∙ take_at (row_bytes n r) rest 16 (row-long n r) in
    let top = ap (λ (z : List ℕ). get_or z 0 0) is ∙ row-kind n r rest in
    let known = (kind-known r).0 in
    let ih = rows-good rs k (suc n) (after l r) (drop 16 bs) (omega arith) (and_r (allowed l r) _ al)
    (ap (drop 16) is ∙ drop_at (row_bytes n r) rest 16 (row-long n r)) in
    rw (
      ne_eqb (get_or bs 0 0) 0 (λ q. omega arith),
      ap (judge l n) head ∙ judge-good l n r this,
      ap row_of head ∙ row_back n r (allowed-fits l r this),
      ih,
    )

-- an opening reads an allowed log as those rows
pub log-good : (rs : List Row) → allowed_log rs ≡ true → length rs ≤ 4096 → read_log (log_bytes rs) ≡ good rs
unfolding read_log
log-good rs al h = rows-good rs 4096 1 empty (log_bytes rs) h al (log-padded rs)

-- ── What is read is what stands there ─────────────────────────────────────────────────────────────────────────────────

pub not_good : (k n : ℕ) (rs : List Row) → bad k n ≡ good rs → ⊥
not_good k n rs e = let z : ◌≡◌ {A = ℕ} 0 1 = cc in omega arith

-- the bytes are those of these rows, allowed one after another, and zeros
pub record Exact (k n : ℕ) (l : Ledger) (bs : List ℕ) (rs : List Row) : Type 0 where
  pub good : all_allowed l rs ≡ true
  pub fit : length rs ≤ k
  pub is : bs ≡ padded k n rs

pub drop-row : (k : ℕ) (bs : List ℕ) → length bs ≡ 16 * suc k → length (drop 16 bs) ≡ 16 * k
drop-row k bs e = length-drop 16 bs ∙ rest (length bs) e
  where
    rest : (m : ℕ) → m ≡ 16 * suc k → m - 16 ≡ 16 * k
    rest m h = omega arith

end-exact : (k n : ℕ) (bs : List ℕ) (rs : List Row) → length bs ≡ 16 * k → read_end k n bs ≡ good rs → (rs ≡ []) × (bs ≡ blank (16 * k))
end-exact zero n [] rs h e = (cc, refl)
end-exact zero n (b ∷ bs) rs h e = absurd (omega arith)
end-exact (suc k) n bs rs h e = go (eq_bytes (take 16 bs) (blank 16)) refl e (end-exact k (suc n) (drop 16 bs) rs (drop-row k bs h))
  where
    go : (t : Bool) → eq_bytes (take 16 bs) (blank 16) ≡ t → cond t (read_end k (suc n) (drop 16 bs)) (bad 3 n) ≡ good rs
        → (read_end k (suc n) (drop 16 bs) ≡ good rs → (rs ≡ []) × (drop 16 bs ≡ blank (16 * k))) → (rs ≡ []) × (bs ≡ blank (16 * suc k))
    go true q f ih =
        let r = ih f in (
          r.0,
          sym (take-append-drop 16 bs) ∙ ap₂ (λ (x y : List ℕ). x ++ y) (eq_bytes-true (take 16 bs) (blank 16) q) r.1 ∙ sym (blank-cons k),
        )
    go false q f ih = absurd (not_good 3 n rs f)

rows-exact : (k n : ℕ) (l : Ledger) (bs : List ℕ) (rs : List Row) → length bs ≡ 16 * k → read_rows k n l bs ≡ good rs → Exact k n l bs rs
rows-exact zero n l [] rs h e = let is : rs ≡ [] = cc in subst (Exact 0 n l []) (sym is) (record { good = refl; fit = omega arith; is = refl })
rows-exact zero n l (b ∷ bs) rs h e = absurd (omega arith)
rows-exact (suc k) n l bs rs h e =
    go (eqb (get_or bs 0 0) 0) (eqb j 0) refl e (λ xs. rows-exact k (suc n) (after l r) (drop 16 bs) xs (drop-row k bs h))
  where
    r : Row
    r = row_of (take 16 bs)

    j : ℕ
    j = judge l n (take 16 bs)

    Rest : List Row → Type 0
    Rest xs = Exact k (suc n) (after l (row_of (take 16 bs))) (drop 16 bs) xs

    cons : (x : Log) (rs : List Row) → cons_log r x ≡ good rs → j ≡ 0 → ((xs : List Row) → x ≡ good xs → Rest xs) → Exact (suc k) n l bs rs
    cons (bad m i) rs f p ih = absurd (not_good m i rs f)
    cons (good xs) rs f p ih =
        let is : rs ≡ r ∷ xs = cc in
        let x = ih xs refl in
        let row = judge-exact l n (take 16 bs) p in
        let ft = x.fit in
        subst (Exact (suc k) n l bs) (sym is) (record {
          good = and_i _ _ row.1 x.good;
          fit = omega arith;
          is = sym (take-append-drop 16 bs) ∙ ap₂ (λ (u w : List ℕ). u ++ w) (row-exact n (take 16 bs) row.0) x.is ∙ sym (padded-cons k n r xs);
        })

    go : (s t : Bool) → eqb j 0 ≡ t → cond s (read_end (suc k) n bs) (cond t (cons_log r (read_rows k (suc n) (after l r) (drop 16 bs))) (bad j n)) ≡ good rs
        → ((xs : List Row) → read_rows k (suc n) (after l r) (drop 16 bs) ≡ good xs → Rest xs) → Exact (suc k) n l bs rs
    go true t q f ih =
        let x = end-exact (suc k) n bs rs h f in
        subst (Exact (suc k) n l bs) (sym x.0) (record { good = refl; fit = omega arith; is = x.1 ∙ sym (padded-nil (suc k) n) })
    go false true q f ih = cons _ rs f (eqb-true j 0 q) ih
    go false false q f ih = absurd (not_good j n rs f)

-- an opening accepts a log only if its bytes are those of an allowed list of rows
pub log-exact : (bs : List ℕ) (rs : List Row) → length bs ≡ 65536 → read_log bs ≡ good rs → (allowed_log rs ≡ true) × (bs ≡ log_bytes rs)
unfolding read_log
log-exact bs rs h e = let x = rows-exact 4096 1 empty bs rs h e in (x.good, x.is ∙ sym (log-padded rs))
