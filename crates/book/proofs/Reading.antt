-- Demand 2, its half on reading (specs/Reading): a log is read as exactly the rows whose bytes it has, or refused with the first bad row, by the number of
-- the reason. Two logs whose bytes are the same up to a bad row are both refused there; so no allowed log has those bytes.
use Prim.Native.Nat.{ℕ, zero, suc, ◌+◌, ◌-◌, ◌*◌, ◌≤◌, ◌<◌}
use native.Mathlib.Omega.{arith}
use native.Mathlib.Nat.{zero-add, suc-add}
use mathlib.Core.Path.{◌≡◌, refl, ap, ap₂, sym, ◌∙◌, subst}
use mathlib.Core.Bool.{Bool, true, false, cond}
use mathlib.Core.List.{List, [], ◌∷◌, ◌++◌}
use lib.ListN.{length, length-replicate, get_or, take, drop, take-append-drop, replicate-append-replicate}
use lib.Seq.{take_at, drop_at, get_or-take, get_or-drop, take-take, take-add, take-nil, drop-drop, drop-append-add, length-take-le}
use lib.Dec.{eqb, ltb}
use borrow.Author.Tests.{eqb-true, ltb-true, ltb-false}
use Rattle.book.specs.Lists.{eq_bytes, foldl, member}
use Rattle.book.specs.Rows.{Row}
use Rattle.book.specs.Ledger.{Ledger, empty, after, ledger}
use Rattle.book.specs.Rules.{all_allowed, allowed_log}
use Rattle.book.specs.Numbers.{AreBytes}
use Rattle.book.specs.RowBytes.{row_bytes, row_of}
use Rattle.book.specs.LogBytes.{rows_bytes, log_bytes, judge, Log, good, bad, cons_log, read_end, read_rows, read_log}
use Rattle.book.specs.Reading.{first_rows, bytes_of_row, FirstBad, WrongBytes, after_end, at_end, Reason, wrong_bytes, log_numbers, BadFor, Demand2Reading}
use Rattle.book.proofs.Lists.{and_i}
use Rattle.book.proofs.InvariantKept.{few-rows}
use Rattle.book.proofs.Numbers.{part_bytes}
use Rattle.book.proofs.RowBytes.{eq_bytes-true, row-long, row-exact}
use Rattle.book.proofs.LogBytes.{blank, blank-cons, padded, padded-nil, padded-cons, rows_long, log-padded, judge-exact, not_good, log-good, drop-row, log-exact}
use Rattle.book.proofs.Reasons.{judge-reason, judge-listed, one-reason}

-- ── The bytes of the first rows are the same ──────────────────────────────────────────────────────────────────────────

SameRows : ℕ → List ℕ → List ℕ → Type 0
SameRows zero bs cs = Unit {0}
SameRows (suc j) bs cs = (take 16 bs ≡ take 16 cs) × SameRows j (drop 16 bs) (drop 16 cs)

-- the first j + 1 rows, as the first row and j more
first-cons : (j : ℕ) (bs : List ℕ) → first_rows (suc j) bs ≡ take 16 bs ++ first_rows j (drop 16 bs)
first-cons j bs = ap (λ (m : ℕ). take m bs) (at j) ∙ take-add 16 (16 * j) bs
  where
    at : (j : ℕ) → 16 * suc j ≡ 16 + 16 * j
    at j = omega arith

rows-first : (j : ℕ) (bs cs : List ℕ) → SameRows j bs cs → first_rows j bs ≡ first_rows j cs
unfolding SameRows
rows-first zero bs cs s = refl
rows-first (suc j) bs cs s =
    first-cons j bs ∙ ap₂ (λ (x y : List ℕ). x ++ y) s.0 (rows-first j (drop 16 bs) (drop 16 cs) s.1) ∙ sym (first-cons j cs)

drop-take : (n m : ℕ) (xs : List ℕ) → drop n (take (n + m) xs) ≡ take m (drop n xs)
drop-take zero m xs = rw (zero-add m)
drop-take (suc n) m [] = rw (suc-add n m) (sym (take-nil m))
drop-take (suc n) m (x ∷ xs) = rw (suc-add n m) (drop-take n m xs)

first_rows_lem : (j : ℕ) (bs cs : List ℕ) → first_rows j bs ≡ first_rows j cs → SameRows j bs cs
unfolding SameRows
first_rows_lem zero bs cs e = _
first_rows_lem (suc j) bs cs e = (
  sym (take-take 16 (16 * suc j) bs (omega arith)) ∙ ap (take 16) e ∙ take-take 16 (16 * suc j) cs (omega arith),
  first_rows_lem j (drop 16 bs) (drop 16 cs) (sym (rest j bs) ∙ ap (drop 16) e ∙ rest j cs),
)
  where
    rest : (j : ℕ) (xs : List ℕ) → drop 16 (take (16 * suc j) xs) ≡ first_rows j (drop 16 xs)
    rest j xs = let at : 16 * suc j ≡ 16 + 16 * j = omega arith in rw at (drop-take 16 (16 * j) xs)

-- the first row's kind
same-top : (j : ℕ) (bs cs : List ℕ) → SameRows (suc j) bs cs → get_or bs 0 0 ≡ get_or cs 0 0
unfolding SameRows
same-top j bs cs s = sym (get_or-take 16 bs 0 0 (omega arith)) ∙ ap (λ (l : List ℕ). get_or l 0 0) s.0 ∙ get_or-take 16 cs 0 0 (omega arith)

-- ── Where a bad row stands ────────────────────────────────────────────────────────────────────────────────────────────

-- the row is one of the k from number n on
record Place (k n row : ℕ) : Type 0 where
  from : n ≤ row
  to : row < n + k

good-bad : {X : Type 0} (rs : List Row) (i m : ℕ) → good rs ≡ bad i m → X
good-bad rs i m e = absurd (not_good i m rs (sym e))

bad-row : (i m i' m' : ℕ) → bad i m ≡ bad i' m' → (i ≡ i') × (m ≡ m')
bad-row i m i' m' e = (cc, cc)

cons-bad : (r : Row) (x : Log) (i m : ℕ) → cons_log r x ≡ bad i m → x ≡ bad i m
cons-bad r (good rs) i m e = good-bad (r ∷ rs) i m e
cons-bad r (bad i' m') i m e = e

here : {k n j i m : ℕ} → bad j n ≡ bad i m → Place (suc k) n m
here {k} {n} {j} {i} {m} e = let at = (bad-row j n i m e).1 in record { from = omega arith; to = omega arith }

next : {k n m : ℕ} → Place k (suc n) m → Place (suc k) n m
next {k} {n} {m} p = let f = p.from in let t = p.to in record { from = omega arith; to = omega arith }

-- past the end the refusal is 3
end-place : (k n : ℕ) (bs : List ℕ) (i m : ℕ) → read_end k n bs ≡ bad i m → (i ≡ 3) × Place k n m
end-place zero n bs i m e = good-bad [] i m e
end-place (suc k) n bs i m e = go (eq_bytes (take 16 bs) (blank 16)) e (end-place k (suc n) (drop 16 bs) i m)
  where
    go : (t : Bool) → cond t (read_end k (suc n) (drop 16 bs)) (bad 3 n) ≡ bad i m
        → (read_end k (suc n) (drop 16 bs) ≡ bad i m → (i ≡ 3) × Place k (suc n) m) → (i ≡ 3) × Place (suc k) n m
    go true f ih = let p = ih f in (p.0, next p.1)
    go false f ih = (sym (bad-row 3 n i m f).0, here f)

module _ (k n : ℕ) (l : Ledger) (bs : List ℕ) where
  -- the row that is read first, and what is read after it
  r : Row
  r = row_of (take 16 bs)

  rest : Log
  rest = read_rows k (suc n) (after l r) (drop 16 bs)

  -- how a log of k + 1 rows is read
  data Read : Log → Type 0 where
    ends : get_or bs 0 0 ≡ 0 → Read (read_end (suc k) n bs)
    goes : eqb (get_or bs 0 0) 0 ≡ false → judge l n (take 16 bs) ≡ 0 → Read (cons_log r rest)
    stops : eqb (get_or bs 0 0) 0 ≡ false → eqb (judge l n (take 16 bs)) 0 ≡ false → Read (bad (judge l n (take 16 bs)) n)

  read : Read (read_rows (suc k) n l bs)
  unfolding r rest
  read = go (eqb (get_or bs 0 0) 0) refl (eqb (judge l n (take 16 bs)) 0) refl
    where
      go : (s : Bool) → eqb (get_or bs 0 0) 0 ≡ s → (t : Bool) → eqb (judge l n (take 16 bs)) 0 ≡ t
          → Read (cond s (read_end (suc k) n bs) (cond t (cons_log r rest) (bad (judge l n (take 16 bs)) n)))
      go true p t q = ends (eqb-true (get_or bs 0 0) 0 p)
      go false p true q = goes p (eqb-true (judge l n (take 16 bs)) 0 q)
      go false p false q = stops p q

rows-place : (k n : ℕ) (l : Ledger) (bs : List ℕ) (i m : ℕ) → read_rows k n l bs ≡ bad i m → Place k n m
unfolding r rest
rows-place zero n l bs i m e = good-bad [] i m e
rows-place (suc k) n l bs i m e = go (read k n l bs) e (rows-place k (suc n) (after l (r k n l bs)) (drop 16 bs) i m)
  where
    go : {x : Log} → Read k n l bs x → x ≡ bad i m → (rest k n l bs ≡ bad i m → Place k (suc n) m) → Place (suc k) n m
    go (ends top) f ih = (end-place (suc k) n bs i m f).1
    go (goes top row) f ih = next (ih (cons-bad (r k n l bs) (rest k n l bs) i m f))
    go (stops top row) f ih = here f

-- ── Logs with the same bytes up to a bad row are refused alike ────────────────────────────────────────────────────────

end-alike : (j k n : ℕ) (bs cs : List ℕ) (i m : ℕ) → m ≡ n + j → SameRows (suc j) bs cs → read_end k n bs ≡ bad i m → read_end k n cs ≡ bad i m
unfolding SameRows
end-alike j zero n bs cs i m at s e = e
end-alike zero (suc k) n bs cs i m at s e = rw (← s.0) (go (eq_bytes (take 16 bs) (blank 16)) e)
  where
    go : (t : Bool) → cond t (read_end k (suc n) (drop 16 bs)) (bad 3 n) ≡ bad i m → cond t (read_end k (suc n) (drop 16 cs)) (bad 3 n) ≡ bad i m
    go true f = let p = (end-place k (suc n) (drop 16 bs) i m f).1.from in absurd (omega arith)
    go false f = f
end-alike (suc j) (suc k) n bs cs i m at s e =
    rw (← s.0) (go (eq_bytes (take 16 bs) (blank 16)) e (end-alike j k (suc n) (drop 16 bs) (drop 16 cs) i m (omega arith) s.1))
  where
    go : (t : Bool) → cond t (read_end k (suc n) (drop 16 bs)) (bad 3 n) ≡ bad i m
        → (read_end k (suc n) (drop 16 bs) ≡ bad i m → read_end k (suc n) (drop 16 cs) ≡ bad i m) → cond t (read_end k (suc n) (drop 16 cs)) (bad 3 n) ≡ bad i m
    go true f ih = ih f
    go false f ih = f

rows_alike : (j k n : ℕ) (l : Ledger) (bs cs : List ℕ) (i m : ℕ) → m ≡ n + j → SameRows (suc j) bs cs → read_rows k n l bs ≡ bad i m
    → read_rows k n l cs ≡ bad i m
unfolding SameRows r rest
rows_alike j zero n l bs cs i m at s e = e
rows_alike j (suc k) n l bs cs i m at s e = go j at s (read k n l bs) e (λ j. rows_alike j k (suc n) (after l (r k n l bs)) (drop 16 bs) (drop 16 cs) i m)
  where
    go : (j : ℕ) → m ≡ n + j → SameRows (suc j) bs cs → {x : Log} → Read k n l bs x → x ≡ bad i m
        → ((j : ℕ) → m ≡ suc n + j → SameRows (suc j) (drop 16 bs) (drop 16 cs) → rest k n l bs ≡ bad i m
        → read_rows k (suc n) (after l (r k n l bs)) (drop 16 cs) ≡ bad i m) → read_rows (suc k) n l cs ≡ bad i m
    go j at s (ends top) f ih = rw (sym (same-top j bs cs s) ∙ top) (end-alike j (suc k) n bs cs i m at s f)
    go zero at s (goes top row) f ih =
        let p = (rows-place k (suc n) (after l (r k n l bs)) (drop 16 bs) i m (cons-bad (r k n l bs) (rest k n l bs) i m f)).from in absurd (omega arith)
    go (suc j) at s (goes top row) f ih =
        rw (ap (λ (x : ℕ). eqb x 0) (sym (same-top (suc j) bs cs s)) ∙ top, ← s.0, row)
        (ap (cons_log (r k n l bs)) (ih j (omega arith) s.1 (cons-bad (r k n l bs) (rest k n l bs) i m f)))
    go j at s (stops top row) f ih = rw (ap (λ (x : ℕ). eqb x 0) (sym (same-top j bs cs s)) ∙ top, ← s.0, row) f

-- ── The rows before a bad row are allowed, and why that one is not ────────────────────────────────────────────────────

-- of a log that is refused by i with row m, the j-th after n: allowed rows with the same bytes before it, and the reason
record Before (j k n : ℕ) (l : Ledger) (bs : List ℕ) (i m : ℕ) : Type 0 where
  rows : List Row
  good : all_allowed l rows ≡ true
  few : length rows ≤ j
  same : SameRows j (padded k n rows) bs
  listed : member i log_numbers ≡ true
  why : AreBytes bs → Reason (foldl after l rows) m (take 16 (drop (16 * j) bs)) i

-- no rows at all, where the bytes before are zero
end_same : (j k n : ℕ) (bs : List ℕ) (i m : ℕ) → m ≡ n + j → read_end k n bs ≡ bad i m → SameRows j (blank (16 * k)) bs
unfolding SameRows
end_same zero k n bs i m at e = _
end_same (suc j) zero n bs i m at e = good-bad [] i m e
end_same (suc j) (suc k) n bs i m at e =
    rw (blank-cons k) (go (eq_bytes (take 16 bs) (blank 16)) refl e (end_same j k (suc n) (drop 16 bs) i m (omega arith)))
  where
    go : (t : Bool) → eq_bytes (take 16 bs) (blank 16) ≡ t → cond t (read_end k (suc n) (drop 16 bs)) (bad 3 n) ≡ bad i m
        → (read_end k (suc n) (drop 16 bs) ≡ bad i m → SameRows j (blank (16 * k)) (drop 16 bs))
        → (blank 16 ≡ take 16 bs) × SameRows j (blank (16 * k)) (drop 16 bs)
    go true q f ih = (sym (eq_bytes-true (take 16 bs) (blank 16) q), ih f)
    go false q f ih = let p = (bad-row 3 n i m f).1 in absurd (omega arith)

-- the log has ended: this row is of kind 0, or a row before it is
end-wrong : (j n m : ℕ) (l : Ledger) (bs : List ℕ) → m ≡ n + j → suc l.rows ≡ n → get_or bs 0 0 ≡ 0 → WrongBytes l m (take 16 (drop (16 * j) bs))
end-wrong zero n m l bs at count top = at_end (get_or-take 16 bs 0 0 (omega arith) ∙ top)
end-wrong (suc j) n m l bs at count top = after_end (omega arith)

end_before : (j k n : ℕ) (l : Ledger) (bs : List ℕ) (i m : ℕ) → m ≡ n + j → suc l.rows ≡ n → get_or bs 0 0 ≡ 0 → read_end k n bs ≡ bad i m
    → Before j k n l bs i m
end_before j k n l bs i m at count top e =
    let three = (end-place k n bs i m e).0 in
    record {
      rows = [];
      good = refl;
      few = omega arith;
      same = rw (padded-nil k n) (end_same j k n bs i m at e);
      listed = rw three;
      why = λ byte. subst (Reason l m (take 16 (drop (16 * j) bs))) (sym three) (wrong_bytes (end-wrong j n m l bs at count top));
    }

rows_before_lem : (j k n : ℕ) (l : Ledger) (bs : List ℕ) (i m : ℕ) → m ≡ n + j → suc l.rows ≡ n → n + k ≤ 4097 → length bs ≡ 16 * k
    → read_rows k n l bs ≡ bad i m → Before j k n l bs i m
unfolding SameRows r rest after
rows_before_lem j zero n l bs i m at count room long e = good-bad [] i m e
rows_before_lem j (suc k) n l bs i m at count room long e =
    go j at (read k n l bs) e
    (λ j at. rows_before_lem j k (suc n) (after l (r k n l bs)) (drop 16 bs) i m at (ap suc (counted (r k n l bs)) ∙ ap suc count) (omega arith) (drop-row k bs long))
  where
    counted : (x : Row) → (after l x).rows ≡ suc l.rows
    counted x = refl

    go : (j : ℕ) → m ≡ n + j → {x : Log} → Read k n l bs x → x ≡ bad i m
        → ((j : ℕ) → m ≡ suc n + j → rest k n l bs ≡ bad i m → Before j k (suc n) (after l (r k n l bs)) (drop 16 bs) i m) → Before j (suc k) n l bs i m
    go j at (ends top) f ih = end_before j (suc k) n l bs i m at count top f
    go zero at (goes top row) f ih =
        let p = (rows-place k (suc n) (after l (r k n l bs)) (drop 16 bs) i m (cons-bad (r k n l bs) (rest k n l bs) i m f)).from in absurd (omega arith)
    go (suc j) at (goes top row) f ih =
        let b = ih j (omega arith) (cons-bad (r k n l bs) (rest k n l bs) i m f) in
        let is = judge-exact l n (take 16 bs) row in
        let x = r k n l bs in let more = padded k (suc n) b.rows in
        let fewer = b.few in
        record {
          rows = x ∷ b.rows;
          good = and_i _ _ is.1 b.good;
          few = omega arith;
          same = rw (padded-cons k n x b.rows) (
            take_at (row_bytes n x) more 16 (row-long n x) ∙ sym (row-exact n (take 16 bs) is.0),
            rw (drop_at (row_bytes n x) more 16 (row-long n x)) b.same,
          );
          listed = b.listed;
          why = λ byte. subst (λ (c : List ℕ). Reason (foldl after (after l x) b.rows) m (take 16 c) i) (later j) (b.why (λ a. rw (get_or-drop 16 bs a 0) (byte (16 + a))));
        }
      where
        later : (j : ℕ) → drop (16 * j) (drop 16 bs) ≡ drop (16 * suc j) bs
        later j = let at : 16 + 16 * j ≡ 16 * suc j = omega arith in drop-drop (16 * j) 16 bs ∙ ap (λ (a : ℕ). drop a bs) at
    go zero at (stops top row) f ih =
        let q = bad-row (judge l n (take 16 bs)) n i m f in
        record {
          rows = [];
          good = refl;
          few = omega arith;
          same = _;
          listed = subst (λ (a : ℕ). member a log_numbers ≡ true) q.0 (judge-listed l n (take 16 bs) row);
          why = λ byte. why-here m i q.1 q.0 byte;
        }
      where
        why-here : (m i : ℕ) → n ≡ m → judge l n (take 16 bs) ≡ i → AreBytes bs → Reason l m (take 16 bs) i
        why-here m i p q byte =
            subst (λ (a : ℕ). Reason l a (take 16 bs) i) p (subst (Reason l n (take 16 bs)) q
            (judge-reason l n (take 16 bs) (length-take-le 16 bs (omega arith)) (part_bytes bs byte 0 16) (omega arith) count row))
    go (suc j) at (stops top row) f ih = let p = (bad-row (judge l n (take 16 bs)) n i m f).1 in absurd (omega arith)

-- ── The rows before it are the only ones ──────────────────────────────────────────────────────────────────────────────

-- the bytes of at most m rows, after the first m
log-end : (m : ℕ) (rs : List Row) → length rs ≤ m → m ≤ 4096 → drop (16 * m) (log_bytes rs) ≡ blank (16 * (4096 - m))
log-end m rs h k =
    let long = rows_long 1 rs in
    let at : 16 * m ≡ length (rows_bytes 1 rs) + 16 * (m - length rs) = omega arith in
    rw (log-padded rs, at, drop-append-add (rows_bytes 1 rs) (blank (16 * (4096 - length rs))) (16 * (m - length rs)))
    (zeros (16 * (m - length rs)) (16 * (4096 - m)) (16 * (4096 - length rs)) (omega arith))
  where
    zeros : (a b c : ℕ) → c ≡ a + b → drop a (blank c) ≡ blank b
    zeros a b c e = rw (e, ← replicate-append-replicate {A = ℕ} a b 0) (drop_at (blank a) (blank b) a (length-replicate {A = ℕ} a 0))

only-rows : (m : ℕ) (rs us : List Row) → m ≤ 4096 → allowed_log rs ≡ true → allowed_log us ≡ true → length rs ≤ m → length us ≤ m
    → first_rows m (log_bytes rs) ≡ first_rows m (log_bytes us) → rs ≡ us
only-rows m rs us h al bl few less e = let same = sym (log-good rs al (few-rows rs al)) ∙ ap read_log logs ∙ log-good us bl (few-rows us bl) in cc
  where
    logs : log_bytes rs ≡ log_bytes us
    logs =
        sym (take-append-drop (16 * m) (log_bytes rs)) ∙
        ap₂ (λ (x y : List ℕ). x ++ y) e (log-end m rs few h ∙ sym (log-end m us less h)) ∙
        take-append-drop (16 * m) (log_bytes us)

-- the bytes of fewer rows are the same too
fewer-rows : (n m : ℕ) (bs cs : List ℕ) → n ≤ m → first_rows m bs ≡ first_rows m cs → first_rows n bs ≡ first_rows n cs
fewer-rows n m bs cs h e = sym (take-take (16 * n) (16 * m) bs (omega arith)) ∙ ap (take (16 * n)) e ∙ take-take (16 * n) (16 * m) cs (omega arith)

-- ── The demand ────────────────────────────────────────────────────────────────────────────────────────────────────────

module _ (bs : List ℕ) (h : length bs ≡ 65536) where
  -- a log that is refused: the first bad row and, of bytes, the reason
  record Refused (i m : ℕ) : Type 0 where
    listed : member i log_numbers ≡ true
    first : FirstBad bs m
    why : AreBytes bs → Reason (ledger first.rows) m (bytes_of_row m bs) i

  refused : (i m : ℕ) → read_log bs ≡ bad i m → Refused i m
  unfolding read_log
  refused i m e = record {
    listed = b.listed;
    first = record {
      from = p.from;
      to = (let t = p.to in omega arith);
      rows = b.rows;
      before = b.good;
      few = (let f = b.few in let g = p.from in omega arith);
      agrees = rw (log-padded b.rows) (rows-first (m - 1) (padded 4096 1 b.rows) bs b.same);
      none = λ rs al s. not_good i m rs (
          sym (rows_alike (m - 1) 4096 1 empty bs (log_bytes rs) i m at (first_rows_lem (suc (m - 1)) bs (log_bytes rs) (sym (shift rs s))) e) ∙
          log-good rs al (few-rows rs al)
          );
    };
    why = b.why;
  }
    where
      p : Place 4096 1 m
      p = rows-place 4096 1 empty bs i m e

      at : m ≡ 1 + (m - 1)
      at = let f = p.from in omega arith

      b : Before (m - 1) 4096 1 empty bs i m
      b = rows_before_lem (m - 1) 4096 1 empty bs i m at refl (omega arith) h e

      shift : (rs : List Row) → first_rows m (log_bytes rs) ≡ first_rows m bs → first_rows (suc (m - 1)) (log_bytes rs) ≡ first_rows (suc (m - 1)) bs
      shift rs s = let f = p.from in let is : suc (m - 1) ≡ m = omega arith in rw is s

  -- there is one first bad row, and one list of rows before it
  one-first : {n m : ℕ} → FirstBad bs n → FirstBad bs m → n ≡ m
  one-first {n} {m} x y = go (ltb n m) refl (ltb m n) refl
    where
      -- a row before the first bad one is not bad
      not-before : {n m : ℕ} → FirstBad bs n → FirstBad bs m → n < m → ⊥
      not-before {n} {m} x y h = x.none y.rows y.before (fewer-rows n (m - 1) (log_bytes y.rows) bs (omega arith) y.agrees)

      go : (s : Bool) → ltb n m ≡ s → (t : Bool) → ltb m n ≡ t → n ≡ m
      go true p t q = absurd (not-before x y (ltb-true n m p))
      go false p true q = absurd (not-before y x (ltb-true m n q))
      go false p false q = let a = ltb-false n m p in let b = ltb-false m n q in omega arith

  one-rows : {n : ℕ} (x y : FirstBad bs n) → x.rows ≡ y.rows
  one-rows {n} x y =
      let a = x.from in let b = x.to in let c = x.few in let d = y.few in
      only-rows (n - 1) x.rows y.rows (omega arith) x.before y.before (omega arith) (omega arith) (x.agrees ∙ sym y.agrees)

  -- the first bad row and the reason settle the refusal
  settled : AreBytes bs → (k n : ℕ) → BadFor bs k n → read_log bs ≡ bad k n
  settled byte k n (x, why) = go (read_log bs) refl
    where
      go : (y : Log) → read_log bs ≡ y → y ≡ bad k n
      go (good rs) e = let is = log-exact bs rs h e in absurd (x.none rs is.0 (ap (first_rows n) (sym is.1)))
      go (bad i m) e =
          let at : m ≡ n = one-first (refused i m e).first x in
          let y = subst (Refused i) at (refused i m e) in
          let its = subst (λ (rs : List Row). Reason (ledger rs) n (bytes_of_row n bs) i) (one-rows y.first x) (y.why byte) in
          ap₂ bad (one-reason its why) at

pub demand-2-reading : Demand2Reading
unfolding Demand2Reading
demand-2-reading bs h = record {
  reads = λ rs. (log-exact bs rs h, λ p. ap read_log p.1 ∙ log-good rs p.0 (few-rows rs p.0));
  refuses = λ k n e. let y = refused bs h k n e in (y.listed, y.first);
  reason = λ byte k n. (λ e. let y = refused bs h k n e in (y.first, y.why byte), settled bs h byte k n);
}
