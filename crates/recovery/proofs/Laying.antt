-- Pages of 32 bytes written one after another over a buffer: the first p of them stand, the rest is as it was. Assumes nothing.
use Rattle.std.proofs.Common.{◌≡◌, ℕ, zero, suc, ◌+◌, ◌*◌, ◌≤◌, List, ◌++◌, length, take, drop, sym, refl, ap, ◌∙◌, append_assoc, append-nil, add-zero, add-one, arith, length-append, length-drop, drop_of_length-le, drop-drop, take_at, drop_at}
use Rattle.book.specs.Lists.{tabulate, join}

-- one page more
more : (n from : ℕ) (f : ℕ → List ℕ) → join (tabulate (suc n) from f) ≡ join (tabulate n from f) ++ f (from + n)
more zero from f = rw (append-nil, add-zero)
more (suc n) from f =
    let e : from + suc n ≡ suc from + n = omega arith in rw (more n (suc from) f, e) (sym (append_assoc (f from) _ _))

next : (n : ℕ) (f : ℕ → List ℕ) → join (tabulate (suc n) 0 f) ≡ join (tabulate n 0 f) ++ f n
next n f = let e : 0 + n ≡ n = omega arith in more n 0 f ∙ rw e

pub record Laid (f : ℕ → List ℕ) (p : ℕ) (old now : List ℕ) : Type 0 where
  pub is : now ≡ join (tabulate p 0 f) ++ drop (32 * p) old
  pub long : length (join (tabulate p 0 f)) ≡ 32 * p

pub laid_none : (f : ℕ → List ℕ) (old : List ℕ) → Laid f 0 old old
laid_none f old = record { is = refl; long = refl }

module _ (f : ℕ → List ℕ) (p : ℕ) (old now : List ℕ) (l : Laid f p old now) where
  before : take (32 * p) now ≡ join (tabulate p 0 f)
  before = rw l.is (take_at (join (tabulate p 0 f)) _ (32 * p) l.long)

  pub behind : drop (32 * p) now ≡ drop (32 * p) old
  behind = rw l.is (drop_at (join (tabulate p 0 f)) _ (32 * p) l.long)

  pub laid-length : 32 * p ≤ length old → length now ≡ length old
  laid-length h =
      let a = ap length l.is in
      let b = length-append (join (tabulate p 0 f)) (drop (32 * p) old) in
      let d = length-drop (32 * p) old in
      let e = l.long in
      omega arith

  pub laid_next : (page : List ℕ) → page ≡ f p → length page ≡ 32
      → Laid f (p + 1) old (take (32 * p) now ++ (page ++ drop 32 (drop (32 * p) now)))
  laid_next page e long = record {
    is =
        let m : 32 * p + 32 ≡ 32 * suc p = omega arith in
        rw (before, behind, e, drop-drop 32 (32 * p) old, m, add-one p, next p f) (sym (append_assoc (join (tabulate p 0 f)) (f p) _));
    long =
        let k = length-append (join (tabulate p 0 f)) (f p) in
        let n = l.long in
        let g = ap length e in
        rw (add-one p, next p f) (omega arith);
  }

pub laid-all : (f : ℕ → List ℕ) (n : ℕ) (old now : List ℕ) → Laid f n old now → length old ≡ 32 * n → now ≡ join (tabulate n 0 f)
laid-all f n old now l h = l.is ∙ rw (drop_of_length-le old {i = 32 * n} (omega arith), append-nil)
