-- What the rows above its mark make of any page (specs/PageAlone): a page that passed its check becomes the book's page (`redone-passed`), and a second
-- time changes nothing more (`redone-twice`).
use Prim.Native.Nat.{ℕ, zero, suc, ◌+◌, ◌*◌, ◌≤◌, ◌<◌}
use native.Mathlib.Omega.{arith}
use mathlib.Core.Path.{◌≡◌, refl, ap, ap₂, sym, ◌∙◌}
use mathlib.Core.Bool.{true}
use mathlib.Core.List.{List, [], ◌∷◌, ◌++◌}
use lib.ListN.{length, get_or, set, take, drop, length-drop, take-append-drop}
use lib.Seq.{sets, length-sets, length-take-le, drop-drop}
use lib.IntN.{ℤ, ◌+ℤ◌, +ℤ_idr}
use Rattle.book.specs.Lists.{tabulate, join}
use Rattle.book.specs.Numbers.{AreBytes, le, bits_of}
use Rattle.book.specs.Rows.{Row}
use Rattle.book.specs.Cells.{last_on}
use Rattle.book.specs.Pages.{Page, page_bytes, page_of, is_page, redone}
use Rattle.book.proofs.Numbers.{two_bytes}
use Rattle.book.proofs.Marks.{last-le, last_rest, last-drop, last-append, last-behind}
use Rattle.book.proofs.Pages.{page-long, page-same, page-of}
use Rattle.book.proofs.Flush.{mark-le}
use Rattle.book.proofs.AnyCharts.{page-read, passed}
use Rattle.recovery_model.specs.PageAlone.{redone_above, redone_bytes}

-- ── The bytes of a page ───────────────────────────────────────────────────────────────────────────────────────────────

le_bytes : (n x : ℕ) → AreBytes (le n x)
le_bytes zero x i = omega arith
le_bytes (suc n) x zero = omega arith
le_bytes (suc n) x (suc i) = le_bytes n _ i

append-bytes : (xs ys : List ℕ) → AreBytes xs → AreBytes ys → AreBytes (xs ++ ys)
append-bytes [] ys a b i = b i
append-bytes (x ∷ xs) ys a b zero = a 0
append-bytes (x ∷ xs) ys a b (suc i) = append-bytes xs ys (λ k. a (suc k)) b i

join-bytes : (n from : ℕ) (f : ℕ → List ℕ) → ((i : ℕ) → AreBytes (f i)) → AreBytes (join (tabulate n from f))
join-bytes zero from f h i = omega arith
join-bytes (suc n) from f h i = append-bytes (f from) (join (tabulate n (suc from) f)) (h from) (join-bytes n (suc from) f h) i

set-bytes : (bs : List ℕ) (i v : ℕ) → AreBytes bs → v < 256 → AreBytes (set bs i v)
set-bytes [] i v a h k = a k
set-bytes (b ∷ bs) zero v a h zero = h
set-bytes (b ∷ bs) zero v a h (suc k) = a (suc k)
set-bytes (b ∷ bs) (suc i) v a h zero = a 0
set-bytes (b ∷ bs) (suc i) v a h (suc k) = set-bytes bs i v (λ j. a (suc j)) h k

page-bytes : (g : Page) → AreBytes (page_bytes g)
unfolding page_bytes
page-bytes g =
    let cell : ℕ → List ℕ = λ j. le 4 (bits_of 32 (g.cell j)) in
    append-bytes (le 2 g.mark ++ le 2 0) (join (tabulate 7 0 cell))
    (append-bytes (le 2 g.mark) (le 2 0) (le_bytes 2 g.mark) (le_bytes 2 0)) (join-bytes 7 0 cell (λ j. le_bytes 4 (bits_of 32 (g.cell j))))

-- ── A page that passed its check ──────────────────────────────────────────────────────────────────────────────────────

-- the mark is the last row of the page among the first; so counted on from it
last-above : (p m : ℕ) (rs : List Row) → last_on p (take m rs) ≡ m → m + last_on p (drop m rs) ≡ last_on p rs
last-above p m rs e = go (last_on p (drop m rs)) refl
  where
    go : (l : ℕ) → last_on p (drop m rs) ≡ l → m + last_on p (drop m rs) ≡ last_on p rs
    go zero q =
        let a = last-append p (take m rs) (drop m rs) q in
        let b = ap (last_on p) (take-append-drop m rs) in omega arith
    go (suc l) q =
        let a = last-behind p (take m rs) (drop m rs) (omega arith) in
        let b = ap (last_on p) (take-append-drop m rs) in
        let n = length-take-le m rs (mark-le p m rs e) in omega arith

module _ (rs : List Row) (p : ℕ) (bs : List ℕ) where
  pub redone-passed : is_page rs p bs ≡ true → redone_bytes rs p bs ≡ page_bytes (redone rs p bs)
  unfolding redone_bytes redone page_bytes
  redone-passed good =
      let k = passed rs p bs good in
      let z = k.zeros in
      let two : get_or bs 2 0 ≡ 0 = omega arith in
      let three : get_or bs 3 0 ≡ 0 = omega arith in
      ap₂ (λ (x y : ℕ). sets (page_bytes (redone_above rs p bs)) 2 (x ∷ y ∷ [])) two three ∙
      page-same (redone_above rs p bs) (redone rs p bs) (record { mark = last-above p (page_of bs).mark rs k.marked; cells = λ j h. refl })

  -- ── Once more ───────────────────────────────────────────────────────────────────────────────────────────────────────

  -- no row above the mark is on the page: nothing changes
  redone-idle : length bs ≡ 32 → AreBytes bs → last_on p (drop (page_of bs).mark rs) ≡ 0 → redone_bytes rs p bs ≡ bs
  unfolding redone_bytes
  redone-idle long bytes e =
      ap (λ (b : List ℕ). sets b 2 (get_or bs 2 0 ∷ get_or bs 3 0 ∷ []))
      (page-same (redone_above rs p bs) (page_of bs) (record {
        mark = omega arith;
        cells = λ j h.
            let c = 7 * p + j in
            ap (λ (z : ℤ). (page_of bs).cell j +ℤ z) (rw e at (last_rest c p (drop (page_of bs).mark rs) (page-of p j h))) ∙ +ℤ_idr ((page_of bs).cell j);
      })) ∙
      sym (page-read bs long bytes)

  pub redone-long : length (redone_bytes rs p bs) ≡ 32
  unfolding redone_bytes
  redone-long = length-sets (page_bytes (redone_above rs p bs)) 2 (get_or bs 2 0 ∷ get_or bs 3 0 ∷ []) ∙ page-long (redone_above rs p bs)

  module _ (bytes : AreBytes bs) (few : length rs ≤ 4096) where
    redone-bytes : AreBytes (redone_bytes rs p bs)
    unfolding redone_bytes
    redone-bytes =
        let page = page_bytes (redone_above rs p bs) in
        set-bytes (set page 2 (get_or bs 2 0)) 3 (get_or bs 3 0) (set-bytes page 2 (get_or bs 2 0) (page-bytes (redone_above rs p bs)) (bytes 2)) (bytes 3)

    -- the mark that is left
    redone-mark : (page_of (redone_bytes rs p bs)).mark ≡ (redone_above rs p bs).mark
    unfolding redone_bytes page_of page_bytes
    redone-mark =
        let a = bytes 0 in let b = bytes 1 in
        let l = last-le p (drop (page_of bs).mark rs) in
        let d = length-drop (page_of bs).mark rs in
        two_bytes (redone_above rs p bs).mark (omega arith)

pub redone-twice : (rs : List Row) (p : ℕ) (bs : List ℕ) → AreBytes bs → length rs ≤ 4096 → redone_bytes rs p (redone_bytes rs p bs) ≡ redone_bytes rs p bs
redone-twice rs p bs bytes few =
    let m = (page_of bs).mark in
    redone-idle rs p (redone_bytes rs p bs) (redone-long rs p bs) (redone-bytes rs p bs bytes few)
    (ap (λ (k : ℕ). last_on p (drop k rs)) (redone-mark rs p bs bytes few) ∙ ap (last_on p) (sym (drop-drop (last_on p (drop m rs)) m rs)) ∙
    last-drop p (drop m rs))
