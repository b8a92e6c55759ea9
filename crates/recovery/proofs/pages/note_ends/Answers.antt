-- `recovery::pages::note_ends` meets its contract. The loop's invariant: of the pages that the first `k` rows name the last such row is noted. Assumes nothing.
use Rattle.std.proofs.Common.{◌≡◌, ℕ, zero, suc, ◌+◌, ◌*◌, ◌/◌, ◌<◌, ◌≤◌, Bool, true, false, eqb, List, length, get_or, set, replicate, sym, refl, ap, ◌∙◌, not-suc-le-zero, arith, length-set, get_or-drop, get_or-set_other, get_or-take, get_or-set_same, below_more, eqb-true}
use borrow.Author.Tests.{eqb-false}
use Rattle.wal.specs.Looking.{row_bytes_at}
use Rattle.recovery_model.specs.Charts.{named_pages, page_named}
use Rattle.recovery.proofs.pages.note_ends.Goals as goal

-- every number of the list stays within bounds that the number set is within
between : (l : List ℕ) (p q n low high : ℕ) → p < length l → low ≤ n → n ≤ high → low ≤ get_or l q 0 → get_or l q 0 ≤ high
    → (low ≤ get_or (set l p n) q 0) × (get_or (set l p n) q 0 ≤ high)
between l p q n low high w a b x y = go (eqb q p) refl
  where
    go : (t : Bool) → eqb q p ≡ t → (low ≤ get_or (set l p n) q 0) × (get_or (set l p n) q 0 ≤ high)
    go true e = rw (eqb-true q p e, get_or-set_same l p n 0 w) (a, b)
    go false e = rw (get_or-set_other l p q n 0 (eqb-false q p e)) (x, y)

zeros : (n i : ℕ) → ◌≡◌ {A = ℕ} (get_or (replicate n 0) i 0) 0
zeros zero i = refl
zeros (suc n) zero = refl
zeros (suc n) (suc i) = zeros n i

pub loop-k-init : goal.loop-k-init
loop-k-init c =
    let e = c.requires.ends_value in
    (ap length e, record { among = λ k h. absurd (not-suc-le-zero h); within = λ p. rw (e, zeros named_pages p) (omega arith) })

pub loop-k-preserved : goal.loop-k-preserved
loop-k-preserved c =
    let below : c.from-p.result / 7 < length c.loop-k.ends = let l = c.loop-k in
    let byte = c.type_inv.log (16 * l.k + 3) in
    let e = c.from-p.ensures in
    let long = l.invariant.0 in
    omega arith in
    let l = c.loop-k in
    let a = c.args in
    let p = c.from-p.result / 7 in
    let n = l.k + 1 in
    let page = page_named a.log.now in
    let cell : get_or (row_bytes_at a.log.now l.k) 3 0 ≡ c.from-p.result =
    rw (get_or-take {A = ℕ} 16 _ 3 0 (omega arith), get_or-drop) (sym c.from-p.ensures) in
    let here : l.k < get_or (set l.ends p n) (page l.k) 0 = rw (cell, get_or-set_same l.ends p n 0 below) (omega arith) in (
      length-set l.ends p n ∙ l.invariant.0,
      record {
        among = below_more (λ j. j < get_or (set l.ends p n) (page j) 0) l.k
            (λ j h. let w = l.invariant.1.within (page j) in let x = l.invariant.1.among j h in
            (between l.ends p (page j) n (suc j) n below (omega arith) (omega arith) x (omega arith)).0) here;
        within = λ q. let w = l.invariant.1.within q in (between l.ends p q n 0 n below (omega arith) (omega arith) (omega arith) (omega arith)).1;
      },
    )
