-- Loops over the first n places of a list, place by place, of any element type: one that looks, one that rewrites each place, and one that
-- closes ranks. Each law says what a turn does to what the loop's invariant speaks of. Assumes nothing.
use Rattle.std.proofs.Common.{◌≡◌, ℕ, zero, suc, ◌+◌, ◌<◌, ◌≤◌, Bool, true, false, List, [], ◌∷◌, ◌++◌, map, length, get_or, take, drop, set, refl, ap, ◌∙◌, append_assoc, append-nil, le_of_suc-le-suc, not-suc-le-zero, add-one, arith, drop_of_length-le, length-take, drop-cons, get_or-take, take-suc-set, drop-set-lt}
use lib.Seq.{take-set-lt}
use Rattle.book.specs.Lists.{keep}

module _ {A : Type 0} where
  -- ── Looking ─────────────────────────────────────────────────────────────────────────────────────────────────────────

  -- what is left at place i of the first n
  abbrev pub left : ℕ → ℕ → List A → List A
  left n i l = drop i (take n l)

  pub left-next : (n i : ℕ) (l : List A) (d : A) → i < n → n ≤ length l → left n i l ≡ get_or l i d ∷ left n (i + 1) l
  left-next n i l d h k =
      let w : i < length (take n l) = simp length-take (omega arith) in
      drop-cons (take n l) i d w ∙ rw (get_or-take, add-one)

  pub left_end : (n i : ℕ) (l : List A) → n ≤ i → left n i l ≡ []
  left_end n i l h = let w : length (take n l) ≤ i = simp length-take (omega arith) in drop_of_length-le (take n l) w

  -- what the turns and the end of a loop that looks go by
  pub ruleset looking = (left-next, left_end)

  -- ── Rewriting each place ────────────────────────────────────────────────────────────────────────────────────────────

  -- the first n places rewritten
  abbrev pub mapped : (A → A) → ℕ → List A → List A
  mapped g n l = map g (take n l) ++ drop n l

  mapped-turn : (g : A → A) (i : ℕ) (l : List A) (d : A) → i < length l → set (mapped g i l) i (g (get_or (mapped g i l) i d)) ≡ mapped g (suc i) l
  mapped-turn g i [] d h = absurd (not-suc-le-zero h)
  mapped-turn g zero (x ∷ l) d h = refl
  mapped-turn g (suc i) (x ∷ l) d h = ap (λ (r : List A). g x ∷ r) (mapped-turn g i l d (le_of_suc-le-suc h))

  pub mapped_next : (g : A → A) (i : ℕ) (l : List A) (d : A) → i < length l → set (mapped g i l) i (g (get_or (mapped g i l) i d)) ≡ mapped g (i + 1) l
  mapped_next g i l d h = rw add-one (mapped-turn g i l d h)

  -- ── Closing ranks ───────────────────────────────────────────────────────────────────────────────────────────────────

  -- the k places kept so far, then what is still to be kept at place i of the first n
  abbrev pub ranks : (A → Bool) → ℕ → ℕ → ℕ → List A → List A
  ranks p n k i l = take k l ++ keep p (left n i l)

  pub ranks-kept : (p : A → Bool) (n k i : ℕ) (l : List A) (d : A) → k ≤ i → i < n → n ≤ length l → p (get_or l i d) ≡ true
      → ranks p n (k + 1) (i + 1) (set l k (get_or l i d)) ≡ ranks p n k i l
  ranks-kept p n k i l d h w z e =
      let a : k < length l = omega arith in
      let b : k < n = omega arith in
      let c : k < suc i = omega arith in
      rw (left-next n i l d w z, e, add-one, add-one, take-suc-set, append_assoc, take-set-lt, drop-set-lt)

  pub ranks-left : (p : A → Bool) (n k i : ℕ) (l : List A) (d : A) → i < n → n ≤ length l → p (get_or l i d) ≡ false
      → ranks p n k (i + 1) l ≡ ranks p n k i l
  ranks-left p n k i l d w z e = rw (left-next n i l d w z, e)

  pub ranks-end : (p : A → Bool) (n k i : ℕ) (l : List A) → n ≤ i → ranks p n k i l ≡ take k l
  ranks-end p n k i l h = rw (left_end n i l h) (append-nil _)
