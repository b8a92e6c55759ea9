-- An array that is made of a list, place by place, each by a call that changes nothing. Assumes nothing.
use Prim.Native.Nat.{ℕ, zero, suc, ◌+◌, ◌<◌, ◌≤◌}
use mathlib.Core.Path.{◌≡◌, refl, sym, subst, ◌∙◌}
use mathlib.Core.Bool.{Bool, true, false}
use mathlib.Core.List.{List, map}
use native.Mathlib.Omega.{arith}
use lib.ListN.{length, get_or}
use lib.Dec.{eqb}
use borrow.Author.Tests.{eqb-true, eqb-false}
use denote.Param.Members.{Mut}
use Rattle.std.specs.Fn.{Called}
use Rattle.std.specs.Array.{IsFromFnResultFrom, IsFromFnResult}
use Rattle.std.proofs.lemmas.List.{same_lists, get_or-map, length-map}

module _ {F A B : Type 0} (g : Mut F (ℕ × Unit {0}) B) (v : A → B) (xs : List A) (d : A) (f : F)
    (one : (i : ℕ) (y : B) (f' : F) → i < length xs → Called g f (i, tt) y f' → (y ≡ v (get_or xs i d)) × (f' ≡ f)) where
  -- place k of the n places from i on
  made-at : (n i : ℕ) (q : F) (ys : List B) → q ≡ f → i + n ≤ length xs → IsFromFnResultFrom g q ys i n
      → (k : ℕ) (e : B) → i ≤ k → k < i + n → get_or ys k e ≡ v (get_or xs k d)
  made-at zero i q ys same long t k e lo hi = absurd (omega (arith, lo, hi))
  made-at (suc n) i q ys same long t k e lo hi =
      go (eqb i k) refl (λ above. made-at n (i + 1) t.0 ys first.1 (omega (arith, long)) t.4 k e above (omega (arith, hi)))
    where
      first : (t.1 ≡ v (get_or xs i d)) × (t.0 ≡ f)
      first = one i t.1 t.0 (omega (arith, long)) (subst (λ (p : F). Called g p (i, tt) t.1 t.0) same t.3)

      go : (b : Bool) → eqb i k ≡ b → (i + 1 ≤ k → get_or ys k e ≡ v (get_or xs k d)) → get_or ys k e ≡ v (get_or xs k d)
      go true p rest = subst (λ (m : ℕ). get_or ys m e ≡ v (get_or xs m d)) (eqb-true i k p) (t.2.1 e ∙ first.0)
      go false p rest = rest (let apart = eqb-false i k p in omega (arith, lo, apart))

  pub made : (ys : List B) (n : ℕ) → IsFromFnResult g f ys n → length xs ≡ n → ys ≡ map v xs
  made ys n r long = same_lists ys (map v xs) (r.long ∙ sym long ∙ sym (length-map xs v))
      (λ k e h. made-at n 0 f ys refl (omega (arith, long)) r.each k e (omega arith) (omega (arith, h, r.long)) ∙ sym (get_or-map v xs k d e (omega (arith, h, r.long, long))))
