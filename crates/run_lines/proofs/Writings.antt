-- Text written after text. Assumes nothing.
use mathlib.Core.Path.{◌≡◌, ap, sym, ◌∙◌}
use mathlib.Core.List.{List, [], ◌∷◌, ◌++◌}
use Prim.Native.Nat.{ℕ, suc, ◌+◌, ◌≤◌}
use native.Mathlib.Omega.{arith}
use lib.ListN.{length, set, length-append}
use lib.Seq.{sets, sets-eq, length-sets}
use Rattle.run_lines.specs.declared.line.Output.{Output}
use Rattle.run_lines.specs.Output.{Written, Puts}

-- bytes stored in two steps, the second after the first
sets-append : (xs ys out : List ℕ) (at : ℕ) → sets (sets out at xs) (at + length xs) ys ≡ sets out at (xs ++ ys)
sets-append [] ys out at = ap (λ (i : ℕ). sets out i ys) (none at)
  where
    none : (i : ℕ) → i + 0 ≡ i
    none i = omega arith
sets-append (x ∷ xs) ys out at =
    ap (λ (i : ℕ). sets (sets out at (x ∷ xs)) i ys) (more at (length xs)) ∙ sets-append xs ys (set out at x) (suc at)
  where
    more : (i n : ℕ) → i + suc n ≡ suc i + n
    more i n = omega arith

-- text after text
pub written_after : (out : List ℕ) (at : ℕ) (xs ys : List ℕ) {mid end : ℕ} {before after : List ℕ} → at + (length xs + length ys) ≤ length out
    → Written out at xs mid before → Written before mid ys end after → Written out at (xs ++ ys) end after
written_after out at xs ys {mid} {end} {before} room v w =
    let both = length-append xs ys in
    let stored : before ≡ sets out at xs = v.is ∙ sym (sets-eq xs out at (omega arith)) in
    let long : length before ≡ length out = ap length stored ∙ length-sets out at xs in
    record {
      place = omega arith;
      is =
          w.is ∙ sym (sets-eq ys before mid (omega arith)) ∙ rw (stored, v.place) (sets-append xs ys out at) ∙
          sets-eq (xs ++ ys) out at (omega arith);
    }

-- the same of an output
pub puts_after : {o p q : Output} {xs ys : List ℕ} → Puts o xs p → Puts p ys q → Puts o (xs ++ ys) q
puts_after {o} {p} {q} {xs} {ys} v w =
    let a = v.written.place in
    let b = w.written.place in
    let k = v.kept in
    let l = w.kept in
    let h = w.within in
    record {
      written = written_after o.bytes.now o.at xs ys (omega arith) v.written w.written;
      within = h;
      same = w.same ∙ v.same;
      kept = l ∙ k;
    }
