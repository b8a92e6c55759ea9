-- An accepted format leaves what stands for the formatted book (document 01, format), from cells within ±1,000,000.
use Prim.Native.Nat.{ℕ, ◌≤◌}
use native.Mathlib.Omega.{arith}
use mathlib.Core.Path.{◌≡◌, refl, ap, sym, ◌∙◌, subst}
use mathlib.Core.Bool.{Bool, true, false, cond, not, ◌&&◌}
use mathlib.Core.List.{List, []}
use lib.ListN.{length, get_or-eq_default}
use lib.IntN.{ℤ, pos, nat_abs}
use lib.Dec.{eqb, ltb}
use borrow.Author.Tests.{eqb-true, ltb-true, ltb-false}
use Rattle.book.specs.Limits.{cell_limit, format_bound}
use Rattle.book.specs.Power.{formatted}
use Rattle.book.specs.Numbers.{within}
use Rattle.book.specs.LogBytes.{log_bytes}
use Rattle.book.specs.Pages.{chart_bytes, page_after}
use Rattle.book.proofs.Lists.{and_r}
use Rattle.book.proofs.Blocks.{first-all, first-within}
use Rattle.book.proofs.Pages.{Bounded, within-abs}
use Rattle.state.specs.World.{World, right_lengths, state_of, table_of, copy_of, cleared, world_of, Charts}
use Rattle.state.specs.CallContracts.{Answered, answered, bad_cell, cells_of, formats, FormatPost}

-- the charts of a new store
abbrev pub new_charts : (ℕ → ℤ) → List ℕ
new_charts cells = chart_bytes (page_after cells [])

pub new-charts : (cells : ℕ → ℤ) → Charts cells [] (new_charts cells)
new-charts cells = record { marks = λ p. 0; part = λ p. omega arith; own = λ p. refl; are = refl }

-- what an accepted format checked and left
pub record Formatted (values : List ℤ) (w : World) : Type 0 where
  pub small : Bounded 1000000 (cells_of values)
  pub is : w ≡ world_of (cells_of values) formatted (new_charts (cells_of values))

-- the values passed: there are 224, and none is beyond the bound
small-cells : (values : List ℤ) → length values ≡ cell_limit → cell_limit ≤ bad_cell values → Bounded 1000000 (cells_of values)
small-cells values long good c = go (ltb c cell_limit) refl
  where
    go : (t : Bool) → ltb c cell_limit ≡ t → nat_abs (cells_of values c) ≤ 1000000
    go true e =
        let k = ltb-true c cell_limit e in
        let m = first-within cell_limit 0 (λ i. within format_bound (cells_of values i)) in
        within-abs format_bound (cells_of values c)
        (first-all cell_limit 0 (λ i. within format_bound (cells_of values i)) (omega arith) c (omega arith) (omega arith))
    go false e = let k = ltb-false c cell_limit e in rw (get_or-eq_default values (pos 0) {n = c} (omega arith)) (omega arith)

-- the result by the two tests: the lengths are right, and some cell is out of range
abbrev by_tests : List ℤ → World → Bool → Bool → Answered
by_tests values given s t =
    cond (not s) (answered 1 (pos 0) given) (cond t (answered 2 (pos (bad_cell values)) given) (answered 0 (pos 0) (cleared (log_bytes []) (new_charts (cells_of values)))))

formats-done : (values : List ℤ) (given : World) → (formats values given).answer.number ≡ 0 → Formatted values (formats values given).world
unfolding formats world_of state_of table_of copy_of
formats-done values given = go (right_lengths given && eqb (length values) cell_limit) refl (ltb (bad_cell values) cell_limit) refl
  where
    go : (s : Bool) → (right_lengths given && eqb (length values) cell_limit) ≡ s → (t : Bool) → ltb (bad_cell values) cell_limit ≡ t
        → (by_tests values given s t).answer.number ≡ 0 → Formatted values (by_tests values given s t).world
    go false e t f h = absurd (omega arith)
    go true e true f h = absurd (omega arith)
    go true e false f h = record {
      small = small-cells values (eqb-true (length values) cell_limit (and_r (right_lengths given) _ e)) (ltb-false (bad_cell values) cell_limit f);
      is = refl;
    }

pub formatted-store : (values : List ℤ) (given : World) (x : Answered) → FormatPost values given x → x.answer.number ≡ 0 → Formatted values x.world
formatted-store values given x post done =
    subst (Formatted values) (sym (ap (λ (r : Answered). r.world) post.is))
    (formats-done values given (ap (λ (r : Answered). r.answer.number) (sym post.is) ∙ done))
