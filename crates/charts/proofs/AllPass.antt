-- What `all` answers over a page's places is whether none of them fails. Assumes nothing.
use Rattle.std.proofs.Common.{◌≡◌, ℕ, ◌<◌, Bool, true, false, eqb, MatchBool, sym, ap, ◌∙◌, arith, slice_index_or, eq-eqb, eqb-true}
use Rattle.std.specs.List.{range_with_len, AllWithin, HoldsAt}
use Rattle.std.proofs.lemmas.List.FromFn.{get_or-range_with_len}
use Rattle.book.specs.Lists.{first_failing}
use Rattle.book.proofs.Blocks.{first-none, first-all}
use Rattle.book.proofs.Lists.{is_false, clash}

at : (k : ℕ) → k < 7 → slice_index_or (range_with_len 0 7) k 0 ≡ k
at k h = get_or-range_with_len 0 7 k 0 h ∙ omega arith

pub all-pass : (r : Bool) (test : ℕ → Bool)
    → MatchBool r (AllWithin (λ j. test j ≡ true) (range_with_len 0 7) 0 7) ((k : ℕ) × (k < 7) × HoldsAt (λ j. test j ≡ false) (range_with_len 0 7) k)
    → r ≡ eqb (first_failing 7 0 test) 7
all-pass true test h = sym (eq-eqb _ 7 (first-none 7 0 test (λ k l u. ap test (sym (at k u)) ∙ h k 0 l u)))
all-pass false test (k, l, h) =
    sym (is_false _ (λ e. clash (test k) (first-all 7 0 test (eqb-true _ 7 e) k (omega arith) l) (ap test (sym (at k l)) ∙ h 0)))
