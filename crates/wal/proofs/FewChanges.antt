-- No more changes are open than there are rows, so a take-back that may take as many steps as there are rows takes them all.
use Prim.Native.Nat.{ℕ, suc, ◌+◌, ◌≤◌}
use native.Mathlib.Omega.{arith}
use mathlib.Core.Bool.{Bool, true}
use mathlib.Core.Path.{refl, ap}
use mathlib.Core.List.{List, [], ◌∷◌}
use lib.ListN.{length, length-map}
use Rattle.book.specs.Lists.{keep, foldl}
use Rattle.book.specs.Rows.{Row, begin, change, hand_over, undo, commit, abort, hand_over_all}
use Rattle.book.specs.Ledger.{Change, Ledger, empty, only, every, pass, after, ledger}
use Rattle.book.specs.Rules.{is_open_change, open_changes, open_held}
use Rattle.book.proofs.Lists.{length-keep, keep_all}

shorter : {A : Type 0} (p : A → Bool) (xs : List A) → length (keep p xs) ≤ length xs
shorter p xs = let k = length-keep p (λ x. true) xs (λ x m h. refl) in let e = ap length (keep_all (λ x. true) xs (λ x m. refl)) in omega arith

one_more_lem : (l : Ledger) (r : Row) → length (after l r).changes ≤ suc (length l.changes)
unfolding after
one_more_lem l (begin v) = omega arith
one_more_lem l (change v c a) = omega arith
one_more_lem l (hand_over g r c) = let k = length-map l.changes (pass g r (only c)) in omega arith
one_more_lem l (undo h c n a) = omega arith
one_more_lem l (commit v) = omega arith
one_more_lem l (abort v) = omega arith
one_more_lem l (hand_over_all g r) = let k = length-map l.changes (pass g r every) in omega arith

changes-few : (l : Ledger) (rs : List Row) → length (foldl after l rs).changes ≤ length l.changes + length rs
changes-few l [] = omega arith
changes-few l (r ∷ rs) = let k = one_more_lem l r in let n = changes-few (after l r) rs in omega arith

pub open-few : (who : ℕ → Bool) (rs : List Row) → length (open_held who (ledger rs)) ≤ length rs
open-few who rs =
    let a = shorter (λ (x : Change). who x.holder) (open_changes (ledger rs)) in
    let b = shorter (is_open_change (ledger rs)) (ledger rs).changes in
    let c = changes-few empty rs in omega arith
