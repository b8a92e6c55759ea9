-- A list goes over into another one, place by place: what a turn does, and what the last one leaves. Assumes nothing.
use Prim.Native.Nat.{ℕ, ◌+◌, ◌≤◌, ◌<◌}
use mathlib.Core.Path.{◌≡◌}
use mathlib.Core.List.{List, map, map-append}
use native.Mathlib.Numerals.{add-one}
use lib.ListN.{length, take, set, get_or}
use lib.Seq.{take_all, take-suc, take-suc-set}

module _ {A B : Type 0} (f : A → B) (xs : List A) (ys : List B) (i : ℕ) (crossed : take i ys ≡ map f (take i xs)) where
  -- place i goes over
  pub crossed-next : (d : A) → i < length xs → i < length ys → take (i + 1) (set ys i (f (get_or xs i d))) ≡ map f (take (i + 1) xs)
  crossed-next d h k = rw (add-one, take-suc-set ys i (f (get_or xs i d)) k, take-suc xs i d h, map-append, crossed)

  -- every place has gone over
  pub crossed-all : length xs ≤ i → length ys ≤ i → ys ≡ map f xs
  crossed-all h k = rw (take_all i ys k, take_all i xs h) at crossed
