-- One turn of the loops over calls and over entries. Assumes nothing.
use mathlib.Core.Path.{◌≡◌, refl}
use mathlib.Core.Bool.{◌&&◌}
use mathlib.Core.List.{List}
use Prim.Native.Nat.{ℕ, suc, ◌+◌, ◌*◌, ◌-◌, ◌<◌}
use native.Mathlib.Omega.{arith}
use native.Mathlib.Numerals.{add-one}
use lib.ListN.{length}
use lib.Dec.{eqb, leb}
use Rattle.run_reader.specs.File.{is_call_at, are_calls, start_at, calls_at, body_end, are_bodies}

-- at call i of n
pub calls_step : (i n : ℕ) (bs : List ℕ) (at : ℕ) → i < n
    → are_calls (n - i) bs (at + 8 * i) ≡ (is_call_at bs (at + 8 * i) && are_calls (n - (i + 1)) bs (at + 8 * (i + 1)))
calls_step i n bs at h =
    let left : n - i ≡ suc (n - (i + 1)) = omega arith in
    let next : at + 8 * i + 8 ≡ at + 8 * (i + 1) = omega arith in
    rw (left, next) refl

-- at entry i of n, its body due at `at`
pub bodies_step : (i n at : ℕ) (bs : List ℕ) → i < n → are_bodies (n - i) i at bs ≡
    (eqb (start_at bs i) at && leb (body_end bs i at) (length bs) && are_calls (calls_at bs i) bs at && are_bodies (n - (i + 1)) (i + 1) (body_end bs i at) bs)
bodies_step i n at bs h = let left : n - i ≡ suc (n - (i + 1)) = omega arith in rw (left, add-one i)
