-- A turn of the loop that stores the tail's rows. Assumes nothing.
use mathlib.Core.Path.{◌≡◌, refl, sym}
use mathlib.Core.List.{List, ◌∷◌}
use Prim.Native.Nat.{ℕ, zero, suc, ◌+◌, ◌*◌, ◌-◌, ◌<◌}
use native.Mathlib.Omega.{arith}
use native.Mathlib.Nat.{sub_self}
use lib.ListN.{take, drop}
use lib.Seq.{drop-drop}
use Rattle.std.specs.Prelude.{Some, None}
use Rattle.journal.specs.Writes.{spend_of, put_row}
use Rattle.journal.specs.Force.{chunks, runs, Ran}
use Rattle.state.specs.declared.ram.Fuse.{Fuse}
use Rattle.state.specs.declared.ram.Fuse.TheVariants.{Unlimited, Left}

-- how a run ends at place k of the log, with no row left or with a write beyond the fuse
abbrev pub ends_well : Fuse → ℕ → List ℕ → Ran
ends_well f k log = record { run = record { fuse = Some f; stored = k }; log = log }

abbrev pub ends_cut : ℕ → List ℕ → Ran
ends_cut k log = record { run = record { fuse = None; stored = k }; log = log }

clash : {A : Type 0} (f : Fuse) → Some f ≡ None → A
clash f e = let z : ◌≡◌ {A = ℕ} 0 1 = cc in absurd (omega arith)

pub run-lands : (f g : Fuse) (k : ℕ) (log r : List ℕ) (rs : List (List ℕ)) → spend_of f ≡ Some g → runs f k log (r ∷ rs) ≡ runs g (suc k) (put_row log k r) rs
unfolding runs
run-lands Unlimited g k log r rs e = let q : Unlimited ≡ g = cc in rw (← q)
run-lands (Left zero) g k log r rs e = clash g (sym e)
run-lands (Left (suc n)) g k log r rs e = let q : Left n ≡ g = cc in rw (← q)

pub run-beyond : (f : Fuse) (k : ℕ) (log r : List ℕ) (rs : List (List ℕ)) → spend_of f ≡ None → runs f k log (r ∷ rs) ≡ ends_cut k log
unfolding runs
run-beyond Unlimited k log r rs e = clash Unlimited e
run-beyond (Left zero) k log r rs e = refl
run-beyond (Left (suc n)) k log r rs e = clash (Left n) e

first-row : (m j : ℕ) (t : List ℕ) → j < m → chunks (m - j) (drop (16 * j) t) ≡ take 16 (drop (16 * j) t) ∷ chunks (m - (j + 1)) (drop (16 * (j + 1)) t)
unfolding chunks
first-row m j t h =
    let e : m - j ≡ suc (m - (j + 1)) = omega arith in
    let d : 16 * (j + 1) ≡ 16 * j + 16 = omega arith in
    rw (e, d, ← (drop-drop 16 (16 * j) t))

-- the write of row j lands: what is left gives what the whole gives
pub turn : (f g : Fuse) (s j m : ℕ) (log t : List ℕ) → j < m → spend_of f ≡ Some g
    → runs f (s + j) log (chunks (m - j) (drop (16 * j) t))
    ≡ runs g (s + (j + 1)) (put_row log (s + j) (take 16 (drop (16 * j) t))) (chunks (m - (j + 1)) (drop (16 * (j + 1)) t))
turn f g s j m log t h e =
    let n : suc (s + j) ≡ s + (j + 1) = omega arith in
    rw (first-row m j t h, ← n) (run-lands f g (s + j) log (take 16 (drop (16 * j) t)) (chunks (m - (j + 1)) (drop (16 * (j + 1)) t)) e)

-- it does not
pub turn-cut : (f : Fuse) (s j m : ℕ) (log t : List ℕ) → j < m → spend_of f ≡ None
    → runs f (s + j) log (chunks (m - j) (drop (16 * j) t)) ≡ ends_cut (s + j) log
turn-cut f s j m log t h e =
    rw (first-row m j t h) (run-beyond f (s + j) log (take 16 (drop (16 * j) t)) (chunks (m - (j + 1)) (drop (16 * (j + 1)) t)) e)

-- no row is left
pub turns-end : (f : Fuse) (s m : ℕ) (log t : List ℕ) → runs f (s + m) log (chunks (m - m) t) ≡ ends_well f (s + m) log
unfolding runs chunks
turns-end f s m log t = rw (sub_self m)
