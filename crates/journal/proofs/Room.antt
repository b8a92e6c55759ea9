-- What making room leaves: a place in the tail, and no more rows than before. Assumes nothing.
use mathlib.Core.Path.{◌≡◌, refl, ap}
use mathlib.Core.Bool.{Bool, true, false, cond}
use mathlib.Core.List.{List, [], ◌∷◌}
use Prim.Native.Nat.{ℕ, zero, suc, ◌+◌, ◌≤◌, ◌<◌}
use native.Mathlib.Omega.{arith}
use lib.ListN.{length, drop, length-replicate}
use lib.Dec.{leb}
use borrow.Author.Tests.{leb-false}
use Rattle.std.specs.Prelude.{Option, Some, None}
use Rattle.book.specs.Limits.{tail_limit}
use Rattle.journal.specs.Writes.{put_row}
use Rattle.journal.specs.Force.{runs, chunks, control_by, control_after}
use Rattle.journal.specs.Journal.{Journal, journal, forced, with_room}
use Rattle.state.specs.declared.ram.Fuse.{Fuse}
use Rattle.state.specs.declared.ram.Fuse.TheVariants.{Unlimited, Left}
use Rattle.journal.specs.declared.Control.{Control}
use Rattle.journal.specs.declared.force.Run.{Run}

-- a run stores at most the rows that it is given
pub run-bound : (f : Fuse) (k : ℕ) (log : List ℕ) (rs : List (List ℕ)) → (runs f k log rs).run.stored ≤ k + length rs
unfolding runs
run-bound f k log [] = omega arith
run-bound Unlimited k log (r ∷ rs) = omega (arith, run-bound Unlimited (suc k) (put_row log k r) rs)
run-bound (Left zero) k log (r ∷ rs) = omega arith
run-bound (Left (suc n)) k log (r ∷ rs) = omega (arith, run-bound (Left n) (suc k) (put_row log k r) rs)

pub chunks-count : (m : ℕ) (b : List ℕ) → length (chunks m b) ≡ m
unfolding chunks
chunks-count zero b = refl
chunks-count (suc m) b = ap suc (chunks-count m (drop 16 b))

-- what a run leaves counted
after-stored : (c : Control) (w : ℕ) (run : Run) → (control_after c w run).stored ≡ run.stored
after-stored c w run = go run.fuse
  where
    go : (left : Option Fuse) → (control_by left c run.stored w).stored ≡ run.stored
    go (Some f) = refl
    go None = refl

after-waiting : (c : Control) (w : ℕ) (run : Run) → (control_after c w run).waiting ≤ w
after-waiting c w run = go run.fuse
  where
    go : (left : Option Fuse) → (control_by left c run.stored w).waiting ≤ w
    go (Some f) = omega arith
    go None = omega arith

-- the journal has a place in its tail, and no more rows than there were
pub record Roomy (j k : Journal) : Type 0 where
  pub tail-long : length k.tail ≡ length j.tail
  pub few : k.control.waiting < 64
  pub rows : k.control.stored + k.control.waiting ≤ j.control.stored + j.control.waiting

pub roomy : (j : Journal) → Roomy j (with_room j)
unfolding with_room forced
roomy j = go (leb tail_limit j.control.waiting) refl
  where
    go : (t : Bool) → leb tail_limit j.control.waiting ≡ t → Roomy j (cond t (forced j) j)
    go true e =
        let o = runs j.control.fuse j.control.stored j.log (chunks j.control.waiting j.tail) in
        let a = after-stored j.control 0 o.run in
        let w = after-waiting j.control 0 o.run in
        let b = run-bound j.control.fuse j.control.stored j.log (chunks j.control.waiting j.tail) in
        let n = chunks-count j.control.waiting j.tail in
        record { tail-long = length-replicate (length j.tail) 0; few = omega arith; rows = omega arith }
    go false e = record { tail-long = refl; few = leb-false 64 j.control.waiting e; rows = omega arith }

-- a step that does not look at the log, beside one
pub with-log : (log : List ℕ) (j k : Journal) → j ≡ k → journal j.control log j.tail ≡ journal k.control log k.tail
with-log log j k e = ap (λ (i : Journal). journal i.control log i.tail) e
