-- The state that a sound book comes to has its counters within 01's limits, so calls work on it exactly where the book is open.
use Prim.Native.Nat.{◌+◌, ◌≤◌}
use native.Mathlib.Omega.{arith}
use mathlib.Core.Path.{◌≡◌, refl, ap₂, ◌∙◌}
use mathlib.Core.Bool.{Bool, true, false, cond, ◌&&◌}
use lib.ListN.{length, length-append}
use borrow.Author.Tests.{le-leb}
use Rattle.book.specs.Limits.{row_limit, tail_limit, active_limit, scope_limit}
use Rattle.book.specs.Power.{Book, rows_of}
use Rattle.book.specs.Logs.{Sound}
use Rattle.book.proofs.Lists.{and_i}
use Rattle.book.proofs.InvariantKept.{few-rows}
use Rattle.tables_model.proofs.WithinLimits.{in-range}
use Rattle.state.specs.World.{in_limits, works, closed_state, open_state, state_of}
use Rattle.state.proofs.SameBook.{phase-open}

pub sound-rows : (b : Book) → Sound b → length b.stored + length b.waiting ≤ row_limit
sound-rows b s = let k = few-rows (rows_of b) s.allowed in let m = length-append b.stored b.waiting in omega arith

pub state-in-limits : (b : Book) → Sound b → in_limits (state_of b) ≡ true
unfolding state_of
state-in-limits b s = go b.is_open
  where
    go : (t : Bool) → in_limits (cond t (open_state b) closed_state) ≡ true
    go true =
        let t = in-range (rows_of b) s.allowed in
        and_i _ _ (and_i _ _ (and_i _ _ (le-leb _ tail_limit s.tail) (le-leb _ row_limit (sound-rows b s))) (le-leb _ active_limit t.count))
        (le-leb _ scope_limit t.used)
    go false = refl

pub works-open : (b : Book) → Sound b → works (state_of b) ≡ b.is_open
works-open b s = ap₂ ◌&&◌ (phase-open b) (state-in-limits b s) ∙ go b.is_open
  where
    go : (t : Bool) → (t && true) ≡ t
    go true = refl
    go false = refl
