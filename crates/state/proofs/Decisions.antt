-- What the book makes of a call, with the refusals by 5 told apart: of a closed book, and of a power failure.
use Prim.Native.Nat.{ℕ, zero, suc}
use native.Mathlib.Omega.{arith}
use mathlib.Core.Path.{◌≡◌, refl, ap, sym, ◌∙◌}
use mathlib.Core.Bool.{Bool, true, false, cond, not}
use mathlib.Core.Logic.{◌≢◌}
use lib.IntN.{ℤ, pos}
use Rattle.book.specs.Calls.{Call}
use Rattle.book.specs.Power.{Book}
use Rattle.book.proofs.Lists.{clash}
use Rattle.book.specs.Book.{answer, refusal, through, value, Outcome, refused, ended, accepted, decide, call}
use Rattle.state.specs.World.{World, Represents}
use Rattle.state.specs.CallContracts.{answered, outcome_in, by_book}
use Rattle.state.proofs.Agree.{refused-in}
use Rattle.state.proofs.OwnNumbers.{own-not-five, refusal-own}

-- done with the book open after it, or cut with the book closed
pub data Ends (o : Outcome) : Type 0 where
  done : o.answer.number ≡ 0 → o.book.is_open ≡ true → Ends o
  cut : o.answer.number ≡ 5 → o.book.is_open ≡ false → Ends o

pub ends : (v : ℤ) (b : Book) → Ends (ended v b)
ends v b = go b.is_open refl
  where
    go : (t : Bool) → b.is_open ≡ t → Ends (cond t (record { answer = answer 0 v; book = b }) (refused 5 b))
    go true e = done refl e
    go false e = cut refl e

-- it answers 0 with the book open, 5 with the book closed, and no other number
pub ends-only : (o : Outcome) → Ends o → o.answer.number ≢ 0 → o.answer.number ≢ 5 → ⊥
ends-only o (done e p) z f = z e
ends-only o (cut e p) z f = f e

pub ends_open : (o : Outcome) → Ends o → o.answer.number ≡ 0 → o.book.is_open ≡ true
ends_open o (done e p) z = p
ends_open o (cut e p) z = absurd (omega arith)

pub ends-closed : (o : Outcome) → Ends o → o.answer.number ≢ 0 → o.book.is_open ≡ false
ends-closed o (done e p) z = absurd (z e)
ends-closed o (cut e p) z = p

-- what the book makes of a call
pub data Decides (b : Book) (o : Outcome) : Type 0 where
  shut : b.is_open ≡ false → o ≡ refused 5 b → Decides b o
  refuses : (n : ℕ) → b.is_open ≡ true → suc n ≢ 5 → o ≡ refused (suc n) b → Decides b o
  accepts : b.is_open ≡ true → Ends o → Decides b o

pub decides : (cells : ℕ → ℤ) (b : Book) (k : Call) → Decides b (call cells b true k)
unfolding call accepted
decides cells b k = go b.is_open refl (refusal b k) (own-not-five k (refusal b k) (refusal-own b k))
  where
    go : (t : Bool) → b.is_open ≡ t → (n : ℕ) → n ≢ 5 → Decides b (decide cells b k (cond (not t) 5 n))
    go false o n h = shut o refl
    go true o zero h = accepts o (ends (value cells b k) (through b k))
    go true o (suc n) h = refuses n o h refl

-- an open book refuses by other numbers than 5
pub refused-other : (cells : ℕ → ℤ) (b : Book) (k : Call) (n : ℕ) → call cells b true k ≡ refused (suc n) b → b.is_open ≡ true → suc n ≢ 5
refused-other cells b k n e running = go (decides cells b k)
  where
    go : Decides b (call cells b true k) → suc n ≢ 5
    go (shut o q) = clash _ running o
    go (refuses m o other q) = λ z. other (ap (λ (x : Outcome). x.answer.number) (sym q ∙ e) ∙ z)
    go (accepts o (done z p)) = let m = ap (λ (x : Outcome). x.answer.number) e in λ q. absurd (omega arith)
    go (accepts o (cut z p)) = clash _ (ap (λ (x : Outcome). x.book.is_open) e ∙ running) p

-- a call that the book refuses leaves the values as they were
pub refused-keeps : (cells : ℕ → ℤ) (b : Book) (k : Call) (w : World) (n : ℕ) → Represents cells b w → call cells b true k ≡ refused (suc n) b
    → by_book cells b k w ≡ answered (suc n) (pos 0) w
unfolding by_book
refused-keeps cells b k w n r e =
    ap (outcome_in cells b k w.charts) e ∙ refused-in cells b k w n r.is
