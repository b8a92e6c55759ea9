-- The contract of the calls can be met on everything that stands for a book, and on buffers of wrong lengths: what the book makes of a call meets it. So
-- no list of steps that the host may take ends for want of an answer.
use Prim.Native.Nat.{ℕ, zero, suc, ◌-◌}
use native.Mathlib.Omega.{arith}
use mathlib.Core.Path.{◌≡◌, refl, ap, ap₂, sym, ◌∙◌, subst}
use mathlib.Core.Bool.{Bool, true, false, cond, not}
use mathlib.Core.Logic.{◌≢◌}
use mathlib.Core.List.{List}
use lib.IntN.{ℤ, pos}
use lib.ListN.{length}
use Rattle.book.specs.Lists.{member}
use Rattle.book.specs.Rows.{Row}
use Rattle.book.specs.Calls.{Call, ending, Typed}
use Rattle.book.specs.Power.{Book, Fuse}
use Rattle.book.specs.Book.{refusal, through, value, accepted, decide, answer, Outcome, refused, ended, call}
use Rattle.book.specs.Writes.{rows_between}
use Rattle.book.specs.LogBytes.{log_bytes}
use Rattle.book.proofs.Lists.{clash}
use Rattle.book.proofs.Writes.{no-page, call-few}
use Rattle.book.proofs.Sound.{Decided, refuses, accepts, decided}
use Rattle.state.specs.World.{World, right_lengths, works, state_of, table_of, copy_of, world_of, cleared, Represents}
use Rattle.state.specs.CallContracts.{Answered, answered, failed_after, outcome_in, by_book, numbers, CallPost}
use Rattle.state.proofs.Lengths.{represented-lengths}
use Rattle.state.proofs.Agree.{charts-refused, refused-in, closed-call, agree}
use Rattle.state.proofs.OwnNumbers.{Own, own-listed, refusal-own}
use Rattle.state.proofs.Decisions.{refused-other}
use Rattle.state.proofs.Works.{works-open}

-- ── The number is one of the call's ───────────────────────────────────────────────────────────────────────────────────

call-listed : (cells : ℕ → ℤ) (b : Book) (k : Call) → member (call cells b true k).answer.number (numbers k) ≡ true
unfolding call accepted
call-listed cells b k = go b.is_open
  where
    ends : (t : Bool)
        → member (cond t (record { answer = answer 0 (value cells b k); book = through b k }) (refused 5 (through b k))).answer.number (numbers k) ≡ true
    ends true = refl
    ends false = refl

    each : (n : ℕ) → Own k n → member (decide cells b k n).answer.number (numbers k) ≡ true
    each zero o = ends (through b k).is_open
    each (suc n) o = own-listed k (suc n) o

    go : (t : Bool) → member (decide cells b k (cond (not t) 5 (refusal b k))).answer.number (numbers k) ≡ true
    go true = each (refusal b k) (refusal-own b k)
    go false = refl

-- ── What a call comes to ──────────────────────────────────────────────────────────────────────────────────────────────

data Comes (b : Book) (w : World) (r : Answered) : Type 0 where
  refused_by : (n : ℕ) → (b.is_open ≡ true → suc n ≢ 5) → r ≡ answered (suc n) (pos 0) w → Comes b w r
  done : r.answer.number ≡ 0 → r.writes.rows ≡ r.world.state.stored - w.state.stored → Comes b w r
  power_failed : r ≡ failed_after r.writes.rows (cleared r.world.log w.charts) → Comes b w r

comes : (cells : ℕ → ℤ) (b : Book) (k : Call) (w : World) → Represents cells b w → Comes b w (outcome_in cells b k w.charts (call cells b true k))
unfolding world_of state_of table_of copy_of
comes cells b k w r = go (decided cells b true k)
  where
    -- the state of an open book counts its stored rows
    counts : b.is_open ≡ true → (state_of b).stored ≡ length b.stored
    counts o = rw o

    ends : (v : ℤ) (s u : List Row) (f : Fuse) (t : Bool) → b.is_open ≡ true
        → Comes b w (outcome_in cells b k w.charts (ended v (record { stored = s; waiting = u; fuse = f; is_open = t })))
    ends v s u f true o =
        done refl (ap (λ (n : ℕ). length s - n) (sym (ap (λ (x : World). x.state.stored) r.is ∙ counts o)))
    ends v s u f false o = power_failed (ap₂ (λ (c : List ℕ) (p : ℕ). record { answer = answer 5 (pos 0); world = cleared (log_bytes s) c; writes = record { rows = rows_between b.stored s; pages = p } })
        (charts-refused cells b k 4 w.charts) (no-page (ending k) 4))

    go : Decided cells b true k (call cells b true k) → Comes b w (outcome_in cells b k w.charts (call cells b true k))
    go (refuses n e) =
        refused_by n (refused-other cells b k n e)
        (ap (outcome_in cells b k w.charts) e ∙ refused-in cells b k w n r.is)
    go (accepts l op q e) = subst (λ (x : Outcome). Comes b w (outcome_in cells b k w.charts x)) (sym e)
        (let x = through b k in ends (value cells b k) x.stored x.waiting x.fuse x.is_open op)

keeps : (b : Book) (w : World) (r : Answered) → Comes b w r → r.answer.number ≢ 0 → r.answer.number ≢ 5 → r ≡ answered r.answer.number (pos 0) w
keeps b w r (refused_by n o e) z f = e ∙ ap (λ (m : ℕ). answered m (pos 0) w) (sym (ap (λ (x : Answered). x.answer.number) e))
keeps b w r (done e g) z f = absurd (z e)
keeps b w r (power_failed e) z f = absurd (f (ap (λ (x : Answered). x.answer.number) e))

cut : (b : Book) (w : World) (r : Answered) → Comes b w r → b.is_open ≡ true → r.answer.number ≡ 5
    → r ≡ failed_after r.writes.rows (cleared r.world.log w.charts)
cut b w r (refused_by n other e) o h = absurd (other o (sym (ap (λ (x : Answered). x.answer.number) e) ∙ h))
cut b w r (done e g) o h = absurd (omega arith)
cut b w r (power_failed e) o h = e

rows : (b : Book) (w : World) (r : Answered) → Comes b w r → r.answer.number ≡ 0 → r.writes.rows ≡ r.world.state.stored - w.state.stored
rows b w r (refused_by n other e) h = let z = ap (λ (x : Answered). x.answer.number) e in absurd (omega arith)
rows b w r (done e g) h = g
rows b w r (power_failed e) h = let z = ap (λ (x : Answered). x.answer.number) e in absurd (omega arith)

-- ── The contract is met ───────────────────────────────────────────────────────────────────────────────────────────────

pub met : (cells : ℕ → ℤ) (b : Book) (k : Call) (given : World) → Represents cells b given → Typed k → CallPost k given (by_book cells b k given)
unfolding by_book world_of
met cells b k given r t = record {
  table = call-listed cells b k;
  lengths = λ wrong. clash (right_lengths given) (represented-lengths cells b given r) wrong;
  shut = λ len o. closed-call cells b k given (sym works-as ∙ o) r;
  keeps = keeps b given (by_book cells b k given) (comes cells b k given r);
  cut = λ o. cut b given (by_book cells b k given) (comes cells b k given r) (sym works-as ∙ o);
  rows = rows b given (by_book cells b k given) (comes cells b k given r);
  few = call-few cells b true k r.sound t;
  pages = refl;
  is = λ len cells' b' r'. agree cells cells' b b' k given r r';
}
  where
    works-as : works given.state ≡ b.is_open
    works-as = ap (λ (w : World). works w.state) r.is ∙ works-open b r.sound

-- lent a buffer of another length
pub met-lengths : (k : Call) (given : World) → right_lengths given ≡ false → CallPost k given (answered 1 (pos 0) given)
met-lengths k given wrong = record {
  table = refl;
  lengths = λ e. refl;
  shut = λ len. clash (right_lengths given) len wrong;
  keeps = λ z f. refl;
  cut = λ o h. absurd (omega arith);
  rows = λ h. absurd (omega arith);
  few = omega arith;
  pages = sym (no-page (ending k) 0);
  is = λ len. clash (right_lengths given) len wrong;
}
