-- What a call promises whatever it was handed: the numbers of its table, refusals that change nothing, and what a power failure leaves.
use Prim.Native.Nat.{ℕ, zero, suc, ◌+◌, ◌-◌}
use native.Mathlib.Omega.{arith}
use mathlib.Core.Path.{◌≡◌, refl, ap, ap₂, sym, ◌∙◌, subst}
use mathlib.Core.Logic.{◌≢◌}
use mathlib.Core.Bool.{Bool, true, false, cond, not, ◌||◌}
use mathlib.Core.List.{List, map}
use lib.IntN.{ℤ, pos}
use lib.Dec.{eqb, leb, ltb}
use Rattle.tables_model.specs.Entries.{scope_in}
use Rattle.book.specs.Lists.{member}
use Rattle.book.specs.Limits.{visit_limit, active_limit, scope_limit, page_limit}
use Rattle.book.specs.Rows.{is_cell}
use Rattle.book.specs.Ledger.{only, every}
use Rattle.book.specs.Calls.{Call, ending}
use Rattle.book.specs.Writes.{Writes, pages_of}
use Rattle.book.proofs.Lists.{clash}
use Rattle.book.proofs.Writes.{no-page}
use Rattle.tables_model.specs.Visits.{is_listed}
use Rattle.tables_model.specs.Rows.{Index, room_by, grows_by, holds_by}
use Rattle.state.specs.declared.ram.Phase.{Phase}
use Rattle.state.specs.declared.ram.Phase.TheVariants.{Open, Closed}
use Rattle.state.specs.declared.ram.Fuse.{Fuse}
use Rattle.state.specs.declared.ram.Fuse.TheVariants.{Unlimited, Left}
use Rattle.state.specs.World.{World, right_lengths, is_open_phase, in_limits, works, cleared}
use Rattle.state.specs.CallContracts.{Answered, answered, answered_with, failed_after, numbers}
use Rattle.state.proofs.OwnNumbers.{Own, own, check, own-listed, own-not-five}
use Rattle.journal.specs.declared.Control.{Control}
use Rattle.journal.specs.Journal.{paged}
use Rattle.wal.specs.Writing.{is_running}
use Rattle.calls_model.specs.Refusals.{refusal_by}
use Rattle.calls_model.specs.Acts.{Core, acted}
use Rattle.calls_model.specs.Perform.{control_in, core_of, world_of_core, settled, writes_by, decided, is_coherent, number_of, performed}

-- ── The numbers ───────────────────────────────────────────────────────────────────────────────────────────────────────

-- the checks of a call by the tables
refusal-own : (x : Index) (rows : ℕ) (k : Call) → Own k (refusal_by x rows k)
unfolding refusal_by
refusal-own x rows Call.begin =
    check (leb visit_limit x.tables.begun) (own refl) (check (leb active_limit x.tables.count) (own refl)
    (check (not (room_by x rows 2)) (own refl) (own refl)))
refusal-own x rows (Call.change v c a) =
    check (not (is_listed x.tables v)) (own refl) (check (not (is_cell c)) (own refl)
    (check (not (grows_by x v c || ltb x.tables.used scope_limit)) (own refl) (check (not (room_by x rows 2)) (own refl) (own refl))))
refusal-own x rows (Call.hand_over g r c) =
    check (not (is_listed x.tables g)) (own refl) (check (not (is_listed x.tables r)) (own refl) (check (eqb g r) (own refl)
    (check (not (is_cell c)) (own refl) (check (not (holds_by x g (only c))) (own refl) (check (not (room_by x rows 1)) (own refl) (own refl))))))
refusal-own x rows (Call.commit v) = check (not (is_listed x.tables v)) (own refl) (own refl)
refusal-own x rows (Call.abort v) = check (not (is_listed x.tables v)) (own refl) (own refl)
refusal-own x rows Call.force = own refl
refusal-own x rows (Call.flush p) = check (not (ltb p page_limit)) (own refl) (own refl)
refusal-own x rows (Call.read c) = check (not (is_cell c)) (own refl) (own refl)
refusal-own x rows (Call.hand_over_all g r) =
    check (not (is_listed x.tables g)) (own refl) (check (not (is_listed x.tables r)) (own refl) (check (eqb g r) (own refl)
    (check (not (holds_by x g every)) (own refl) (check (not (room_by x rows 1)) (own refl) (own refl)))))

-- ── A power failure ───────────────────────────────────────────────────────────────────────────────────────────────────

-- a page that does not land leaves the charts
page-cut : (c : Control) (charts : List ℕ) (p : ℕ) (page : List ℕ) → is_open_phase (paged c charts p page).control.phase ≡ false
    → (paged c charts p page).charts ≡ charts
unfolding paged
page-cut c charts p page = go c.phase c.fuse c.stored c.waiting
  where
    go : (h : Phase) (f : Fuse) (m n : ℕ)
        → is_open_phase (paged (record { phase = h; fuse = f; stored = m; waiting = n }) charts p page).control.phase ≡ false
        → (paged (record { phase = h; fuse = f; stored = m; waiting = n }) charts p page).charts ≡ charts
    go Closed f m n e = refl
    go Open Unlimited m n e = clash true refl e
    go Open (Left zero) m n e = refl
    go Open (Left (suc k)) m n e = clash true refl e

-- so a call that closed the journal has written no page
charts-cut : (x : Core) (k : Call) → is_running (acted x k).ram.journal ≡ false → (acted x k).charts ≡ x.charts
unfolding acted
charts-cut x Call.begin e = refl
charts-cut x (Call.change v c a) e = refl
charts-cut x (Call.hand_over g r c) e = refl
charts-cut x (Call.commit v) e = refl
charts-cut x (Call.abort v) e = refl
charts-cut x Call.force e = refl
charts-cut x (Call.flush p) e = page-cut _ x.charts p _ e
charts-cut x (Call.read c) e = refl
charts-cut x (Call.hand_over_all g r) e = refl

-- what an accepted call gives back and leaves: done, or closed with the charts as they were
data Settled (charts : List ℕ) (r : Answered) : Type 0 where
  done : r.answer.number ≡ 0 → Settled charts r
  closed : r ≡ failed_after r.writes.rows (cleared r.world.log charts) → Settled charts r

settled-either : (x : Core) (k : Call) (v : ℤ) → let y = acted x k in Settled x.charts (settled y v (writes_by x y k))
unfolding settled writes_by
settled-either x k v = go (is_running (acted x k).ram.journal) refl
  where
    y : Core
    y = acted x k

    u : Bool → Writes
    u t = record { rows = y.ram.journal.control.stored - x.ram.journal.control.stored; pages = pages_of (ending k) (cond t 0 5) }

    go : (t : Bool) → is_running y.ram.journal ≡ t
        → Settled x.charts (cond t (answered_with 0 v (world_of_core y) (u t)) (answered_with 5 (pos 0) (cleared y.ram.journal.log y.charts) (u t)))
    go true e = done refl
    go false e = closed (ap₂ (λ (cs : List ℕ) (p : ℕ). answered_with 5 (pos 0) (cleared y.ram.journal.log cs) (record { rows = (u false).rows; pages = p }))
        (charts-cut x k e) (no-page (ending k) 4))

-- ── What a call promises ──────────────────────────────────────────────────────────────────────────────────────────────

-- not all of the three tests that come before the call's own checks are passed, or all are
data Starts (w : World) (n : ℕ) (m : ℕ) : Type 0 where
  wrong : n ≡ 1 → right_lengths w ≡ false → Starts w n m
  idle : n ≡ 5 → works w.state ≡ false → Starts w n m
  checked : n ≡ m → works w.state ≡ true → Starts w n m

-- refused with this number and nothing changed, or accepted
data Ends (w : World) (k : Call) (r : Answered) : Type 0 where
  refuses : (n : ℕ) → member (suc n) (numbers k) ≡ true → (works w.state ≡ true → suc n ≢ 5) → r ≡ answered (suc n) (pos 0) w → Ends w k r
  accepts : Settled w.charts r → Ends w k r

module _ (w : World) (k : Call) where
  abbrev own_check : ℕ
  own_check = let c : Control = control_in w.state in refusal_by (record { tables = w.state.tables; scopes = map scope_in w.scopes }) (c.stored + c.waiting) k

  starts : Starts w (number_of w k) own_check
  unfolding number_of is_coherent
  starts = go (right_lengths w) (is_open_phase w.state.phase) (in_limits w.state) refl refl refl
    where
      go : (l o i : Bool) → right_lengths w ≡ l → is_open_phase w.state.phase ≡ o → in_limits w.state ≡ i
          → Starts w (cond (not l) 1 (cond (not o) 5 (cond (not i) 5 own_check))) own_check
      go false o i p q r = wrong refl p
      go true false i p q r = idle refl (rw q)
      go true true false p q r = idle refl (rw (q, r))
      go true true true p q r = checked refl (rw (q, r))

  ends : Ends w k (performed w k)
  unfolding performed core_of
  ends = go (number_of w k) starts
    where
      each : (n : ℕ) → Own k n → Ends w k (decided w k n)
      each zero o = accepts (settled-either (core_of w) k _)
      each (suc n) o = refuses n (own-listed k (suc n) o) (λ t. own-not-five k (suc n) o) refl

      go : (n : ℕ) → Starts w n own_check → Ends w k (decided w k n)
      go n (wrong e l) = subst (λ (m : ℕ). Ends w k (decided w k m)) (sym e) (refuses 0 refl (λ t z. absurd (omega arith)) refl)
      go n (idle e i) = subst (λ (m : ℕ). Ends w k (decided w k m)) (sym e) (refuses 4 refl (λ t. clash _ t i) refl)
      go n (checked e t) = subst (λ (m : ℕ). Ends w k (decided w k m)) (sym e) (each own_check (refusal-own _ _ k))

  pub number-listed : member (performed w k).answer.number (numbers k) ≡ true
  number-listed = go (performed w k) ends
    where
      settle : (r : Answered) → Settled w.charts r → member r.answer.number (numbers k) ≡ true
      settle r (done e) = rw e
      settle r (closed e) = ap (λ (q : Answered). member q.answer.number (numbers k)) e

      go : (r : Answered) → Ends w k r → member r.answer.number (numbers k) ≡ true
      go r (refuses n m other e) = ap (λ (q : Answered). member q.answer.number (numbers k)) e ∙ m
      go r (accepts s) = settle r s

  pub wrong-lengths : right_lengths w ≡ false → performed w k ≡ answered 1 (pos 0) w
  unfolding performed number_of
  wrong-lengths e = rw e

  -- closed, or with counters beyond their limits
  pub idle-store : right_lengths w ≡ true → works w.state ≡ false → performed w k ≡ answered 5 (pos 0) w
  unfolding performed
  idle-store l e = go (number_of w k) starts
    where
      go : (n : ℕ) → Starts w n own_check → decided w k n ≡ answered 5 (pos 0) w
      go n (wrong z p) = clash _ l p
      go n (idle z p) = ap (decided w k) z
      go n (checked z p) = clash _ p e

  pub nothing-changes : (performed w k).answer.number ≢ 0 → (performed w k).answer.number ≢ 5
      → performed w k ≡ answered (performed w k).answer.number (pos 0) w
  nothing-changes = go (performed w k) ends
    where
      settle : (r : Answered) → Settled w.charts r → r.answer.number ≢ 0 → r.answer.number ≢ 5 → r ≡ answered r.answer.number (pos 0) w
      settle r (done e) h five = absurd (h e)
      settle r (closed e) h five = absurd (five (ap (λ (q : Answered). q.answer.number) e))

      go : (r : Answered) → Ends w k r → r.answer.number ≢ 0 → r.answer.number ≢ 5 → r ≡ answered r.answer.number (pos 0) w
      go r (refuses n m other e) h five = e ∙ ap (λ (q : Answered). answered q.answer.number (pos 0) w) (sym e)
      go r (accepts s) h five = settle r s h five

  pub power-failed : works w.state ≡ true → (performed w k).answer.number ≡ 5
      → performed w k ≡ failed_after (performed w k).writes.rows (cleared (performed w k).world.log w.charts)
  power-failed = go (performed w k) ends
    where
      settle : (r : Answered) → Settled w.charts r → r.answer.number ≡ 5 → r ≡ failed_after r.writes.rows (cleared r.world.log w.charts)
      settle r (done e) h = absurd (omega arith)
      settle r (closed e) h = e

      go : (r : Answered) → Ends w k r → works w.state ≡ true → r.answer.number ≡ 5 → r ≡ failed_after r.writes.rows (cleared r.world.log w.charts)
      go r (refuses n m other e) t h = absurd (other t (sym (ap (λ (q : Answered). q.answer.number) e) ∙ h))
      go r (accepts s) t h = settle r s h

  -- no check of a call that works has the number 5
  pub works-not-five : works w.state ≡ true → number_of w k ≢ 5
  works-not-five t = go (number_of w k) starts
    where
      go : (n : ℕ) → Starts w n own_check → n ≢ 5
      go n (wrong e l) = λ z. absurd (omega arith)
      go n (idle e i) = clash _ t i
      go n (checked e i) = λ z. own-not-five k own_check (refusal-own _ _ k) (sym e ∙ z)

  -- and a call that no check refuses works
  pub zero-works : number_of w k ≡ 0 → works w.state ≡ true
  zero-works z = go (number_of w k) starts z
    where
      go : (n : ℕ) → Starts w n own_check → n ≡ 0 → works w.state ≡ true
      go n (wrong e l) q = absurd (omega arith)
      go n (idle e i) q = absurd (omega arith)
      go n (checked e i) q = i
