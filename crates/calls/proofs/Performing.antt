-- The checks of a call in their order, by what the functions have found. Assumes nothing.
use Prim.Native.Nat.{ℕ, zero, suc, ◌+◌, ◌≤◌}
use mathlib.Core.Path.{◌≡◌, refl, ap, sym, ◌∙◌}
use mathlib.Core.Logic.{◌≢◌}
use Rattle.std.specs.Prelude.{Ok}
use mathlib.Core.Bool.{Bool, true, false, not, ◌&&◌}
use mathlib.Core.List.{List, []}
use lib.Dec.{leb}
use native.Mathlib.Omega.{arith}
use borrow.Author.Tests.{leb-true, not-false}
use Rattle.book.specs.Calls.{Call}
use Rattle.book.specs.Scopes.{Scope}
use Rattle.book.specs.Writes.{no_writes}
use Rattle.book.specs.Book.{Answer, ◌else◌, refused_by}
use Rattle.book.proofs.Adds.{passes}
use Rattle.book.proofs.Lists.{and_l, and_r}
use Rattle.tables_model.specs.declared.Counts.{Counts}
use Rattle.tables_model.specs.Rows.{Ready}
use Rattle.tables_model.specs.Visits.{InRange, tables_in}
use Rattle.state.specs.declared.answers.Refusal.{Refusal}
use Rattle.state.specs.declared.answers.Refusal.TheVariants.{WrongLength, CellOutOfRange, WrongBytes, BreaksRule, OverLimit, BadPage, Closed, VisitsUsedUp, TooManyActive, NoRoom, NotActive, NoSuchCell, ScopesUsedUp, SameVisit, HoldsNone, NoSuchPage}
use Rattle.state.specs.Answers.{checked, refusal_answer}
use Rattle.state.specs.World.{World, is_open_phase}
use Rattle.state.specs.CallContracts.{Answered}
use Rattle.journal.specs.declared.Control.{Control}
use Rattle.calls_model.specs.Refusals.{refusal_by}
use Rattle.calls_model.specs.Perform.{is_coherent, decided, number_by, Flat}

-- ── The counters ──────────────────────────────────────────────────────────────────────────────────────────────────────

pub record Coherent (c : Control) (t : Counts) : Type 0 where
  pub few : c.waiting ≤ 64
  pub room : c.stored + c.waiting ≤ 4096
  pub range : InRange t.count t.used

coherent : (c : Control) (t : Counts) (vs : List ℕ) → is_coherent c (tables_in t vs) ≡ true → Coherent c t
unfolding is_coherent
coherent c t vs e =
    let p = leb c.waiting 64 in
    let q = leb (c.stored + c.waiting) 4096 in
    let r = leb t.count 16 in
    let three = and_l (p && q && r) _ e in
    let two = and_l (p && q) r three in
    record {
      few = leb-true _ _ (and_l p q two);
      room = leb-true _ _ (and_r p q two);
      range = record { count = leb-true _ _ (and_r (p && q) r three); used = leb-true _ _ (and_r (p && q && r) _ e) };
    }

past_two : (p q : Bool) (n : ℕ) → p && q ≡ true → refused_by n ≡ refused_by ((5, not p) else (5, not q) else n)
past_two true true n e = refl
past_two true false n e = let z : ◌≡◌ {A = ℕ} 0 1 = cc in absurd (omega arith)
past_two false q n e = let z : ◌≡◌ {A = ℕ} 0 1 = cc in absurd (omega arith)

-- the store is open, and its counters are within their limits: so says the function that is asked first
module _ (c : Control) (t : Counts) (answer : Bool) (is : (vs : List ℕ) → answer ≡ (is_open_phase c.phase && is_coherent c (tables_in t vs))) (yes : answer ≡ true) where
  ready-by : (vs : List ℕ) → is_open_phase c.phase && is_coherent c (tables_in t vs) ≡ true
  ready-by vs = sym (is vs) ∙ yes

  pub ready : Coherent c t
  ready = coherent c t [] (and_r (is_open_phase c.phase) _ (ready-by []))

  -- of flat tables of their lengths
  pub ready-tables : (visits scopes : ℕ) → Flat visits scopes → Ready t visits scopes
  ready-tables visits scopes long = record { range = ready.range; visits-long = long.visits-long; long = long.scopes_long }

  -- the call's own checks are left
  pub when-ready : (vs : List ℕ) (scopes : List Scope) (k : Call)
      → refused_by (refusal_by (record { tables = tables_in t vs; scopes = scopes }) (c.stored + c.waiting) k) ≡ refused_by (number_by c (tables_in t vs) scopes k)
  when-ready vs scopes k = past_two (is_open_phase c.phase) (is_coherent c (tables_in t vs)) _ (ready-by vs)

-- ── The checks ────────────────────────────────────────────────────────────────────────────────────────────────────────

-- none refuses
pub record Passed (c : Control) (t : Counts) (vs : List ℕ) (scopes : List Scope) (k : Call) : Type 0 where
  pub running : is_open_phase c.phase ≡ true
  pub within : Coherent c t
  pub free : refusal_by (record { tables = tables_in t vs; scopes = scopes }) (c.stored + c.waiting) k ≡ 0

pub passed : (c : Control) (t : Counts) (vs : List ℕ) (scopes : List Scope) (k : Call) → number_by c (tables_in t vs) scopes k ≡ 0 → Passed c t vs scopes k
passed c t vs scopes k e =
    let inside = is_coherent c (tables_in t vs) in
    let first = passes (not (is_open_phase c.phase)) 4 _ e in
    let p = passes (not inside) 4 (refusal_by (record { tables = tables_in t vs; scopes = scopes }) (c.stored + c.waiting) k) first.1 in
    record { running = not-false (is_open_phase c.phase) first.0; within = coherent c t vs (not-false inside p.0); free = p.1 }

-- a check refuses it
pub when-refused : (w : World) (k : Call) (a : Answer) (n : ℕ) → a ≡ refused_by n → (n ≡ 0 → ⊥) → ◌≡◌ {A = Answered} (record { answer = a; world = w; writes = no_writes }) (decided w k n)
when-refused w k a zero e h = absurd (h refl)
when-refused w k a (suc n) e h = rw e

-- a refusal has a number
pub numbered : (r : Refusal) → (refusal_answer r).number ≢ 0
numbered WrongLength z = absurd (omega arith)
numbered (CellOutOfRange c) z = absurd (omega arith)
numbered (WrongBytes n) z = absurd (omega arith)
numbered (BreaksRule n) z = absurd (omega arith)
numbered (OverLimit n) z = absurd (omega arith)
numbered (BadPage p) z = absurd (omega arith)
numbered Closed z = absurd (omega arith)
numbered VisitsUsedUp z = absurd (omega arith)
numbered TooManyActive z = absurd (omega arith)
numbered NoRoom z = absurd (omega arith)
numbered NotActive z = absurd (omega arith)
numbered NoSuchCell z = absurd (omega arith)
numbered ScopesUsedUp z = absurd (omega arith)
numbered SameVisit z = absurd (omega arith)
numbered HoldsNone z = absurd (omega arith)
numbered NoSuchPage z = absurd (omega arith)

pub refuses : (r : Refusal) (n : ℕ) → refusal_answer r ≡ refused_by n → n ≢ 0
refuses r n e z = numbered r (ap (λ (a : Answer). a.number) e ∙ z)

-- and no check of a call that may go on has one
pub passes-all : (u : Unit {0}) (n : ℕ) → checked (Ok u) ≡ refused_by n → n ≡ 0
passes-all u n e = sym (ap (λ (a : Answer). a.number) e)
