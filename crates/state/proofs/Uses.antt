-- What the statements of specs/ say, each field taken to a fact: of an opening of the costliest log, of the numbers that occur, and of whatever a function gives
-- back that meets its contract. A field that says less, or nothing, leaves its fact unproved.
use Prim.Native.Nat.{ℕ, ◌-◌, ◌≤◌}
use native.Mathlib.Omega.{arith}
use mathlib.Core.Path.{◌≡◌, refl, ap, sym, ◌∙◌}
use mathlib.Core.Bool.{true, false}
use mathlib.Core.Logic.{inl, inr}
use mathlib.Core.List.{List}
use lib.ListN.{length}
use lib.IntN.{ℤ, pos}
use Rattle.std.specs.Prelude.{Result}
use Rattle.book.specs.Limits.{page_limit}
use Rattle.book.specs.Rows.{Row}
use Rattle.book.specs.Rules.{allowed_log}
use Rattle.book.specs.Cells.{zeros}
use Rattle.book.specs.Calls.{Call}
use Rattle.book.specs.Power.{Book, Fuse, left}
use Rattle.book.specs.Book.{done, call}
use Rattle.book.specs.LogBytes.{log_bytes}
use Rattle.book.specs.Opening.{bad_page}
use Rattle.book.specs.OpeningCost.{BeginsAndChanges, costliest}
use Rattle.book.specs.Logs.{Sound}
use Rattle.book.proofs.Lists.{clash}
use Rattle.state.specs.declared.answers.Done.{Done}
use Rattle.state.specs.declared.answers.Refusal.{Refusal}
use Rattle.state.specs.declared.ram.Fuse as ram
use Rattle.state.specs.declared.ram.Fuse.TheVariants.{Left}
use Rattle.state.specs.declared.requests.Request.TheVariants.{Begin}
use Rattle.state.specs.Answers.{Case, nothing, visit, written, grams, case_of, HasCase}
use Rattle.state.specs.World.{World, right_lengths, works, closed_state, LogIs, Represents}
use Rattle.state.specs.CallContracts.{Answered, Returned, answered_by, formats, opens, by_book, FormatPost, OpenPost, CallPost}
use Rattle.state.specs.Functions.{Formats, Opens, Calls}
use Rattle.state.specs.Numbers.{code_of, reached, Occurs, NumbersOccur, SixNeverOccurs}
use Rattle.state.specs.OpeningCost.{Powered, CostOfOpening, Reported, CostliestOpening, CostOfOpen}
use Rattle.state.proofs.Numbers.{numbers-occur, six-never-occurs}

-- ── 02, L6: the costliest opening ─────────────────────────────────────────────────────────────────────────────────────

-- `costliest-opening` is such
module _ (said : CostliestOpening) where
  pub longest-costliest : length (costliest 2048) ≡ 2048
  longest-costliest = (said.log 2048 (omega arith)).long

  pub no-log-of-2049 : (rs : List Row) → length rs ≡ 2049 → allowed_log rs ≡ true → BeginsAndChanges rs → ⊥
  no-log-of-2049 rs long al each = let few : length rs ≤ 2048 = said.log-most rs al each in omega arith

  -- the longest such log, opened with power for as many writes as it has rows and no more
  module _ (given : World) (x : Answered) (right : right_lengths given ≡ true) (pass : bad_page (costliest 2048) given.charts ≡ page_limit)
      (is : given.log ≡ log_bytes (costliest 2048)) (post : OpenPost (left 2048) given x)
    where
      just_enough : Powered (left 2048) given (costliest 2048) 2048
      just_enough = record { lengths = right; pages = pass; power = omega arith }

      as-reported : Reported 2048 x
      as-reported = said.reported 2048 (omega arith) (left 2048) given x is post just_enough

      pub answers-2048 : x.answer ≡ done (pos 2048)
      answers-2048 = as-reported.answer

      pub writes-2048-rows : x.writes ≡ record { rows = 2048; pages = 0 }
      writes-2048-rows = as-reported.writes

  -- any allowed log
  module _ (f : Fuse) (given : World) (rs : List Row) (x : Answered) (log : LogIs given rs) (post : OpenPost f given x) where
    any-cost : CostOfOpening f given rs x
    any-cost = said.opening f given rs x log post

    pub at-most-its-rows : x.writes.rows ≤ length rs
    at-most-its-rows = any-cost.cost.most

    pub ready-by-its-rows : Powered f given rs (length rs) → x.answer.number ≡ 0
    ready-by-its-rows p = any-cost.ready (length rs) (inl (omega arith)) p

    pub ready-by-free-rows : Powered f given rs (4096 - length rs) → x.answer.number ≡ 0
    ready-by-free-rows p = any-cost.ready (4096 - length rs) (inr (omega arith)) p

    pub ready-by-2048 : Powered f given rs 2048 → x.answer.number ≡ 0
    ready-by-2048 p = any-cost.ready-any p

    pub writes-its-rows : Powered f given rs (length rs) → BeginsAndChanges rs → x.writes.rows ≡ length rs
    writes-its-rows p each = (any-cost.reaches p).1 each

    pub writes_fewer : Powered f given rs (length rs) → (BeginsAndChanges rs → ⊥) → x.writes.rows ≡ length rs → ⊥
    writes_fewer p other e = other ((any-cost.reaches p).0 e)

-- ── The numbers that occur ────────────────────────────────────────────────────────────────────────────────────────────

pub fourteen : Occurs 6 14
unfolding NumbersOccur
fourteen = numbers-occur (Call.flush 0) 14 refl (λ e. omega arith)

pub fourteen-answered : (call zeros (reached fourteen.fuse fourteen.before) fourteen.lengths fourteen.asked).answer.number ≡ 14
fourteen-answered = fourteen.number

pub to-a-flush : code_of fourteen.asked ≡ 6
to-a-flush = fourteen.kind

pub of-a-sound-book : Sound (reached fourteen.fuse fourteen.before)
of-a-sound-book = fourteen.sound

pub no-begin-answers-6 : Occurs 1 6 → ⊥
unfolding SixNeverOccurs
no-begin-answers-6 o = six-never-occurs 1 o

-- ── The contracts ─────────────────────────────────────────────────────────────────────────────────────────────────────

pub format-leaves : (values : List ℤ) (given : World) (x : Answered) → FormatPost values given x → x.world ≡ (formats values given).world
format-leaves values given x post = ap (λ (r : Answered). r.world) post.is

pub opening-counts : (f : Fuse) (given : World) (x : Answered) → OpenPost f given x → x.writes ≡ (opens f given).writes
opening-counts f given x post = ap (λ (r : Answered). r.writes) post.is

-- any call
module _ (k : Call) (given : World) (x : Answered) (post : CallPost k given x) where
  pub length-answered : right_lengths given ≡ false → x.answer.number ≡ 1
  length-answered e = ap (λ (r : Answered). r.answer.number) (post.lengths e)

  pub shut-answered : right_lengths given ≡ true → works given.state ≡ false → x.answer.number ≡ 5
  shut-answered e s = ap (λ (r : Answered). r.answer.number) (post.shut e s)

  pub refusal-keeps : x.answer.number ≡ 9 → x.world ≡ given
  refusal-keeps e = ap (λ (r : Answered). r.world) (post.keeps (λ z. omega arith) (λ z. omega arith))

  pub cut-closes : works given.state ≡ true → x.answer.number ≡ 5 → x.world.state ≡ closed_state
  cut-closes s e = ap (λ (r : Answered). r.world.state) (post.cut s e)

  pub done-counts : x.answer.number ≡ 0 → x.writes.rows ≡ x.world.state.stored - given.state.stored
  done-counts e = post.rows e

  pub few-counted : x.writes.rows ≤ 4096
  few-counted = post.few

  pub answer-of-the-book : right_lengths given ≡ true → (cells : ℕ → ℤ) (b : Book) → Represents cells b given → x.answer ≡ (call cells b true k).answer
  unfolding by_book
  answer-of-the-book e cells b r = ap (λ (y : Answered). y.answer) (post.is e cells b r)

-- a flush
module _ (given : World) (x : Answered) (post : CallPost (Call.flush 0) given x) where
  pub flush-never-13 : x.answer.number ≡ 13 → ⊥
  flush-never-13 e = clash false (rw e at post.table) refl

  pub flush-counts-a-page : x.answer.number ≡ 0 → x.writes.pages ≡ 1
  flush-counts-a-page e = rw e at post.pages

-- the functions: each answers with the case of its call, or a refusal; a cell's value is the answer of a read alone
not-grams : (c : Case) (a : Result Done Refusal) → (c ≡ grams → ⊥) → HasCase c a → case_of a ≡ grams → ⊥
not-grams c a other (inl e) g = other (sym e ∙ g)
not-grams c a other (inr e) g = let z : ◌≡◌ {A = ℕ} 0 1 = cc in omega arith

pub format-gives-no-grams : (values : List ℤ) (given : World) (x : Returned) → Formats values given x → case_of x.result.answer ≡ grams → ⊥
format-gives-no-grams values given x does = not-grams nothing x.result.answer (λ e. let z : ◌≡◌ {A = ℕ} 0 1 = cc in omega arith) does.case

pub open-gives-no-grams : (fuse : ram.Fuse) (given : World) (x : Returned) → Opens fuse given x → case_of x.result.answer ≡ grams → ⊥
open-gives-no-grams fuse given x does = not-grams written x.result.answer (λ e. let z : ◌≡◌ {A = ℕ} 0 1 = cc in omega arith) does.case

pub begin-gives-no-grams : (given : World) (x : Returned) → Calls Begin given x → case_of x.result.answer ≡ grams → ⊥
begin-gives-no-grams given x does = not-grams visit x.result.answer (λ e. let z : ◌≡◌ {A = ℕ} 0 1 = cc in omega arith) does.case

-- and each meets the contract of its call
pub format-answers : (values : List ℤ) (given : World) (x : Returned) → Formats values given x → (answered_by x).answer ≡ (formats values given).answer
format-answers values given x does = ap (λ (r : Answered). r.answer) does.post.is

pub open-answers : (n : ℕ) (given : World) (x : Returned) → Opens (Left n) given x → (answered_by x).answer ≡ (opens (left n) given).answer
open-answers n given x does = ap (λ (r : Answered). r.answer) does.post.is

pub begin-in-few-rows : (given : World) (x : Returned) → Calls Begin given x → (answered_by x).writes.rows ≤ 4096
begin-in-few-rows given x does = does.post.few

-- what it costs, of the public function
pub open-at-most-its-rows : CostOfOpen → (n : ℕ) (given : World) (rs : List Row) (x : Returned) → LogIs given rs → Opens (Left n) given x
    → (answered_by x).writes.rows ≤ length rs
unfolding CostOfOpen
open-at-most-its-rows said n given rs x log does = (said (Left n) given rs x log does).cost.most
