-- What each field of demand 2 says of 01's example: of a change, of the commit, cut and not cut, and of an opening of the three rows that the cut leaves. A field
-- that said less would not give it.
use Prim.Native.Nat.{ℕ, suc, ◌≤◌}
use native.Mathlib.Omega.{arith}
use mathlib.Core.Path.{◌≡◌, refl, ap, sym, ◌∙◌, subst}
use mathlib.Core.Bool.{true, false}
use mathlib.Core.Logic.{◌≢◌}
use mathlib.Core.List.{List, [], ◌∷◌, ◌++◌}
use lib.ListN.{length}
use lib.IntN.{ℤ, pos, negsuc}
use Rattle.book.specs.Lists.{StartsWith, pad_to, member}
use Rattle.book.specs.Limits.{page_limit}
use Rattle.book.specs.Rows.{Row}
use Rattle.book.specs.Ledger.{ledger}
use Rattle.book.specs.Calls.{Call}
use Rattle.book.specs.Power.{Book, Fuse, none, left, rows_of}
use Rattle.book.specs.Book.{Answer, answer, done, closing, call, reopen}
use Rattle.book.specs.Numbers.{AreBytes}
use Rattle.book.specs.LogBytes.{rows_bytes, log_bytes}
use Rattle.book.specs.Opening.{bad_page}
use Rattle.book.specs.Reading.{log_numbers, BadFor}
use Rattle.book.proofs.Lists.{clash, is_false}
use Rattle.book.proofs.WorkedExamples.{computes}
use Rattle.state.specs.World.{World, right_lengths, LogIs, tail_length, cleared, Represents}
use Rattle.state.specs.CallContracts.{Answered, OpenPost, CallPost}
use Rattle.sessions.specs.Demand2.{HasRows, WritesRows, Reads}
use Rattle.sessions.proofs.Demand2.{demand-2}
use Rattle.sessions.proofs.UsesOfDemand3.{begun, others, kept_rows, cut_rows, end_rows}

-- ── Calls ─────────────────────────────────────────────────────────────────────────────────────────────────────────────

-- after the two begins, before the change and before the commit, with n writes left
abbrev before_change : Book
before_change = record { stored = begun; waiting = []; fuse = left 4; is_open = true }

abbrev before_commit : ℕ → Book
before_commit n = record { stored = begun; waiting = Row.change 1 0 (negsuc 199) ∷ Row.hand_over 1 2 0 ∷ Row.abort 1 ∷ []; fuse = left n; is_open = true }

abbrev the_change : Call
the_change = Call.change 1 0 (negsuc 199)

module _ (cells : ℕ → ℤ) where
  change-by-book : (call cells before_change true the_change).book ≡
      record { stored = begun; waiting = Row.change 1 0 (negsuc 199) ∷ []; fuse = left 4; is_open = true }
  unfolding computes
  change-by-book = refl

  commit-by-book : ((call cells (before_commit 4) true (Call.commit 2)).answer ≡ done (pos 6)) × ((call cells (before_commit 4) true (Call.commit 2)).book.stored ≡ kept_rows) ×
      ((call cells (before_commit 1) true (Call.commit 2)).answer.number ≡ 5)
  unfolding computes
  commit-by-book = (refl, refl, refl)

  -- the commit of visit 2: `answer`, and `done` with `all` and `log` of `HasRows`
  module _ (given : World) (x : Answered) (stands : Represents cells (before_commit 4) given) (post : CallPost (Call.commit 2) given x) where
    says : WritesRows cells (before_commit 4) (Call.commit 2) x
    says = demand-2.writes cells (before_commit 4) (Call.commit 2) given x stands tt post

    pub commit-answer : x.answer ≡ done (pos 6)
    commit-answer = says.answer ∙ commit-by-book.0

    has : HasRows x.world (call cells (before_commit 4) true (Call.commit 2)).book (begun ++ others)
    unfolding computes
    has = says.done (ap (λ (a : Answer). a.number) commit-answer)

    pub commit-rows : (rows_of (call cells (before_commit 4) true (Call.commit 2)).book ≡ kept_rows) × (x.world.log ≡ log_bytes kept_rows)
    commit-rows = (has.all, has.log ∙ ap log_bytes commit-by-book.1)

  -- the change: `tail` of `HasRows`, the row that waits
  pub change-waits : (given : World) (x : Answered) → Represents cells before_change given → CallPost the_change given x → x.answer.number ≡ 0
      → x.world.state.tail ≡ pad_to tail_length 0 (rows_bytes 3 (Row.change 1 0 (negsuc 199) ∷ []))
  change-waits given x stands post z =
      ((demand-2.writes cells before_change the_change given x stands tt post).done z).tail ∙
      ap (λ (b : Book). pad_to tail_length 0 (rows_bytes (suc (length b.stored)) b.waiting)) change-by-book

  -- the commit with power for one write: `failed`, with the fields of `Landed`
  pub commit-cut : (given : World) (x : Answered) → Represents cells (before_commit 1) given → CallPost (Call.commit 2) given x
      → (rs : List Row) × StartsWith rs others × (x.world.log ≡ log_bytes (begun ++ rs))
  unfolding computes
  commit-cut given x stands post =
      let says = demand-2.writes cells (before_commit 1) (Call.commit 2) given x stands tt post in
      let l = says.failed (ap (λ (a : Answer). a.number) says.answer ∙ commit-by-book.2) in
      (l.landed, l.part, l.log)

-- ── Openings ──────────────────────────────────────────────────────────────────────────────────────────────────────────

closing-rows : closing (ledger cut_rows) ≡ Row.undo 1 0 3 (negsuc 199) ∷ Row.abort 2 ∷ Row.abort 1 ∷ []
unfolding computes
closing-rows = refl

opened-by-book : ((reopen none cut_rows).answer ≡ done (pos 3)) × ((reopen none cut_rows).book.stored ≡ end_rows)
unfolding computes
opened-by-book = (refl, refl)

module _ (given : World) (x : Answered) (right : right_lengths given ≡ true) where
  module _ (f : Fuse) (post : OpenPost f given x) where
    opening : Reads f given x
    opening = demand-2.reads f given x post right

    -- `refuses`, both ways: the bytes of the three rows are not refused, and those of no log are
    pub allowed-not-refused : LogIs given cut_rows → member x.answer.number log_numbers ≡ false
    allowed-not-refused is = is_false _ (λ m. opening.refuses.0 m cut_rows is)

    pub no-log-refused : ((rs : List Row) → LogIs given rs → ⊥) → x.answer.number ≢ 0
    no-log-refused never z = clash (member 0 log_numbers) (ap (λ (n : ℕ). member n log_numbers) (sym z) ∙ opening.refuses.1 never) refl

    -- `place`: the answer has the number of a row, and the store is closed
    pub refused-row : x.answer.number ≡ 16 → (n : ℕ) × (1 ≤ n) × (x.answer.value ≡ pos n) × (x.world ≡ cleared given.log given.charts)
    refused-row e =
        let p = opening.place (ap (λ (n : ℕ). member n log_numbers) e) in
        (p.0, p.1.from, ap (λ (r : Answered). r.answer.value) p.2, ap (λ (r : Answered). r.world) p.2)

    -- `reason`, both ways
    pub refused-by-17 : AreBytes given.log → x.answer ≡ answer 17 (pos 5) → BadFor given.log 17 5
    refused-by-17 bytes e = (opening.reason bytes 17 5).0 (e, refl)

    pub bad-for-3 : AreBytes given.log → BadFor given.log 3 9 → x.answer ≡ answer 3 (pos 9)
    bad-for-3 bytes b = ((opening.reason bytes 3 9).1 b).0

    module _ (is : LogIs given cut_rows) where
      -- `pages`: page 5 is bad
      pub page-5 : bad_page cut_rows given.charts ≡ 5 → (x.answer ≡ answer 4 (pos 5)) × (x.world ≡ cleared given.log given.charts)
      page-5 e =
          let p = opening.pages cut_rows is (omega arith) in
          (ap (λ (r : Answered). r.answer) p ∙ ap (λ (n : ℕ). answer 4 (pos n)) e, ap (λ (r : Answered). r.world) p)

      -- `done`: an undo row and two abort rows after the three
      pub ready-log : x.answer.number ≡ 0 → x.world.log ≡ log_bytes end_rows
      ready-log z = opening.done cut_rows is z ∙ ap (λ (rs : List Row). log_bytes (cut_rows ++ rs)) closing-rows

      -- `failed`: a first part of them
      pub cut-log : x.answer.number ≡ 5 → (rs : List Row) × StartsWith rs (Row.undo 1 0 3 (negsuc 199) ∷ Row.abort 2 ∷ Row.abort 1 ∷ []) ×
          (x.world.log ≡ log_bytes (cut_rows ++ rs))
      cut-log z =
          let l = opening.failed cut_rows is z in (l.landed, subst (StartsWith l.landed) closing-rows l.part, l.log)

  -- `reads`: with no fuse, ready with three rows
  pub read-as-rows : OpenPost none given x → LogIs given cut_rows → bad_page cut_rows given.charts ≡ page_limit → (x.answer ≡ done (pos 3)) × (x.world.log ≡ log_bytes end_rows)
  read-as-rows post is good =
      let r = (demand-2.reads none given x post right).reads cut_rows is good in (r.0 ∙ opened-by-book.0, r.1 ∙ ap log_bytes opened-by-book.1)
