-- Demand 1, from what the contracts say of every answer.
use Prim.Native.Nat.{ℕ}
use native.Mathlib.Omega.{arith}
use mathlib.Core.Bool.{Bool, true, false, cond, not, ◌&&◌}
use mathlib.Core.Logic.{◌≢◌}
use mathlib.Core.Path.{◌≡◌, refl, ap, sym, ◌∙◌, subst}
use mathlib.Core.List.{List}
use lib.ListN.{length}
use lib.IntN.{ℤ, pos}
use lib.Dec.{eqb, ltb}
use borrow.Author.Tests.{eqb-true}
use Rattle.book.specs.Lists.{member}
use Rattle.book.specs.Calls.{Call}
use Rattle.book.specs.Limits.{cell_limit, log_length, page_limit}
use Rattle.book.specs.Rows.{Row}
use Rattle.book.specs.Power.{Book, Fuse}
use Rattle.book.specs.Book.{ended, reopened, reopen}
use Rattle.book.specs.LogBytes.{Log, good, bad, read_log}
use Rattle.book.specs.Opening.{Opened, rejected, recovered, bad_page, checked, open_bytes}
use Rattle.book.specs.Reading.{log_numbers, ReadsExactly, Demand2Reading}
use Rattle.book.proofs.Reasons.{each_number}
use Rattle.book.proofs.Reading.{demand-2-reading}
use Rattle.state.specs.World.{World, right_lengths, works, state_of, table_of, cleared}
use Rattle.state.specs.CallContracts.{Answered, answered, bad_cell, formats, opened_world, FormatPost, OpenPost, CallPost}
use Rattle.state.proofs.OpenedStores.{opens-bytes, opens-refused}
use Rattle.sessions.specs.Demand1.{open_numbers, FormatAnswers, OpenAnswers, Demand1}
use Rattle.sessions.proofs.LentBuffers.{right}

-- ── Format ────────────────────────────────────────────────────────────────────────────────────────────────────────────

format-answers : (values : List ℤ) (given : World) (x : Answered) → FormatPost values given x → FormatAnswers given x
unfolding formats
format-answers values given x post =
    subst (FormatAnswers given) (sym post.is)
    (go (not (right_lengths given && eqb (length values) cell_limit)) (ltb (bad_cell values) cell_limit) _ _)
  where
    go : (t u : Bool) (log charts : List ℕ)
        → FormatAnswers given (cond t (answered 1 (pos 0) given) (cond u (answered 2 (pos (bad_cell values)) given) (answered 0 (pos 0) (cleared log charts))))
    go true u log charts = record { number = refl; refused = λ z. refl; done = λ z. absurd (omega arith) }
    go false true log charts = record { number = refl; refused = λ z. refl; done = λ z. absurd (omega arith) }
    go false false log charts = record { number = refl; refused = λ z. absurd (z refl); done = λ z. refl }

-- ── Open ──────────────────────────────────────────────────────────────────────────────────────────────────────────────

module _ (f : Fuse) (given : World) where
  abbrev Says : Opened → Type 0
  Says o = OpenAnswers given (opened_world given.charts o)

  -- 01: ready, or the power failed
  says-ended : (rs : List Row) (v : ℤ) (b : Book) → Says (recovered rs given.charts (ended v b))
  unfolding state_of table_of
  says-ended rs v b = go b.is_open refl
    where
      go : (t : Bool) → b.is_open ≡ t → Says (recovered rs given.charts (ended v b))
      go true e = rw e (record {
        number = refl;
        refused = λ z. absurd (omega arith);
        rejected = λ z one five. absurd (z refl);
        failed = λ z. absurd (omega arith);
      })
      go false e = rw e (record {
        number = refl;
        refused = λ z. absurd (omega arith);
        rejected = λ z one five. absurd (five refl);
        failed = λ z. refl;
      })

  -- 01: the store is rejected
  says-rejected : (n place : ℕ) → member n open_numbers ≡ true → n ≢ 1 → n ≢ 5 → Says (rejected n place given.log)
  unfolding state_of table_of
  says-rejected n place listed one five = record {
    number = listed;
    refused = λ z. absurd (one z);
    rejected = λ z o f. refl;
    failed = λ z. absurd (five z);
  }

  -- for its log
  says-bad : (n place : ℕ) → member n log_numbers ≡ true → Says (rejected n place given.log)
  says-bad n place = each_number (λ k. Says (rejected k place given.log))
      (says-rejected 3 place refl (λ e. omega arith) (λ e. omega arith))
      (says-rejected 16 place refl (λ e. omega arith) (λ e. omega arith))
      (says-rejected 17 place refl (λ e. omega arith) (λ e. omega arith)) n

  says : (x : ReadsExactly given.log) (l : Log) → read_log given.log ≡ l → Says (checked f given.log given.charts l)
  unfolding reopen
  says x (bad n row) e = says-bad n row (x.refuses n row e).0
  says x (good rs) e = go (ltb (bad_page rs given.charts) page_limit)
    where
      go : (t : Bool) → Says (cond t (rejected 4 (bad_page rs given.charts) given.log) (recovered rs given.charts (reopen f rs)))
      go true = says-rejected 4 (bad_page rs given.charts) refl (λ e. omega arith) (λ e. omega arith)
      go false = says-ended rs _ (reopened f rs)

  open-answers : (x : Answered) → OpenPost f given x → OpenAnswers given x
  unfolding Demand2Reading open_bytes
  open-answers x post = go (right_lengths given) refl
    where
      go : (t : Bool) → right_lengths given ≡ t → OpenAnswers given x
      go true e =
          let exact = demand-2-reading given.log (eqb-true (length given.log) log_length (right given e).log) in
          subst (OpenAnswers given) (sym (post.is ∙ opens-bytes f given e)) (says exact (read_log given.log) refl)
      go false e = subst (OpenAnswers given) (sym (post.is ∙ opens-refused f given e)) (record {
        number = refl;
        refused = λ z. refl;
        rejected = λ z one five. absurd (one refl);
        failed = λ z. absurd (omega arith);
      })

-- a 5 has buffers of 01's lengths: others are refused by 1
five-shut : (k : Call) (given : World) (x : Answered) → CallPost k given x → x.answer.number ≡ 5 → works given.state ≡ false
    → x ≡ answered 5 (pos 0) given
five-shut k given x post five idle = go (right_lengths given) refl
  where
    go : (t : Bool) → right_lengths given ≡ t → x ≡ answered 5 (pos 0) given
    go true e = post.shut e idle
    go false e = let one = ap (λ (y : Answered). y.answer.number) (post.lengths e) in absurd (omega arith)

pub demand-1 : Demand1
demand-1 = record {
  formats = format-answers;
  opens = open-answers;
  calls = λ k given x post. record {
    number = post.table;
    refused = post.keeps;
    shut = five-shut k given x post;
    failed = λ five t. post.cut t five;
  };
}
