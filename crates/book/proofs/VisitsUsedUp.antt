-- Document 01, "Refusals by place", begin, with the limit of 02, L7: "6: 65,535 visits used; 7: 16 active". No allowed log has so many begin rows (Visits), so the
-- rows here are begin rows alone, and what they come to is by a law and not computed.
use Prim.Native.Nat.{ℕ, zero, suc, ◌+◌, ◌≤◌, ◌<◌}
use native.Mathlib.Omega.{arith}
use mathlib.Core.Path.{◌≡◌, refl, ◌∙◌}
use mathlib.Core.List.{[], ◌++◌, append-nil}
use lib.ListN.{length}
use borrow.Author.Tests.{le-leb, lt-leb}
use Rattle.book.specs.Lists.{tabulate, foldl}
use Rattle.book.specs.Limits.{visit_limit, active_limit}
use Rattle.book.specs.Rows.{Row}
use Rattle.book.specs.Ledger.{Ledger, empty, after, ledger}
use Rattle.book.specs.Calls.{Call}
use Rattle.book.specs.Book.{refusal}
use Rattle.book.proofs.WorkedExamples.{visits, refusal_after}

begun-count : (n from : ℕ) (l : Ledger) → (foldl after l (tabulate n from Row.begin)).begun ≡ l.begun + n
unfolding after
begun-count zero from l = omega arith
begun-count (suc n) from l = begun-count n (suc from) (after l (Row.begin from)) ∙ omega arith

active-count : (n from : ℕ) (l : Ledger) → length (foldl after l (tabulate n from Row.begin)).active ≡ length l.active + n
unfolding after
active-count zero from l = omega arith
active-count (suc n) from l = active-count n (suc from) (after l (Row.begin from)) ∙ omega arith

begun_all : (n : ℕ) → (ledger (visits n ++ [])).begun ≡ n
begun_all n = rw (append-nil (visits n)) (begun-count n 1 empty ∙ omega arith)

active-all : (n : ℕ) → length (ledger (visits n ++ [])).active ≡ n
active-all n = rw (append-nil (visits n)) (active-count n 1 empty ∙ omega arith)

-- 65,535 visits or more are used, and all are active
pub used-up-before-active : (n : ℕ) → 65535 ≤ n → refusal_after (visits n) Call.begin ≡ 6
unfolding refusal
used-up-before-active n h = rw (begun_all n, le-leb visit_limit n (omega arith)) refl

-- fewer are
pub not-used-up : (n : ℕ) → n < 65535 → 16 ≤ n → refusal_after (visits n) Call.begin ≡ 7
unfolding refusal
not-used-up n h k = rw (begun_all n, lt-leb visit_limit n (omega arith), active-all n, le-leb active_limit n (omega arith)) refl
