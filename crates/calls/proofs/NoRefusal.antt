-- What a call that is not refused has: the checks that its work relies on have passed. Assumes nothing.
use Prim.Native.Nat.{ℕ, suc, ◌<◌}
use native.Mathlib.Omega.{arith}
use mathlib.Core.Path.{◌≡◌, refl}
use mathlib.Core.Bool.{Bool, true, false, not}
use lib.IntN.{ℤ}
use borrow.Author.Tests.{leb-false, ltb-true, not-false}
use Rattle.book.specs.Limits.{visit_limit, active_limit, page_limit}
use Rattle.book.specs.Rows.{is_cell}
use Rattle.book.specs.Calls.{Call}
use Rattle.book.specs.Book.{◌else◌}
use Rattle.tables_model.specs.Visits.{is_listed}
use Rattle.tables_model.specs.Rows.{Index, has_entry}
use Rattle.calls_model.specs.Refusals.{refusal_by}

passed : (n : ℕ) (test : Bool) (later : ℕ) → ((suc n, test) else later) ≡ 0 → (test ≡ false) × (later ≡ 0)
passed n true later e = absurd (omega arith)
passed n false later e = (refl, e)

module _ (x : Index) (rows : ℕ) where
  -- a visit's number and a vacant place
  pub free-begin : refusal_by x rows Call.begin ≡ 0 → (x.tables.begun < visit_limit) × (x.tables.count < active_limit)
  unfolding refusal_by
  free-begin e =
      let visits = passed 5 _ _ e in
      let active = passed 6 _ _ visits.1 in
      (leb-false visit_limit _ visits.0, leb-false active_limit _ active.0)

  -- an entry of the scope table
  pub free-change : (v c : ℕ) (a : ℤ) → refusal_by x rows (Call.change v c a) ≡ 0 → has_entry x v c ≡ true
  unfolding refusal_by
  free-change v c a e =
      let visit = passed 8 (not (is_listed x.tables v)) _ e in
      let cell = passed 9 (not (is_cell c)) _ visit.1 in
      let entry = passed 10 (not (has_entry x v c)) _ cell.1 in
      not-false _ entry.0

  -- a page
  pub free-flush : (p : ℕ) → refusal_by x rows (Call.flush p) ≡ 0 → p < page_limit
  unfolding refusal_by
  free-flush p e = let page = passed 13 _ _ e in ltb-true p page_limit (not-false _ page.0)
