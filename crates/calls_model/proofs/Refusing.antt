-- The checks of a call by the tables are the book's refusals.
use Prim.Native.Nat.{ℕ}
use mathlib.Core.Path.{◌≡◌, refl, ap, ap₂}
use mathlib.Core.Bool.{Bool, true, false, not, ◌||◌}
use lib.ListN.{length}
use lib.IntN.{ℤ}
use lib.Dec.{eqb, leb, ltb}
use Rattle.book.specs.Limits.{visit_limit, active_limit, scope_limit}
use Rattle.book.specs.Rows.{is_cell}
use Rattle.book.specs.Rules.{is_active, room, scope_fits, holds_any}
use Rattle.book.specs.Ledger.{only, every}
use Rattle.book.specs.Calls.{Call}
use Rattle.book.specs.Power.{Book, rows_of, ledger_of}
use Rattle.book.specs.Book.{◌else◌, refusal}
use Rattle.book.proofs.Scoped.{scoped-log}
use Rattle.tables_model.specs.Rows.{room_by, grows_by, holds_by}
use Rattle.tables_model.specs.Meaning.{tables_of}
use Rattle.tables_model.specs.Lookup.{index_of}
use Rattle.tables_model.proofs.ActiveVisits.{is-listed}
use Rattle.tables_model.proofs.Judge.{holds_by_lem, room_by_lem, fits_by}
use Rattle.wal.proofs.Steady.{Steady}
use Rattle.calls_model.specs.Refusals.{hand_over_refusal, refusal_by}

module _ (b : Book) (s : Steady b) where
  refused-begin : refusal_by (index_of (ledger_of b)) (length (rows_of b)) Call.begin ≡ refusal b Call.begin
  unfolding refusal_by refusal tables_of
  refused-begin =
      ap (λ (t : Bool). (6, leb visit_limit (ledger_of b).begun) else (7, leb active_limit (length (ledger_of b).active)) else (8, not t) else 0)
      (room_by_lem (rows_of b) s.allowed 2)

  refused-change : (v c : ℕ) (a : ℤ) → refusal_by (index_of (ledger_of b)) (length (rows_of b)) (Call.change v c a) ≡ refusal b (Call.change v c a)
  unfolding refusal_by refusal
  refused-change v c a = rw (is-listed (ledger_of b) v) (go (is_active (ledger_of b) v) refl)
    where
      go : (t : Bool) → is_active (ledger_of b) v ≡ t
          → ((9, not t) else (10, not (is_cell c)) else (11, not (grows_by (index_of (ledger_of b)) v c || ltb (tables_of (ledger_of b)).used scope_limit)) else
          (8, not (room_by (index_of (ledger_of b)) (length (rows_of b)) 2)) else 0)
          ≡ ((9, not t) else (10, not (is_cell c)) else (11, not (scope_fits (ledger_of b) v c)) else (8, not (room (ledger_of b) 2)) else 0)
      go true act =
          ap₂ (λ (f g : Bool). (10, not (is_cell c)) else (11, not f) else (8, not g) else 0)
          (fits_by (rows_of b) s.allowed v c act) (room_by_lem (rows_of b) s.allowed 2)
      go false act = refl

  -- a hand-over of these cells; `in_range` is the check of the cell, where the call names one
  refused-handed : (g r : ℕ) (ranged : Bool) (cs : ℕ → Bool) → hand_over_refusal (index_of (ledger_of b)) (length (rows_of b)) g r ranged cs
      ≡ ((9, not (is_active (ledger_of b) g)) else (9, not (is_active (ledger_of b) r)) else (12, eqb g r) else (10, not ranged) else
      (13, not (holds_any (ledger_of b) g cs)) else (8, not (room (ledger_of b) 1)) else 0)
  refused-handed g r ranged cs = rw (is-listed (ledger_of b) g, is-listed (ledger_of b) r) (go (is_active (ledger_of b) g) refl)
    where
      go : (t : Bool) → is_active (ledger_of b) g ≡ t
          → ((9, not t) else (9, not (is_active (ledger_of b) r)) else (12, eqb g r) else (10, not ranged) else
          (13, not (holds_by (index_of (ledger_of b)) g cs)) else (8, not (room_by (index_of (ledger_of b)) (length (rows_of b)) 1)) else 0)
          ≡ ((9, not t) else (9, not (is_active (ledger_of b) r)) else (12, eqb g r) else (10, not ranged) else
          (13, not (holds_any (ledger_of b) g cs)) else (8, not (room (ledger_of b) 1)) else 0)
      go true act =
          ap₂ (λ (h n : Bool). (9, not (is_active (ledger_of b) r)) else (12, eqb g r) else (10, not ranged) else (13, not h) else (8, not n) else 0)
          (holds_by_lem (ledger_of b) g cs (scoped-log (rows_of b)) act) (room_by_lem (rows_of b) s.allowed 1)
      go false act = refl

  pub refusal-by : (k : Call) → refusal_by (index_of (ledger_of b)) (length (rows_of b)) k ≡ refusal b k
  unfolding refusal_by refusal
  refusal-by Call.begin = refused-begin
  refusal-by (Call.change v c a) = refused-change v c a
  refusal-by (Call.hand_over g r c) = refused-handed g r (is_cell c) (only c)
  refusal-by (Call.commit v) = ap (λ (t : Bool). (9, not t) else 0) (is-listed (ledger_of b) v)
  refusal-by (Call.abort v) = ap (λ (t : Bool). (9, not t) else 0) (is-listed (ledger_of b) v)
  refusal-by Call.force = refl
  refusal-by (Call.flush p) = refl
  refusal-by (Call.read c) = refl
  refusal-by (Call.hand_over_all g r) = refused-handed g r true every
