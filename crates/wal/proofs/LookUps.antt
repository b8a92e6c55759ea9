-- A row looked up by its number, and the search downwards for the change before another. Assumes nothing.
use Prim.Native.Nat.{ℕ, zero, suc, ◌+◌, ◌-◌, ◌≤◌, ◌<◌, min, max}
use native.Mathlib.Omega.{arith}
use native.Mathlib.Nat.{sub-zero, min-eq_left, min-eq_right}
use mathlib.Core.Path.{◌≡◌, refl, ap, sym, ◌∙◌}
use mathlib.Core.Bool.{Bool, true, false, cond}
use mathlib.Core.List.{List}
use lib.Dec.{eqb, leb}
use borrow.Author.Tests.{le-leb, lt-leb, ne_eqb, leb-true, leb-false}
use Rattle.std.specs.Prelude.{Option, Some, None}
use Rattle.std.specs.Option.{UnwrapsOrElse}
use Rattle.book.specs.Rows.{Row, begin}
use Rattle.book.specs.RowBytes.{row_of}
use Rattle.tables_model.specs.Lookup.{is_change_by, previous}
use Rattle.journal.specs.Journal.{Journal}
use Rattle.rows.specs.declared.Lsn.{Lsn}
use Rattle.wal.specs.Looking.{row_bytes_at, row_of_part, look_up, row_or_0}
use Rattle.wal.specs.Writing.{row_count}

-- ── A row that was found, or none ─────────────────────────────────────────────────────────────────────────────────────

-- its number, or 0 where no row is
pub or-zero : (o : Option Lsn) (P : Lsn → Type 0) → ((l : Lsn) → P l → l.0 ≡ 0) → (n : Lsn) → UnwrapsOrElse o P n → n.0 ≡ row_or_0 o
or-zero (Some m) P d n u = ap (λ (l : Lsn). l.0) u
or-zero None P d n u = d n u

-- ── A row ─────────────────────────────────────────────────────────────────────────────────────────────────────────────

-- it stands in the log
in-log : (j : Journal) (n : ℕ) → (n ≡ 0 → ⊥) → n ≤ j.control.stored → look_up j n ≡ row_of (row_bytes_at j.log (n - 1))
unfolding look_up
in-log j n h k = rw (le-leb 1 n (omega arith), le-leb n (row_count j) (omega arith), le-leb n j.control.stored k)

-- it waits in the tail
in_tail : (j : Journal) (n : ℕ) → j.control.stored < n → n ≤ row_count j → look_up j n ≡ row_of (row_bytes_at j.tail (n - 1 - j.control.stored))
unfolding look_up
in_tail j n h k = rw (le-leb 1 n (omega arith), le-leb n (row_count j) k, lt-leb n j.control.stored h)

-- there is none
no-row-zero : (j : Journal) (n : ℕ) → n ≡ 0 → look_up j n ≡ begin 0
unfolding look_up
no-row-zero j n h = rw (lt-leb 1 n (omega arith))

no_row : (j : Journal) (n : ℕ) → row_count j < n → look_up j n ≡ begin 0
unfolding look_up
no_row j n h = rw (le-leb 1 n (omega arith), lt-leb n (row_count j) h)

-- ── A row of a part ───────────────────────────────────────────────────────────────────────────────────────────────────

module _ (b : List ℕ) (base rows n : ℕ) where
  pub part-row : base < n → n ≤ base + rows → row_of_part b base rows n ≡ row_of (row_bytes_at b (n - base - 1))
  part-row h k = rw (le-leb 1 (n - base) (omega arith), le-leb (n - base) rows (omega arith))

  pub before-part : n ≤ base → row_of_part b base rows n ≡ begin 0
  before-part h = rw (lt-leb 1 (n - base) (omega arith))

  pub behind-part : base + rows < n → row_of_part b base rows n ≡ begin 0
  behind-part h = rw (le-leb 1 (n - base) (omega arith), lt-leb (n - base) rows (omega arith))

-- ── The search downwards ──────────────────────────────────────────────────────────────────────────────────────────────

module _ (look : ℕ → Row) (maker cell first : ℕ) where
  -- it stops at the first row
  pub stops : (n : ℕ) → n ≤ first → previous look maker cell first n ≡ 0
  stops zero h = refl
  stops (suc k) h = rw (lt-leb first k (omega arith))

  -- it ends at a change
  pub finds : (k n : ℕ) → n ≡ suc k → first ≤ k → 1 ≤ k → is_change_by maker cell (look k) ≡ true → previous look maker cell first n ≡ k
  finds k n e h pos is = rw (e, le-leb first k h, le-leb 1 k pos, is)

  -- it goes on at any other row
  pub passes : (k n : ℕ) → n ≡ suc k → first ≤ k → is_change_by maker cell (look k) ≡ false → previous look maker cell first n ≡ previous look maker cell first k
  passes zero n e h isnt = rw (e, le-leb first 0 h)
  passes (suc k) n e h isnt = rw (e, le-leb first (suc k) h, le-leb 1 (suc k) (omega arith), isnt)

  -- it may leave out rows that are no change
  pub skips : (lo n : ℕ) → lo ≤ n → ((k : ℕ) → lo ≤ k → k < n → is_change_by maker cell (look k) ≡ false)
      → previous look maker cell first n ≡ previous look maker cell first lo
  skips lo n h none = go (n - lo) n (omega arith) (omega arith)
    where
      go : (m k : ℕ) → k ≡ lo + m → k ≤ n → previous look maker cell first k ≡ previous look maker cell first lo
      go zero k e le = let same : k ≡ lo = omega arith in rw same
      go (suc m) k e le = turn (leb first (lo + m)) refl (go m (lo + m) refl (omega arith))
        where
          turn : (t : Bool) → leb first (lo + m) ≡ t → previous look maker cell first (lo + m) ≡ previous look maker cell first lo
              → previous look maker cell first k ≡ previous look maker cell first lo
          turn true f below = passes (lo + m) k (omega arith) (leb-true first (lo + m) f) (none (lo + m) (omega arith) (omega arith)) ∙ below
          turn false f below = let l = leb-false first (lo + m) f in stops k (omega arith) ∙ sym (stops lo (omega arith))

-- ── The search in a part ──────────────────────────────────────────────────────────────────────────────────────────────

module _ (b : List ℕ) (base rows maker cell first : ℕ) where
  abbrev look : ℕ → Row
  look = row_of_part b base rows

  -- it may begin behind the part's last row
  pub begins-at : (n : ℕ) → previous look maker cell first n ≡ previous look maker cell first (min n (base + rows + 1))
  begins-at n = go (leb n (base + rows + 1)) refl
    where
      go : (t : Bool) → leb n (base + rows + 1) ≡ t → previous look maker cell first n ≡ previous look maker cell first (min n (base + rows + 1))
      go true e = let h = leb-true n (base + rows + 1) e in rw (min-eq_left h)
      go false e =
          let h = leb-false n (base + rows + 1) e in
          let behind = skips look maker cell first (base + rows + 1) n (omega arith) (λ k lo hi. rw (behind-part b base rows k (omega arith))) in
          let k : base + rows + 1 ≤ n = omega arith in rw (min-eq_right k) behind

  -- it may stop at the part's first row
  pub stops-before : (n : ℕ) → n ≤ base + 1 → previous look maker cell first n ≡ 0
  stops-before n h = skips look maker cell first 0 n (omega arith) (λ k lo hi. rw (before-part b base rows k (omega arith)))

  pub ends-at : (n : ℕ) → n ≤ max first (base + 1) → previous look maker cell first n ≡ 0
  ends-at n h = go (leb n (base + 1)) refl
    where
      go : (t : Bool) → leb n (base + 1) ≡ t → previous look maker cell first n ≡ 0
      go true e = stops-before n (leb-true n (base + 1) e)
      go false e =
          let k = leb-false n (base + 1) e in
          stops look maker cell first n (omega arith)

-- ── The search in the tail, then in the log ───────────────────────────────────────────────────────────────────────────

-- the search reads the rows below its start alone
pub same-below : (look other : ℕ → Row) (maker cell first n : ℕ) → ((k : ℕ) → k < n → look k ≡ other k)
    → previous look maker cell first n ≡ previous other maker cell first n
same-below look other maker cell first zero h = refl
same-below look other maker cell first (suc n) h = rw (h n (omega arith), same-below look other maker cell first n (λ k l. h k (omega arith)))

module _ (j : Journal) where
  -- the rows of the log, and those of the tail
  abbrev log_row : ℕ → Row
  log_row = row_of_part j.log 0 j.control.stored

  abbrev tail_row : ℕ → Row
  tail_row = row_of_part j.tail j.control.stored j.control.waiting

  pub log-here : (n : ℕ) → n ≤ j.control.stored → look_up j n ≡ log_row n
  log-here zero h = no-row-zero j zero refl
  log-here (suc n) h = rw (in-log j (suc n) (λ e. omega arith) h, part-row j.log 0 j.control.stored (suc n) (omega arith) (omega arith), sub-zero (suc n))

  pub tail-here : (n : ℕ) → j.control.stored < n → look_up j n ≡ tail_row n
  tail-here n h = go (leb n (row_count j)) refl
    where
      go : (t : Bool) → leb n (row_count j) ≡ t → look_up j n ≡ tail_row n
      go true e =
          let l = leb-true n (row_count j) e in
          let k : n - 1 - j.control.stored ≡ n - j.control.stored - 1 = omega arith in
          rw (in_tail j n h l, part-row j.tail j.control.stored j.control.waiting n h l, k)
      go false e = let l = leb-false n (row_count j) e in rw (no_row j n l, behind-part j.tail j.control.stored j.control.waiting n l)

  module _ (maker cell first : ℕ) where
    -- what it finds in the journal below row n: what it finds in the tail, else what it finds in the log
    abbrev Found : ℕ → Type 0
    Found n =
        previous (look_up j) maker cell first n
        ≡ cond (eqb (previous tail_row maker cell first n) 0) (previous log_row maker cell first n) (previous tail_row maker cell first n)

    in-log-alone : (n : ℕ) → n ≤ j.control.stored + 1 → Found n
    in-log-alone n h =
        rw (stops-before j.tail j.control.stored j.control.waiting maker cell first n h)
        (same-below (look_up j) log_row maker cell first n (λ k l. log-here k (omega arith)))

    one_more_lem : (k : ℕ) → j.control.stored < k → Found k → Found (suc k)
    one_more_lem k h below = go (leb first k) refl
      where
        on : (t : Bool) → is_change_by maker cell (tail_row k) ≡ t → first ≤ k → Found (suc k)
        on true e f =
            rw (
              finds (look_up j) maker cell first k (suc k) refl f (omega arith) (rw (tail-here k h) e),
              finds tail_row maker cell first k (suc k) refl f (omega arith) e,
              ne_eqb k 0 (λ z. omega arith),
            )
        on false e f =
            rw (
              passes (look_up j) maker cell first k (suc k) refl f (rw (tail-here k h) e),
              passes tail_row maker cell first k (suc k) refl f e,
              passes log_row maker cell first k (suc k) refl f (rw (behind-part j.log 0 j.control.stored k (omega arith))),
            )
            below

        go : (t : Bool) → leb first k ≡ t → Found (suc k)
        go true e = on (is_change_by maker cell (tail_row k)) refl (leb-true first k e)
        go false e =
            let l = leb-false first k e in
            rw (stops (look_up j) maker cell first (suc k) l, stops tail_row maker cell first (suc k) l, stops log_row maker cell first (suc k) l)

    pub in_parts : (n : ℕ) → Found n
    in_parts zero = in-log-alone 0 (omega arith)
    in_parts (suc k) = go (leb k j.control.stored) refl (in_parts k)
      where
        go : (t : Bool) → leb k j.control.stored ≡ t → Found k → Found (suc k)
        go true e below = let l = leb-true k j.control.stored e in in-log-alone (suc k) (omega arith)
        go false e below = one_more_lem k (leb-false k j.control.stored e) below
