-- The turns of the loops that check a log. Assumes nothing.
use Rattle.std.proofs.Common.{◌≡◌, ℕ, suc, ◌+◌, ◌-◌, ◌<◌, ◌≤◌, true, false, Option, Some, None, is_some, Result, Ok, Err, is_ok, List, refl, add-one, arith, ap}
use Rattle.std.specs.Option.{option_or}
use Rattle.book.specs.Rows as book
use Rattle.rows.specs.Reading.{is_blank, read_of}
use Rattle.rows.specs.Meaning.{meant}
use Rattle.rows.specs.declared.Read.{Read}
use Rattle.rows.specs.declared.Read.TheVariants.{Valid, Blank, Malformed, OutOfRange}
use Rattle.tables_model.specs.declared.Breach.{Breach}
use Rattle.tables_model.specs.Visits.{InRange}
use Rattle.tables_model.specs.Rows.{Index, judge_by}
use Rattle.tables_model.specs.Lookup.{before_undone}
use Rattle.tables.proofs.Verdicts.{allowed-takes}
use Rattle.tables.proofs.Ranges.{step_range}
use Rattle.wal.specs.Looking.{row_bytes_at}
use Rattle.recovery_model.specs.declared.BadRow.{BadRow}
use Rattle.recovery_model.specs.declared.Reason.{Reason}
use Rattle.recovery_model.specs.declared.Reason.TheVariants.{Bytes}
use Rattle.recovery_model.specs.Scan.{row_in, Taken, Ends, Bad, Judgement, bad_at, ruled, judged_read, judge_row, Scanned, scan_from, first_set, scanned}

left : (i : ℕ) → i < 4096 → 4096 - i ≡ suc (4096 - (i + 1))
left i h = omega arith

none_left : (i : ℕ) → 4096 ≤ i → 4096 - i ≡ 0
none_left i h = omega arith

-- ── Past the end ──────────────────────────────────────────────────────────────────────────────────────────────────────

module _ (i : ℕ) (log : List ℕ) where
  pub blank_turn : i < 4096 → is_blank (row_bytes_at log i) ≡ true → first_set (4096 - i) i log ≡ first_set (4096 - (i + 1)) (i + 1) log
  unfolding first_set
  blank_turn h e = rw (left i h, e, add-one i)

  pub set-turn : i < 4096 → is_blank (row_bytes_at log i) ≡ false → first_set (4096 - i) i log ≡ Some (bad_at (i + 1) Bytes)
  unfolding first_set
  set-turn h e = rw (left i h, e, add-one i)

  pub set-end : 4096 ≤ i → first_set (4096 - i) i log ≡ None
  unfolding first_set
  set-end h = rw (none_left i h)

-- ── A row that the tables allow ───────────────────────────────────────────────────────────────────────────────────────

pub allowed : (r : Result (Unit {0}) Breach) → true ≡ is_ok r → Ok tt ≡ r
allowed (Ok u) e = refl
allowed (Err b) e = cc

-- ── Row by row ────────────────────────────────────────────────────────────────────────────────────────────────────────

module _ (k : ℕ) (log : List ℕ) (x : Index) where
  module _ (j : Judgement) (h : k < 4096) (e : j ≡ judge_row log k x) where
    pub taken-turn : j.judged ≡ Taken → scan_from (4096 - k) k log x ≡ scan_from (4096 - (k + 1)) (k + 1) log j.index
    unfolding scan_from
    taken-turn t = rw (left k h, ← e, t, add-one k)

    pub ends-turn : j.judged ≡ Ends → scan_from (4096 - k) k log x ≡ record { rows = k; bad = None; index = j.index }
    unfolding scan_from
    ends-turn t = rw (left k h, ← e, t)

    pub bad-turn : (why : Reason) → j.judged ≡ Bad why → scan_from (4096 - k) k log x ≡ record { rows = k; bad = Some (bad_at (k + 1) why); index = j.index }
    unfolding scan_from
    bad-turn why t = rw (left k h, ← e, t, add-one k)

  pub scan-end : 4096 ≤ k → scan_from (4096 - k) k log x ≡ record { rows = k; bad = None; index = x }
  unfolding scan_from
  scan-end h = rw (none_left k h)

-- ── The counters stay within the arrays ───────────────────────────────────────────────────────────────────────────────

-- the counters of both tables are within them
abbrev pub Ranged : Index → Type 0
Ranged x = InRange x.tables.count x.tables.used

module _ (log : List ℕ) (k : ℕ) (x : Index) (h : Ranged x) where
  ruled-range : (named r : book.Row) (v : Result (Unit {0}) Breach) → judge_by x k named r ≡ v → Ranged (ruled log k x r v).index
  ruled-range named r (Ok u) e = step_range x (suc k) (before_undone (row_in log k) x r) r h (allowed-takes x k named r e)
  ruled-range named r (Err b) e = h

  read-range : (b : Read) → Ranged (judged_read log k x b).index
  read-range Blank = h
  read-range Malformed = h
  read-range OutOfRange = h
  read-range (Valid row) = let named = row_in log k (book.undone_by (meant row)) in ruled-range named (meant row) (judge_by x k named (meant row)) refl

  pub judged-range : Ranged (judge_row log k x).index
  unfolding judge_row
  judged-range = read-range (read_of (suc k) (row_bytes_at log k))

-- ── The whole log ─────────────────────────────────────────────────────────────────────────────────────────────────────

module _ (log : List ℕ) (x : Index) (s : Scanned) (e : s ≡ scan_from 4096 0 log x) where
  -- the rows are all good, so the bytes behind them decide
  pub all-rows : is_some s.bad ≡ false → (late : Option BadRow) → late ≡ first_set (4096 - s.rows) s.rows log
      → record { rows = s.rows; bad = late; index = s.index } ≡ scanned log x
  unfolding scanned
  all-rows z late f = rw (← e, ← f) (ap with_bad (go s.bad z))
    where
      with_bad : Option BadRow → Scanned
      with_bad o = record { rows = s.rows; bad = o; index = s.index }

      go : (o : Option BadRow) → is_some o ≡ false → late ≡ option_or o late
      go None z = refl
      go (Some b) z = cc

  pub bad-row : is_some s.bad ≡ true → s ≡ scanned log x
  unfolding scanned
  bad-row z = rw (← e) (ap with_bad (go s.bad z))
    where
      late : Option BadRow
      late = first_set (4096 - s.rows) s.rows log

      with_bad : Option BadRow → Scanned
      with_bad o = record { rows = s.rows; bad = o; index = s.index }

      go : (o : Option BadRow) → is_some o ≡ true → o ≡ option_or o late
      go (Some b) z = refl
      go None z = cc
