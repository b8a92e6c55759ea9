-- Demand 2, its half on reading (document 00): "an opening reads every log that the row rules allow as those events and refuses every other"; and by which
-- number it refuses (document 02, L8).
use Rattle.std.specs.Prelude.{ℕ, suc, ◌-◌, ◌*◌, ◌≤◌, ◌<◌, true, false, ◌&&◌, ◌≡◌, ◌≢◌, ◌↔◌, List, [], ◌∷◌, length, get_or, take, drop}
use Rattle.book.specs.Lists.{member}
use Rattle.book.specs.Limits.{row_limit, row_length, log_length, kind_limit}
use Rattle.book.specs.Rows.{Row, fits}
use Rattle.book.specs.Ledger.{Ledger, ledger}
use Rattle.book.specs.Rules.{lawful, within_limits, allowed_log}
use Rattle.book.specs.Numbers.{AreBytes, number}
use Rattle.book.specs.RowBytes.{may_be, row_of}
use Rattle.book.specs.LogBytes.{log_bytes, good, bad, read_log}

-- the bytes of the first n rows
abbrev pub first_rows : ℕ → List ℕ → List ℕ
first_rows n bs = take (row_length * n) bs

-- the 16 bytes of row n
abbrev pub bytes_of_row : ℕ → List ℕ → List ℕ
bytes_of_row n bs = take row_length (drop (row_length * (n - 1)) bs)

-- 01: n is the first row that is not allowed, or that has a byte after the end which is not zero: the bytes before row n are those of an allowed log of fewer
-- rows than n, and no allowed log has those of row n as well
pub record FirstBad (bs : List ℕ) (n : ℕ) : Type 0 where
  pub from : 1 ≤ n
  pub to : n ≤ row_limit
  pub rows : List Row
  pub before : allowed_log rows ≡ true
  pub few : length rows < n
  pub agrees : first_rows (n - 1) (log_bytes rows) ≡ first_rows (n - 1) bs
  pub none : (rs : List Row) → allowed_log rs ≡ true → first_rows n (log_bytes rs) ≡ first_rows n bs → ⊥

-- ── 02, L8: why row n, with these 16 bytes, is not allowed after the rows that come to `l` ────────────────────────────

-- 3: "unknown kind, a byte that must be zero, a wrong own number, bytes after the end". The log has ended before row n where fewer rows than n - 1 come before
-- it, or its kind is 0.
pub data WrongBytes (l : Ledger) (n : ℕ) (bs : List ℕ) : Type 0 where
  after_end : suc l.rows < n → WrongBytes l n bs
  at_end : get_or bs 0 0 ≡ 0 → WrongBytes l n bs
  unknown_kind : kind_limit < get_or bs 0 0 → WrongBytes l n bs
  set_byte : (i : ℕ) → may_be (get_or bs 0 0) i ≡ 0 → get_or bs i 0 ≢ 0 → WrongBytes l n bs
  other_number : number 2 bs 4 ≢ n → WrongBytes l n bs

-- 16: "a visit, cell, holder or undo rule"; the ranges of visits, cells and rows undone are such rules
pub record BreaksRule (l : Ledger) (n : ℕ) (bs : List ℕ) : Type 0 where
  pub bytes : WrongBytes l n bs → ⊥
  pub rule : (fits (row_of bs) && lawful l (row_of bs)) ≡ false

-- 17: "sixteen visits, the scopes or the free rows"
pub record OverLimit (l : Ledger) (n : ℕ) (bs : List ℕ) : Type 0 where
  pub bytes : WrongBytes l n bs → ⊥
  pub rules : (fits (row_of bs) && lawful l (row_of bs)) ≡ true
  pub limit : within_limits l (row_of bs) ≡ false

-- the reason, by its number
pub data Reason (l : Ledger) (n : ℕ) (bs : List ℕ) : ℕ → Type 0 where
  wrong_bytes : WrongBytes l n bs → Reason l n bs 3
  breaks_rule : BreaksRule l n bs → Reason l n bs 16
  over_limit : OverLimit l n bs → Reason l n bs 17

abbrev pub log_numbers : List ℕ
log_numbers = 3 ∷ 16 ∷ 17 ∷ []

-- row n is the first bad one, and this is the number of the reason
abbrev pub BadFor : List ℕ → ℕ → ℕ → Type 0
BadFor bs k n = (x : FirstBad bs n) × Reason (ledger x.rows) n (bytes_of_row n bs) k

-- of any 65,536 numbers
pub record ReadsExactly (bs : List ℕ) : Type 0 where
  -- read as these rows exactly when they are allowed and the bytes are theirs
  pub reads : (rs : List Row) → (read_log bs ≡ good rs) ↔ ((allowed_log rs ≡ true) × (bs ≡ log_bytes rs))
  -- every other log is refused by 3, 16 or 17, with the first row not allowed
  pub refuses : (k n : ℕ) → read_log bs ≡ bad k n → (member k log_numbers ≡ true) × FirstBad bs n
  -- and, of bytes, by this number exactly when it is that of the reason
  pub reason : AreBytes bs → (k n : ℕ) → (read_log bs ≡ bad k n) ↔ BadFor bs k n

unfoldable pub Demand2Reading : Type 0
Demand2Reading = (bs : List ℕ) → length bs ≡ log_length → ReadsExactly bs
