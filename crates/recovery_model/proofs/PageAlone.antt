-- A page redone alone: the log ends after its rows (`end-of-log`), the loop over the log gives what the definition says (`redo-alone`), and a page that
-- passed its check becomes the book's page (`page-alone`).
use Prim.Native.Nat.{ℕ, zero, suc, ◌+◌, ◌-◌, ◌*◌, ◌≤◌, ◌<◌}
use native.Mathlib.Omega.{arith}
use native.Mathlib.Nat.{add-zero, zero-add}
use mathlib.Core.Path.{◌≡◌, ap, sym, ◌∙◌}
use mathlib.Core.Bool.{Bool, true, false, not}
use mathlib.Core.List.{List, [], append-nil}
use lib.ListN.{length, get_or, drop, replicate, get_or-replicate}
use lib.Seq.{get_or-take, get_or-drop, get_or-append-add, ext_get_or}
use lib.IntN.{pos}
use borrow.Author.Tests.{eq-eqb, ne_eqb, lt-ltb}
use Rattle.book.specs.Lists.{first_failing}
use Rattle.book.specs.Numbers.{AreBytes}
use Rattle.book.specs.Rows.{Row}
use Rattle.book.specs.Rules.{allowed_log}
use Rattle.book.specs.Book.{done}
use Rattle.book.specs.RowBytes.{kind_of, row_bytes, row_of}
use Rattle.book.specs.LogBytes.{rows_bytes, log_bytes}
use Rattle.book.proofs.InvariantKept.{few-rows}
use Rattle.book.proofs.Blocks.{first-within}
use Rattle.book.proofs.RowBytes.{row-kind, kind-known}
use Rattle.book.proofs.LogBytes.{rows_long, log-exact}
use Rattle.tables.proofs.Flat.{tabulate-length, tabulate-at}
use Rattle.wal.specs.Looking.{row_bytes_at}
use Rattle.wal.proofs.RowsLookedUp.{row-bytes-at}
use Rattle.recovery_model.specs.Charts.{redo_page}
use Rattle.recovery_model.specs.PageAlone.{has_kind, end_of, rows_in, redone_bytes, redone_alone, PageAlone}
use Rattle.recovery_model.proofs.LogRows.{row_read}
use Rattle.recovery_model.proofs.RedoneBytes.{redone-passed}
use Rattle.recovery_model.proofs.RedoMeans.{redo-any}

-- ── The end of the log ────────────────────────────────────────────────────────────────────────────────────────────────

-- k numbers pass, and the next fails, if there is one
pub first-is : (n from k : ℕ) (P : ℕ → Bool) → k ≤ n → ((i : ℕ) → i < k → P (from + i) ≡ true) → (k < n → P (from + k) ≡ false)
    → first_failing n from P ≡ from + k
first-is zero from k P h t f = omega arith
first-is (suc n) from zero P h t f = let z : P from ≡ false = ap P (sym (add-zero from)) ∙ f (omega arith) in rw z (sym (add-zero from))
first-is (suc n) from (suc k) P h t f =
    let z : P from ≡ true = ap P (sym (add-zero from)) ∙ t 0 (omega arith) in
    rw z (first-is n (suc from) k P (omega arith) (λ i l. ap P (next i) ∙ t (suc i) (omega arith)) (λ l. ap P (next k) ∙ f (omega arith)) ∙ next k)
  where
    next : (i : ℕ) → suc from + i ≡ from + suc i
    next i = omega arith

-- the kind of row k, counted from 0
kind_at : (log : List ℕ) (k : ℕ) → get_or log (16 * k) 0 ≡ get_or (row_bytes_at log k) 0 0
kind_at log k =
    let e : 16 * k + 0 ≡ 16 * k = omega arith in
    ap (λ (i : ℕ). get_or log i 0) (sym e) ∙ sym (get_or-take {A = ℕ} 16 (drop (16 * k) log) 0 0 (omega arith) ∙ get_or-drop (16 * k) log 0 0)

module _ (rs : List Row) (al : allowed_log rs ≡ true) where
  row-set : (k : ℕ) → k < length rs → has_kind (log_bytes rs) k ≡ true
  unfolding log_bytes
  row-set k h =
      let r = get_or rs k (Row.begin 0) in
      let n = kind-known r in
      let e : get_or (log_bytes rs) (16 * k) 0 ≡ kind_of r =
      kind_at (log_bytes rs) k ∙ ap (λ (b : List ℕ). get_or b 0 0) (row-bytes-at rs 1 k _ (Row.begin 0) h ∙ sym (append-nil (row_bytes (1 + k) r))) ∙
      row-kind (1 + k) r [] in
      rw e (ap not (ne_eqb (kind_of r) 0 (λ q. omega arith)))

  row-blank : length rs < 4096 → has_kind (log_bytes rs) (length rs) ≡ false
  unfolding log_bytes
  row-blank h =
      let n = rows_long 1 rs in
      let rest = 65536 - length (rows_bytes 1 rs) in
      let at : 16 * length rs ≡ length (rows_bytes 1 rs) + 0 = omega arith in
      let z : get_or (log_bytes rs) (16 * length rs) 0 ≡ 0 =
      ap (λ (i : ℕ). get_or (log_bytes rs) i 0) at ∙ get_or-append-add (rows_bytes 1 rs) (replicate rest 0) 0 0 ∙ get_or-replicate rest 0 0 0 (omega arith) in
      rw z

  pub end-of-log : end_of (log_bytes rs) ≡ length rs
  unfolding end_of
  end-of-log =
      first-is 4096 0 (length rs) (has_kind (log_bytes rs)) (few-rows rs al) (λ i h. ap (has_kind (log_bytes rs)) (zero-add i) ∙ row-set i h)
      (λ h. ap (has_kind (log_bytes rs)) (zero-add (length rs)) ∙ row-blank h) ∙
      zero-add (length rs)

-- ── The rows before it ────────────────────────────────────────────────────────────────────────────────────────────────

module _ (log : List ℕ) where
  rows-count : length (rows_in log) ≡ end_of log
  unfolding rows_in
  rows-count = tabulate-length (end_of log) 0 _

  -- row k, counted from 0
  row-in-log : (k : ℕ) → k < length (rows_in log) → row_of (row_bytes_at log k) ≡ get_or (rows_in log) k (Row.begin 0)
  unfolding rows_in
  row-in-log k h =
      let n = rows-count in
      ap (λ (i : ℕ). row_of (row_bytes_at log i)) (sym (zero-add k)) ∙
      sym (tabulate-at (end_of log) 0 k (λ i. row_of (row_bytes_at log i)) (Row.begin 0) (omega arith))

  pub end-within : end_of log ≤ 4096
  unfolding end_of
  end-within = first-within 4096 0 (has_kind log)

  pub few-in-log : length (rows_in log) ≤ 4096
  few-in-log = let n = rows-count in let m = end-within in omega arith

  -- the loop over the log, of any page
  pub redo-alone : (p : ℕ) (bs : List ℕ) → length bs ≡ 32 → AreBytes bs → redo_page log (end_of log) p bs ≡ redone_bytes (rows_in log) p bs
  redo-alone p bs long bytes = ap (λ (n : ℕ). redo_page log n p bs) (sym rows-count) ∙ redo-any log (rows_in log) row-in-log p bs long bytes

rows-in-log : (rs : List Row) → allowed_log rs ≡ true → rows_in (log_bytes rs) ≡ rs
unfolding log_bytes
rows-in-log rs al =
    let n = rows-count (log_bytes rs) in
    let m = end-of-log rs al in
    ext_get_or (Row.begin 0) (rows_in (log_bytes rs)) rs (n ∙ m) (λ k h. sym (row-in-log (log_bytes rs) k h) ∙ row_read rs _ k al (omega arith))

-- ── What is answered and left ─────────────────────────────────────────────────────────────────────────────────────────

-- where nothing is refused
pub alone-done : (log : List ℕ) (p : ℕ) (bs : List ℕ) → length log ≡ 65536 → length bs ≡ 32 → p < 32
    → redone_alone log p bs ≡ record { answer = done (pos 0); page = redone_bytes (rows_in log) p bs }
unfolding redone_alone
alone-done log p bs long size h = rw (eq-eqb (length log) 65536 long, eq-eqb (length bs) 32 size, lt-ltb p 32 h)

pub page-alone : PageAlone
unfolding PageAlone
page-alone log rs long e p bs h size good =
    let k = log-exact log rs long e in
    alone-done log p bs long size h ∙
    ap (λ (page : List ℕ). record { answer = done (pos 0); page = page })
    (ap (λ (l : List ℕ). redone_bytes (rows_in l) p bs) k.1 ∙ ap (λ (l : List Row). redone_bytes l p bs) (rows-in-log rs k.0) ∙ redone-passed rs p bs good)
