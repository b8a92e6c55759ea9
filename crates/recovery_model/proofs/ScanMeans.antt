-- The check of a log finds what the row rules say: the rows and their tables, or the first bad row and its number (`scan_good`, `scan-bad`).
use Prim.Native.Nat.{ℕ, zero, suc, ◌+◌, ◌-◌, ◌*◌, ◌≤◌}
use native.Mathlib.Omega.{arith}
use mathlib.Core.Path.{◌≡◌, refl, ap, sym, ◌∙◌, subst}
use mathlib.Core.Bool.{Bool, true, false, cond, not, ◌&&◌}
use mathlib.Core.List.{List, [], ◌∷◌, ◌++◌, append_assoc, append-nil}
use lib.ListN.{length, length-append, get_or, take, drop, take-append-drop}
use lib.Seq.{drop_at, drop-drop, get_or-take}
use lib.Dec.{eqb}
use Rattle.std.specs.Option.{option_or}
use Rattle.std.specs.Prelude.{Option, Some, None}
use borrow.Author.Tests.{eqb-true, eqb-false}
use Rattle.book.specs.Limits.{row_limit}
use Rattle.book.specs.Rows.{Row, undone_by, fits}
use Rattle.book.specs.Ledger.{Ledger, empty, after, ledger}
use Rattle.book.specs.Rules.{lawful, within_limits, allowed, allowed_log}
use Rattle.book.specs.RowBytes.{row_of, is_row_bytes}
use Rattle.book.specs.Pages.{row_at}
use Rattle.book.specs.LogBytes.{rows_bytes, judge, Log, good, bad, cons_log, read_end, read_rows, read_log}
use Rattle.book.proofs.Lists.{clash, and_i, and_l, and_r}
use Rattle.book.proofs.Logs.{allowed-append, ledger-append}
use Rattle.book.proofs.RowBytes.{row-exact}
use Rattle.book.proofs.LogBytes.{rows_long, judge-exact}
use Rattle.rows.specs.declared.Read.TheVariants.{Valid}
use Rattle.rows.specs.Meaning.{coded}
use Rattle.rows.specs.Reading.{read_by, read_of, is_blank}
use Rattle.rows.proofs.Meanings.{meant-coded}
use Rattle.rows.proofs.RoundTrip.{read-blank, read-zero, read-kind}
use Rattle.tables_model.specs.Rows.{Index, verdict, judge_by}
use Rattle.tables_model.specs.Lookup.{index_of}
use Rattle.tables_model.proofs.Judge.{judge-by}
use Rattle.tables_model.proofs.Step.{step_by_lem}
use Rattle.tables_model.proofs.Simulation.{index-empty}
use Rattle.recovery_model.specs.declared.BadRow.{BadRow}
use Rattle.recovery_model.specs.declared.Reason.{Reason}
use Rattle.recovery_model.specs.declared.Reason.TheVariants.{Bytes, Rule, Limit}
use Rattle.recovery_model.specs.Scan.{row_in, number_of_reason, Judged, Taken, Ends, Bad, Judgement, ruled, judged_read, judge_row, Scanned, bad_at, scan_on, scan_from, first_set, scanned}
use Rattle.recovery_model.specs.Openings.{no_index}
use Rattle.recovery_model.proofs.LogRows.{next_row, row-in}

-- ── The bytes after the last row ──────────────────────────────────────────────────────────────────────────────────────

-- the rest of a log from row k on
next-rest : (log bs : List ℕ) (k : ℕ) → drop (16 * k) log ≡ bs → drop (16 * suc k) log ≡ drop 16 bs
next-rest log bs k e = ap (λ (n : ℕ). drop n log) (at k) ∙ sym (drop-drop 16 (16 * k) log) ∙ ap (drop 16) e
  where
    at : (k : ℕ) → 16 * suc k ≡ 16 * k + 16
    at k = omega arith

-- no row, or the first row with a byte that is not zero
EndsAt : Option BadRow → Log → Type 0
EndsAt n (good rs) = (rs ≡ []) × (n ≡ None)
EndsAt n (bad i m) = (n ≡ Some (bad_at m Bytes)) × (number_of_reason Bytes ≡ i)

end-scanned : (m k : ℕ) (log bs : List ℕ) → drop (16 * k) log ≡ bs → EndsAt (first_set m k log) (read_end m (suc k) bs)
unfolding EndsAt first_set
end-scanned zero k log bs e = (refl, refl)
end-scanned (suc m) k log bs e = rw e (go (is_blank (take 16 bs)) (end-scanned m (suc k) log (drop 16 bs) (next-rest log bs k e)))
  where
    go : (t : Bool) → EndsAt (first_set m (suc k) log) (read_end m (suc (suc k)) (drop 16 bs))
        → EndsAt (cond t (first_set m (suc k) log) (Some (bad_at (suc k) Bytes))) (cond t (read_end m (suc (suc k)) (drop 16 bs)) (bad 3 (suc k)))
    go true ih = ih
    go false ih = (refl, refl)

-- ── One row ───────────────────────────────────────────────────────────────────────────────────────────────────────────

abbrev judgement : Judged → Index → Judgement
judgement j x = record { judged = j; index = x }

-- a row is bad for a reason with this number, and the tables are as before it
record Refused (j : Judgement) (x : Index) (n : ℕ) : Type 0 where
  why : Reason
  is : j ≡ judgement (Bad why) x
  number : number_of_reason why ≡ n

-- the bytes after allowed rows, and the row that comes next
module _ (rs : List Row) (al : allowed_log rs ≡ true) (log bs : List ℕ) (is : log ≡ rows_bytes 1 rs ++ bs) where
  before : Index
  before = index_of (ledger rs)

  next : Row
  next = row_of (take 16 bs)

  looks : (n : ℕ) → 1 ≤ n → n ≤ length rs → row_in log (length rs) n ≡ row_at rs n
  looks n low high = ap (λ (l : List ℕ). row_in l (length rs) n) is ∙ row-in rs bs n al low

  rest-is : drop (16 * length rs) log ≡ bs
  rest-is = ap (drop (16 * length rs)) is ∙ drop_at (rows_bytes 1 rs) bs (16 * length rs) (rows_long 1 rs)

  -- it is judged by what its bytes are read as
  read_here : judge_row log (length rs) before ≡ judged_read log (length rs) before (read_of (suc (length rs)) (take 16 bs))
  unfolding judge_row
  read_here = ap (λ (b : List ℕ). judged_read log (length rs) before (read_of (suc (length rs)) (take 16 b))) rest-is

  top : get_or (take 16 bs) 0 0 ≡ get_or bs 0 0
  top = get_or-take 16 bs 0 0 (omega arith)

  row-blank : is_blank (take 16 bs) ≡ true → judge_row log (length rs) before ≡ judgement Ends before
  row-blank e = read_here ∙ ap (judged_read log (length rs) before) (read-blank (suc (length rs)) (take 16 bs) e)

  row_zero : get_or bs 0 0 ≡ 0 → is_blank (take 16 bs) ≡ false → judge_row log (length rs) before ≡ judgement (Bad Bytes) before
  row_zero z e = read_here ∙ ap (judged_read log (length rs) before) (read-zero (suc (length rs)) (take 16 bs) (top ∙ z) e)

  -- a row whose bytes and fields are right is judged by the row rules
  row-ruled : judged_read log (length rs) before (Valid (coded next))
      ≡ ruled log (length rs) before next (verdict (lawful (ledger rs) next) (within_limits (ledger rs) next))
  unfolding before
  row-ruled =
      ap (λ (r : Row). ruled log (length rs) before r (judge_by before (length rs) (row_in log (length rs) (undone_by r)) r)) (meant-coded next) ∙
      ap (ruled log (length rs) before next) (judge-by rs al next (row_in log (length rs) (undone_by next)) (looks (undone_by next)))

  row-kind : 1 ≤ get_or bs 0 0 → judge_row log (length rs) before
      ≡ judged_read log (length rs) before (read_by (is_row_bytes (suc (length rs)) (take 16 bs)) (fits next) (take 16 bs))
  unfolding next
  row-kind h = read_here ∙ ap (judged_read log (length rs) before) (read-kind (suc (length rs)) (take 16 bs) (rw top h))

  row-taken : 1 ≤ get_or bs 0 0 → judge (ledger rs) (suc (length rs)) (take 16 bs) ≡ 0
      → judge_row log (length rs) before ≡ judgement Taken (index_of (after (ledger rs) next))
  unfolding next before allowed
  row-taken h e =
      let k = judge-exact (ledger rs) (suc (length rs)) (take 16 bs) e in
      let fit : fits next ≡ true = search (and_l, and_r) in
      let law : lawful (ledger rs) next ≡ true = search (and_l, and_r) in
      let within : within_limits (ledger rs) next ≡ true = search (and_l, and_r) in
      rw (row-kind h, k.0, fit, row-ruled, law, within) (ap (judgement Taken) (step_by_lem rs al (row_in log (length rs)) looks next k.1))

  -- what does not pass is bad: by its bytes, then by the rules, then by the limits
  row-bad : 1 ≤ get_or bs 0 0 → eqb (judge (ledger rs) (suc (length rs)) (take 16 bs)) 0 ≡ false
      → Refused (judge_row log (length rs) before) before (judge (ledger rs) (suc (length rs)) (take 16 bs))
  unfolding judge next
  row-bad h e =
      rw (row-kind h) (go (is_row_bytes (suc (length rs)) (take 16 bs)) (fits next) (lawful (ledger rs) next) (within_limits (ledger rs) next) row-ruled e)
    where
      tested : (s f t u : Bool) → ℕ
      tested s f t u = cond (not s) 3 (cond (not (f && t)) 16 (cond (not u) 17 0))

      go : (s f t u : Bool)
          → judged_read log (length rs) before (Valid (coded next)) ≡ ruled log (length rs) before next (verdict t u)
          → eqb (tested s f t u) 0 ≡ false
          → Refused (judged_read log (length rs) before (read_by s f (take 16 bs))) before (tested s f t u)
      go false f t u valid e = record { why = Bytes; is = refl; number = refl }
      go true false t u valid e = record { why = Rule; is = refl; number = refl }
      go true true false u valid e = record { why = Rule; is = valid; number = refl }
      go true true true false valid e = record { why = Limit; is = valid; number = refl }
      go true true true true valid e = clash true refl e

-- ── The rows ──────────────────────────────────────────────────────────────────────────────────────────────────────────

-- what is made of the rows that were found: the bytes after them have to be zero
abbrev ended : List ℕ → Scanned → Scanned
ended log s = record { rows = s.rows; bad = option_or s.bad (first_set (row_limit - s.rows) s.rows log); index = s.index }

-- so many rows, none of them bad
abbrev pub all-good : List Row → Scanned
all-good rs = record { rows = length rs; bad = None; index = index_of (ledger rs) }

-- row n is the first bad one, for a reason with this number
pub record Rejects (s : Scanned) (i n : ℕ) : Type 0 where
  pub why : Reason
  pub is : s.bad ≡ Some (bad_at n why)
  pub number : number_of_reason why ≡ i

-- the check finds what is read: after these rows others and their tables, or the first bad row and its number
Finds : List Row → Scanned → Log → Type 0
Finds rs s (good more) = s ≡ all-good (rs ++ more)
Finds rs s (bad i n) = Rejects s i n

finds-cons : (rs : List Row) (r : Row) (s : Scanned) (x : Log) → Finds (rs ++ (r ∷ [])) s x → Finds rs s (cons_log r x)
unfolding Finds
finds-cons rs r s (good more) f = f ∙ ap all-good (append_assoc rs (r ∷ []) more)
finds-cons rs r s (bad i n) f = f

-- the log ends after these rows
finds-end : (rs : List Row) (m : ℕ) (log : List ℕ) (x : Log) → length rs + m ≡ row_limit → EndsAt (first_set m (length rs) log) x
    → Finds rs (ended log (all-good rs)) x
unfolding EndsAt Finds
finds-end rs m log (good more) h k =
    let left : row_limit - length rs ≡ m = omega arith in
    rw (left, k.1, k.0, append-nil rs)
finds-end rs m log (bad i n) h k =
    let left : row_limit - length rs ≡ m = omega arith in
    record { why = Bytes; is = rw (left, k.0); number = k.1 }

scan-finds : (m : ℕ) (rs : List Row) → allowed_log rs ≡ true → (log bs : List ℕ) → log ≡ rows_bytes 1 rs ++ bs → length rs + m ≡ row_limit
    → Finds rs (ended log (scan_from m (length rs) log (index_of (ledger rs)))) (read_rows m (suc (length rs)) (ledger rs) bs)
unfolding scan_from before next EndsAt first_set Finds
scan-finds zero rs al log bs is h = finds-end rs 0 log (good []) h (refl, refl)
scan-finds (suc m) rs al log bs is h =
    go (eqb (get_or bs 0 0) 0) refl (eqb (judge (ledger rs) (suc (length rs)) (take 16 bs)) 0) refl
    (λ good same. scan-finds m (rs ++ (row_of (take 16 bs) ∷ [])) good log (drop 16 bs) same (let n = length-append rs (row_of (take 16 bs) ∷ []) in omega arith))
  where
    k : ℕ
    k = length rs

    x : Index
    x = index_of (ledger rs)

    r : Row
    r = row_of (take 16 bs)

    done : List Row
    done = rs ++ (r ∷ [])

    at : Judgement → Scanned
    at j = ended log (scan_on j.judged k j.index (scan_from m (suc k) log))

    rest : Log
    rest = read_rows m (suc (suc k)) (after (ledger rs) r) (drop 16 bs)

    -- the row is bad
    refused : {i : ℕ} → Refused (judge_row log k x) x i → Finds rs (at (judge_row log k x)) (bad i (suc k))
    refused r = record { why = r.why; is = ap (λ (j : Judgement). (at j).bad) r.is; number = r.number }

    -- the log ends here
    ends : get_or bs 0 0 ≡ 0 → (t : Bool) → is_blank (take 16 bs) ≡ t
        → Finds rs (at (judge_row log k x)) (cond t (read_end m (suc (suc k)) (drop 16 bs)) (bad 3 (suc k)))
    ends z true e =
        subst (λ (j : Judgement). Finds rs (at j) (read_end m (suc (suc k)) (drop 16 bs))) (sym (row-blank rs al log bs is e))
        (finds-end rs (suc m) log (read_end m (suc (suc k)) (drop 16 bs)) h (rw e at (end-scanned (suc m) k log bs (rest-is rs al log bs is))))
    ends z false e = refused (record { why = Bytes; is = row_zero rs al log bs is z e; number = refl })

    moved : (n : ℕ) (l : Ledger) → n ≡ suc k → l ≡ after (ledger rs) r
        → Finds done (ended log (scan_from m n log (index_of l))) (read_rows m (suc n) l (drop 16 bs))
        → Finds done (ended log (scan_from m (suc k) log (index_of (after (ledger rs) r)))) rest
    moved n l p q f =
        subst (λ (n : ℕ). Finds done (ended log (scan_from m n log (index_of (after (ledger rs) r)))) (read_rows m (suc n) (after (ledger rs) r) (drop 16 bs))) p
        (subst (λ (l : Ledger). Finds done (ended log (scan_from m n log (index_of l))) (read_rows m (suc n) l (drop 16 bs))) q f)

    go : (s : Bool) → eqb (get_or bs 0 0) 0 ≡ s → (t : Bool) → eqb (judge (ledger rs) (suc k) (take 16 bs)) 0 ≡ t
        → (allowed_log done ≡ true → log ≡ rows_bytes 1 done ++ drop 16 bs
        → Finds done (ended log (scan_from m (length done) log (index_of (ledger done)))) (read_rows m (suc (length done)) (ledger done) (drop 16 bs)))
        → Finds rs (at (judge_row log k x))
        (cond s (read_end (suc m) (suc k) bs) (cond t (cons_log r rest) (bad (judge (ledger rs) (suc k) (take 16 bs)) (suc k))))
    go true p t q ih = ends (eqb-true (get_or bs 0 0) 0 p) (is_blank (take 16 bs)) refl
    go false p true q ih =
        let ne = eqb-false (get_or bs 0 0) 0 p in
        let zero = eqb-true (judge (ledger rs) (suc k) (take 16 bs)) 0 q in
        let row = judge-exact (ledger rs) (suc k) (take 16 bs) zero in
        let count : length done ≡ suc k = let n = length-append rs (r ∷ []) in omega arith in
        let after_is : ledger done ≡ after (ledger rs) r = ledger-append rs (r ∷ []) in
        let good : allowed_log done ≡ true = allowed-append empty rs (r ∷ []) ∙ and_i _ _ al (and_i _ _ row.1 refl) in
        let same : log ≡ rows_bytes 1 done ++ drop 16 bs =
        is ∙ ap (λ (b : List ℕ). rows_bytes 1 rs ++ b) (sym (take-append-drop 16 bs)) ∙ sym (append_assoc (rows_bytes 1 rs) (take 16 bs) (drop 16 bs)) ∙
        ap (λ (b : List ℕ). rows_bytes 1 rs ++ b ++ drop 16 bs) (row-exact (suc k) (take 16 bs) row.0) ∙
        ap (λ (b : List ℕ). b ++ drop 16 bs) (sym (next_row rs r)) in
        subst (λ (j : Judgement). Finds rs (at j) (cons_log r rest)) (sym (row-taken rs al log bs is (omega arith) zero))
        (finds-cons rs r (at (judgement Taken (index_of (after (ledger rs) r)))) rest (moved (length done) (ledger done) count after_is (ih good same)))
    go false p false q ih =
        let ne = eqb-false (get_or bs 0 0) 0 p in
        refused (row-bad rs al log bs is (omega arith) q)

-- ── The log ───────────────────────────────────────────────────────────────────────────────────────────────────────────

log-finds : (log : List ℕ) → Finds [] (scanned log no_index) (read_log log)
unfolding scanned read_log
log-finds log = start row_limit refl no_index index-empty
  where
    start : (m : ℕ) → 0 + m ≡ row_limit → (x : Index) → index_of empty ≡ x → Finds [] (ended log (scan_from m 0 log x)) (read_rows m 1 empty log)
    start m e x i = subst (λ (x : Index). Finds [] (ended log (scan_from m 0 log x)) (read_rows m 1 empty log)) i (scan-finds m [] refl log log refl e)

-- a log that is read as some rows: their number, and the tables of their ledger
pub scan_good : (log : List ℕ) (rs : List Row) → read_log log ≡ good rs → scanned log no_index ≡ all-good rs
unfolding Finds
scan_good log rs e = subst (Finds [] (scanned log no_index)) e (log-finds log)

-- a log that is refused: the first bad row, and the number of the reason
pub scan-bad : (log : List ℕ) (i n : ℕ) → read_log log ≡ bad i n → Rejects (scanned log no_index) i n
unfolding Finds
scan-bad log i n e = subst (Finds [] (scanned log no_index)) e (log-finds log)
