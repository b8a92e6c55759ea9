-- 02, L7: "Old logs mean the same" (specs/OldLogs): a visit of up to 255 has no high byte.
use Prim.Native.Nat.{ℕ, suc, ◌/◌, ◌%◌}
use native.Mathlib.Omega.{arith}
use mathlib.Core.Path.{◌≡◌, refl, ap, ap₂, sym, ◌∙◌}
use mathlib.Core.Bool.{true, ◌&&◌}
use mathlib.Core.List.{List, [], ◌∷◌, ◌++◌}
use lib.Dec.{leb}
use borrow.Author.Tests.{leb-true, le-leb}
use Rattle.book.specs.Lists.{pad_to}
use Rattle.book.specs.Limits.{visit_limit, log_length}
use Rattle.book.specs.Rows.{Row, is_visit, is_cell, is_row_number, fits}
use Rattle.book.specs.Ledger.{Ledger, empty, after}
use Rattle.book.specs.Rules.{lawful, within_limits, allowed, all_allowed}
use Rattle.book.specs.RowBytes.{row_bytes}
use Rattle.book.specs.LogBytes.{log_bytes, rows_bytes, read_log}
use Rattle.book.specs.OldLogs.{is_old_visit, old_fits, old_all_allowed, old_row_bytes, old_rows_bytes, old_log_bytes, OldRows, OldLogs}
use Rattle.book.proofs.Lists.{and_i, and_l, and_r}
use Rattle.book.proofs.InvariantKept.{few-rows}
use Rattle.book.proofs.LogBytes.{log-good}

-- ── A row ─────────────────────────────────────────────────────────────────────────────────────────────────────────────

-- the low byte is the visit, the high one is zero
low : (v : ℕ) → is_old_visit v ≡ true → v % 256 ≡ v
low v e = let k = leb-true v _ (and_r (leb 1 v) _ e) in omega arith

high : (v : ℕ) → is_old_visit v ≡ true → v / 256 % 256 ≡ 0
high v e = let k = leb-true v _ (and_r (leb 1 v) _ e) in omega arith

pub old-rows : OldRows
unfolding OldRows old_fits row_bytes old_row_bytes
old-rows n (Row.begin v) e = rw (low v e, high v e)
old-rows n (Row.change v c a) e = let f : is_old_visit v ≡ true = search (and_l, and_r) in rw (low v f, high v f)
old-rows n (Row.hand_over g r c) e =
    let f : is_old_visit g ≡ true = search (and_l, and_r) in
    let h : is_old_visit r ≡ true = search (and_l, and_r) in rw (low g f, low r h, high g f, high r h)
old-rows n (Row.undo h c u a) e = let f : is_old_visit h ≡ true = search (and_l, and_r) in rw (low h f, high h f)
old-rows n (Row.commit v) e = rw (low v e, high v e)
old-rows n (Row.abort v) e = rw (low v e, high v e)
old-rows n (Row.hand_over_all g r) e =
    let f = and_l (is_old_visit g) _ e in
    let h = and_r (is_old_visit g) _ e in rw (low g f, low r h, high g f, high r h)

-- ── A log ─────────────────────────────────────────────────────────────────────────────────────────────────────────────

visit : (v : ℕ) → is_old_visit v ≡ true → is_visit v ≡ true
visit v e = let k = leb-true v _ (and_r (leb 1 v) _ e) in and_i _ _ (and_l (leb 1 v) _ e) (le-leb v visit_limit (omega arith))

-- fields in 01's ranges are in the ranges
old-fits : (r : Row) → old_fits r ≡ true → fits r ≡ true
unfolding old_fits fits
old-fits (Row.begin v) e = visit v e
old-fits (Row.change v c a) e =
    let f = and_l (is_old_visit v && is_cell c) _ e in
    and_i _ _ (and_i _ _ (visit v (and_l (is_old_visit v) _ f)) (and_r (is_old_visit v) _ f)) (and_r (is_old_visit v && is_cell c) _ e)
old-fits (Row.hand_over g r c) e =
    let f = and_l (is_old_visit g && is_old_visit r) _ e in
    and_i _ _ (and_i _ _ (visit g (and_l (is_old_visit g) _ f)) (visit r (and_r (is_old_visit g) _ f))) (and_r (is_old_visit g && is_old_visit r) _ e)
old-fits (Row.undo h c n a) e =
    let f = and_l (is_old_visit h && is_cell c && is_row_number n) _ e in
    let g = and_l (is_old_visit h && is_cell c) _ f in
    and_i _ _ (and_i _ _ (and_i _ _ (visit h (and_l (is_old_visit h) _ g)) (and_r (is_old_visit h) _ g)) (and_r (is_old_visit h && is_cell c) _ f))
    (and_r (is_old_visit h && is_cell c && is_row_number n) _ e)
old-fits (Row.commit v) e = visit v e
old-fits (Row.abort v) e = visit v e
old-fits (Row.hand_over_all g r) e = and_i _ _ (visit g (and_l (is_old_visit g) _ e)) (visit r (and_r (is_old_visit g) _ e))

-- what the rules of before ask of a row and of those after it
parts : (l : Ledger) (r : Row) (rs : List Row) → old_all_allowed l (r ∷ rs) ≡ true
    → (old_fits r ≡ true) × (lawful l r ≡ true) × (within_limits l r ≡ true) × (old_all_allowed (after l r) rs ≡ true)
parts l r rs e =
    let three = and_l (old_fits r && lawful l r && within_limits l r) _ e in
    let two = and_l (old_fits r && lawful l r) _ three in
    (and_l (old_fits r) _ two, and_r (old_fits r) _ two, and_r (old_fits r && lawful l r) _ three, and_r (old_fits r && lawful l r && within_limits l r) _ e)

old-allowed : (l : Ledger) (rs : List Row) → old_all_allowed l rs ≡ true → all_allowed l rs ≡ true
unfolding allowed
old-allowed l [] e = refl
old-allowed l (r ∷ rs) e =
    let p = parts l r rs e in
    and_i _ _ (and_i _ _ (and_i _ _ (old-fits r p.0) p.1) p.2) (old-allowed (after l r) rs p.3)

old-bytes : (l : Ledger) (n : ℕ) (rs : List Row) → old_all_allowed l rs ≡ true → rows_bytes n rs ≡ old_rows_bytes n rs
unfolding OldRows
old-bytes l n [] e = refl
old-bytes l n (r ∷ rs) e =
    let p = parts l r rs e in ap₂ (λ (a b : List ℕ). a ++ b) (old-rows n r p.0) (old-bytes (after l r) (suc n) rs p.3)

pub old-logs : OldLogs
unfolding OldLogs log_bytes old_log_bytes
old-logs rs e =
    let al = old-allowed empty rs e in
    let same : log_bytes rs ≡ old_log_bytes rs = ap (pad_to log_length 0) (old-bytes empty 1 rs e) in
    record { allowed = al; bytes = same; read = ap read_log (sym same) ∙ log-good rs al (few-rows rs al) }
