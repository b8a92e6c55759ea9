-- The stored charts after a call (document 01, "Charts" and flush page): each page is still as of the row of its mark, which is stored.
use Prim.Native.Nat.{ℕ, zero, suc, ◌<◌}
use native.Mathlib.Omega.{arith}
use mathlib.Core.Path.{◌≡◌, refl, ap, sym, ◌∙◌, subst}
use mathlib.Core.Bool.{Bool, true, false, cond, not}
use mathlib.Core.List.{List, [], ◌∷◌, ◌++◌, append-nil}
use lib.ListN.{take, drop}
use lib.Seq.{drop-nil}
use lib.IntN.{ℤ}
use lib.Dec.{eqb, ltb}
use borrow.Author.Tests.{eqb-true, ne_eqb, ltb-true, not-false}
use Rattle.book.specs.Lists.{StartsWith, times}
use Rattle.book.specs.Limits.{page_limit}
use Rattle.book.specs.Rows.{Row}
use Rattle.book.specs.Cells.{last_on}
use Rattle.book.specs.Calls.{Call, flushes, ending}
use Rattle.book.specs.Power.{Book, Fuse, none, left, rows_of, store_row, store_page}
use Rattle.book.specs.Book.{refusal, adds, through, value, Outcome, answer, refused, call}
use Rattle.book.specs.Pages.{page_bytes, page_after}
use Rattle.book.specs.Logs.{Sound}
use Rattle.book.proofs.Lists.{clash}
use Rattle.book.proofs.Steps.{book_of, extends-through}
use Rattle.book.proofs.Force.{times-closed}
use Rattle.book.proofs.Adds.{passes}
use Rattle.book.proofs.Sound.{Decided, refuses, accepts, decided}
use Rattle.book.proofs.Claims.{grows-call}
use Rattle.book.proofs.Marks.{last-drop, last-take}
use Rattle.book.proofs.Pages.{page-same, charts_as_of}
use Rattle.book.proofs.Flush.{set_at, page-off, mark-le, marked-grows, charts-grow, charts-set}
use Rattle.state.specs.World.{Charts}
use Rattle.state.specs.CallContracts.{with_page, charts_after}

-- ── More rows are stored ──────────────────────────────────────────────────────────────────────────────────────────────

pub charts-kept : (cells : ℕ → ℤ) (rs later : List Row) (charts : List ℕ) → StartsWith rs later → Charts cells rs charts → Charts cells later charts
charts-kept cells rs later charts s C = record {
  marks = C.marks;
  part = λ p. mark-le p (C.marks p) later (own p);
  own = own;
  are = C.are ∙ charts-grow cells rs C.marks (λ p h. C.own p) s.0 ∙ ap (λ (l : List Row). charts_as_of cells l C.marks) (sym s.1);
}
  where
    own : (p : ℕ) → last_on p (take (C.marks p) later) ≡ C.marks p
    own p = ap (λ (l : List Row). last_on p (take (C.marks p) l)) s.1 ∙ marked-grows p (C.marks p) rs s.0 (C.own p)

-- ── A page is stored ──────────────────────────────────────────────────────────────────────────────────────────────────

charts-page : (cells : ℕ → ℤ) (rs : List Row) (p : ℕ) (charts : List ℕ) → p < 32 → Charts cells rs charts
    → Charts cells rs (with_page p (page_bytes (page_after cells rs p)) charts)
charts-page cells rs p charts h C = record {
  marks = set_at p (last_on p rs) C.marks;
  part = λ q. mark-le q (set_at p (last_on p rs) C.marks q) rs (own q (eqb q p) refl);
  own = λ q. own q (eqb q p) refl;
  are = ap (with_page p (page_bytes (page_after cells rs p))) C.are ∙ charts-set cells rs C.marks (λ q k. C.own q) p h;
}
  where
    own : (q : ℕ) (t : Bool) → eqb q p ≡ t → last_on q (take (cond t (last_on p rs) (C.marks q)) rs) ≡ cond t (last_on p rs) (C.marks q)
    own q true e = rw (eqb-true q p e) (last-take p rs)
    own q false e = C.own q

-- what waits after n rows were stored
times-waiting : (n : ℕ) (s w : List Row) (f : Fuse) → (times n store_row (book_of s w f true)).is_open ≡ true
    → (times n store_row (book_of s w f true)).waiting ≡ drop n w
times-waiting zero s w f o = refl
times-waiting (suc n) s [] f o = times-waiting n s [] f o ∙ drop-nil n
times-waiting (suc n) s (r ∷ w) none o = times-waiting n (s ++ (r ∷ [])) w none o
times-waiting (suc n) s (r ∷ w) (left zero) o = clash _ o (ap (λ (b : Book). b.is_open) (times-closed n s))
times-waiting (suc n) s (r ∷ w) (left (suc m)) o = times-waiting n (s ++ (r ∷ [])) w (left m) o

page-waiting : (b : Book) → (store_page b).is_open ≡ true → (b.is_open ≡ true) × ((store_page b).waiting ≡ b.waiting)
page-waiting b = go b.stored b.waiting b.fuse b.is_open
  where
    go : (s w : List Row) (f : Fuse) (o : Bool) → (store_page (book_of s w f o)).is_open ≡ true → (o ≡ true) × ((store_page (book_of s w f o)).waiting ≡ w)
    go s w none true e = (refl, refl)
    go s w (left zero) true e = clash false e refl
    go s w (left (suc n)) true e = (refl, refl)
    go s w f false e = clash false e refl

-- what waits after a flush is not on the page
flush-waits : (b : Book) (p : ℕ) → b.is_open ≡ true → (through b (Call.flush p)).is_open ≡ true → last_on p (through b (Call.flush p)).waiting ≡ 0
unfolding through adds
flush-waits b p o e =
    let k = page-waiting (times (last_on p b.waiting) store_row b) e in
    ap (last_on p) (k.1 ∙ rest b.stored b.waiting b.fuse b.is_open o k.0) ∙ last-drop p b.waiting
  where
    rest : (s w : List Row) (f : Fuse) (t : Bool) → t ≡ true → (times (last_on p w) store_row (book_of s w f t)).is_open ≡ true
        → (times (last_on p w) store_row (book_of s w f t)).waiting ≡ drop (last_on p w) w
    rest s w f true q = times-waiting (last_on p w) s w f
    rest s w f false q = clash false q refl

-- 01: flush page. The page is stored as all rows make it, and its last row is stored before.
flush-charts : (cells : ℕ → ℤ) (b : Book) (p : ℕ) (charts : List ℕ) → Sound b → b.is_open ≡ true → p < 32 → (through b (Call.flush p)).is_open ≡ true
    → Charts cells b.stored charts → Charts cells (through b (Call.flush p)).stored (with_page p (page_bytes (page_after cells (rows_of b) p)) charts)
unfolding adds
flush-charts cells b p charts s o h e C =
    let b' = through b (Call.flush p) in
    let x = extends-through b (Call.flush p) s.shut in
    let same : page_bytes (page_after cells b'.stored p) ≡ page_bytes (page_after cells (rows_of b) p) =
    sym (page-same _ _ (page-off cells p b'.stored b'.waiting (flush-waits b p o e))) ∙
    ap (λ (l : List Row). page_bytes (page_after cells l p)) (x.rows e ∙ append-nil (rows_of b)) in
    subst (λ (x : List ℕ). Charts cells b'.stored (with_page p x charts)) same
    (charts-page cells b'.stored p charts h (charts-kept cells b.stored b'.stored charts x.starts C))

-- ── Every call ────────────────────────────────────────────────────────────────────────────────────────────────────────

-- the page of an accepted flush is one of the 32
pub flush-page : (b : Book) (p : ℕ) → refusal b (Call.flush p) ≡ 0 → p < 32
unfolding refusal
flush-page b p r = ltb-true p page_limit (not-false (ltb p page_limit) (passes (not (ltb p page_limit)) 13 0 r).0)

abbrev Leaves : (ℕ → ℤ) → Book → List ℕ → ℕ → Outcome → Type 0
Leaves cells b charts p o = Charts cells o.book.stored (charts_after cells b (flushes p) o.answer.number charts)

-- the outcome of an accepted call, by whether the power held
abbrev ended_by : ℤ → Book → Bool → Outcome
ended_by v b t = cond t (record { answer = answer 0 v; book = b }) (refused 5 b)

pub charts-call : (cells : ℕ → ℤ) (b : Book) (k : Call) (charts : List ℕ) → Sound b → Charts cells b.stored charts
    → Charts cells (call cells b true k).book.stored (charts_after cells b (ending k) (call cells b true k).answer.number charts)
charts-call cells b k charts s C = go k (call cells b true k) (grows-call cells b true k s) (decided cells b true k)
  where
    grown : (o : Outcome) → StartsWith b.stored o.book.stored → Charts cells o.book.stored charts
    grown o g = charts-kept cells b.stored o.book.stored charts g C

    flush : (p : ℕ) (o : Outcome) → StartsWith b.stored o.book.stored → Decided cells b true (Call.flush p) o → Leaves cells b charts p o
    flush p o g (refuses n e) = subst (Leaves cells b charts p) (sym e) (rw (ne_eqb (suc n) 0 (λ q. omega arith)) C)
    flush p o g (accepts l op r e) = its (through b (Call.flush p)).is_open refl
      where
        at : (t : Bool) → (through b (Call.flush p)).is_open ≡ t → o ≡ ended_by (value cells b (Call.flush p)) (through b (Call.flush p)) t
        at t q = e ∙ ap (ended_by (value cells b (Call.flush p)) (through b (Call.flush p))) q

        its : (t : Bool) → (through b (Call.flush p)).is_open ≡ t → Leaves cells b charts p o
        its true q = subst (Leaves cells b charts p) (sym (at true q)) (flush-charts cells b p charts s op (flush-page b p r) q C)
        its false q = subst (Leaves cells b charts p) (sym (at false q))
            (subst (λ (x : Outcome). Charts cells x.book.stored charts) (at false q) (grown o g))

    go : (k : Call) (o : Outcome) → StartsWith b.stored o.book.stored → Decided cells b true k o
        → Charts cells o.book.stored (charts_after cells b (ending k) o.answer.number charts)
    go Call.begin o g d = grown o g
    go (Call.change v c a) o g d = grown o g
    go (Call.hand_over u r c) o g d = grown o g
    go (Call.commit v) o g d = grown o g
    go (Call.abort v) o g d = grown o g
    go Call.force o g d = grown o g
    go (Call.flush p) o g d = flush p o g d
    go (Call.read c) o g d = grown o g
    go (Call.hand_over_all u r) o g d = grown o g
