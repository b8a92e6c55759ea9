-- Two books that the same values stand for give a call the same result, so the contract of the calls asks for one result only.
use Prim.Native.Nat.{ℕ, zero, suc, ◌+◌, ◌*◌, ◌<◌, ◌≤◌}
use native.Mathlib.Omega.{arith}
use mathlib.Core.Path.{◌≡◌, refl, ap, ap₂, sym, ◌∙◌, subst}
use mathlib.Core.Bool.{Bool, true, false, cond, not}
use mathlib.Core.List.{List, map}
use lib.IntN.{ℤ, pos, neg_ℤ, ◌+ℤ◌, nat_abs, +ℤ-neg_ℤ_cancel}
use lib.Dec.{eqb, ltb}
use borrow.Author.Tests.{ne_eqb, ltb-true, lt-ltb, not-false}
use Rattle.book.specs.Lists.{total}
use Rattle.book.specs.Limits.{cell_limit, chart_bound, move_bound}
use Rattle.book.specs.Rows.{Row, is_cell}
use Rattle.book.specs.Rules.{allowed_log}
use Rattle.book.specs.Cells.{moved_by, applied}
use Rattle.book.specs.Calls.{Call, ending, flushes}
use Rattle.book.specs.Power.{Book, rows_of}
use Rattle.book.specs.Book.{refusal, value, accepted, decide, answer, Outcome, refused, call}
use Rattle.book.specs.Writes.{Writes, call_writes}
use Rattle.book.specs.Numbers.{within}
use Rattle.book.specs.Pages.{chart_bytes, cell_of, page_after}
use Rattle.book.specs.Opening.{no_copy}
use Rattle.book.proofs.InvariantKept.{few-rows}
use Rattle.book.proofs.Adds.{passes}
use Rattle.book.proofs.Writes.{refused-writes}
use Rattle.book.proofs.Sound.{Decided, refuses, accepts, decided}
use Rattle.book.proofs.Pages.{Bounded, within-abs, SamePage, page-same, chart-same, cell-read}
use Rattle.state.specs.World.{World, state_of, copy_of, table_of, world_of, Represents}
use Rattle.state.specs.CallContracts.{answered, with_page, charts_after, outcome_in, by_book}
use Rattle.state.proofs.StoredCharts.{flush-page}
use Rattle.state.proofs.SameBook.{books-same}

-- ── From the same cells on ────────────────────────────────────────────────────────────────────────────────────────────

module _ (cells cells' : ℕ → ℤ) (same : (c : ℕ) → c < cell_limit → cells c ≡ cells' c) where
  applied-same : (rs : List Row) (c : ℕ) → c < cell_limit → applied cells rs c ≡ applied cells' rs c
  applied-same rs c h = ap (λ (z : ℤ). z +ℤ total (map (moved_by c) rs)) (same c h)

  page-agrees : (rs : List Row) (p : ℕ) → p < 32 → SamePage (page_after cells rs p) (page_after cells' rs p)
  unfolding page_after
  page-agrees rs p h = record { mark = refl; cells = λ j k. applied-same rs (7 * p + j) (omega arith) }

  chart-agrees : (rs : List Row) → chart_bytes (page_after cells rs) ≡ chart_bytes (page_after cells' rs)
  chart-agrees rs = chart-same (page_after cells rs) (page_after cells' rs) (page-agrees rs)

  world-agrees : (b : Book) (charts : List ℕ) → world_of cells b charts ≡ world_of cells' b charts
  unfolding world_of copy_of
  world-agrees b charts = ap (λ (l : List ℕ). record {
    state = state_of b;
    log = (world_of cells b charts).log;
    charts = charts;
    copy = cond b.is_open l no_copy;
    scopes = table_of b;
  }) (chart-agrees (rows_of b))

-- ── The cells ─────────────────────────────────────────────────────────────────────────────────────────────────────────

-- the cells beyond the last are left out, so that each one is bounded
abbrev restricted : (ℕ → ℤ) → ℕ → ℤ
restricted cells c = cond (ltb c cell_limit) (cells c) (pos 0)

module _ (cells : ℕ → ℤ) (range : (c : ℕ) → c < cell_limit → within (chart_bound + move_bound) (cells c) ≡ true) where
  restricted-bounded : Bounded 334217728 (restricted cells)
  restricted-bounded c = go (ltb c cell_limit) refl
    where
      go : (t : Bool) → ltb c cell_limit ≡ t → nat_abs (cond t (cells c) (pos 0)) ≤ 334217728
      go true e = within-abs 334217728 (cells c) (range c (ltb-true c cell_limit e))
      go false e = omega arith

  restricted-same : (c : ℕ) → c < cell_limit → cells c ≡ restricted cells c
  restricted-same c h = rw (lt-ltb c cell_limit h)

  -- a cell of the copy is what the rows make of it
  copy-cell : (rs : List Row) → allowed_log rs ≡ true → (c : ℕ) → c < cell_limit → cell_of (chart_bytes (page_after cells rs)) c ≡ applied cells rs c
  copy-cell rs al c h =
      ap (λ (l : List ℕ). cell_of l c) (chart-agrees cells (restricted cells) restricted-same rs) ∙
      cell-read (restricted cells) 334217728 restricted-bounded (omega arith) rs al (few-rows rs al) c h ∙ sym (applied-same cells (restricted cells) restricted-same rs c h)

-- of an open book the cells that the rows start from are settled
cells_same : (cells cells' : ℕ → ℤ) (b : Book) (w : World) → b.is_open ≡ true → Represents cells b w → Represents cells' b w
    → (c : ℕ) → c < cell_limit → cells c ≡ cells' c
unfolding world_of
cells_same cells cells' b w o h h' c k =
    let rs = rows_of b in
    let t = total (map (moved_by c) rs) in
    let copy = sym (copy-open cells) ∙ ap (λ (x : World). x.copy) (sym h.is ∙ h'.is) ∙ copy-open cells' in
    let same : applied cells rs c ≡ applied cells' rs c =
    sym (copy-cell cells h.range rs h.sound.allowed c k) ∙ ap (λ (l : List ℕ). cell_of l c) copy ∙
    copy-cell cells' h'.range rs h'.sound.allowed c k in
    sym (+ℤ-neg_ℤ_cancel (cells c) t) ∙ ap (λ (z : ℤ). z +ℤ neg_ℤ t) same ∙ +ℤ-neg_ℤ_cancel (cells' c) t
  where
    copy-open : (xs : ℕ → ℤ) → copy_of xs b ≡ chart_bytes (page_after xs (rows_of b))
    copy-open xs = unfold copy_of in (ap (λ (t : Bool). cond t (chart_bytes (page_after xs (rows_of b))) no_copy) o)

-- ── The result ────────────────────────────────────────────────────────────────────────────────────────────────────────

module _ (cells cells' : ℕ → ℤ) (b : Book) (same : (c : ℕ) → c < cell_limit → cells c ≡ cells' c) where
  -- of the accepted calls only a read asks for a cell
  value_same : (k : Call) → cond (not b.is_open) 5 (refusal b k) ≡ 0 → value cells b k ≡ value cells' b k
  unfolding value refusal
  value_same Call.begin e = refl
  value_same (Call.change v c a) e = refl
  value_same (Call.hand_over g r c) e = refl
  value_same (Call.commit v) e = refl
  value_same (Call.abort v) e = refl
  value_same Call.force e = refl
  value_same (Call.flush p) e = refl
  value_same (Call.hand_over_all g r) e = refl
  value_same (Call.read c) e =
      let r = (passes (not b.is_open) 4 (refusal b (Call.read c)) e).1 in
      applied-same cells cells' same (rows_of b) c (ltb-true c cell_limit (not-false (is_cell c) (passes (not (is_cell c)) 9 0 r).0))

  call_same : (k : Call) → call cells b true k ≡ call cells' b true k
  unfolding call accepted
  call_same k = go (cond (not b.is_open) 5 (refusal b k)) (value_same k)
    where
      go : (n : ℕ) → (n ≡ 0 → value cells b k ≡ value cells' b k) → decide cells b k n ≡ decide cells' b k n
      go zero h = rw (h refl)
      go (suc n) h = refl

  charts-agree : (k : Call) (charts : List ℕ)
      → charts_after cells b (ending k) (call cells b true k).answer.number charts ≡ charts_after cells' b (ending k) (call cells b true k).answer.number charts
  charts-agree Call.begin charts = refl
  charts-agree (Call.change v c a) charts = refl
  charts-agree (Call.hand_over g r c) charts = refl
  charts-agree (Call.commit v) charts = refl
  charts-agree (Call.abort v) charts = refl
  charts-agree Call.force charts = refl
  charts-agree (Call.flush p) charts = go (call cells b true (Call.flush p)) (decided cells b true (Call.flush p))
    where
      go : (o : Outcome) → Decided cells b true (Call.flush p) o
          → charts_after cells b (flushes p) o.answer.number charts ≡ charts_after cells' b (flushes p) o.answer.number charts
      go o (refuses n e) = rw (ap (λ (x : Outcome). x.answer.number) e, ne_eqb (suc n) 0 (λ q. omega arith))
      go o (accepts l op r e) =
          ap (λ (x : List ℕ). cond (eqb o.answer.number 0) (with_page p x charts) charts)
          (page-same (page_after cells (rows_of b) p) (page_after cells' (rows_of b) p) (page-agrees cells cells' same (rows_of b) p (flush-page b p r)))
  charts-agree (Call.read c) charts = refl
  charts-agree (Call.hand_over_all g r) charts = refl

  by_agrees : (k : Call) (w : World) → by_book cells b k w ≡ by_book cells' b k w
  unfolding by_book
  by_agrees k w =
      let o = call cells b true k in
      ap (λ (x : World). record { answer = o.answer; world = x; writes = call_writes b k o })
      (world-agrees cells cells' same o.book _ ∙ ap (world_of cells' o.book) (charts-agree k w.charts)) ∙
      ap (outcome_in cells' b k w.charts) (call_same k)

-- ── A closed book ─────────────────────────────────────────────────────────────────────────────────────────────────────

-- a refusal writes no page
pub charts-refused : (cells : ℕ → ℤ) (b : Book) (k : Call) (n : ℕ) (charts : List ℕ) → charts_after cells b (ending k) (suc n) charts ≡ charts
charts-refused cells b Call.begin n charts = refl
charts-refused cells b (Call.change v c a) n charts = refl
charts-refused cells b (Call.hand_over g r c) n charts = refl
charts-refused cells b (Call.commit v) n charts = refl
charts-refused cells b (Call.abort v) n charts = refl
charts-refused cells b Call.force n charts = refl
charts-refused cells b (Call.flush p) n charts = rw (ne_eqb (suc n) 0 (λ q. omega arith))
charts-refused cells b (Call.read c) n charts = refl
charts-refused cells b (Call.hand_over_all g r) n charts = refl

-- what a refusal comes to in the values that stand for the book: nothing changes
pub refused-in : (cells : ℕ → ℤ) (b : Book) (k : Call) (w : World) (n : ℕ) → w ≡ world_of cells b w.charts
    → outcome_in cells b k w.charts (refused (suc n) b) ≡ answered (suc n) (pos 0) w
refused-in cells b k w n is =
    ap₂ (λ (x : World) (v : Writes). record { answer = answer (suc n) (pos 0); world = x; writes = v })
    (ap (world_of cells b) (charts-refused cells b k n w.charts) ∙ sym is) (refused-writes b k n)

refused-five : (cells : ℕ → ℤ) (b : Book) (k : Call) → b.is_open ≡ false → call cells b true k ≡ refused 5 b
unfolding call
refused-five cells b k o = ap (λ (t : Bool). decide cells b k (cond (not t) 5 (refusal b k))) o

-- it refuses every call by 5
pub closed-call : (cells : ℕ → ℤ) (b : Book) (k : Call) (w : World) → b.is_open ≡ false → Represents cells b w → by_book cells b k w ≡ answered 5 (pos 0) w
unfolding by_book
closed-call cells b k w o h =
    ap (outcome_in cells b k w.charts) (refused-five cells b k o) ∙ refused-in cells b k w 4 h.is

-- ── Any two books ─────────────────────────────────────────────────────────────────────────────────────────────────────

pub agree : (cells cells' : ℕ → ℤ) (b b' : Book) (k : Call) (w : World) → Represents cells b w → Represents cells' b' w
    → by_book cells b k w ≡ by_book cells' b' k w
agree cells cells' b b' k w h h' = go b.is_open refl
  where
    is : b ≡ b'
    is = books-same cells cells' b b' w h h'

    h'' : Represents cells' b w
    h'' = subst (λ (x : Book). Represents cells' x w) (sym (books-same cells cells' b b' w h h')) h'

    go : (t : Bool) → b.is_open ≡ t → by_book cells b k w ≡ by_book cells' b' k w
    go true o = by_agrees cells cells' b (cells_same cells cells' b w o h h'') k w ∙ ap (λ (x : Book). by_book cells' x k w) is
    go false o = closed-call cells b k w o h ∙ sym (closed-call cells' b k w o h'') ∙ ap (λ (x : Book). by_book cells' x k w) is
