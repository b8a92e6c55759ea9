-- Lists of numbers below a bound (specs/EveryList), and the bytes of rows and charts.
use Prim.Native.Nat.{ℕ, zero, suc, ◌-◌, ◌/◌, ◌<◌}
use native.Mathlib.Omega.{arith}
use mathlib.Core.Path.{◌≡◌}
use mathlib.Core.Bool.{true, ◌&&◌}
use mathlib.Core.List.{List, [], ◌∷◌, ◌++◌}
use lib.ListN.{length, replicate}
use lib.IntN.{ℤ, pos}
use lib.Dec.{leb}
use borrow.Author.Tests.{leb-true, ltb-true}
use Rattle.book.specs.Lists.{tabulate, join, pad_to}
use Rattle.book.specs.Limits.{visit_limit, cell_limit, page_limit, places}
use Rattle.book.specs.Rows.{Row, is_visit, is_cell, is_row_number, fits}
use Rattle.book.specs.Ledger.{Ledger, after}
use Rattle.book.specs.Rules.{allowed, all_allowed, allowed_log}
use Rattle.book.specs.Numbers.{le, bits_of}
use Rattle.book.specs.RowBytes.{fields, row_bytes}
use Rattle.book.specs.LogBytes.{rows_bytes, log_bytes}
use Rattle.book.specs.Pages.{Page, page_bytes, chart_bytes}
use Rattle.book.proofs.Lists.{and_l, and_r}
use Rattle.book.proofs.LogBytes.{allowed-fits}
use Rattle.embed_model.specs.EveryList.{Below}

module _ (n : ℕ) where
  pub below-append : (xs ys : List ℕ) → Below n xs → Below n ys → Below n (xs ++ ys)
  unfolding Below
  below-append [] ys p q = q
  below-append (x ∷ xs) ys p q = (p.0, below-append xs ys p.1 q)

  pub below-same : (k x : ℕ) → x < n → Below n (replicate k x)
  unfolding Below
  below-same zero x h = tt
  below-same (suc k) x h = (h, below-same k x h)

  pub below-pad : (k : ℕ) (xs : List ℕ) → 0 < n → Below n xs → Below n (pad_to k 0 xs)
  below-pad k xs h p = below-append xs _ p (below-same (k - length xs) 0 h)

  below-join : (G : ℕ → List ℕ) → ((i : ℕ) → Below n (G i)) → (k from : ℕ) → Below n (join (tabulate k from G))
  unfolding Below
  below-join G p zero from = tt
  below-join G p (suc k) from = below-append (G from) (join (tabulate k (suc from) G)) (p from) (below-join G p k (suc from))

-- ── Bytes ─────────────────────────────────────────────────────────────────────────────────────────────────────────────

below-le : (k x : ℕ) → Below 256 (le k x)
unfolding Below
below-le zero x = tt
below-le (suc k) x = (omega arith, below-le k (x / 256))

below-fields : (kind v r c n u : ℕ) (a : ℤ) → kind < 256 → c < 256 → Below 256 (fields kind v r c n u a)
unfolding Below
below-fields kind v r c n u a hk hc = omega arith

pub visit-small : (v : ℕ) → is_visit v ≡ true → v < 65536
visit-small v e = let k = leb-true v visit_limit (and_r (leb 1 v) _ e) in omega arith

cell-byte : (c : ℕ) → is_cell c ≡ true → c < 256
cell-byte c e = let k = ltb-true c cell_limit e in omega arith

below_row : (n : ℕ) (r : Row) → fits r ≡ true → Below 256 (row_bytes n r)
unfolding row_bytes fits
below_row n (Row.begin v) e = below-fields 1 v 0 0 n 0 (pos 0) (omega arith) (omega arith)
below_row n (Row.change v c a) e =
    below-fields 2 v 0 c n 0 a (omega arith) (cell-byte c (and_r (is_visit v) _ (and_l (is_visit v && is_cell c) _ e)))
below_row n (Row.hand_over g r c) e = below-fields 3 g r c n 0 (pos 0) (omega arith) (cell-byte c (and_r (is_visit g && is_visit r) _ e))
below_row n (Row.undo h c u a) e =
    let f = and_l (is_visit h && is_cell c) _ (and_l (is_visit h && is_cell c && is_row_number u) _ e) in
    below-fields 4 h 0 c n u a (omega arith) (cell-byte c (and_r (is_visit h) _ f))
below_row n (Row.commit v) e = below-fields 5 v 0 0 n 0 (pos 0) (omega arith) (omega arith)
below_row n (Row.abort v) e = below-fields 6 v 0 0 n 0 (pos 0) (omega arith) (omega arith)
below_row n (Row.hand_over_all g r) e = below-fields 7 g r 0 n 0 (pos 0) (omega arith) (omega arith)

pub below_rows : (n : ℕ) (l : Ledger) (rs : List Row) → all_allowed l rs ≡ true → Below 256 (rows_bytes n rs)
unfolding Below
below_rows n l [] e = tt
below_rows n l (r ∷ rs) e =
    below-append 256 (row_bytes n r) (rows_bytes (suc n) rs) (below_row n r (allowed-fits l r (and_l (allowed l r) _ e)))
    (below_rows (suc n) (after l r) rs (and_r (allowed l r) _ e))

pub below-log : (rs : List Row) → allowed_log rs ≡ true → Below 256 (log_bytes rs)
unfolding log_bytes
below-log rs e = below-pad 256 _ (rows_bytes 1 rs) (omega arith) (below_rows 1 _ rs e)

below-page : (g : Page) → Below 256 (page_bytes g)
unfolding page_bytes
below-page g =
    below-append 256 (le 2 g.mark ++ le 2 0) _ (below-append 256 (le 2 g.mark) (le 2 0) (below-le 2 g.mark) (below-le 2 0))
    (below-join 256 (λ j. le 4 (bits_of 32 (g.cell j))) (λ j. below-le 4 (bits_of 32 (g.cell j))) places 0)

pub below-charts : (f : ℕ → Page) → Below 256 (chart_bytes f)
unfolding chart_bytes
below-charts f = below-join 256 (λ p. page_bytes (f p)) (λ p. below-page (f p)) page_limit 0
