-- What stands for a book has document 01's lengths: a call that is lent what the call before it left is not refused by 1.
use Prim.Native.Nat.{ℕ, ◌-◌, ◌≤◌}
use native.Mathlib.Omega.{arith}
use mathlib.Core.Path.{◌≡◌, refl, ap, ◌∙◌}
use mathlib.Core.Bool.{Bool, true, false, cond}
use mathlib.Core.List.{List, map, reverse}
use lib.ListN.{length, length-append, length-replicate, length-reverse, length-map, replicate}
use lib.IntN.{ℤ}
use borrow.Author.Tests.{eq-eqb}
use Rattle.book.specs.Lists.{pad_to}
use Rattle.book.specs.Limits.{log_length, charts_length, scope_limit}
use Rattle.book.specs.Scopes.{unused, scopes_of}
use Rattle.book.specs.Power.{Book, rows_of, ledger_of}
use Rattle.book.specs.Pages.{chart_bytes, page_after}
use Rattle.book.specs.Opening.{no_copy}
use Rattle.book.specs.Logs.{Sound}
use Rattle.book.proofs.Lists.{and_i}
use Rattle.book.proofs.InvariantKept.{few-rows}
use Rattle.book.proofs.Sound.{stored-allowed}
use Rattle.book.proofs.LogBytes.{log-long}
use Rattle.book.proofs.Pages.{chart-long}
use Rattle.tables_model.proofs.WithinLimits.{limited}
use Rattle.tables_model.specs.Meaning.{scope_table, scope_of}
use Rattle.state.specs.World.{World, right_lengths, table_of, copy_of, world_of, Represents}

pub padded-length : {A : Type 0} (n : ℕ) (d : A) (xs : List A) → length xs ≤ n → length (pad_to n d xs) ≡ n
padded-length n d xs h = let k = length-append xs (replicate (n - length xs) d) in let m = length-replicate (n - length xs) d in omega arith

table-length : (b : Book) → Sound b → length (table_of b) ≡ scope_limit
unfolding table_of scope_table
table-length b s = go b.is_open
  where
    few : length (reverse (scopes_of (ledger_of b))) ≤ scope_limit
    few =
        let k = length-reverse (scopes_of (ledger_of b)) in let m = (limited (rows_of b) s.allowed).scopes in omega arith

    go : (t : Bool) → length (cond t (map scope_of (scope_table (ledger_of b))) (replicate scope_limit (scope_of unused))) ≡ scope_limit
    go true = length-map (scope_table (ledger_of b)) scope_of ∙ padded-length scope_limit unused (reverse (scopes_of (ledger_of b))) few
    go false = refl

copy-length : (cells : ℕ → ℤ) (b : Book) → length (copy_of cells b) ≡ charts_length
unfolding copy_of
copy-length cells b = go b.is_open
  where
    go : (t : Bool) → length (cond t (chart_bytes (page_after cells (rows_of b))) no_copy) ≡ charts_length
    go true = chart-long (page_after cells (rows_of b))
    go false = refl

pub world-lengths : (cells : ℕ → ℤ) (b : Book) (charts : List ℕ) → Sound b → length charts ≡ charts_length → right_lengths (world_of cells b charts) ≡ true
unfolding world_of
world-lengths cells b charts s long =
    let al = stored-allowed b s in
    and_i _ _ (and_i _ _ (and_i _ _ (eq-eqb _ log_length (log-long b.stored (few-rows b.stored al))) (eq-eqb _ charts_length long))
    (eq-eqb _ charts_length (copy-length cells b))) (eq-eqb _ scope_limit (table-length b s))

pub represented-lengths : (cells : ℕ → ℤ) (b : Book) (w : World) → Represents cells b w → right_lengths w ≡ true
represented-lengths cells b w r = ap right_lengths r.is ∙ world-lengths cells b w.charts r.sound (ap length r.charts.are ∙ chart-long _)
