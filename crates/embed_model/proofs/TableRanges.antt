-- The tables of an allowed log have their lengths, and their numbers have the bits of their types.
use Prim.Native.Nat.{ℕ, zero, suc, ◌-◌, ◌≤◌, ◌<◌}
use native.Mathlib.Omega.{arith}
use mathlib.Core.Path.{◌≡◌, ap, sym, subst}
use mathlib.Core.Bool.{true, ◌&&◌}
use mathlib.Core.Logic.{◌⊎◌, inl, inr}
use mathlib.Core.List.Memᴰ
use mathlib.Core.List.{List, [], ◌∷◌, map, reverse}
use lib.ListN.{length, length-map, length-reverse, replicate, get_or, take, drop}
use lib.Seq.{split_at}
use lib.IntN.{ℤ}
use borrow.Author.Tests.{ltb-true}
use Rattle.book.specs.Lists.{In, keep, pad_to}
use Rattle.book.specs.Limits.{active_limit, scope_limit, cell_limit}
use Rattle.book.specs.Rows.{Row, begin, change, is_visit, is_cell, fits}
use Rattle.book.specs.Ledger.{Change, ledger}
use Rattle.book.specs.Rules.{open_changes, starts_in_use, allowed, allowed_log, reserve}
use Rattle.book.specs.Scopes.{Scope, unused, first_row, standing, entry_of, scopes_of}
use Rattle.book.proofs.Lists.{and_l, here, in-keep, member-in}
use Rattle.book.proofs.Logs.{allowed-rest}
use Rattle.book.proofs.Invariant.{Inv}
use Rattle.book.proofs.InvariantKept.{inv-log, rows-length}
use Rattle.book.proofs.Counts.{sum_by, counts-log}
use Rattle.book.proofs.Recorded.{row_of}
use Rattle.book.proofs.LogBytes.{allowed-fits}
use Rattle.tables_model.specs.declared.Active.{Active}
use Rattle.tables_model.specs.Meaning.{vacant, active_of, tables_of, scope_table}
use Rattle.tables_model.proofs.Reversed.{of_reverse}
use Rattle.tables_model.proofs.WithinLimits.{limited}
use Rattle.state.proofs.Lengths.{padded-length}
use Rattle.embed_model.proofs.Below.{visit-small}
use Rattle.embed_model.proofs.FlatTables.{EntryFits}

-- ── Lists ─────────────────────────────────────────────────────────────────────────────────────────────────────────────

module _ {A : Type 0} where
  of-same : (n : ℕ) (d y : A) → In y (replicate n d) → y ≡ d
  of-same zero d y m = elim m [ ]
  of-same (suc n) d y (Memᴰ.head e) = e
  of-same (suc n) d y (Memᴰ.tail m) = of-same n d y m

  -- what holds of the elements and of the filler holds of all
  in-pad : (P : A → Type 0) (n : ℕ) (d : A) (xs : List A) → P d → ((x : A) → In x xs → P x) → (x : A) → In x (pad_to n d (reverse xs)) → P x
  in-pad P n d xs p h x m = go (Memᴰ.append_cases (reverse xs) m)
    where
      go : In x (reverse xs) ⊎ In x (replicate (n - length (reverse xs)) d) → P x
      go (inl k) = h x (of_reverse x xs k)
      go (inr k) = subst P (sym (of-same (n - length (reverse xs)) d x k)) p

  in_sum : (f : A → ℕ) (x : A) (xs : List A) → In x xs → f x ≤ sum_by f xs
  in_sum f x [] m = elim m [ ]
  in_sum f x (y ∷ xs) (Memᴰ.head e) = let k = ap f e in omega arith
  in_sum f x (y ∷ xs) (Memᴰ.tail m) = let k = in_sum f x xs m in omega arith

visit-fits : (v c : ℕ) (a : ℤ) → fits (change v c a) ≡ true → v < 65536
unfolding fits
visit-fits v c a e = visit-small v (and_l (is_visit v) _ (and_l (is_visit v && is_cell c) _ e))

-- ── The tables ────────────────────────────────────────────────────────────────────────────────────────────────────────

module _ (rs : List Row) (al : allowed_log rs ≡ true) where
  inv : Inv (ledger rs)
  inv = inv-log rs al

  -- a change's maker is the visit of its row
  maker-small : (x : Change) → In x (ledger rs).changes → x.maker < 65536
  maker-small x m =
      let good = inv.good x m in
      let lo = good.low in
      let hi = good.row in
      let long = rows-length rs in
      let n = x.row - 1 in
      let rest = allowed-rest (take n rs) rs (get_or rs n (begin 0) ∷ drop (suc n) rs, split_at rs n (begin 0) (omega arith)) al in
      let fit = allowed-fits (ledger (take n rs)) (get_or rs n (begin 0)) (and_l (allowed (ledger (take n rs)) (get_or rs n (begin 0))) _ rest) in
      visit-fits x.maker x.cell x.amount (subst (λ (r : Row). fits r ≡ true) (row_of rs x m) fit)

  row_small : (x : Change) → In x (ledger rs).changes → x.row ≤ 4096
  row_small x m = let k = (inv.good x m).row in let s = inv.space in omega arith

  first_small : (xs : List Change) → ((x : Change) → In x xs → x.row ≤ 4096) → first_row xs < 65536
  first_small [] h = omega arith
  first_small (x ∷ xs) h = let k = h x here in omega arith

  entry-fits : (s : Scope) → In s (scopes_of (ledger rs)) → EntryFits s
  unfolding scopes_of
  entry-fits s m =
      let k = Memᴰ.of_map (entry_of (ledger rs)) (keep (starts_in_use (ledger rs)) (ledger rs).changes) m in
      let x = k.0 in
      let mem = (in-keep (starts_in_use (ledger rs)) (ledger rs).changes x k.1).0 in
      let good = inv.good x mem in
      let row = row_small x mem in
      let held = good.held in
      let begun = inv.count in
      let cell = ltb-true x.cell cell_limit (and_l (is_cell x.cell) _ good.fit) in
      let sum = in_sum (λ (t : Scope). t.count) s (scopes_of (ledger rs)) m in
      let all = counts-log rs al in
      let space = reserve-small in
      let last = first_small (standing (ledger rs) x.row) (λ y n. row_small y (in-keep _ (ledger rs).changes y n).0) in
      subst (λ (t : Scope). (t.count ≤ 4096) → EntryFits t) k.2
      (λ c. record { maker = maker-small x mem; holder = omega arith; cell = omega arith; first = omega arith; last = last; count = omega arith })
      (omega arith)
    where
      reserve-small : length (open_changes (ledger rs)) ≤ 4096
      reserve-small = unfold reserve in (let s = inv.space in omega arith)

  pub table_fits : (s : Scope) → In s (scope_table (ledger rs)) → EntryFits s
  unfolding scope_table
  table_fits = in-pad EntryFits scope_limit unused (scopes_of (ledger rs))
      (record { maker = omega arith; holder = omega arith; cell = omega arith; first = omega arith; last = omega arith; count = omega arith }) entry-fits

  pub table-size : length (scope_table (ledger rs)) ≡ scope_limit
  unfolding scope_table
  table-size =
      let k = length-reverse (scopes_of (ledger rs)) in
      let few = (limited rs al).scopes in
      padded-length scope_limit unused (reverse (scopes_of (ledger rs))) (omega arith)

  pub active-small : (a : Active) → In a (tables_of (ledger rs)).active → a.visit.0 < 65536
  unfolding tables_of
  active-small = in-pad (λ (a : Active). a.visit.0 < 65536) active_limit vacant (map (active_of (ledger rs)) (ledger rs).active) (omega arith) its
    where
      its : (a : Active) → In a (map (active_of (ledger rs)) (ledger rs).active) → a.visit.0 < 65536
      its a m =
          let k = Memᴰ.of_map (active_of (ledger rs)) (ledger rs).active m in
          let old = inv.old k.0 (member-in k.0 (ledger rs).active k.1) in
          let begun = inv.count in subst (λ (b : Active). b.visit.0 < 65536) k.2 (omega arith)

  pub active-size : length (tables_of (ledger rs)).active ≡ active_limit
  unfolding tables_of
  active-size =
      let xs = map (active_of (ledger rs)) (ledger rs).active in
      let k = length-reverse xs in
      let m = length-map (ledger rs).active (active_of (ledger rs)) in
      let few = (limited rs al).active in
      padded-length active_limit vacant (reverse xs) (omega arith)
