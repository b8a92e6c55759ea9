-- An undo in the table: the entry with the highest open change of some visits, the change before it as the rows have it, and the table after the undo
-- row. An undo row undoes so for its holder, abort for one visit, an opening for all.
use Prim.Native.Nat.{ℕ, ◌≤◌, ◌<◌}
use native.Mathlib.Omega.{arith}
use mathlib.Core.Path.{◌≡◌, refl, ap, sym, ◌∙◌}
use mathlib.Core.Bool.{true}
use mathlib.Core.List.{List, [], ◌∷◌, map, reverse}
use lib.ListN.{length, set, get_or, length-map, length-reverse}
use borrow.Author.Tests.{eq-eqb}
use Rattle.std.specs.Prelude.{Option, Some, None}
use Rattle.book.specs.Lists.{pad_to}
use Rattle.book.specs.Limits.{scope_limit}
use Rattle.book.specs.Rows.{Row, change}
use Rattle.book.specs.Ledger.{Change, Ledger, after, ledger}
use Rattle.book.specs.Rules.{open_held, allowed_log}
use Rattle.book.specs.Scopes.{Scope, unused, first_row, standing, entry_of, scopes_of}
use Rattle.book.specs.Book.{undo_of}
use Rattle.book.specs.Pages.{row_at}
use Rattle.book.proofs.InvariantKept.{inv-log, rows-length}
use Rattle.book.proofs.Scoped.{scoped-log}
use Rattle.book.proofs.Ordered.{ordered-log}
use Rattle.book.proofs.Top.{Top, top-first}
use Rattle.book.proofs.Standing.{standing-below}
use Rattle.book.proofs.Recorded.{row_of}
use Rattle.tables_model.specs.declared.Whom.{Whom}
use Rattle.tables_model.specs.Visits.{with_undo}
use Rattle.tables_model.specs.Table.{covers, highest, lowered, undone_at, scopes_undone}
use Rattle.tables_model.specs.Meaning.{tables_of, scope_table}
use Rattle.tables_model.specs.Lookup.{index_of, previous, before_last, before_found, before_highest}
use Rattle.tables_model.proofs.Reversed.{map-reverse}
use Rattle.tables_model.proofs.Padded.{get_or-pad, set-pad, one-reverse, replaced}
use Rattle.tables_model.proofs.ActiveVisits.{visits_of, tables_with, tables-with, undone-visits}
use Rattle.tables_model.proofs.ScopesAfter.{starts_at, scopes-undone, one_entry}
use Rattle.tables_model.proofs.Highest.{TopEntry, highest-none, highest-some}
use Rattle.tables_model.proofs.Previous.{previous-is, Looks, previous-same}

pub used-is : (l : Ledger) → (tables_of l).used ≡ length (scopes_of l)
unfolding tables_of
used-is l = refl

-- what the search in the table finds for x, the highest open change of the visits
pub record HighestOpen (rs : List Row) (w : Whom) (x : Change) : Type 0 where
  pub at : ℕ
  pub is : highest w (tables_of (ledger rs)).used (scope_table (ledger rs)) ≡ Some at
  pub within : at < (tables_of (ledger rs)).used
  pub last : (get_or (scope_table (ledger rs)) at unused).last ≡ x.row
  pub holder : (get_or (scope_table (ledger rs)) at unused).holder ≡ x.holder
  pub maker : (get_or (scope_table (ledger rs)) at unused).maker ≡ x.maker
  pub cell : (get_or (scope_table (ledger rs)) at unused).cell ≡ x.cell
  pub row : row_at rs x.row ≡ change x.maker x.cell x.amount
  -- its row is one of the list
  pub low : 1 ≤ x.row
  pub high : x.row ≤ length rs
  -- the table after its undo row, by the rows looked up
  pub undone : (look : ℕ → Row) → Looks look rs
      → set (scope_table (ledger rs)) at (lowered (before_last look (get_or (scope_table (ledger rs)) at unused)) (get_or (scope_table (ledger rs)) at unused))
      ≡ scope_table (after (ledger rs) (undo_of x))

module _ (rs : List Row) (w : Whom) (al : allowed_log rs ≡ true) where
  -- nothing is found where nothing is open
  pub nothing-open : open_held (covers w) (ledger rs) ≡ [] → highest w (tables_of (ledger rs)).used (scope_table (ledger rs)) ≡ None
  nothing-open e = rw (used-is (ledger rs)) (highest-none (ledger rs) w (inv-log rs al) (scoped-log rs) e)

  module _ (x : Change) (xs : List Change) (e : open_held (covers w) (ledger rs) ≡ x ∷ xs) where
    found : TopEntry (ledger rs) w (inv-log rs al) (scoped-log rs) x
    found = highest-some (ledger rs) w (inv-log rs al) (scoped-log rs) x xs e

    top : Top (ledger rs) x
    top = top-first (covers w) (ledger rs) x xs (inv-log rs al).falling e

    entry-is : get_or (scope_table (ledger rs)) found.at unused ≡ entry_of (ledger rs) found.s
    unfolding scope_table
    entry-is =
        get_or-pad scope_limit unused unused (reverse (scopes_of (ledger rs))) found.at (rw (length-reverse (scopes_of (ledger rs))) found.within) ∙
        found.entry

    x-high : x.row ≤ length rs
    x-high = let k = ((inv-log rs al).good x top.mem).row in let count = rows-length rs in omega arith

    -- the change before x in its scope, as the rows say, is the last that the undo leaves there
    before-is : (look : ℕ → Row) → Looks look rs
        → before_last look (get_or (scope_table (ledger rs)) found.at unused) ≡ first_row (standing (after (ledger rs) (undo_of x)) x.scope)
    before-is look agree =
        let f = found in
        let high = x-high in
        let start : previous look f.s.maker f.s.cell f.s.row (first_row (standing (ledger rs) f.s.row))
        ≡ previous look x.maker x.cell x.scope x.row = cc (f.alike.maker, f.alike.cell, f.scope, f.last) in
        ap (before_last look) entry-is ∙
        start ∙
        previous-same look (row_at rs) x.maker x.cell x.scope x.row (λ k lo lt. agree k lo (omega arith)) ∙
        sym (previous-is rs (inv-log rs al) x.maker x.cell x.scope x.row (omega arith)) ∙
        sym (ap first_row (standing-below (ledger rs) x top (inv-log rs al) (scoped-log rs) (ordered-log rs al)))

    table-undone : (before : ℕ) → before ≡ first_row (standing (after (ledger rs) (undo_of x)) x.scope)
        → set (scope_table (ledger rs)) found.at (lowered before (get_or (scope_table (ledger rs)) found.at unused))
        ≡ scope_table (after (ledger rs) (undo_of x))
    unfolding scope_table
    table-undone before b =
        let ss = reverse (scopes_of (ledger rs)) in
        let lt : found.at < length (reverse (scopes_of (ledger rs))) = rw (length-reverse (scopes_of (ledger rs))) found.within in
        let at : starts_at x.scope (get_or (reverse (scopes_of (ledger rs))) found.at unused) ≡ true =
        ap (starts_at x.scope) found.entry ∙ eq-eqb found.s.row x.scope (sym found.scope) in
        ap (λ (t : Scope). set (pad_to scope_limit unused ss) found.at (lowered before t)) (get_or-pad scope_limit unused unused ss found.at lt) ∙
        set-pad scope_limit (starts_at x.scope) (lowered before) unused unused ss found.at
        (one-reverse (starts_at x.scope) (scopes_of (ledger rs)) (one_entry (ledger rs) x.scope (inv-log rs al))) lt at ∙
        ap (pad_to scope_limit unused) (map-reverse (replaced (starts_at x.scope) (lowered before)) (scopes_of (ledger rs))) ∙
        ap (λ (n : ℕ). pad_to scope_limit unused (reverse (map (replaced (starts_at x.scope) (lowered n)) (scopes_of (ledger rs))))) b ∙
        ap (λ (ts : List Scope). pad_to scope_limit unused (reverse ts)) (sym (scopes-undone (ledger rs) x top (inv-log rs al) (scoped-log rs)))

    pub highest-open : HighestOpen rs w x
    highest-open = record {
      at = found.at;
      is = rw (used-is (ledger rs)) found.is;
      within = rw (used-is (ledger rs)) found.within;
      last = ap (λ (s : Scope). s.last) entry-is ∙ found.last;
      holder = ap (λ (s : Scope). s.holder) entry-is ∙ sym found.alike.holder;
      maker = ap (λ (s : Scope). s.maker) entry-is ∙ sym found.alike.maker;
      cell = ap (λ (s : Scope). s.cell) entry-is ∙ sym found.alike.cell;
      row = row_of rs x top.mem;
      low = ((inv-log rs al).good x top.mem).low;
      high = x-high;
      undone = λ look agree. table-undone (before_last look (get_or (scope_table (ledger rs)) found.at unused)) (before-is look agree);
    }

    -- one step of a take-back
    pub undo-step : (look : ℕ → Row) → Looks look rs
        → scopes_undone w (tables_of (ledger rs)).used (before_highest look w (index_of (ledger rs))) (scope_table (ledger rs))
        ≡ scope_table (after (ledger rs) (undo_of x))
    unfolding scopes_undone
    undo-step look agree =
        let k = highest-open in
        ap (λ (r : Option ℕ). undone_at r (before_found look r (scope_table (ledger rs))) (scope_table (ledger rs))) k.is ∙ k.undone look agree

    -- the entries in use are as many
    undo-used : length (scopes_of (after (ledger rs) (undo_of x))) ≡ length (scopes_of (ledger rs))
    undo-used =
        ap length (scopes-undone (ledger rs) x top (inv-log rs al) (scoped-log rs)) ∙
        length-map (scopes_of (ledger rs)) (replaced (starts_at x.scope) (lowered (first_row (standing (after (ledger rs) (undo_of x)) x.scope))))

    pub undo-tables : with_undo (tables_of (ledger rs)) x.holder ≡ tables_of (after (ledger rs) (undo_of x))
    undo-tables =
        undone-visits (ledger rs) x.holder x.cell x.row x.amount ∙
        ap (tables_with (after (ledger rs) (undo_of x)) (visits_of (after (ledger rs) (undo_of x)))) (sym undo-used) ∙
        sym (tables-with (after (ledger rs) (undo_of x)))
