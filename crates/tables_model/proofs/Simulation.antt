-- The tables say at every moment what the rows say: kept row by row from no rows on, they are those of the ledger.
use Prim.Native.Nat.{suc}
use mathlib.Core.Path.{◌≡◌, refl, ap, sym, ◌∙◌}
use mathlib.Core.Bool.{true, ◌&&◌}
use mathlib.Core.List.{List, [], ◌∷◌, ◌++◌, append_assoc, append-nil}
use lib.ListN.{length, replicate}
use Rattle.book.specs.Limits.{scope_limit}
use Rattle.book.specs.Rows.{Row}
use Rattle.book.specs.Ledger.{empty, after, ledger}
use Rattle.book.specs.Rules.{allowed, all_allowed, allowed_log}
use Rattle.book.specs.Scopes.{unused, scopes_of}
use Rattle.book.specs.Pages.{row_at}
use Rattle.book.proofs.Lists.{and_l, and_r}
use Rattle.book.proofs.Logs.{allowed-append, ledger-append}
use Rattle.tables_model.specs.Meaning.{no_tables, tables_of, scope_table}
use Rattle.tables_model.specs.Rows.{Index, step_by}
use Rattle.tables_model.specs.Lookup.{index_of, before_undone}
use Rattle.tables_model.proofs.Step.{step_by_lem}

-- before the first row
pub index-empty : index_of empty ≡ record { tables = no_tables; scopes = replicate scope_limit unused }
unfolding tables_of scope_table scopes_of
index-empty = refl

-- the rows from the next one on
abbrev pub kept_by : List Row → Index → List Row → Index
kept_by done x [] = x
kept_by done x (r ∷ rs) = kept_by (done ++ (r ∷ [])) (step_by x (suc (length done)) (before_undone (row_at done) x r) r) rs

kept : (done rs : List Row) → allowed_log (done ++ rs) ≡ true → kept_by done (index_of (ledger done)) rs ≡ index_of (ledger (done ++ rs))
kept done [] e = ap (λ (rs : List Row). index_of (ledger rs)) (sym (append-nil done))
kept done (r ∷ rs) e =
    let both : (allowed_log done && (allowed (ledger done) r && all_allowed (after (ledger done) r) rs)) ≡ true =
    sym (allowed-append empty done (r ∷ rs)) ∙ e in
    let al = and_l (allowed_log done) _ both in
    let next = and_l (allowed (ledger done) r) _ (and_r (allowed_log done) _ both) in
    let same = append_assoc done (r ∷ []) rs in
    ap (λ (x : Index). kept_by (done ++ (r ∷ [])) x rs)
    (step_by_lem done al (row_at done) (λ n lo hi. refl) r next ∙ ap index_of (sym (ledger-append done (r ∷ [])))) ∙
    kept (done ++ (r ∷ [])) rs (ap allowed_log same ∙ e) ∙
    ap (λ (xs : List Row). index_of (ledger xs)) same

pub simulation : (rs : List Row) → allowed_log rs ≡ true
    → kept_by [] (record { tables = no_tables; scopes = replicate scope_limit unused }) rs ≡ index_of (ledger rs)
simulation rs e = ap (λ (x : Index). kept_by [] x rs) (sym index-empty) ∙ kept [] rs e
