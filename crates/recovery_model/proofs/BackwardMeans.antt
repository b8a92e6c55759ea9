-- The backward part of an opening leaves what stands for the book that the opening leaves (`backward-stands`): open changes fall over all visits, an
-- abort row ends each of them, then a force.
use Prim.Native.Nat.{ℕ}
use native.Mathlib.Omega.{arith}
use mathlib.Core.Path.{◌≡◌, refl, ap, sym, ◌∙◌, subst}
use mathlib.Core.Bool.{true, ◌&&◌}
use mathlib.Core.List.{List, [], ◌∷◌, ◌++◌, map, reverse, reverse_aux, reverse_aux-eq, append-nil}
use lib.ListN.{length, get_or, length-map, length-reverse}
use lib.Seq.{get_or_at}
use lib.IntN.{ℤ}
use Rattle.book.specs.Lists.{foldl}
use Rattle.book.specs.Rows.{Row}
use Rattle.book.specs.Ledger.{Change, Ledger, after, ledger}
use Rattle.book.specs.Rules.{open_held, allowed, all_allowed, allowed_log}
use Rattle.book.specs.Power.{Book, rows_of, ledger_of, force, add, add_all}
use Rattle.book.specs.Book as book
use Rattle.book.specs.Book.{undo_of, take_back, everyone, closing, reopened}
use Rattle.book.specs.LogBytes.{log_bytes}
use Rattle.book.specs.Pages.{chart_bytes, page_after}
use Rattle.book.proofs.Lists.{clash, and_l, and_r, foldl-append, keep_all}
use Rattle.book.proofs.Logs.{allowed-append, ledger-append}
use Rattle.book.proofs.InvariantKept.{inv-log}
use Rattle.book.proofs.TakeBack.{take_back_lem}
use Rattle.book.proofs.Steps.{extends-add, extends-all}
use Rattle.state.specs.declared.ram.Fuse.{Fuse}
use Rattle.state.specs.declared.ram.Fuse.TheVariants.{Unlimited, Left}
use Rattle.state.specs.World.{fuse_of, allowance}
use Rattle.tables_model.specs.declared.Active.{Active}
use Rattle.tables_model.specs.declared.Whom.TheVariants.{All}
use Rattle.tables_model.specs.Meaning.{vacant, active_of, tables_of, scope_table}
use Rattle.tables_model.specs.Lookup.{index_of}
use Rattle.journal.specs.Journal.{forced}
use Rattle.journal.specs.Meaning.{control_of, journal_of}
use Rattle.wal.specs.Writing.{Ram, written}
use Rattle.wal.specs.TakeBack.{Taking, fall_all}
use Rattle.wal.proofs.Steady.{Steady, steady-add, steady-all, was-open, add-ledger}
use Rattle.wal.proofs.RowWritten.{Stands, written_stands, forced-stands}
use Rattle.wal.proofs.FewChanges.{open-few}
use Rattle.wal.proofs.ChangesFall.{TakingStands, changes-fall}
use Rattle.recovery_model.specs.Backward.{abort_all, starting_by, backward}

-- ── The abort rows ────────────────────────────────────────────────────────────────────────────────────────────────────

-- the listed visits stand in ascending order; from the last down they are the ledger's
abort-each : (l : Ledger) (active : List Active) (vs : List ℕ) (more : List Active) → active ≡ reverse_aux (map (active_of l) vs) more → (m : Ram)
    → abort_all (length vs) active m ≡ foldl written m (map Row.abort vs)
unfolding abort_all
abort-each l active [] more e m = refl
abort-each l active (v ∷ vs) more e m =
    ap (λ (a : Active). abort_all (length vs) active (written m (Row.abort a.visit.0))) last ∙
    abort-each l active vs (active_of l v ∷ more) e (written m (Row.abort v))
  where
    last : get_or active (length vs) vacant ≡ active_of l v
    last =
        ap (λ (list : List Active). get_or list (length vs) vacant) (e ∙ reverse_aux-eq (map (active_of l) vs) (active_of l v ∷ more)) ∙
        get_or_at (reverse (map (active_of l) vs)) (active_of l v) more vacant (length vs) (length-reverse (map (active_of l) vs) ∙ length-map vs (active_of l))

aborts-all : (l : Ledger) (m : Ram) → abort_all (tables_of l).count (tables_of l).active m ≡ foldl written m (map Row.abort l.active)
unfolding tables_of
aborts-all l m = abort-each l (tables_of l).active l.active _ (sym (reverse_aux-eq (map (active_of l) l.active) _)) m

-- ── Rows written one after another ────────────────────────────────────────────────────────────────────────────────────

module _ (cells : ℕ → ℤ) where
  rows-stand : (rs : List Row) (b : Book) → Steady b → (b.is_open ≡ true → all_allowed (ledger_of b) rs ≡ true) → (m : Ram) → Stands cells b m
      → Stands cells (add_all b rs) (foldl written m rs)
  rows-stand [] b s al m st = st
  rows-stand (r ∷ rs) b s al m st =
      rows-stand rs (add b r) (steady-add b s r first) rest (written m r) (written_stands cells b s r first m st)
    where
      first : b.is_open ≡ true → allowed (ledger_of b) r ≡ true
      first o = and_l (allowed (ledger_of b) r) _ (al o)

      rest : (add b r).is_open ≡ true → all_allowed (ledger_of (add b r)) rs ≡ true
      rest o =
          rw (add-ledger b s r o)
          (and_r (allowed (ledger_of b) r) _ (al (was-open b (add b r) (r ∷ []) (extends-add b r s.shut) o)))

  -- ── The backward part ───────────────────────────────────────────────────────────────────────────────────────────────

  module _ (f : Fuse) (rs : List Row) (al : allowed_log rs ≡ true) (copy : List ℕ) (is : copy ≡ chart_bytes (page_after cells rs)) where
    b : Book
    b = book.starting (allowance f) rs

    l : Ledger
    l = ledger rs

    xs : List Change
    xs = open_held everyone (ledger rs)

    start : Taking
    start = record { ram = starting_by f (length rs) (log_bytes rs) copy; scopes = scope_table (ledger rs) }

    ledger-is : ledger_of (book.starting (allowance f) rs) ≡ ledger rs
    ledger-is = ap ledger (append-nil rs)

    steady : Steady b
    unfolding b
    steady = record { allowed = ap allowed_log (append-nil rs) ∙ al; tail = omega arith; shut = λ o. clash true refl o }

    good : all_allowed (ledger_of b) (closing (ledger rs)) ≡ true
    unfolding b
    good = rw ledger-is (take_back_lem everyone (ledger rs) (inv-log rs al)).good

    fuse-back : (f : Fuse) → fuse_of (allowance f) ≡ f
    fuse-back Unlimited = refl
    fuse-back (Left n) = refl

    start-stands : TakingStands cells (tables_of (ledger rs)).used b start
    unfolding b start journal_of control_of
    start-stands = record {
      ram = record {
        journal = rw (fuse-back f);
        copy = λ o. is ∙ ap (λ (l : List Row). chart_bytes (page_after cells l)) (sym (append-nil rs));
      };
      used = λ o. ap (λ (k : Ledger). (tables_of k).used) (sym ledger-is);
      scopes = λ o. ap scope_table (sym ledger-is);
    }

    -- the open changes fell
    fell : TakingStands cells (tables_of (ledger rs)).used (add_all b (map undo_of xs)) (fall_all (length rs) All (tables_of (ledger rs)).used start)
    unfolding b xs
    fell = changes-fall cells All (tables_of (ledger rs)).used (length rs) b steady xs (λ o. ap (open_held everyone) ledger-is)
        (open-few everyone rs) start start-stands

    undos : List Row
    undos = map undo_of (open_held everyone (ledger rs))

    aborts : List Row
    aborts = map Row.abort (ledger rs).active

    closing-is : closing (ledger rs) ≡ undos ++ aborts
    unfolding take_back undos aborts
    closing-is = ap (λ (vs : List ℕ). map undo_of (open_held everyone (ledger rs)) ++ map Row.abort vs) (keep_all everyone (ledger rs).active (λ v m. refl))

    parts : (all_allowed (ledger_of b) undos && all_allowed (foldl after (ledger_of b) undos) aborts) ≡ true
    parts = sym (allowed-append (ledger_of b) undos aborts) ∙ ap (all_allowed (ledger_of b)) (sym closing-is) ∙ good

    mid-steady : Steady (add_all b undos)
    mid-steady = steady-all b steady undos (and_l (all_allowed (ledger_of b) undos) _ parts)

    aborts-allowed : (add_all b undos).is_open ≡ true → all_allowed (ledger_of (add_all b undos)) aborts ≡ true
    aborts-allowed o =
        let is : ledger_of (add_all b undos) ≡ foldl after (ledger_of b) undos =
        ap ledger ((extends-all b undos steady.shut).rows o) ∙ ledger-append (rows_of b) undos in
        rw is (and_r (all_allowed (ledger_of b) undos) _ parts)

    -- the visits ended
    ended : Ram
    ended = foldl written (fall_all (length rs) All (tables_of (ledger rs)).used start).ram aborts

    ended-stands : Stands cells (add_all b (closing (ledger rs))) ended
    unfolding ended undos xs
    ended-stands =
        subst (λ (c : Book). Stands cells c ended) (sym (ap (add_all b) closing-is ∙ foldl-append add b undos aborts))
        (rows-stand aborts (add_all b undos) mid-steady aborts-allowed (fall_all (length rs) All (tables_of (ledger rs)).used start).ram fell.ram)

    pub backward-stands : Stands cells (reopened (allowance f) rs) (backward f (length rs) (index_of (ledger rs)) (log_bytes rs) copy)
    unfolding reopened backward b start ended aborts
    backward-stands =
        subst (λ (m : Ram). Stands cells (force (add_all b (closing (ledger rs)))) (record { journal = forced m.journal; copy = m.copy }))
        (sym (aborts-all (ledger rs) (fall_all (length rs) All (tables_of (ledger rs)).used start).ram))
        (forced-stands cells (add_all b (closing (ledger rs))) (steady-all b steady (closing (ledger rs)) good) ended ended-stands)
