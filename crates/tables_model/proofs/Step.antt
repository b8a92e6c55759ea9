-- The tables after an allowed row are those of the ledger after it (`step_by_lem`).
use Prim.Native.Nat.{ℕ, suc, ◌-◌}
use native.Mathlib.Omega.{arith}
use mathlib.Core.Path.{◌≡◌, ap, ap₂, sym, ◌∙◌}
use mathlib.Core.Bool.{Bool, true, not}
use mathlib.Core.List.{List, ◌++◌, map, reverse}
use lib.ListN.{length, replicate, length-map, length-reverse}
use lib.IntN.{ℤ}
use lib.Dec.{eqb, ltb}
use borrow.Author.Tests.{eqb-true, ltb-true}
use Rattle.book.specs.Lists.{keep, pad_to, without}
use Rattle.book.specs.Limits.{active_limit, scope_limit}
use Rattle.book.specs.Rows.{Row, begin, change, hand_over, undo, commit, abort, hand_over_all}
use Rattle.book.specs.Ledger.{Ledger, only, every, handed_over, after, ledger}
use Rattle.book.specs.Rules.{is_active, scope_fits, may_hand_over, lawful, within_limits, allowed, allowed_log}
use Rattle.book.specs.Scopes.{Scope, unused, scopes_of}
use Rattle.book.proofs.Lists.{and_l, and_r, is_false}
use Rattle.book.proofs.Invariant.{Inv}
use Rattle.book.proofs.InvariantKept.{inv-log, rows-length}
use Rattle.book.proofs.Scoped.{Scoped, scoped-log}
use Rattle.book.proofs.Top.{undoes}
use Rattle.tables_model.specs.declared.Tables.{Tables}
use Rattle.tables_model.specs.declared.Whom.{Whom}
use Rattle.tables_model.specs.declared.Whom.TheVariants.{One}
use Rattle.tables_model.specs.Visits.{with_undo, with_ended, with_used}
use Rattle.tables_model.specs.Table.{is_held, passed, Scopes, scopes_handed, held_by_others, scopes_ended}
use Rattle.tables_model.specs.Rows.{Index, after_hand_over, step_by}
use Rattle.tables_model.specs.Meaning.{active_of, tables_of, scope_table}
use Rattle.tables_model.specs.Lookup.{index_of, before_undone}
use Rattle.tables_model.proofs.Reversed.{keep-reverse, map-reverse}
use Rattle.tables_model.proofs.Padded.{take-pad, drop-pad, map-pad, replaced}
use Rattle.tables_model.proofs.ActiveVisits.{visits_of, tables_with, tables-with, begun-visits, ended-visits}
use Rattle.tables_model.proofs.Previous.{Looks}
use Rattle.tables_model.proofs.ScopesAfter.{scopes-begin, scopes-handed, scopes-committed, scopes-aborted}
use Rattle.tables_model.proofs.WithinLimits.{scope-room}
use Rattle.tables_model.proofs.Growing.{scopes-changed}
use Rattle.tables_model.proofs.Undoing.{used-is, undo-step, undo-tables}

abbrev index : Tables → List Scope → Index
index t ss = record { tables = t; scopes = ss }

table_of : (l m : Ledger) → scopes_of l ≡ scopes_of m → scope_table l ≡ scope_table m
unfolding scope_table
table_of l m e = ap (λ (ss : List Scope). pad_to scope_limit unused (reverse ss)) e

module _ (l : Ledger) (i : Inv l) (S : Scoped l.changes) where
  step-begin : (n before v : ℕ) → allowed l (begin v) ≡ true → step_by (index_of l) n before (begin v) ≡ index_of (after l (begin v))
  unfolding step_by allowed lawful within_limits
  step-begin n before v al =
      let next : eqb v (suc l.begun) ≡ true = search (and_l, and_r) in
      let room : ltb (length l.active) active_limit ≡ true = search (and_l, and_r) in
      let is = eqb-true v (suc l.begun) next in
      let same = scopes-begin l v i is in
      ap₂ index
      (begun-visits l v (is_false _ (λ h. let k = i.borne v h in omega arith)) (ltb-true (length l.active) active_limit room) ∙
      ap (λ (k : ℕ). tables_with (after l (begin v)) (visits_of (after l (begin v))) k) (ap length (sym same)) ∙
      sym (tables-with (after l (begin v))))
      (table_of l (after l (begin v)) (sym same))

  step-change : (before v c : ℕ) (a : ℤ) → allowed l (change v c a) ≡ true
      → step_by (index_of l) (suc l.rows) before (change v c a) ≡ index_of (after l (change v c a))
  unfolding step_by allowed lawful within_limits tables_of after
  step-change before v c a al =
      let act : is_active l v ≡ true = search (and_l, and_r) in
      let room : scope_fits l v c ≡ true = search (and_l, and_r) in
      ap (λ (s : Scopes). index (with_used (tables_of l) s.used) s.entries)
      (scopes-changed l v c a i S act (scope-room l v c room))

  step-handed : (g r : ℕ) (cs : ℕ → Bool) → may_hand_over l g r cs ≡ true → after_hand_over (index_of l) g r cs ≡ index_of (handed_over l g r cs)
  unfolding scopes_handed scope_table tables_of
  step-handed g r cs al =
      let actg : is_active l g ≡ true = search (and_l, and_r) depth 9 in
      let actr : is_active l r ≡ true = search (and_l, and_r) depth 9 in
      let is = scopes-handed l g r cs actg actr in
      let many : length (scopes_of (handed_over l g r cs)) ≡ length (scopes_of l) = ap length is ∙ length-map (scopes_of l) (replaced (is_held g cs) (passed r)) in
      ap₂ index
      (ap (with_used (tables_of l)) (sym many))
      (ap₂ (λ (ss ts : List Scope). map (replaced (is_held g cs) (passed r)) ss ++ ts)
      (take-pad scope_limit unused (scopes_of l)) (drop-pad scope_limit unused (scopes_of l)) ∙
      ap (λ (ss : List Scope). ss ++ replicate (scope_limit - length (reverse (scopes_of l))) unused)
      (map-reverse (replaced (is_held g cs) (passed r)) (scopes_of l) ∙ ap reverse (sym is)) ∙
      map-pad scope_limit unused (reverse (scopes_of l)) (reverse (scopes_of (handed_over l g r cs)))
      (length-reverse (scopes_of l) ∙ sym many ∙ sym (length-reverse (scopes_of (handed_over l g r cs)))))

  step-hand_over : (n before g r c : ℕ) → allowed l (hand_over g r c) ≡ true
      → step_by (index_of l) n before (hand_over g r c) ≡ index_of (after l (hand_over g r c))
  unfolding step_by allowed lawful after
  step-hand_over n before g r c al = step-handed g r (only c) (search (and_l, and_r))

  step-hand_over_all : (n before g r : ℕ) → allowed l (hand_over_all g r) ≡ true
      → step_by (index_of l) n before (hand_over_all g r) ≡ index_of (after l (hand_over_all g r))
  unfolding step_by allowed lawful after
  step-hand_over_all n before g r al = step-handed g r every (search (and_l, and_r))

  -- the scope table after a commit or an abort, by the scopes that are left
  scopes-ended : (v : ℕ) (ss : List Scope) → ss ≡ keep (λ s. not (eqb s.holder v)) (scopes_of l)
      → scopes_ended (length (scopes_of l)) v (scope_table l) ≡ record { used = length ss; entries = pad_to scope_limit unused (reverse ss) }
  unfolding scopes_ended scope_table
  scopes-ended v ss e =
      let left : held_by_others (length (scopes_of l)) v (pad_to scope_limit unused (reverse (scopes_of l))) ≡ reverse ss =
      ap (keep (λ s. not (eqb s.holder v))) (take-pad scope_limit unused (scopes_of l)) ∙ keep-reverse _ (scopes_of l) ∙ ap reverse (sym e) in
      ap (λ (ts : List Scope). record { used = length ts; entries = pad_to scope_limit unused ts }) left ∙
      ap (λ (n : ℕ). record { used = n; entries = pad_to scope_limit unused (reverse ss) }) (length-reverse ss)

  -- both tables after it
  step-ended : (v : ℕ) (m : Ledger) → scopes_of m ≡ keep (λ s. not (eqb s.holder v)) (scopes_of l)
      → tables_with l (map (active_of l) (without v l.active)) (length (scopes_of m)) ≡ tables_of m
      → index (with_ended (tables_of l) v (scopes_ended (tables_of l).used v (scope_table l)).used)
      (scopes_ended (tables_of l).used v (scope_table l)).entries ≡ index_of m
  unfolding scope_table
  step-ended v m left visits =
      ap (λ (s : Scopes). index (with_ended (tables_of l) v s.used) s.entries)
      (ap (λ (k : ℕ). scopes_ended k v (scope_table l)) (used-is l) ∙ scopes-ended v (scopes_of m) left) ∙
      ap (λ (t : Tables). index t (scope_table m)) (ended-visits l v (length (scopes_of m)) ∙ visits)

  step-commit : (n before v : ℕ) → step_by (index_of l) n before (commit v) ≡ index_of (after l (commit v))
  unfolding step_by after
  step-commit n before v = step-ended v (after l (commit v)) (scopes-committed l v) (sym (tables-with (after l (commit v))))

  step-abort : (n before v : ℕ) → step_by (index_of l) n before (abort v) ≡ index_of (after l (abort v))
  unfolding step_by after
  step-abort n before v = step-ended v (after l (abort v)) (scopes-aborted l v) (sym (tables-with (after l (abort v))))

module _ (rs : List Row) (al : allowed_log rs ≡ true) (look : ℕ → Row) (agree : Looks look rs) where
  step-undo : (n h c k : ℕ) (a : ℤ) → allowed (ledger rs) (undo h c k a) ≡ true
      → step_by (index_of (ledger rs)) n (before_undone look (index_of (ledger rs)) (undo h c k a)) (undo h c k a) ≡ index_of (after (ledger rs) (undo h c k a))
  unfolding step_by allowed
  step-undo n h c k a e =
      let law : lawful (ledger rs) (undo h c k a) ≡ true = search (and_l, and_r) in
      let u = undoes (ledger rs) h c k a law in
      let w : Whom = One (record { 0 = h }) in
      let holder : h ≡ u.x.holder = cc u.is in
      ap₂ index
      (ap (with_undo (tables_of (ledger rs))) holder ∙ undo-tables rs w al u.x u.rest u.first)
      (undo-step rs w al u.x u.rest u.first look agree) ∙
      ap (λ (r : Row). index_of (after (ledger rs) r)) (sym u.is)

  step_row : (r : Row) → allowed (ledger rs) r ≡ true
      → step_by (index_of (ledger rs)) (suc (ledger rs).rows) (before_undone look (index_of (ledger rs)) r) r ≡ index_of (after (ledger rs) r)
  step_row (begin v) e = step-begin (ledger rs) (inv-log rs al) (scoped-log rs) (suc (ledger rs).rows) 0 v e
  step_row (change v c a) e = step-change (ledger rs) (inv-log rs al) (scoped-log rs) 0 v c a e
  step_row (hand_over g r c) e = step-hand_over (ledger rs) (inv-log rs al) (scoped-log rs) (suc (ledger rs).rows) 0 g r c e
  step_row (undo h c k a) e = step-undo (suc (ledger rs).rows) h c k a e
  step_row (commit v) e = step-commit (ledger rs) (inv-log rs al) (scoped-log rs) (suc (ledger rs).rows) 0 v
  step_row (abort v) e = step-abort (ledger rs) (inv-log rs al) (scoped-log rs) (suc (ledger rs).rows) 0 v
  step_row (hand_over_all g r) e = step-hand_over_all (ledger rs) (inv-log rs al) (scoped-log rs) (suc (ledger rs).rows) 0 g r e

  pub step_by_lem : (r : Row) → allowed (ledger rs) r ≡ true
      → step_by (index_of (ledger rs)) (suc (length rs)) (before_undone look (index_of (ledger rs)) r) r ≡ index_of (after (ledger rs) r)
  step_by_lem r e =
      ap (λ (n : ℕ). step_by (index_of (ledger rs)) (suc n) (before_undone look (index_of (ledger rs)) r) r) (sym (rows-length rs)) ∙ step_row r e
