-- What each row makes of the scopes in use, in the words of the scope table. The lists have the newest first.
use Prim.Native.Nat.{ℕ, suc, ◌+◌, ◌-◌, ◌%◌, ◌≤◌}
use native.Mathlib.Omega.{arith}
use mathlib.Core.Path.{◌≡◌, refl, ap, ap₂, sym, ◌∙◌}
use mathlib.Core.Bool.{Bool, true, false, cond, not, ◌&&◌, and-true}
use mathlib.Core.List.{List, [], ◌∷◌, map}
use lib.ListN.{length, length-map}
use lib.IntN.{ℤ}
use lib.Dec.{eqb}
use borrow.Author.Tests.{eqb-true, eq-eqb, eqb-false, ne_eqb}
use Rattle.book.specs.Lists.{In, keep, member, without}
use Rattle.book.specs.Rows.{begin, change, commit, abort}
use Rattle.book.specs.Ledger.{Change, Ledger, continues, new_change, scope_from, holds, given, pass, handed_over, after}
use Rattle.book.specs.Rules.{is_active, is_open_change, reserve, starts_in_use}
use Rattle.book.specs.Scopes.{Scope, first_row, standing, entry_of, scopes_of}
use Rattle.book.specs.Book.{undo_of}
use Rattle.book.proofs.Lists.{keep-in, keep_same, keep-none, keep-keep, keep-map, length-keep, map-map, map_same, member-keep, eqb-sym}
use Rattle.book.proofs.Invariant.{Inv, Falling, fresh, falling-keep, pass-cases, pass-row}
use Rattle.book.proofs.Scoped.{Scoped}
use Rattle.book.proofs.Top.{Top}
use Rattle.book.proofs.Standing.{starts, in_use_lem, stands, standing-open, standing-first, standing-other}
use Rattle.tables_model.specs.Table.{is_held, grown, started, passed, lowered}
use Rattle.tables_model.proofs.Padded.{replaced}

-- an entry of the scope that x starts
abbrev entry_like : Change → ℕ → Bool → ℕ → ℕ → Scope
entry_like x holder handed last count = record {
  maker = x.maker;
  holder = holder;
  cell = x.cell;
  first = x.row;
  last = last;
  handed = handed;
  count = count;
}

-- its entry, by the changes that stand in it
abbrev entry_with : Change → List Change → Scope
entry_with x ys = entry_like x x.holder x.handed (first_row ys) (length ys)

-- the entry is that of the scope which row n starts
abbrev pub starts_at : ℕ → Scope → Bool
starts_at n s = eqb s.first n

-- ── A begin ───────────────────────────────────────────────────────────────────────────────────────────────────────────

pub scopes-begin : (l : Ledger) (v : ℕ) → Inv l → v ≡ suc l.begun → scopes_of (after l (begin v)) ≡ scopes_of l
unfolding after scopes_of
scopes-begin l v i next =
    ap (map (entry_of l)) (keep_same _ _ l.changes (λ x m. let k = (i.good x m).held in rw (ne_eqb x.holder v (λ q. omega arith))))

-- ── A change ──────────────────────────────────────────────────────────────────────────────────────────────────────────

module _ (l : Ledger) (v c : ℕ) (a : ℤ) (i : Inv l) (S : Scoped l.changes) (act : is_active l v ≡ true) where
  standing-change : (n : ℕ) → standing (after l (change v c a)) n
      ≡ cond (eqb (new_change l v c a).scope n) (new_change l v c a ∷ standing l n) (standing l n)
  unfolding after
  standing-change n = rw (fresh l i, and-true (eqb (new_change l v c a).scope n))

  -- a scope in use starts before the new row
  start-low : (x : Change) → In x (starts l) → x.row ≤ l.rows
  start-low x m = (i.good x (in_use_lem l x m).mem).row

  -- the new change starts a scope
  pub scopes-started : keep (continues v c) l.changes ≡ [] → scopes_of (after l (change v c a)) ≡ started (suc l.rows) v c ∷ scopes_of l
  unfolding after scopes_of
  scopes-started e =
      let scope : (new_change l v c a).scope ≡ suc l.rows = ap (scope_from (suc l.rows)) e in
      let kept : starts (after l (change v c a)) ≡ new_change l v c a ∷ starts l = rw (eq-eqb (new_change l v c a).scope (suc l.rows) scope, act) in
      let none : standing l (suc l.rows) ≡ [] = keep-none _ l.changes (λ y m.
      let d = S.started y m in let low = (i.good d.s d.mem).row in let row = d.row in
      rw (ne_eqb y.scope (suc l.rows) (λ q. omega arith))) in
      let first : standing (after l (change v c a)) (suc l.rows) ≡ new_change l v c a ∷ [] =
      standing-change (suc l.rows) ∙ rw (eq-eqb (new_change l v c a).scope (suc l.rows) scope, none) in
      let rest : map (entry_of (after l (change v c a))) (starts l) ≡ map (entry_of l) (starts l) =
      map_same _ _ (starts l) (λ x m.
      let low = start-low x m in
      let same : standing (after l (change v c a)) x.row ≡ standing l x.row =
      standing-change x.row ∙ rw (ne_eqb (new_change l v c a).scope x.row (λ q. omega arith)) in ap (entry_with x) same) in
      ap (map (entry_of (after l (change v c a)))) kept ∙ ap₂ ◌∷◌ (ap (entry_with (new_change l v c a)) first) rest

  -- a count of 16 bits does not wrap
  few-stand : (x : Change) → In x (starts l) → length (standing l x.row) ≤ 4096
  unfolding reserve
  few-stand x m =
      let k = length-keep (stands l x.row) (is_open_change l) l.changes
      (λ y n h. (standing-open l i S x y m (keep-in (stands l x.row) n h)).opened) in
      let space = i.space in omega arith

  -- it grows the scope that v may continue
  pub scopes-grown : (y : Change) → In y l.changes → (new_change l v c a).scope ≡ y.scope
      → scopes_of (after l (change v c a)) ≡ map (replaced (starts_at (new_change l v c a).scope) (grown (suc l.rows))) (scopes_of l)
  unfolding after scopes_of
  scopes-grown y m e =
      let d = S.started y m in
      let low = (i.good d.s d.mem).row in
      let row = d.row in
      let kept : starts (after l (change v c a)) ≡ starts l = rw (ne_eqb (new_change l v c a).scope (suc l.rows) (λ q. omega arith)) in
      ap (map (entry_of (after l (change v c a)))) kept ∙ map_same _ _ (starts l) (λ x n. entry x n) ∙ sym (map-map _ (entry_of l) (starts l))
    where
      entry : (x : Change) → In x (starts l)
          → entry_of (after l (change v c a)) x ≡ replaced (starts_at (new_change l v c a).scope) (grown (suc l.rows)) (entry_of l x)
      entry x n =
          ap (entry_with x) (standing-change x.row) ∙
          rw (eqb-sym x.row (new_change l v c a).scope) (go (eqb (new_change l v c a).scope x.row))
        where
          go : (t : Bool) → entry_with x (cond t (new_change l v c a ∷ standing l x.row) (standing l x.row))
              ≡ cond t (grown (suc l.rows) (entry_of l x)) (entry_of l x)
          go true =
              let few = few-stand x n in
              let count : suc (length (standing l x.row)) ≡ (length (standing l x.row) + 1) % 65536 = omega arith in
              ap (entry_like x x.holder x.handed (suc l.rows)) count
          go false = refl

-- ── A hand-over ───────────────────────────────────────────────────────────────────────────────────────────────────────

first-pass : (g r : ℕ) (cs : ℕ → Bool) (xs : List Change) → first_row (map (pass g r cs) xs) ≡ first_row xs
first-pass g r cs [] = refl
first-pass g r cs (x ∷ xs) = pass-row g r cs x

standing-pass : (l : Ledger) (g r : ℕ) (cs : ℕ → Bool) (n : ℕ) → standing (handed_over l g r cs) n ≡ map (pass g r cs) (standing l n)
standing-pass l g r cs n =
    keep-map (stands l n) (pass g r cs) l.changes ∙
    ap (map (pass g r cs)) (keep_same _ _ l.changes (λ x m. pass-cases (λ (y : Change). stands l n y ≡ stands l n x) g r cs x (λ q. refl) refl))

pub scopes-handed : (l : Ledger) (g r : ℕ) (cs : ℕ → Bool) → is_active l g ≡ true → is_active l r ≡ true
    → scopes_of (handed_over l g r cs) ≡ map (replaced (is_held g cs) (passed r)) (scopes_of l)
unfolding scopes_of
scopes-handed l g r cs actg actr =
    ap (map (entry_of (handed_over l g r cs))) (keep-map (starts_in_use l) (pass g r cs) l.changes ∙
    ap (map (pass g r cs)) (keep_same _ _ l.changes (λ x m.
    pass-cases (λ (y : Change). starts_in_use l y ≡ starts_in_use l x) g r cs x (λ q. rw (q, actg, actr)) refl))) ∙
    map-map _ (pass g r cs) (starts l) ∙
    map_same _ _ (starts l) (λ x m. entry x (holds g cs x)) ∙
    sym (map-map _ (entry_of l) (starts l))
  where
    same : (x : Change) → (first_row (standing (handed_over l g r cs) x.row) ≡ first_row (standing l x.row))
        × (length (standing (handed_over l g r cs) x.row) ≡ length (standing l x.row))
    same x =
        let e = standing-pass l g r cs x.row in
        (ap first_row e ∙ first-pass g r cs (standing l x.row), ap length e ∙ length-map (standing l x.row) (pass g r cs))

    entry : (x : Change) (t : Bool) → entry_of (handed_over l g r cs) (cond t (given r x) x) ≡ cond t (passed r (entry_of l x)) (entry_of l x)
    entry x true = ap₂ (entry_like x r true) (same x).0 (same x).1
    entry x false = ap₂ (entry_like x x.holder x.handed) (same x).0 (same x).1

-- ── A commit or an abort ──────────────────────────────────────────────────────────────────────────────────────────────

scopes-without : (l : Ledger) (v : ℕ) → map (entry_of l) (keep (λ x. eqb x.scope x.row && member x.holder (without v l.active)) l.changes)
    ≡ keep (λ s. not (eqb s.holder v)) (scopes_of l)
unfolding scopes_of
scopes-without l v = ap (map (entry_of l)) (same l.changes) ∙ sym (keep-map _ (entry_of l) (starts l))
  where
    bools : (s a q : Bool) → (s && (not q && a)) ≡ (s && a && not q)
    bools true true true = refl
    bools true true false = refl
    bools true false true = refl
    bools true false false = refl
    bools false a q = refl

    same : (xs : List Change) → keep (λ x. eqb x.scope x.row && member x.holder (without v l.active)) xs
        ≡ keep (λ x. not (eqb x.holder v)) (keep (starts_in_use l) xs)
    same xs =
        keep_same _ _ xs (λ x m. rw (member-keep (λ u. not (eqb v u)) x.holder l.active, eqb-sym v x.holder)
        (bools (eqb x.scope x.row) (is_active l x.holder) (eqb x.holder v))) ∙
        sym (keep-keep (λ x. not (eqb x.holder v)) (starts_in_use l) xs)

pub scopes-committed : (l : Ledger) (v : ℕ) → scopes_of (after l (commit v)) ≡ keep (λ s. not (eqb s.holder v)) (scopes_of l)
unfolding after scopes_of
scopes-committed l v = scopes-without l v

pub scopes-aborted : (l : Ledger) (v : ℕ) → scopes_of (after l (abort v)) ≡ keep (λ s. not (eqb s.holder v)) (scopes_of l)
unfolding after scopes_of
scopes-aborted l v = scopes-without l v

-- ── An undo ───────────────────────────────────────────────────────────────────────────────────────────────────────────

pub scopes-undone : (l : Ledger) (x : Change) → Top l x → Inv l → Scoped l.changes
    → scopes_of (after l (undo_of x)) ≡ map (replaced (starts_at x.scope) (lowered (first_row (standing (after l (undo_of x)) x.scope)))) (scopes_of l)
unfolding after scopes_of
scopes-undone l x t i S = map_same _ _ (starts l) (λ s m. entry s (eqb s.row x.scope) refl) ∙ sym (map-map _ (entry_of l) (starts l))
  where
    less : (s : Change) (ys : List Change) → entry_with s ys ≡ lowered (first_row ys) (entry_with s (x ∷ ys))
    less s ys =
        let one : length ys ≡ suc (length ys) - 1 = omega arith in ap (entry_like s s.holder s.handed (first_row ys)) one

    entry : (s : Change) (b : Bool) → eqb s.row x.scope ≡ b
        → entry_of (after l (undo_of x)) s ≡ cond b (lowered (first_row (standing (after l (undo_of x)) x.scope)) (entry_of l s)) (entry_of l s)
    entry s true e =
        let n = eqb-true s.row x.scope e in
        ap (λ (k : ℕ). entry_with s (standing (after l (undo_of x)) k)) n ∙ less s (standing (after l (undo_of x)) x.scope) ∙
        ap (λ (ys : List Change). lowered (first_row (standing (after l (undo_of x)) x.scope)) (entry_with s ys))
        (sym (standing-first l x t i S) ∙ ap (standing l) (sym n))
    entry s false e = ap (entry_with s) (standing-other l x t i S s.row (eqb-false s.row x.scope e))

-- ── Each scope has one entry ──────────────────────────────────────────────────────────────────────────────────────────

one-row : (n : ℕ) (xs : List Change) → Falling xs → length (keep (λ x. eqb x.row n) xs) ≤ 1
one-row n [] f = omega arith
one-row n (x ∷ xs) f = go (eqb x.row n) refl (one-row n xs f.1)
  where
    go : (t : Bool) → eqb x.row n ≡ t → length (keep (λ y. eqb y.row n) xs) ≤ 1
        → length (cond t (x ∷ keep (λ y. eqb y.row n) xs) (keep (λ y. eqb y.row n) xs)) ≤ 1
    go true e h =
        let is = eqb-true x.row n e in
        let none : keep (λ y. eqb y.row n) xs ≡ [] = keep-none _ xs (λ y m. ne_eqb y.row n (λ q. let k = f.0 y m in omega arith)) in
        rw none (omega arith)
    go false e h = h

pub one_entry : (l : Ledger) (n : ℕ) → Inv l → length (keep (starts_at n) (scopes_of l)) ≤ 1
unfolding scopes_of
one_entry l n i =
    let e : length (keep (starts_at n) (map (entry_of l) (starts l))) ≡ length (keep (λ x. eqb x.row n) (starts l)) =
    ap length (keep-map (starts_at n) (entry_of l) (starts l)) ∙ length-map (keep (λ x. eqb x.row n) (starts l)) (entry_of l) in
    rw e (one-row n (starts l) (falling-keep (starts_in_use l) l.changes i.falling))
