-- The tables of an allowed log have room: at most 16 active visits, 64 scopes in use, and counts of 16 bits.
use Prim.Native.Nat.{ℕ, suc, ◌≤◌, ◌<◌}
use native.Mathlib.Omega.{arith}
use mathlib.Core.Path.{◌≡◌, refl, ap, ◌∙◌}
use mathlib.Core.Bool.{Bool, true, not}
use mathlib.Core.List.{List, [], ◌∷◌}
use lib.ListN.{length, length-map}
use lib.Dec.{eqb, ltb}
use borrow.Author.Tests.{eqb-true, ltb-true}
use Rattle.book.specs.Lists.{keep, foldl}
use Rattle.book.specs.Limits.{active_limit, scope_limit}
use Rattle.book.specs.Rows.{Row, begin, change, hand_over, undo, commit, abort, hand_over_all}
use Rattle.book.specs.Ledger.{Ledger, empty, new_change, starts_scope, only, every, handed_over, after, ledger}
use Rattle.book.specs.Rules.{is_active, scopes_in_use, scope_fits, may_hand_over, lawful, within_limits, allowed, all_allowed, allowed_log}
use Rattle.book.specs.Scopes.{scopes_of}
use Rattle.book.proofs.Lists.{and_l, and_r, any_none, length-keep, keep_all, length-without-le}
use Rattle.book.proofs.Invariant.{Inv}
use Rattle.book.proofs.InvariantKept.{inv-after, inv-empty}
use Rattle.book.proofs.Scoped.{Scoped, NewScope, grows, starts, new-scope, scoped-after, scoped-empty}
use Rattle.book.proofs.Counts.{scopes-count}
use Rattle.book.proofs.Top.{undoes, top-first}
use Rattle.tables_model.specs.Visits.{InRange}
use Rattle.tables_model.specs.Meaning.{tables_of}
use Rattle.tables_model.proofs.ScopesAfter.{scopes-begin, scopes-started, scopes-grown, scopes-handed, scopes-committed, scopes-aborted, scopes-undone}

pub record Limited (l : Ledger) : Type 0 where
  pub active : length l.active ≤ active_limit
  pub scopes : length (scopes_of l) ≤ scope_limit

shorter : {A : Type 0} (p : A → Bool) (xs : List A) → length (keep p xs) ≤ length xs
shorter p xs = let k = length-keep p (λ x. true) xs (λ x m h. refl) in let e = ap length (keep_all (λ x. true) xs (λ x m. refl)) in omega arith

-- 01: a change that starts a scope finds fewer than 64
pub scope-room : (l : Ledger) (v c : ℕ) → scope_fits l v c ≡ true → starts_scope l v c ≡ true → length (scopes_of l) < scope_limit
scope-room l v c room h = rw (scopes-count l) (ltb-true (scopes_in_use l) scope_limit (rw h at room))

limited-handed : (l : Ledger) (g r : ℕ) (cs : ℕ → Bool) → may_hand_over l g r cs ≡ true → Limited l → Limited (handed_over l g r cs)
limited-handed l g r cs e L =
    let actg : is_active l g ≡ true = search (and_l, and_r) depth 9 in
    let actr : is_active l r ≡ true = search (and_l, and_r) depth 9 in
    let is = ap length (scopes-handed l g r cs actg actr) ∙ length-map (scopes_of l) _ in
    let few = L.scopes in record { active = L.active; scopes = omega arith }

limited-after : (l : Ledger) (r : Row) → allowed l r ≡ true → Inv l → Scoped l.changes → Limited l → Limited (after l r)
unfolding after allowed lawful within_limits
limited-after l (begin v) e i S L =
    let next : eqb v (suc l.begun) ≡ true = search (and_l, and_r) in
    let room : ltb (length l.active) active_limit ≡ true = search (and_l, and_r) in
    let same = ap length (scopes-begin l v i (eqb-true v (suc l.begun) next)) in
    let few = L.scopes in
    record { active = ltb-true (length l.active) active_limit room; scopes = omega arith }
limited-after l (change v c a) e i S L =
    let act : is_active l v ≡ true = search (and_l, and_r) in
    let room : scope_fits l v c ≡ true = search (and_l, and_r) in
    record { active = L.active; scopes = go act (scope-room l v c room) (new-scope l v c) }
  where
    go : is_active l v ≡ true → (starts_scope l v c ≡ true → length (scopes_of l) < scope_limit) → NewScope l v c (new_change l v c a).scope
        → length (scopes_of (after l (change v c a))) ≤ scope_limit
    go act room (starts k q) =
        let lt = room (ap not (any_none _ l.changes k)) in
        let is = ap length (scopes-started l v c a i S act k) in omega arith
    go act room (grows y m k q) = let few = L.scopes in let is = ap length (scopes-grown l v c a i S act y m q) ∙ length-map (scopes_of l) _ in omega arith
limited-after l (hand_over g r c) e i S L = limited-handed l g r (only c) (search (and_l, and_r)) L
limited-after l (undo h c n a) e i S L =
    let law : lawful l (undo h c n a) ≡ true = search (and_l, and_r) in
    let u = undoes l h c n a law in
    let is = ap length (scopes-undone l u.x (top-first _ l u.x u.rest i.falling u.first) i S) ∙ length-map (scopes_of l) _ in
    let few = L.scopes in
    let same = ap (λ (r : Row). length (scopes_of (after l r))) u.is in
    record { active = L.active; scopes = omega arith }
limited-after l (commit v) e i S L =
    let few = L.active in
    let fewer = length-without-le v l.active in
    let is = ap length (scopes-committed l v) in
    let less = shorter (λ s. not (eqb s.holder v)) (scopes_of l) in
    let some = L.scopes in record { active = omega arith; scopes = omega arith }
limited-after l (abort v) e i S L =
    let few = L.active in
    let fewer = length-without-le v l.active in
    let is = ap length (scopes-aborted l v) in
    let less = shorter (λ s. not (eqb s.holder v)) (scopes_of l) in
    let some = L.scopes in record { active = omega arith; scopes = omega arith }
limited-after l (hand_over_all g r) e i S L = limited-handed l g r every (search (and_l, and_r)) L

limited-all : (l : Ledger) (rs : List Row) → all_allowed l rs ≡ true → Inv l → Scoped l.changes → Limited l → Limited (foldl after l rs)
limited-all l [] e i S L = L
limited-all l (r ∷ rs) e i S L =
    let al = and_l (allowed l r) _ e in
    limited-all (after l r) rs (and_r (allowed l r) _ e) (inv-after l r al i) (scoped-after l r S) (limited-after l r al i S L)

pub limited : (rs : List Row) → allowed_log rs ≡ true → Limited (ledger rs)
unfolding scopes_of
limited rs e = limited-all empty rs e inv-empty scoped-empty (record { active = omega arith; scopes = omega arith })

-- what the functions over the tables ask
pub in-range : (rs : List Row) → allowed_log rs ≡ true → InRange (tables_of (ledger rs)).count (tables_of (ledger rs)).used
unfolding tables_of
in-range rs e = let k = limited rs e in record { count = k.active; used = k.scopes }
