-- 02, L2: "Row rules, scopes and the sum over last holders then count kind 7 as all those single hand-overs", after whatever rows follow. These have other row
-- numbers after the single hand-overs, which take one row each, so that the two ledgers are the same but for the numbers of later rows (`Renumbered`).
use Prim.Native.Nat.{ℕ, suc, ◌+◌, ◌≤◌, ◌<◌}
use native.Mathlib.Omega.{arith}
use mathlib.Core.Bool.{Bool, true, false, cond, not, ◌&&◌, ◌||◌}
use mathlib.Core.Path.{◌≡◌, refl, ap, ap₂, sym, ◌∙◌}
use mathlib.Core.Logic.{◌≢◌}
use mathlib.Core.List.{List, [], ◌∷◌, ◌++◌, map}
use lib.ListN.{length, length-map}
use lib.IntN.{ℤ}
use lib.Dec.{eqb, leb, ltb}
use borrow.Author.Tests.{eqb-true, eqb-false, eq-eqb, ne_eqb, leb-true, leb-false, le-leb, lt-leb}
use Rattle.book.specs.Lists.{In, keep, any, member, foldl, eq_z}
use Rattle.book.specs.Limits.{scope_limit}
use Rattle.book.specs.Rows.{Row, hand_over, hand_over_all}
use Rattle.book.specs.Ledger.{Change, Ledger, continues, scope_from, new_change, only, every, holds, given, pass, after, ledger}
use Rattle.book.specs.Rules.{is_active, is_undone, is_open_change, open_changes, open_held, just, reserve, starts_in_use, scopes_in_use, scope_fits, holds_any, is_first, lawful, allowed_log}
use Rattle.book.specs.Scopes.{first_row, standing, entry_of, scopes_of}
use Rattle.book.specs.HandOverAll.{singles, HasHeld, number_after, renumbered_row, renumbered_change, renumbered_scope, Renumbered, CountsAlike}
use Rattle.book.proofs.Lists.{foldl-append, keep-map, keep_same, map-map, map_same, member-in}
use Rattle.book.proofs.Logs.{ledger-append}
use Rattle.book.proofs.InvariantKept.{inv-log, rows-length}
use Rattle.book.proofs.Scoped.{scoped-log}
use Rattle.book.proofs.HandOverAll.{hand-over-all-is-singles}

-- ── Lists of other numbers ────────────────────────────────────────────────────────────────────────────────────────────

any-map : {A B : Type 0} (p : B → Bool) (f : A → B) (xs : List A) → any p (map f xs) ≡ any (λ x. p (f x)) xs
any-map p f [] = refl
any-map p f (x ∷ xs) = ap (λ (t : Bool). p (f x) || t) (any-map p f xs)

map-id : {A : Type 0} (f : A → A) (xs : List A) → ((x : A) → In x xs → f x ≡ x) → map f xs ≡ xs
map-id {A = A} f xs e = map_same f (λ x. x) xs e ∙ same xs
  where
    same : (ys : List A) → map (λ y. y) ys ≡ ys
    same [] = refl
    same (y ∷ ys) = ap (λ (zs : List A). y ∷ zs) (same ys)

-- ── Two ledgers ───────────────────────────────────────────────────────────────────────────────────────────────────────

-- whatever takes different numbers to different ones, and 0 to 0
module _ (f : ℕ → ℕ) (apart : (a b : ℕ) → eqb (f a) (f b) ≡ eqb a b) (zero' : f 0 ≡ 0) where
  abbrev re : Change → Change
  re = renumbered_change f

  member-re : (n : ℕ) (ns : List ℕ) → member (f n) (map f ns) ≡ member n ns
  member-re n [] = refl
  member-re n (m ∷ ns) = ap₂ ◌||◌ (apart n m) (member-re n ns)

  passed-re : (g r : ℕ) (cs : ℕ → Bool) (xs : List Change) → map (pass g r cs) (map re xs) ≡ map re (map (pass g r cs) xs)
  passed-re g r cs [] = refl
  passed-re g r cs (x ∷ xs) = ap₂ ◌∷◌ (go (holds g cs x)) (passed-re g r cs xs)
    where
      go : (t : Bool) → cond t (given r (re x)) (re x) ≡ re (cond t (given r x) x)
      go true = refl
      go false = refl

  module _ (l m : Ledger) (s : Renumbered f l m) where
    undone-re : (x : Change) → is_undone m (re x) ≡ is_undone l x
    undone-re x = ap (member (f x.row)) s.undone ∙ member-re x.row l.undone

    open-re : (x : Change) → is_open_change m (re x) ≡ is_open_change l x
    open-re x = rw (undone-re x, s.active)

    opens-re : open_changes m ≡ map re (open_changes l)
    opens-re =
        ap (keep (is_open_change m)) s.changes ∙ keep-map (is_open_change m) re l.changes ∙
        ap (map re) (keep_same _ _ l.changes (λ x i. open-re x))

    held-re : (v : ℕ) (cs : ℕ → Bool) → holds_any m v cs ≡ holds_any l v cs
    held-re v cs = ap (any (holds v cs)) s.changes ∙ any-map (holds v cs) re l.changes

    first-re : (xs : List Change) (n c : ℕ) (a : ℤ) → is_first (map re xs) (f n) c a ≡ is_first xs n c a
    first-re [] n c a = refl
    first-re (x ∷ xs) n c a = ap (λ (t : Bool). t && eqb x.cell c && eq_z x.amount a) (apart x.row n)

    rules-re : (row : Row) → lawful m (renumbered_row f row) ≡ lawful l row
    unfolding lawful
    rules-re (Row.begin v) = rw s.begun
    rules-re (Row.change v c a) = rw (s.active, s.undoing)
    rules-re (Row.hand_over g r c) = rw (s.active, s.undoing, held-re g (only c))
    rules-re (Row.undo h c n a) =
        ap (λ (xs : List Change). is_first xs (f n) c a) (ap (keep (λ x. just h x.holder)) opens-re ∙ keep-map (λ x. just h x.holder) re (open_changes l)) ∙
        first-re (open_held (just h) l) n c a
    rules-re (Row.commit v) = rw (s.active, s.undoing)
    rules-re (Row.abort v) =
        ap₂ (λ (vs : List ℕ) (xs : List Change). member v vs && not (any (λ x. just v x.holder) xs)) s.active opens-re ∙
        ap (λ (t : Bool). is_active l v && not t) (any-map (λ (x : Change). just v x.holder) re (open_changes l))
    rules-re (Row.hand_over_all g r) = rw (s.active, s.undoing, held-re g every)

    reserve-re : reserve m ≡ reserve l
    unfolding reserve
    reserve-re =
        ap₂ (λ (vs : List ℕ) (xs : List Change). length vs + length xs) s.active opens-re ∙
        ap (λ (n : ℕ). length l.active + n) (length-map (open_changes l) re)

    starts-re : keep (starts_in_use m) m.changes ≡ map re (keep (starts_in_use l) l.changes)
    starts-re =
        ap (keep (starts_in_use m)) s.changes ∙ keep-map (starts_in_use m) re l.changes ∙
        ap (map re) (keep_same _ _ l.changes (λ x i. rw (apart x.scope x.row, s.active)))

    in-use-re : scopes_in_use m ≡ scopes_in_use l
    unfolding scopes_in_use
    in-use-re = ap length starts-re ∙ length-map (keep (starts_in_use l) l.changes) re

    fits-re : (v c : ℕ) → scope_fits m v c ≡ scope_fits l v c
    fits-re v c = ap₂ (λ (t : Bool) (n : ℕ). not (not t) || ltb n scope_limit)
        (ap (any (continues v c)) s.changes ∙ any-map (continues v c) re l.changes) in-use-re

    standing-re : (n : ℕ) → standing m (f n) ≡ map re (standing l n)
    standing-re n =
        ap (keep (λ y. eqb y.scope (f n) && not (is_undone m y))) s.changes ∙ keep-map (λ y. eqb y.scope (f n) && not (is_undone m y)) re l.changes ∙
        ap (map re) (keep_same _ _ l.changes (λ x i. rw (apart x.scope n, undone-re x)))

    first-row-re : (xs : List Change) → first_row (map re xs) ≡ f (first_row xs)
    first-row-re [] = sym zero'
    first-row-re (x ∷ xs) = refl

    entry-re : (x : Change) → entry_of m (re x) ≡ renumbered_scope f (entry_of l x)
    entry-re x = ap₂ (λ (last count : ℕ). record { maker = x.maker; holder = x.holder; cell = x.cell; first = f x.row; last = last; handed = x.handed; count = count })
        (ap first_row (standing-re x.row) ∙ first-row-re (standing l x.row))
        (ap length (standing-re x.row) ∙ length-map (standing l x.row) re)

    scopes-re : scopes_of m ≡ map (renumbered_scope f) (scopes_of l)
    unfolding scopes_of
    scopes-re =
        let xs = keep (starts_in_use l) l.changes in
        ap (map (entry_of m)) starts-re ∙ map-map (entry_of m) re xs ∙ map_same _ _ xs (λ x i. entry-re x) ∙ sym (map-map (renumbered_scope f) (entry_of l) xs)

    counts-alike : CountsAlike f l m
    counts-alike = record { rules = rules-re; active = s.active; fits = fits-re; reserve = reserve-re; scopes = scopes-re }

    -- one row more
    new-re : (v c : ℕ) (a : ℤ) → f (suc l.rows) ≡ suc m.rows → new_change m v c a ≡ re (new_change l v c a)
    new-re v c a e = ap₂ (λ (n k : ℕ). record { row = n; maker = v; cell = c; amount = a; holder = v; handed = false; scope = k }) (sym e)
        (ap₂ scope_from (sym e) (ap (keep (continues v c)) s.changes ∙ keep-map (continues v c) re l.changes) ∙
        go (keep (continues v c) l.changes))
      where
        go : (xs : List Change) → scope_from (f (suc l.rows)) (map re xs) ≡ f (scope_from (suc l.rows) xs)
        go [] = refl
        go (x ∷ xs) = refl

    row-re : (row : Row) → f (suc l.rows) ≡ suc m.rows → Renumbered f (after l row) (after m (renumbered_row f row))
    unfolding after
    row-re (Row.begin v) e =
        record { begun = rw s.begun; active = rw s.active; committed = s.committed; undoing = s.undoing; undone = s.undone; changes = s.changes }
    row-re (Row.change v c a) e =
        record { begun = s.begun; active = s.active; committed = s.committed; undoing = s.undoing; undone = s.undone; changes = ap₂ ◌∷◌ (new-re v c a e) s.changes }
    row-re (Row.hand_over g r c) e = record {
      begun = s.begun;
      active = s.active;
      committed = s.committed;
      undoing = s.undoing;
      undone = s.undone;
      changes = ap (map (pass g r (only c))) s.changes ∙ passed-re g r (only c) l.changes;
    }
    row-re (Row.undo h c n a) e =
        record { begun = s.begun; active = s.active; committed = s.committed; undoing = rw s.undoing; undone = ap (λ (ns : List ℕ). f n ∷ ns) s.undone; changes = s.changes }
    row-re (Row.commit v) e =
        record { begun = s.begun; active = rw s.active; committed = rw s.committed; undoing = s.undoing; undone = s.undone; changes = s.changes }
    row-re (Row.abort v) e =
        record { begun = s.begun; active = rw s.active; committed = s.committed; undoing = s.undoing; undone = s.undone; changes = s.changes }
    row-re (Row.hand_over_all g r) e = record {
      begun = s.begun;
      active = s.active;
      committed = s.committed;
      undoing = s.undoing;
      undone = s.undone;
      changes = ap (map (pass g r every)) s.changes ∙ passed-re g r every l.changes;
    }

-- ── Numbers above n are d higher ──────────────────────────────────────────────────────────────────────────────────────

module _ (n d : ℕ) where
  stays : (k : ℕ) → k ≤ n → number_after n d k ≡ k
  stays k h = rw (le-leb k n h)

  moves : (k : ℕ) → n < k → number_after n d k ≡ k + d
  moves k h = rw (lt-leb k n h)

  data Moved (k : ℕ) : Type 0 where
    stayed : number_after n d k ≡ k → k ≤ n → Moved k
    moved : number_after n d k ≡ k + d → n < k → Moved k

  by : (k : ℕ) → Moved k
  by k = go (leb k n) refl
    where
      go : (t : Bool) → leb k n ≡ t → Moved k
      go true e = let h = leb-true k n e in stayed (stays k h) h
      go false e = let h = leb-false k n e in moved (moves k h) h

  -- different numbers stay different
  numbers_apart : (a b : ℕ) → eqb (number_after n d a) (number_after n d b) ≡ eqb a b
  numbers_apart a b = go (by a) (by b) (eqb a b) refl
    where
      go : Moved a → Moved b → (t : Bool) → eqb a b ≡ t → eqb (number_after n d a) (number_after n d b) ≡ t
      go p q true e = eq-eqb _ _ (ap (number_after n d) (eqb-true a b e))
      go (stayed x u) (stayed y v) false e = ne_eqb _ _ (λ z. eqb-false a b e (sym x ∙ z ∙ y))
      go (stayed x u) (moved y v) false e = ne_eqb _ _ (λ z. let w : a ≡ b + d = sym x ∙ z ∙ y in omega arith)
      go (moved x u) (stayed y v) false e = ne_eqb _ _ (λ z. let w : a + d ≡ b = sym x ∙ z ∙ y in omega arith)
      go (moved x u) (moved y v) false e = ne_eqb _ _ (λ z. let w : a + d ≡ b + d = sym x ∙ z ∙ y in eqb-false a b e (omega arith))

  one_more_lem : (k : Ledger) (r : Row) → (after k r).rows ≡ suc k.rows
  unfolding after
  one_more_lem k r = refl

  -- rows that follow
  rows-re : (rs : List Row) (l m : Ledger) → Renumbered (number_after n d) l m → n ≤ l.rows → m.rows ≡ l.rows + d
      → Renumbered (number_after n d) (foldl after l rs) (foldl after m (map (renumbered_row (number_after n d)) rs))
  rows-re [] l m s h e = s
  rows-re (row ∷ rs) l m s h e =
      let next : number_after n d (suc l.rows) ≡ suc m.rows = moves (suc l.rows) (omega arith) ∙ omega arith in
      let one = one_more_lem l row in
      let one' = one_more_lem m (renumbered_row (number_after n d) row) in
      rows-re rs (after l row) (after m (renumbered_row (number_after n d) row))
      (row-re (number_after n d) numbers_apart (stays 0 (omega arith)) l m s row next) (omega arith) (omega arith)

-- ── A row of kind 7, and the single hand-overs ────────────────────────────────────────────────────────────────────────

rows-of-singles : (l : Ledger) (g r : ℕ) (cs : List ℕ) → (foldl after l (singles g r cs)).rows ≡ l.rows + length cs
unfolding after
rows-of-singles l g r [] = omega arith
rows-of-singles l g r (c ∷ cs) = let k = rows-of-singles (after l (hand_over g r c)) g r cs in omega arith

module _ (rs : List Row) (g r c : ℕ) (cs : List ℕ) (al : allowed_log rs ≡ true) (ne : g ≢ r) (has : HasHeld (ledger rs) g (c ∷ cs)) where
  abbrev number' : ℕ → ℕ
  number' = number_after (length rs) (length cs)

  -- rows of the log keep their numbers
  low : (k : ℕ) → k ≤ (ledger rs).rows → number' k ≡ k
  low k h = let n = rows-length rs in stays (length rs) (length cs) k (omega arith)

  low-change : (x : Change) → In x (ledger rs).changes → renumbered_change number' x ≡ x
  low-change x m =
      let i = inv-log rs al in
      let s = (scoped-log rs).started x m in
      let p = (i.good s.s s.mem).row in
      let q = s.row in
      ap₂ (λ (n k : ℕ). record { row = n; maker = x.maker; cell = x.cell; amount = x.amount; holder = x.holder; handed = x.handed; scope = k })
      (low x.row (i.good x m).row) (low x.scope (omega arith))

  start : Renumbered number' (after (ledger rs) (hand_over_all g r)) (foldl after (ledger rs) (singles g r (c ∷ cs)))
  unfolding after
  start =
      let l = ledger rs in
      let e = sym (hand-over-all-is-singles l g r (c ∷ cs) ne has) in
      record {
        begun = ap (λ (k : Ledger). k.begun) e;
        active = ap (λ (k : Ledger). k.active) e;
        committed = ap (λ (k : Ledger). k.committed) e;
        undoing = ap (λ (k : Ledger). k.undoing) e;
        undone = ap (λ (k : Ledger). k.undone) e ∙ sym (map-id number' l.undone (λ n m. low n ((inv-log rs al).named n (member-in n l.undone m))));
        changes =
            ap (λ (k : Ledger). k.changes) e ∙ ap (map (pass g r every)) (sym (map-id (renumbered_change number') l.changes low-change)) ∙
            passed-re number' (numbers_apart (length rs) (length cs)) (low 0 (omega arith)) g r every l.changes;
      }

  pub hand-over-all-later : (later : List Row)
      → Renumbered number' (ledger (rs ++ (hand_over_all g r ∷ later))) (ledger (rs ++ (singles g r (c ∷ cs) ++ map (renumbered_row number') later)))
  unfolding after
  hand-over-all-later later =
      let l = ledger rs in
      let k = rows-of-singles l g r (c ∷ cs) in
      let n = rows-length rs in
      rw (
        ledger-append rs (hand_over_all g r ∷ later),
        ledger-append rs (singles g r (c ∷ cs) ++ map (renumbered_row number') later),
        foldl-append after l (singles g r (c ∷ cs)) (map (renumbered_row number') later),
      )
      (rows-re (length rs) (length cs) later (after l (hand_over_all g r)) (foldl after l (singles g r (c ∷ cs))) start (omega arith) (omega arith))

  -- rules, scopes and reserve after whatever rows follow
  pub hand-over-all-counts : (later : List Row)
      → CountsAlike number' (ledger (rs ++ (hand_over_all g r ∷ later))) (ledger (rs ++ (singles g r (c ∷ cs) ++ map (renumbered_row number') later)))
  hand-over-all-counts later =
      counts-alike number' (numbers_apart (length rs) (length cs)) (low 0 (omega arith)) _ _ (hand-over-all-later later)
