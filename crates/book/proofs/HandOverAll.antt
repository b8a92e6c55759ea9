-- 02, L2: "Row rules, scopes and the sum over last holders then count kind 7 as all those single hand-overs", of every cell of which the giver holds a change;
-- and it is accepted exactly where some single hand-over between the two visits is.
use Prim.Native.Nat.{ℕ}
use mathlib.Core.Bool.{Bool, true, false, cond, not, ◌&&◌}
use mathlib.Core.Path.{◌≡◌, refl, ap, ap₂, sym, ◌∙◌}
use mathlib.Core.Logic.{◌≢◌}
use mathlib.Core.List.{List, [], ◌∷◌, ◌++◌, map}
use lib.IntN.{ℤ, ◌+ℤ◌}
use lib.Dec.{eqb}
use borrow.Author.Tests.{eqb-true, eq-eqb, ne_eqb, not-false}
use Rattle.book.specs.Lists.{keep, foldl, member, total}
use Rattle.book.specs.Rows.{Row, hand_over, hand_over_all, is_visit, is_cell, fits}
use Rattle.book.specs.Ledger.{Change, Ledger, only, every, holds, given, pass, after, ledger}
use Rattle.book.specs.Rules.{is_active, reserve, room, scopes_in_use, scope_fits, holds_any, may_pass, lawful, within_limits, allowed, allowed_log}
use Rattle.book.specs.Scopes.{scopes_of}
use Rattle.book.specs.Cells.{kept_sum}
use Rattle.book.specs.Calls.{Call}
use Rattle.book.specs.Power.{Book, rows_of, ledger_of}
use Rattle.book.specs.Book.{refusal}
use Rattle.book.specs.HandOverAll.{with_changes, but_rows, singles, HasHeld, AcceptedAlike, AllowedAlike}
use Rattle.book.proofs.Lists.{clash, and_i, and_l, and_r, foldl-append, any-in, any_some, map-map, map_same, keep-map}
use Rattle.book.proofs.Logs.{ledger-append}
use Rattle.book.proofs.Invariant.{Inv}
use Rattle.book.proofs.InvariantKept.{inv-log}
use Rattle.book.proofs.Adds.{passes}

-- ── One change ────────────────────────────────────────────────────────────────────────────────────────────────────────

-- the single hand-overs of these cells, one after the other, as one change sees them
abbrev singly : ℕ → ℕ → List ℕ → Change → Change
singly g r [] x = x
singly g r (c ∷ cs) x = singly g r cs (pass g r (only c) x)

-- once another visit holds the change, the giver passes it on no more
unheld : (g r : ℕ) (cs : List ℕ) (x : Change) → eqb x.holder g ≡ false → singly g r cs x ≡ x
unheld g r [] x e = refl
unheld g r (c ∷ cs) x e =
    let one : pass g r (only c) x ≡ x = rw e in ap (singly g r cs) one ∙ unheld g r cs x e

held : (g r : ℕ) (cs : List ℕ) (x : Change) → g ≢ r → eqb x.holder g ≡ true → member x.cell cs ≡ true → singly g r cs x ≡ given r x
held g r [] x ne h m = clash false m refl
held g r (c ∷ cs) x ne h m = go (eqb x.cell c) refl (λ k. held g r cs x ne h k)
  where
    go : (t : Bool) → eqb x.cell c ≡ t → (member x.cell cs ≡ true → singly g r cs x ≡ given r x) → singly g r cs (pass g r (only c) x) ≡ given r x
    go true e ih =
        let one : pass g r (only c) x ≡ given r x = rw (h, e) in
        ap (singly g r cs) one ∙ unheld g r cs (given r x) (ne_eqb r g (λ q. ne (sym q)))
    go false e ih =
        let one : pass g r (only c) x ≡ x = rw (h, e) in ap (singly g r cs) one ∙ ih (rw e at m)

each : (g r : ℕ) (cs : List ℕ) (x : Change) → g ≢ r → (eqb x.holder g ≡ true → member x.cell cs ≡ true) → singly g r cs x ≡ pass g r every x
each g r cs x ne m = go (eqb x.holder g) refl
  where
    go : (t : Bool) → eqb x.holder g ≡ t → singly g r cs x ≡ cond (t && true) (given r x) x
    go true h = held g r cs x ne h (m h)
    go false h = unheld g r cs x h

-- ── All of the ledger but the number of rows ──────────────────────────────────────────────────────────────────────────

all-singly : (l : Ledger) (g r : ℕ) (cs : List ℕ) → but_rows (foldl after l (singles g r cs)) ≡ with_changes l (map (singly g r cs) l.changes)
unfolding after
all-singly l g r [] = ap (with_changes l) (sym (same l.changes))
  where
    same : (xs : List Change) → map (λ x. x) xs ≡ xs
    same [] = refl
    same (x ∷ xs) = ap (λ (ys : List Change). x ∷ ys) (same xs)
all-singly l g r (c ∷ cs) =
    all-singly (after l (hand_over g r c)) g r cs ∙ ap (with_changes l) (map-map (singly g r cs) (pass g r (only c)) l.changes)

-- the set of cells is taken before the row, and the order of the single hand-overs does not matter
pub hand-over-all-is-singles : (l : Ledger) (g r : ℕ) (cs : List ℕ) → g ≢ r → HasHeld l g cs
    → but_rows (after l (hand_over_all g r)) ≡ but_rows (foldl after l (singles g r cs))
unfolding after
hand-over-all-is-singles l g r cs ne m =
    sym (all-singly l g r cs ∙
    ap (with_changes l) (map_same _ _ l.changes (λ x k. each g r cs x ne (λ h. m x k (eqb-true x.holder g h)))))

-- ── Row rules and scopes ──────────────────────────────────────────────────────────────────────────────────────────────

-- the rules do not ask for the number of rows
rules-but-rows : (l : Ledger) (row : Row) → lawful l row ≡ lawful (but_rows l) row
unfolding lawful
rules-but-rows l (Row.begin v) = refl
rules-but-rows l (Row.change v c a) = refl
rules-but-rows l (Row.hand_over g r c) = refl
rules-but-rows l (Row.undo h c n a) = refl
rules-but-rows l (Row.commit v) = refl
rules-but-rows l (Row.abort v) = refl
rules-but-rows l (Row.hand_over_all g r) = refl

module _ (l : Ledger) (g r : ℕ) (cs : List ℕ) (ne : g ≢ r) (m : HasHeld l g cs) where
  -- what the next row needs of visits, cells, holders and undo rows
  pub hand-over-all-rules : (row : Row) → lawful (after l (hand_over_all g r)) row ≡ lawful (foldl after l (singles g r cs)) row
  hand-over-all-rules row =
      rules-but-rows (after l (hand_over_all g r)) row ∙ ap (λ (k : Ledger). lawful k row) (hand-over-all-is-singles l g r cs ne m) ∙
      sym (rules-but-rows (foldl after l (singles g r cs)) row)

  -- what the next row needs of the sixteen visits, the scopes and the reserve; the free rows differ, as the number of rows does
  pub hand-over-all-active : (after l (hand_over_all g r)).active ≡ (foldl after l (singles g r cs)).active
  hand-over-all-active = ap (λ (k : Ledger). k.active) (hand-over-all-is-singles l g r cs ne m)

  pub hand-over-all-scope-fits : (v c : ℕ) → scope_fits (after l (hand_over_all g r)) v c ≡ scope_fits (foldl after l (singles g r cs)) v c
  unfolding scopes_in_use
  hand-over-all-scope-fits v c = ap (λ (k : Ledger). scope_fits k v c) (hand-over-all-is-singles l g r cs ne m)

  pub hand-over-all-reserve : reserve (after l (hand_over_all g r)) ≡ reserve (foldl after l (singles g r cs))
  unfolding reserve
  hand-over-all-reserve = ap reserve (hand-over-all-is-singles l g r cs ne m)

  -- the scopes in use
  pub hand-over-all-scopes : scopes_of (after l (hand_over_all g r)) ≡ scopes_of (foldl after l (singles g r cs))
  unfolding scopes_of
  hand-over-all-scopes = ap scopes_of (hand-over-all-is-singles l g r cs ne m)

-- ── The sum over last holders, whatever rows follow ───────────────────────────────────────────────────────────────────

-- the change without row numbers: later rows have other numbers where a hand-over took another number of rows
abbrev unnumbered : Change → Change
unnumbered x = record { row = 0; maker = x.maker; cell = x.cell; amount = x.amount; holder = x.holder; handed = x.handed; scope = 0 }

-- two ledgers with the same commit rows, and the same changes but for row numbers
record SameHeld (l m : Ledger) : Type 0 where
  committed : l.committed ≡ m.committed
  changes : map unnumbered l.changes ≡ map unnumbered m.changes

unnumbered-passed : (g r : ℕ) (cs : ℕ → Bool) (xs : List Change) → map unnumbered (map (pass g r cs) xs) ≡ map (pass g r cs) (map unnumbered xs)
unnumbered-passed g r cs [] = refl
unnumbered-passed g r cs (x ∷ xs) = ap₂ ◌∷◌ (go (holds g cs x)) (unnumbered-passed g r cs xs)
  where
    go : (t : Bool) → unnumbered (cond t (given r x) x) ≡ cond t (given r (unnumbered x)) (unnumbered x)
    go true = refl
    go false = refl

same-passed : (l m : Ledger) (g r : ℕ) (cs : ℕ → Bool) → map unnumbered l.changes ≡ map unnumbered m.changes
    → map unnumbered (map (pass g r cs) l.changes) ≡ map unnumbered (map (pass g r cs) m.changes)
same-passed l m g r cs e = unnumbered-passed g r cs l.changes ∙ ap (map (pass g r cs)) e ∙ sym (unnumbered-passed g r cs m.changes)

same_after : (l m : Ledger) (row : Row) → SameHeld l m → SameHeld (after l row) (after m row)
unfolding after
same_after l m (Row.begin v) s = record { committed = s.committed; changes = s.changes }
same_after l m (Row.change v c a) s =
    let x : Change = record { row = 0; maker = v; cell = c; amount = a; holder = v; handed = false; scope = 0 } in
    record { committed = s.committed; changes = ap (λ (xs : List Change). x ∷ xs) s.changes }
same_after l m (Row.hand_over g r c) s = record { committed = s.committed; changes = same-passed l m g r (only c) s.changes }
same_after l m (Row.undo h c n a) s = record { committed = s.committed; changes = s.changes }
same_after l m (Row.commit v) s = record { committed = ap (λ (vs : List ℕ). v ∷ vs) s.committed; changes = s.changes }
same_after l m (Row.abort v) s = record { committed = s.committed; changes = s.changes }
same_after l m (Row.hand_over_all g r) s = record { committed = s.committed; changes = same-passed l m g r every s.changes }

same-all : (l m : Ledger) (rs : List Row) → SameHeld l m → SameHeld (foldl after l rs) (foldl after m rs)
same-all l m [] s = s
same-all l m (row ∷ rs) s = same-all (after l row) (after m row) rs (same_after l m row s)

-- the sum by commit rows and changes
abbrev sum_over : (ℕ → ℤ) → ℕ → List ℕ → List Change → ℤ
sum_over cells c vs xs = cells c +ℤ total (map (λ x. x.amount) (keep (λ x. eqb x.cell c && member x.holder vs) xs))

sum-unnumbered : (cells : ℕ → ℤ) (c : ℕ) (vs : List ℕ) (xs : List Change) → sum_over cells c vs xs ≡ sum_over cells c vs (map unnumbered xs)
sum-unnumbered cells c vs xs =
    let p : Change → Bool = λ x. eqb x.cell c && member x.holder vs in
    ap (λ (zs : List ℤ). cells c +ℤ total zs)
    (sym (ap (map (λ (x : Change). x.amount)) (keep-map p unnumbered xs) ∙ map-map (λ (x : Change). x.amount) unnumbered (keep p xs)))

sum_same : (cells : ℕ → ℤ) (c : ℕ) (l m : Ledger) → SameHeld l m → sum_over cells c l.committed l.changes ≡ sum_over cells c m.committed m.changes
sum_same cells c l m s =
    sum-unnumbered cells c l.committed l.changes ∙ ap₂ (sum_over cells c) s.committed s.changes ∙
    sym (sum-unnumbered cells c m.committed m.changes)

pub hand-over-all-sum : (cells : ℕ → ℤ) (c : ℕ) (rs : List Row) (g r : ℕ) (cs : List ℕ) (later : List Row) → g ≢ r → HasHeld (ledger rs) g cs
    → kept_sum cells (rs ++ (hand_over_all g r ∷ later)) c ≡ kept_sum cells (rs ++ (singles g r cs ++ later)) c
unfolding kept_sum
hand-over-all-sum cells c rs g r cs later ne m =
    let l = ledger rs in
    let e = hand-over-all-is-singles l g r cs ne m in
    let s : SameHeld (after l (hand_over_all g r)) (foldl after l (singles g r cs)) =
    record { committed = ap (λ (k : Ledger). k.committed) e; changes = ap (λ (k : Ledger). map unnumbered k.changes) e } in
    ap sum (ledger-append rs (hand_over_all g r ∷ later)) ∙ sum_same cells c _ _ (same-all _ _ later s) ∙
    ap sum (sym (ledger-append rs (singles g r cs ++ later) ∙ foldl-append after l (singles g r cs) later))
  where
    sum : Ledger → ℤ
    sum l = sum_over cells c l.committed l.changes

-- ── Accepted where some single hand-over is ───────────────────────────────────────────────────────────────────────────

-- a visit holds a change exactly when it holds one of some cell, from 0 to 223
held-cell : (l : Ledger) (g : ℕ) → Inv l → holds_any l g every ≡ true → (c : ℕ) × (is_cell c ≡ true) × (holds_any l g (only c) ≡ true)
held-cell l g i h =
    let k = any_some (holds g every) l.changes h in
    let x = k.0 in (
      x.cell,
      and_l (is_cell x.cell) _ (i.good x k.1).fit,
      any-in (holds g (only x.cell)) k.1 (and_i (eqb x.holder g) _ (and_l _ true k.2) (eq-eqb x.cell x.cell refl)),
    )

held-every : (l : Ledger) (g c : ℕ) → holds_any l g (only c) ≡ true → holds_any l g every ≡ true
held-every l g c h =
    let k = any_some (holds g (only c)) l.changes h in any-in (holds g every) k.1 (and_i (eqb k.0.holder g) true (and_l (eqb k.0.holder g) _ k.2) refl)

module _ (b : Book) (g r : ℕ) (giver : not (is_active (ledger_of b) g) ≡ false) (receiver : not (is_active (ledger_of b) r) ≡ false) (two : eqb g r ≡ false)
    (free : ◌≡◌ {A = ℕ} (cond (not (room (ledger_of b) 1)) 8 0) 0) where
  one-accepted : (c : ℕ) → is_cell c ≡ true → holds_any (ledger_of b) g (only c) ≡ true → refusal b (Call.hand_over g r c) ≡ 0
  unfolding refusal
  one-accepted c cell has = rw (giver, receiver, two, cell, has) free

  all-accepted : holds_any (ledger_of b) g every ≡ true → refusal b (Call.hand_over_all g r) ≡ 0
  unfolding refusal
  all-accepted has = rw (giver, receiver, two, has) free

-- of the call
pub hand-over-all-accepted : (b : Book) (g r : ℕ) → allowed_log (rows_of b) ≡ true → AcceptedAlike b g r
unfolding refusal
hand-over-all-accepted b g r al = record {
  some = λ e.
      let l = ledger_of b in
      let p = passes (not (is_active l g)) 8 _ e in
      let q = passes (not (is_active l r)) 8 _ p.1 in
      let s = passes (eqb g r) 11 _ q.1 in
      let x = passes (not (holds_any l g every)) 12 _ s.1 in
      let k = held-cell l g (inv-log (rows_of b) al) (not-false _ x.0) in
      (k.0, one-accepted b g r p.0 q.0 s.0 x.1 k.0 k.1 k.2);
  all = λ c e.
      let l = ledger_of b in
      let p = passes (not (is_active l g)) 8 _ e in
      let q = passes (not (is_active l r)) 8 _ p.1 in
      let s = passes (eqb g r) 11 _ q.1 in
      let u = passes (not (is_cell c)) 9 _ s.1 in
      let x = passes (not (holds_any l g (only c))) 12 _ u.1 in
      all-accepted b g r p.0 q.0 s.0 x.1 (held-every l g c (not-false _ x.0));
}

-- of the row
parts : (f p h n : Bool) → (f && (p && h) && n) ≡ true → (f ≡ true) × (p ≡ true) × (h ≡ true) × (n ≡ true)
parts f p h n e =
    let both = and_l (f && (p && h)) n e in
    (and_l f _ both, and_l p h (and_r f _ both), and_r p h (and_r f _ both), and_r (f && (p && h)) n e)

joined : (f p h n : Bool) → f ≡ true → p ≡ true → h ≡ true → n ≡ true → (f && (p && h) && n) ≡ true
joined f p h n a b c d = and_i (f && (p && h)) n (and_i f (p && h) a (and_i p h b c)) d

pub hand-over-all-allowed : (rs : List Row) (g r : ℕ) → allowed_log rs ≡ true → AllowedAlike (ledger rs) g r
unfolding allowed fits lawful within_limits
hand-over-all-allowed rs g r al = record {
  some = λ e.
      let l = ledger rs in
      let k = parts (is_visit g && is_visit r) (may_pass l g r) (holds_any l g every) (room l 1) e in
      let h = held-cell l g (inv-log rs al) k.2 in
      let fit = and_i (is_visit g && is_visit r) (is_cell h.0) k.0 h.1 in
      (h.0, joined (is_visit g && is_visit r && is_cell h.0) (may_pass l g r) (holds_any l g (only h.0)) (room l 1) fit k.1 h.2 k.3);
  all = λ c e.
      let l = ledger rs in
      let k = parts (is_visit g && is_visit r && is_cell c) (may_pass l g r) (holds_any l g (only c)) (room l 1) e in
      let fit = and_l (is_visit g && is_visit r) (is_cell c) k.0 in
      joined (is_visit g && is_visit r) (may_pass l g r) (holds_any l g every) (room l 1) fit k.1 (held-every l g c k.2) k.3;
}
