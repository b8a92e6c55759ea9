-- What holds of every ledger that allowed rows make (`Inv`), and what follows from it at once. `InvariantKept` shows that each allowed row keeps it.
use Prim.Native.Nat.{ℕ, suc, ◌+◌, ◌≤◌, ◌<◌}
use native.Mathlib.Omega.{arith}
use mathlib.Core.Path.{◌≡◌, refl, ap, sym, ◌∙◌}
use mathlib.Core.Bool.{Bool, true, false, cond, ◌&&◌, ◌||◌}
use mathlib.Core.List.Memᴰ
use mathlib.Core.List.{List, [], ◌∷◌, map}
use lib.IntN.{ℤ}
use lib.Dec.{eqb}
use borrow.Author.Tests.{eqb-true}
use Rattle.book.specs.Lists.{In, keep, member, eq_z}
use Rattle.book.specs.Limits.{row_limit, visit_limit}
use Rattle.book.specs.Rows.{undo, is_cell, is_amount}
use Rattle.book.specs.Ledger.{Change, Ledger, holds, given, pass}
use Rattle.book.specs.Rules.{is_active, bears_undo, is_undone, is_open_change, open_changes, open_held, just, reserve, is_first, lawful, allowed}
use Rattle.book.specs.Cells.{is_kept}
use Rattle.book.proofs.Lists.{clash, is_false, and_l, and_r, here, in-keep, member-keep}

-- ── What it says ──────────────────────────────────────────────────────────────────────────────────────────────────────

-- of each change
pub record Good (l : Ledger) (x : Change) : Type 0 where
  pub row : x.row ≤ l.rows
  pub low : 1 ≤ x.row
  pub held : x.holder ≤ l.begun
  pub first : 1 ≤ x.holder
  pub fit : (is_cell x.cell && is_amount x.amount) ≡ true
  -- an undone change's holder bears an undo row
  pub bears : is_undone l x ≡ true → bears_undo l x.holder ≡ true
  -- a change whose holder has ended without a commit is undone
  pub fate : (is_active l x.holder || is_kept l x || is_undone l x) ≡ true

-- of each visit with a commit row
pub record Ended (l : Ledger) (v : ℕ) : Type 0 where
  pub old : v ≤ l.begun
  pub over : is_active l v ≡ false
  pub clean : bears_undo l v ≡ false

-- the changes stand in descending order of their rows
abbrev pub Falling : List Change → Type 0
Falling [] = Unit {0}
Falling (x ∷ xs) = ((y : Change) → In y xs → y.row < x.row) × Falling xs

-- the visits stand in descending order
abbrev pub Sinking : List ℕ → Type 0
Sinking [] = Unit {0}
Sinking (v ∷ vs) = ((u : ℕ) → member u vs ≡ true → u < v) × Sinking vs

pub record Inv (l : Ledger) : Type 0 where
  pub old : (v : ℕ) → is_active l v ≡ true → v ≤ l.begun
  pub first : (v : ℕ) → is_active l v ≡ true → 1 ≤ v
  pub count : l.begun ≤ visit_limit
  pub few : l.begun ≤ l.rows
  pub order : Sinking l.active
  pub borne : (v : ℕ) → bears_undo l v ≡ true → v ≤ l.begun
  pub ended : (v : ℕ) → member v l.committed ≡ true → Ended l v
  pub named : (n : ℕ) → member n l.undone ≡ true → n ≤ l.rows
  pub good : (x : Change) → In x l.changes → Good l x
  pub falling : Falling l.changes
  -- 01: commit, abort and opening never lack space
  pub space : l.rows + reserve l ≤ row_limit

-- ── What follows at once ──────────────────────────────────────────────────────────────────────────────────────────────

-- no undo row names the next row
pub fresh : (l : Ledger) → Inv l → member (suc l.rows) l.undone ≡ false
fresh l i = is_false _ (λ e. let d = i.named (suc l.rows) e in omega arith)

-- changes of one row number are one change
pub same_row : (xs : List Change) (x y : Change) → Falling xs → In x xs → In y xs → x.row ≡ y.row → x ≡ y
same_row [] x y f x6 _ e = elim x6 [ ]
same_row (z ∷ xs) x y f (Memᴰ.head p) (Memᴰ.head q) e = p ∙ sym q
same_row (z ∷ xs) x y f (Memᴰ.head p) (Memᴰ.tail n) e = let k = f.0 y n in let r = ap (λ (w : Change). w.row) p in absurd (omega arith)
same_row (z ∷ xs) x y f (Memᴰ.tail m) (Memᴰ.head q) e = let k = f.0 x m in let r = ap (λ (w : Change). w.row) q in absurd (omega arith)
same_row (z ∷ xs) x y f (Memᴰ.tail m) (Memᴰ.tail n) e = same_row xs x y f.1 m n e

pub falling-keep : (p : Change → Bool) (xs : List Change) → Falling xs → Falling (keep p xs)
falling-keep p [] f = tt
falling-keep p (x ∷ xs) f = go (p x) (falling-keep p xs f.1)
  where
    go : (t : Bool) → Falling (keep p xs) → Falling (cond t (x ∷ keep p xs) (keep p xs))
    go true r = (λ y m. f.0 y (in-keep p xs y m).0, r)
    go false r = r

pub sinking-keep : (p : ℕ → Bool) (xs : List ℕ) → Sinking xs → Sinking (keep p xs)
sinking-keep p [] s = tt
sinking-keep p (x ∷ xs) s = go (p x) (sinking-keep p xs s.1)
  where
    go : (t : Bool) → Sinking (keep p xs) → Sinking (cond t (x ∷ keep p xs) (keep p xs))
    go true r = (λ u m. s.0 u (and_r (p u) _ (sym (member-keep p u xs) ∙ m)), r)
    go false r = r

-- ── A change that a hand-over may pass on ─────────────────────────────────────────────────────────────────────────────

-- what holds of the change given on, where its holder is the giver, and of the change as it is holds of what becomes of it
pub pass-cases {κ} : (P : Change → Type κ) (g r : ℕ) (cs : ℕ → Bool) (x : Change) → (x.holder ≡ g → P (given r x)) → P x → P (pass g r cs x)
pass-cases P g r cs x a b = go (holds g cs x) refl
  where
    go : (t : Bool) → holds g cs x ≡ t → P (cond t (given r x) x)
    go true e = a (eqb-true x.holder g (and_l _ (cs x.cell) e))
    go false e = b

pub pass-row : (g r : ℕ) (cs : ℕ → Bool) (x : Change) → (pass g r cs x).row ≡ x.row
pass-row g r cs x = pass-cases (λ (y : Change). y.row ≡ x.row) g r cs x (λ e. refl) refl

pub falling-pass : (g r : ℕ) (cs : ℕ → Bool) (xs : List Change) → Falling xs → Falling (map (pass g r cs) xs)
falling-pass g r cs [] h = tt
falling-pass g r cs (x ∷ xs) h = (λ y m. let k = Memᴰ.of_map (pass g r cs) xs m in less y k.0 k.1 k.2, falling-pass g r cs xs h.1)
  where
    less : (y z : Change) → In z xs → pass g r cs z ≡ y → y.row < (pass g r cs x).row
    less y z m e = rw (← e, pass-row g r cs z, pass-row g r cs x) (h.0 z m)

-- ── The change that an undo row names ─────────────────────────────────────────────────────────────────────────────────

pub record Named (l : Ledger) (h c n : ℕ) (a : ℤ) : Type 0 where
  pub x : Change
  pub mem : In x l.changes
  pub row : x.row ≡ n
  pub cell : x.cell ≡ c
  pub holder : x.holder ≡ h
  pub amount : eq_z x.amount a ≡ true
  pub opened : is_open_change l x ≡ true

first-is : (xs : List Change) (n c : ℕ) (a : ℤ) → is_first xs n c a ≡ true
    → (x : Change) × In x xs × (x.row ≡ n) × (x.cell ≡ c) × (eq_z x.amount a ≡ true)
first-is [] n c a e = clash false e refl
first-is (x ∷ xs) n c a e =
    let r : eqb x.row n ≡ true = search (and_l, and_r) in
    let k : eqb x.cell c ≡ true = search (and_l, and_r) in
    (x, here, eqb-true x.row n r, eqb-true x.cell c k, search (and_l, and_r))

pub names : (l : Ledger) (h c n : ℕ) (a : ℤ) → allowed l (undo h c n a) ≡ true → Named l h c n a
unfolding allowed lawful
names l h c n a e =
    let is : is_first (open_held (just h) l) n c a ≡ true = search (and_l, and_r) in
    let f = first-is (open_held (just h) l) n c a is in
    let k = in-keep (λ x. just h x.holder) (open_changes l) f.0 f.1 in
    let o = in-keep (is_open_change l) l.changes f.0 k.0 in
    record { x = f.0; mem = o.0; row = f.2; cell = f.3; holder = eqb-true f.0.holder h k.1; amount = f.4; opened = o.1 }
