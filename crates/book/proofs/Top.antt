-- The change that an undo row undoes: an open change, the highest that its holder has (`Top`). Abort and openings undo such changes too.
use Prim.Native.Nat.{ℕ, ◌≤◌}
use native.Mathlib.Omega.{arith}
use mathlib.Core.Path.{◌≡◌, refl, ap, ◌∙◌, subst}
use mathlib.Core.Bool.{Bool, true, false}
use mathlib.Core.List.{List, [], ◌∷◌}
use lib.IntN.{ℤ}
use lib.Dec.{eqb}
use borrow.Author.Tests.{eqb-true}
use Rattle.book.specs.Lists.{In, eq_z}
use Rattle.book.specs.Rows.{undo}
use Rattle.book.specs.Ledger.{Change, Ledger}
use Rattle.book.specs.Rules.{is_open_change, open_changes, open_held, just, is_first, lawful}
use Rattle.book.specs.Book.{undo_of}
use Rattle.book.proofs.Lists.{clash, and_l, and_r, here, in-cons, in-keep, keep-in, eq_z-true}
use Rattle.book.proofs.Invariant.{Falling, falling-keep}

-- x is open, and no open change of its holder has a higher row
pub record Top (l : Ledger) (x : Change) : Type 0 where
  pub mem : In x l.changes
  pub opened : is_open_change l x ≡ true
  pub above : (y : Change) → In y l.changes → is_open_change l y ≡ true → y.holder ≡ x.holder → y.row ≤ x.row

-- an open change that these visits hold
pub held-open : (who : ℕ → Bool) (l : Ledger) (y : Change) → In y (open_held who l)
    → In y l.changes × (is_open_change l y ≡ true) × (who y.holder ≡ true)
held-open who l y m =
    let k = in-keep (λ z. who z.holder) (open_changes l) y m in
    let o = in-keep (is_open_change l) l.changes y k.0 in (o.0, o.1, k.1)

-- of a list in descending order none is higher than the first
pub first-highest : (x : Change) (xs : List Change) → Falling (x ∷ xs) → (y : Change) → In y (x ∷ xs) → y.row ≤ x.row
first-highest x xs f = in-cons (omega arith) (λ y m. let k = f.0 y m in omega arith)

-- the first of the open changes that some visits hold
pub top-first : (who : ℕ → Bool) (l : Ledger) (x : Change) (xs : List Change) → Falling l.changes → open_held who l ≡ x ∷ xs → Top l x
top-first who l x xs f e =
    let h = held-open who l x (rw e here) in
    record {
      mem = h.0;
      opened = h.1;
      above = λ y m o q. first-highest x xs
          (subst (λ (ys : List Change). Falling ys) e (falling-keep (λ z. who z.holder) (open_changes l) (falling-keep (is_open_change l) l.changes f)))
          y (rw e at (keep-in (λ z. who z.holder) (keep-in (is_open_change l) m o) (ap who q ∙ h.2)));
    }

-- what an allowed undo row undoes
pub record Undoes (l : Ledger) (h c n : ℕ) (a : ℤ) : Type 0 where
  pub x : Change
  pub rest : List Change
  pub first : open_held (just h) l ≡ x ∷ rest
  pub is : undo h c n a ≡ undo_of x

pub undoes : (l : Ledger) (h c n : ℕ) (a : ℤ) → lawful l (undo h c n a) ≡ true → Undoes l h c n a
unfolding lawful
undoes l h c n a e = go (open_held (just h) l) refl e
  where
    go : (ys : List Change) → open_held (just h) l ≡ ys → is_first ys n c a ≡ true → Undoes l h c n a
    go [] q k = clash false k refl
    go (x ∷ ys) q k =
        let row : eqb x.row n ≡ true = search (and_l, and_r) in
        let cell : eqb x.cell c ≡ true = search (and_l, and_r) in
        let amount : eq_z x.amount a ≡ true = search (and_l, and_r) in
        let row' = eqb-true x.row n row in
        let cell' = eqb-true x.cell c cell in
        let amount' = eq_z-true x.amount a amount in
        let holder' = eqb-true x.holder h (held-open (just h) l x (rw q here)).2 in
        record { x = x; rest = ys; first = q; is = cc }
