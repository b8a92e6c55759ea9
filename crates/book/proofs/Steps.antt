-- What the steps of a call and of an opening make of a book: each leaves a book that extends it by the rows added, as far as the power let them (`Extends`).
use Prim.Native.Nat.{ℕ, zero, suc}
use native.Mathlib.Omega.{arith}
use mathlib.Core.Path.{◌≡◌, refl, ap, sym, ◌∙◌, subst}
use mathlib.Core.Bool.{Bool, true, false, cond}
use mathlib.Core.List.{List, [], ◌∷◌, ◌++◌, append_assoc, append-nil}
use lib.ListN.{length}
use lib.Dec.{leb}
use Rattle.book.specs.Lists.{StartsWith, times}
use Rattle.book.specs.Limits.{tail_limit}
use Rattle.book.specs.Rows.{Row}
use Rattle.book.specs.Ledger.{ledger}
use Rattle.book.specs.Cells.{last_on}
use Rattle.book.specs.Calls.{Call, Ending, waits, forces, flushes, ending}
use Rattle.book.specs.Power.{Book, Fuse, none, left, rows_of, land, store_row, force, store_page, append, add, add_all}
use Rattle.book.specs.Book.{closing, adds, finish, through, starting, reopened}
use Rattle.book.proofs.Lists.{clash, starts-refl, starts-append, starts-trans}

-- a closed book has no waiting rows and no fuse
abbrev pub Shut : Book → Type 0
Shut b = b.is_open ≡ false → (b.waiting ≡ []) × (b.fuse ≡ none)

-- a book by its four parts
abbrev pub book_of : List Row → List Row → Fuse → Bool → Book
book_of s w f o = record { stored = s; waiting = w; fuse = f; is_open = o }

-- `b'` is `b` with these rows added, as far as the power let them, and some of the rows stored
pub record Extends (b : Book) (rs : List Row) (b' : Book) : Type 0 where
  pub rows : b'.is_open ≡ true → rows_of b' ≡ rows_of b ++ rs
  pub starts : StartsWith b.stored b'.stored
  pub part : StartsWith b'.stored (rows_of b ++ rs)
  pub shut : Shut b'
  pub stuck : b.is_open ≡ false → b' ≡ b

-- ── No step, and one after another ────────────────────────────────────────────────────────────────────────────────────

pub extends-refl : (b : Book) → Shut b → Extends b [] b
extends-refl b h = record {
  rows = λ o. sym (append-nil (rows_of b));
  starts = starts-refl b.stored;
  part = (b.waiting ++ [], append_assoc b.stored b.waiting []);
  shut = h;
  stuck = λ o. refl;
}

pub extends-trans : (b c d : Book) (rs ss : List Row) → Extends b rs c → Extends c ss d → Extends b (rs ++ ss) d
extends-trans b c d rs ss p q = go c.is_open refl
  where
    all : c.is_open ≡ true → rows_of c ++ ss ≡ rows_of b ++ (rs ++ ss)
    all o = ap (λ (l : List Row). l ++ ss) (p.rows o) ∙ append_assoc (rows_of b) rs ss

    start : StartsWith b.stored d.stored
    start = starts-trans b.stored c.stored d.stored p.starts q.starts

    stuck : b.is_open ≡ false → d ≡ b
    stuck o = q.stuck (ap (λ (x : Book). x.is_open) (p.stuck o) ∙ o) ∙ p.stuck o

    go : (t : Bool) → c.is_open ≡ t → Extends b (rs ++ ss) d
    go true o = record {
      rows = λ r. q.rows r ∙ all o;
      starts = start;
      part = subst (λ (l : List Row). StartsWith d.stored l) (all o) q.part;
      shut = q.shut;
      stuck = stuck;
    }
    go false o =
        let is = q.stuck o in record {
          rows = λ r. clash _ r (ap (λ (x : Book). x.is_open) is ∙ o);
          starts = start;
          part = subst (λ (x : Book). StartsWith x.stored (rows_of b ++ (rs ++ ss))) (sym is)
              (starts-trans c.stored (rows_of b ++ rs) _ p.part (ss, sym (append_assoc (rows_of b) rs ss)));
          shut = q.shut;
          stuck = stuck;
        }

-- ── Stored writes ─────────────────────────────────────────────────────────────────────────────────────────────────────

-- one write of an open book with the rows `s` stored and `w` waiting
extends-land : (s st wa w : List Row) (f : Fuse) → st ++ wa ≡ s ++ w → StartsWith s st → Extends (book_of s w f true) [] (land f s st wa)
extends-land s st wa w f e p = go f
  where
    part : StartsWith st (s ++ w ++ [])
    part = (wa ++ [], ap (λ (l : List Row). l ++ []) (sym e) ∙ append_assoc st wa [])

    landed : (f f' : Fuse) → Extends (book_of s w f true) [] (book_of st wa f' true)
    landed f f' = record {
      rows = λ o. e ∙ sym (append-nil (s ++ w));
      starts = p;
      part = part;
      shut = λ o. clash true refl o;
      stuck = λ o. clash true refl o;
    }

    go : (f : Fuse) → Extends (book_of s w f true) [] (land f s st wa)
    go none = landed none none
    go (left zero) = record {
      rows = λ o. clash true refl (sym o);
      starts = starts-refl s;
      part = (w ++ [], append_assoc s w []);
      shut = λ o. (refl, refl);
      stuck = λ o. clash true refl o;
    }
    go (left (suc n)) = landed (left (suc n)) (left n)

extends-store : (b : Book) → Shut b → Extends b [] (store_row b)
extends-store b = go b.stored b.waiting b.fuse b.is_open
  where
    go : (s w : List Row) (f : Fuse) (o : Bool) → Shut (book_of s w f o) → Extends (book_of s w f o) [] (store_row (book_of s w f o))
    go s [] f o h = extends-refl (book_of s [] f o) h
    go s (r ∷ w) f true h = extends-land s (s ++ (r ∷ [])) w (r ∷ w) f (append_assoc s (r ∷ []) w) (starts-append s (r ∷ []))
    go s (r ∷ w) f false h = let e = (h refl).0 in let z : ◌≡◌ {A = ℕ} 0 1 = cc in absurd (omega arith)

pub extends-times : (n : ℕ) (b : Book) → Shut b → Extends b [] (times n store_row b)
extends-times zero b h = extends-refl b h
extends-times (suc n) b h =
    let p = extends-store b h in extends-trans b (store_row b) (times n store_row (store_row b)) [] [] p (extends-times n (store_row b) p.shut)

pub extends-force : (b : Book) → Shut b → Extends b [] (force b)
unfolding force
extends-force b h = extends-times (length b.waiting) b h

pub extends-page : (b : Book) → Shut b → Extends b [] (store_page b)
extends-page b = go b.stored b.waiting b.fuse b.is_open
  where
    go : (s w : List Row) (f : Fuse) (o : Bool) → Shut (book_of s w f o) → Extends (book_of s w f o) [] (store_page (book_of s w f o))
    go s w f true h = extends-land s s w w f refl (starts-refl s)
    go s w f false h = extends-refl (book_of s w f false) h

-- ── Adding rows ───────────────────────────────────────────────────────────────────────────────────────────────────────

extends-append : (b : Book) (r : Row) → Shut b → Extends b (r ∷ []) (append b r)
extends-append b r = go b.stored b.waiting b.fuse b.is_open
  where
    go : (s w : List Row) (f : Fuse) (o : Bool) → Shut (book_of s w f o) → Extends (book_of s w f o) (r ∷ []) (append (book_of s w f o) r)
    go s w f true h = record {
      rows = λ o. sym (append_assoc s w (r ∷ []));
      starts = starts-refl s;
      part = (w ++ (r ∷ []), append_assoc s w (r ∷ []));
      shut = λ o. clash true refl o;
      stuck = λ o. clash true refl o;
    }
    go s w f false h = record {
      rows = λ o. clash true refl (sym o);
      starts = starts-refl s;
      part = (w ++ (r ∷ []), append_assoc s w (r ∷ []));
      shut = h;
      stuck = λ o. refl;
    }

pub extends-add : (b : Book) (r : Row) → Shut b → Extends b (r ∷ []) (add b r)
unfolding add
extends-add b r h = go (leb tail_limit (length b.waiting))
  where
    go : (t : Bool) → Extends b (r ∷ []) (append (cond t (force b) b) r)
    go true = let p = extends-force b h in extends-trans b (force b) (append (force b) r) [] (r ∷ []) p (extends-append (force b) r p.shut)
    go false = extends-append b r h

pub extends-all : (b : Book) (rs : List Row) → Shut b → Extends b rs (add_all b rs)
extends-all b [] h = extends-refl b h
extends-all b (r ∷ rs) h =
    let p = extends-add b r h in extends-trans b (add b r) (add_all (add b r) rs) (r ∷ []) rs p (extends-all (add b r) rs p.shut)

-- ── A call, and an opening ────────────────────────────────────────────────────────────────────────────────────────────

pub extends-finish : (e : Ending) (b : Book) → Shut b → Extends b [] (finish e b)
extends-finish waits b h = extends-refl b h
extends-finish forces b h = extends-force b h
extends-finish (flushes p) b h =
    let c = times (last_on p b.waiting) store_row b in
    let q = extends-times (last_on p b.waiting) b h in extends-trans b c (store_page c) [] [] q (extends-page c q.shut)

-- the last step adds no row
then-ends : (b c d : Book) (rs : List Row) → Extends b rs c → Extends c [] d → Extends b rs d
then-ends b c d rs p q = subst (λ (l : List Row). Extends b l d) (append-nil rs) (extends-trans b c d rs [] p q)

-- an accepted call
pub extends-through : (b : Book) (k : Call) → Shut b → Extends b (adds b k) (through b k)
unfolding through
extends-through b k h =
    let p = extends-all b (adds b k) h in
    then-ends b (add_all b (adds b k)) (through b k) (adds b k) p (extends-finish (ending k) _ p.shut)

-- an opening
pub extends-open : (f : Fuse) (rs : List Row) → Extends (starting f rs) (closing (ledger rs)) (reopened f rs)
unfolding reopened
extends-open f rs =
    let cs = closing (ledger rs) in
    let p = extends-all (starting f rs) cs (λ o. clash true refl o) in
    then-ends (starting f rs) (add_all (starting f rs) cs) (reopened f rs) cs p (extends-force _ p.shut)
