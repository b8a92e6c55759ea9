-- Two books side by side (`Matching`): the same fuse, both open or both closed, and as many rows stored and waiting, which row by row move the same cells and
-- leave the same open changes. Stored writes and added rows keep them so.
use Prim.Native.Nat.{ℕ, zero, suc, ◌+◌, ◌*◌}
use mathlib.Core.Bool.{Bool, true, false, cond}
use mathlib.Core.Path.{◌≡◌, refl, ap, ap₂, sym, ◌∙◌, subst}
use mathlib.Core.List.{List, [], ◌∷◌, ◌++◌, map, append_assoc, append-nil}
use lib.ListN.{length}
use lib.IntN.{ℤ, ◌+ℤ◌}
use lib.Dec.{leb}
use Rattle.book.specs.Lists.{times, total}
use Rattle.book.specs.Limits.{places, tail_limit}
use Rattle.book.specs.Rows.{Row}
use Rattle.book.specs.Ledger.{Ledger, empty, after, ledger}
use Rattle.book.specs.Cells.{moved, moved_by, applied, touches, last_on}
use Rattle.book.specs.Pages.{page_bytes, page_after}
use Rattle.book.specs.Calls.{Ending, waits, forces, flushes}
use Rattle.book.specs.Power.{Book, Fuse, none, left, rows_of, ledger_of, land, store_first, store_row, force, store_page, append, add, add_all}
use Rattle.book.specs.Book.{finish}
use Rattle.book.proofs.Lists.{clash}
use Rattle.book.proofs.Logs.{ledger-append}
use Rattle.book.proofs.Pages.{page-same}
use Rattle.book.proofs.Steps.{Shut, book_of, extends-force, extends-add}
use Rattle.book.proofs.SameOpen.{SameOpen, SameRows, end, next, first-open, last-open, rows_join}

-- ── What the rows of both come to ─────────────────────────────────────────────────────────────────────────────────────

pub same_length : {l l' : Ledger} {rs rs' : List Row} → SameRows l l' rs rs' → length rs' ≡ length rs
same_length (end s) = refl
same_length (next s e t) = ap suc (same_length t)

same-moved : {l l' : Ledger} {rs rs' : List Row} (c : ℕ) → SameRows l l' rs rs' → total (map (moved_by c) rs') ≡ total (map (moved_by c) rs)
same-moved c (end s) = refl
same-moved c (next s e t) = ap₂ ◌+ℤ◌ (ap (moved c) (sym e)) (same-moved c t)

same-last : {l l' : Ledger} {rs rs' : List Row} (p : ℕ) → SameRows l l' rs rs' → last_on p rs' ≡ last_on p rs
same-last p (end s) = refl
same-last p (next s e t) = rw (same-last p t, ap (touches p) (sym e))

-- ── Two books ─────────────────────────────────────────────────────────────────────────────────────────────────────────

pub record Matching (b b' : Book) : Type 0 where
  pub fuse : b'.fuse ≡ b.fuse
  pub is_open : b'.is_open ≡ b.is_open
  pub stored : SameRows empty empty b.stored b'.stored
  pub waiting : SameRows (ledger b.stored) (ledger b'.stored) b.waiting b'.waiting

-- all rows
matching-rows : (b b' : Book) → Matching b b' → SameRows empty empty (rows_of b) (rows_of b')
matching-rows b b' t = rows_join t.stored t.waiting

pub matching-length : (b b' : Book) → Matching b b' → length (rows_of b') ≡ length (rows_of b)
matching-length b b' t = same_length (matching-rows b b' t)

pub matching-stored : (b b' : Book) → Matching b b' → length b'.stored ≡ length b.stored
matching-stored b b' t = same_length t.stored

-- the cells, from whatever values the rows start
pub matching-cells : (cells : ℕ → ℤ) (b b' : Book) → Matching b b' → (c : ℕ) → applied cells (rows_of b') c ≡ applied cells (rows_of b) c
matching-cells cells b b' t c = ap (λ (z : ℤ). cells c +ℤ z) (same-moved c (matching-rows b b' t))

pub stored-cells : (cells : ℕ → ℤ) (b b' : Book) → Matching b b' → (c : ℕ) → applied cells b'.stored c ≡ applied cells b.stored c
stored-cells cells b b' t c = ap (λ (z : ℤ). cells c +ℤ z) (same-moved c t.stored)

-- the pages, byte for byte
pub matching-pages : (cells : ℕ → ℤ) (b b' : Book) → Matching b b' → (p : ℕ)
    → page_bytes (page_after cells (rows_of b') p) ≡ page_bytes (page_after cells (rows_of b) p)
unfolding page_after
matching-pages cells b b' t p =
    page-same _ _ (record { mark = same-last p (matching-rows b b' t); cells = λ j h. matching-cells cells b b' t (places * p + j) })

-- what an opening finds
pub matching-open : (b b' : Book) → Matching b b' → SameOpen (ledger b.stored) (ledger b'.stored)
matching-open b b' t = last-open t.stored

-- ── Stored writes ─────────────────────────────────────────────────────────────────────────────────────────────────────

module _ (s s' st st' wa wa' : List Row) (old : SameRows empty empty s s') (new : SameRows empty empty st st')
    (more : SameRows (ledger st) (ledger st') wa wa') where
  matching-land : (f : Fuse) → Matching (land f s st wa) (land f s' st' wa')
  matching-land none = record { fuse = refl; is_open = refl; stored = new; waiting = more }
  matching-land (left zero) = record { fuse = refl; is_open = refl; stored = old; waiting = end (last-open old) }
  matching-land (left (suc n)) = record { fuse = refl; is_open = refl; stored = new; waiting = more }

matching-store : (b b' : Book) → Matching b b' → Matching (store_row b) (store_row b')
matching-store b b' t = go t.waiting
  where
    go : {w w' : List Row} → SameRows (ledger b.stored) (ledger b'.stored) w w' → Matching (store_first b w) (store_first b' w')
    go (end s) = t
    go (next {r = r} {r' = r'} {rs = rs} {rs' = rs'} s q more) = rw t.fuse (matching-land b.stored b'.stored _ _ rs rs' t.stored
        (rows_join t.stored (next s q (end (first-open more))))
        (rw (ledger-append b.stored (r ∷ []), ledger-append b'.stored (r' ∷ [])) more) b.fuse)

matching-times : (n : ℕ) (b b' : Book) → Matching b b' → Matching (times n store_row b) (times n store_row b')
matching-times zero b b' t = t
matching-times (suc n) b b' t = matching-times n (store_row b) (store_row b') (matching-store b b' t)

pub matching-force : (b b' : Book) → Matching b b' → Matching (force b) (force b')
unfolding force
matching-force b b' t = rw (same_length t.waiting) (matching-times (length b.waiting) b b' t)

matching-page : (b b' : Book) → Matching b b' → Matching (store_page b) (store_page b')
matching-page b b' t = subst (λ (o : Bool). Matching (store_page b) (paged o b')) (sym t.is_open) (go b.is_open)
  where
    paged : Bool → Book → Book
    paged o x = cond o (land x.fuse x.stored x.stored x.waiting) x

    go : (o : Bool) → Matching (paged o b) (paged o b')
    go true = rw t.fuse
        (matching-land b.stored b'.stored b.stored b'.stored b.waiting b'.waiting t.stored t.stored t.waiting b.fuse)
    go false = t

pub matching-finish : (e : Ending) (b b' : Book) → Matching b b' → Matching (finish e b) (finish e b')
matching-finish waits b b' t = t
matching-finish forces b b' t = matching-force b b' t
matching-finish (flushes p) b b' t = rw (same-last p t.waiting) (matching-page _ _ (matching-times (last_on p b.waiting) b b' t))

-- ── Adding rows ───────────────────────────────────────────────────────────────────────────────────────────────────────

-- these rows may be added to the two books, while they are open
abbrev MayAdd : Book → Book → List Row → List Row → Type 0
MayAdd b b' rs rs' = b.is_open ≡ true → SameRows (ledger_of b) (ledger_of b') rs rs'

-- after one step the books match, and the rest of the rows may be added
record Added (b b' : Book) (rs rs' : List Row) : Type 0 where
  matching : Matching b b'
  may : MayAdd b b' rs rs'

-- the first of the rows, and the rest
one-row : {l l' : Ledger} {r r' : Row} {rs rs' : List Row} → SameRows l l' (r ∷ rs) (r' ∷ rs')
    → SameRows l l' (r ∷ []) (r' ∷ []) × SameRows (after l r) (after l' r') rs rs'
one-row (next s e t) = (next s e (end (first-open t)), t)

ledger-more : (b : Book) (r : Row) → ledger (b.stored ++ (b.waiting ++ (r ∷ []))) ≡ after (ledger_of b) r
ledger-more b r = ap ledger (sym (append_assoc b.stored b.waiting (r ∷ []))) ∙ ledger-append (rows_of b) (r ∷ [])

module _ (r r' : Row) (rs rs' : List Row) where
  matching-append : (b b' : Book) → Added b b' (r ∷ rs) (r' ∷ rs') → Added (append b r) (append b' r') rs rs'
  matching-append b b' a =
      subst (λ (o : Bool). Added (append b r) (cond o (book_of b'.stored (b'.waiting ++ (r' ∷ [])) b'.fuse true) b') rs rs') (sym a.matching.is_open)
      (go b.is_open refl)
    where
      go : (o : Bool) → b.is_open ≡ o → Added (cond o (book_of b.stored (b.waiting ++ (r ∷ [])) b.fuse true) b)
          (cond o (book_of b'.stored (b'.waiting ++ (r' ∷ [])) b'.fuse true) b') rs rs'
      go true o =
          let k = one-row (a.may o) in
          let one = rw (ledger-append b.stored b.waiting, ledger-append b'.stored b'.waiting) at k.0 in
          record {
            matching = record { fuse = a.matching.fuse; is_open = refl; stored = a.matching.stored; waiting = rows_join a.matching.waiting one };
            may = λ q. rw (ledger-more b r, ledger-more b' r') k.1;
          }
      go false o = record { matching = a.matching; may = λ q. clash _ q o }

-- a force adds no row
may-forced : (b b' : Book) (rs rs' : List Row) → Shut b → Shut b' → Added b b' rs rs' → Added (force b) (force b') rs rs'
may-forced b b' rs rs' h h' a = record { matching = matching; may = may }
  where
    matching : Matching (force b) (force b')
    matching = matching-force b b' a.matching

    may : MayAdd (force b) (force b') rs rs'
    may o =
        let p = extends-force b h in
        let p' = extends-force b' h' in
        rw (p.rows o ∙ append-nil (rows_of b), p'.rows (matching.is_open ∙ o) ∙ append-nil (rows_of b')) (a.may (was b.is_open refl))
      where
        was : (t : Bool) → b.is_open ≡ t → b.is_open ≡ true
        was true e = e
        was false e = clash _ o (ap (λ (x : Book). x.is_open) ((extends-force b h).stuck e) ∙ e)

matching-add : (r r' : Row) (rs rs' : List Row) (b b' : Book) → Shut b → Shut b' → Added b b' (r ∷ rs) (r' ∷ rs') → Added (add b r) (add b' r') rs rs'
unfolding add
matching-add r r' rs rs' b b' h h' a =
    rw (same_length a.matching.waiting) (matching-append r r' rs rs' _ _ (go (leb tail_limit (length b.waiting))))
  where
    go : (t : Bool) → Added (cond t (force b) b) (cond t (force b') b') (r ∷ rs) (r' ∷ rs')
    go true = may-forced b b' (r ∷ rs) (r' ∷ rs') h h' a
    go false = a

matching-all : {l l' : Ledger} {rs rs' : List Row} → SameRows l l' rs rs' → (b b' : Book) → Shut b → Shut b' → Added b b' rs rs'
    → Matching (add_all b rs) (add_all b' rs')
matching-all (end s) b b' h h' a = a.matching
matching-all (next {r = r} {r' = r'} {rs = rs} {rs' = rs'} s e t) b b' h h' a =
    matching-all t (add b r) (add b' r') (extends-add b r h).shut (extends-add b' r' h').shut (matching-add r r' rs rs' b b' h h' a)

pub matching-adds : {rs rs' : List Row} (b b' : Book) → Shut b → Shut b' → Matching b b' → SameRows (ledger_of b) (ledger_of b') rs rs'
    → Matching (add_all b rs) (add_all b' rs')
matching-adds b b' h h' t q = matching-all q b b' h h' (record { matching = t; may = λ o. q })
