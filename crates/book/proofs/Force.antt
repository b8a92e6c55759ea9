-- Force by the fuse: what it leaves where all its writes land and where one does not, and that it is all one whether the rows are added with a force each
-- time 64 wait or stored in one go. So an opening whose power holds ends ready.
use Prim.Native.Nat.{ℕ, zero, suc, ◌-◌, ◌<◌}
use native.Mathlib.Omega.{arith}
use mathlib.Core.Path.{◌≡◌, refl, ap, ap₂, sym, ◌∙◌}
use mathlib.Core.Bool.{Bool, true, false, cond}
use mathlib.Core.List.{List, [], ◌∷◌, ◌++◌, append_assoc, append-nil}
use lib.ListN.{length, length-append, take, drop, take-append-drop}
use lib.Seq.{take-append-le}
use lib.Dec.{leb, ltb}
use borrow.Author.Tests.{ltb-true, ltb-false}
use Rattle.book.specs.Lists.{times, StartsWith}
use Rattle.book.specs.Limits.{tail_limit}
use Rattle.book.specs.Rows.{Row}
use Rattle.book.specs.Ledger.{ledger}
use Rattle.book.specs.Power.{Book, Fuse, none, left, closed, store_row, force, PowerHolds, append, add, add_all}
use Rattle.book.specs.Book.{closing, starting, reopened}
use Rattle.book.proofs.Lists.{clash}
use Rattle.book.proofs.Steps.{Shut, book_of, extends-force, extends-all}

pub times-closed : (n : ℕ) (s : List Row) → times n store_row (closed s) ≡ closed s
times-closed zero s = refl
times-closed (suc n) s = times-closed n s

-- ── Nothing waits after a force ───────────────────────────────────────────────────────────────────────────────────────

empties : (w s : List Row) (f : Fuse) (o : Bool) → (times (length w) store_row (book_of s w f o)).waiting ≡ []
empties [] s f o = refl
empties (r ∷ w) s none o = empties w (s ++ (r ∷ [])) none true
empties (r ∷ w) s (left zero) o = ap (λ (b : Book). b.waiting) (times-closed (length w) s)
empties (r ∷ w) s (left (suc n)) o = empties w (s ++ (r ∷ [])) (left n) true

pub force-empties : (b : Book) → (force b).waiting ≡ []
unfolding force
force-empties b = empties b.waiting b.stored b.fuse b.is_open

-- ── By the fuse ───────────────────────────────────────────────────────────────────────────────────────────────────────

-- what is left of a fuse after n writes
abbrev pub less_by : ℕ → Fuse → Fuse
less_by n none = none
less_by n (left m) = left (m - n)

lands : (w s : List Row) (f : Fuse) → PowerHolds f (length w)
    → times (length w) store_row (book_of s w f true) ≡ book_of (s ++ w) [] (less_by (length w) f) true
lands [] s none h = ap (λ (l : List Row). book_of l [] none true) (sym (append-nil s))
lands [] s (left m) h = ap₂ (λ (l : List Row) (n : ℕ). book_of l [] (left n) true) (sym (append-nil s)) (omega arith)
lands (r ∷ w) s none h = lands w (s ++ (r ∷ [])) none tt ∙ ap (λ (l : List Row). book_of l [] none true) (append_assoc s (r ∷ []) w)
lands (r ∷ w) s (left zero) h = absurd (omega arith)
lands (r ∷ w) s (left (suc m)) h =
    lands w (s ++ (r ∷ [])) (left m) (omega arith) ∙
    ap₂ (λ (l : List Row) (n : ℕ). book_of l [] (left n) true) (append_assoc s (r ∷ []) w) (omega arith)

-- all writes land: the rows are stored, and the fuse has as many fewer
pub force-lands : (s w : List Row) (f : Fuse) → PowerHolds f (length w) → force (book_of s w f true) ≡ book_of (s ++ w) [] (less_by (length w) f) true
unfolding force
force-lands s w f h = lands w s f h

cut : (w s : List Row) (m : ℕ) → m < length w → times (length w) store_row (book_of s w (left m) true) ≡ closed (s ++ take m w)
cut [] s m h = absurd (omega arith)
cut (r ∷ w) s zero h = times-closed (length w) s ∙ ap closed (sym (append-nil s))
cut (r ∷ w) s (suc m) h = cut w (s ++ (r ∷ [])) m (omega arith) ∙ ap closed (append_assoc s (r ∷ []) (take m w))

-- the fuse has too few: as many rows as it has are stored, and the book is closed
pub force-cut : (s w : List Row) (m : ℕ) → m < length w → force (book_of s w (left m) true) ≡ closed (s ++ take m w)
unfolding force
force-cut s w m h = cut w s m h

-- the power fails in the force of some rows and one more: that one, the last of the writes, is not stored
pub force-part : (s w : List Row) (r : Row) (f : Fuse) → (force (book_of s (w ++ (r ∷ [])) f true)).is_open ≡ false
    → StartsWith (force (book_of s (w ++ (r ∷ [])) f true)).stored (s ++ w)
force-part s w r none o = clash _ (ap (λ (b : Book). b.is_open) (force-lands s (w ++ (r ∷ [])) none tt)) o
force-part s w r (left m) o = go (ltb m (length (w ++ (r ∷ [])))) refl
  where
    go : (t : Bool) → ltb m (length (w ++ (r ∷ []))) ≡ t → StartsWith (force (book_of s (w ++ (r ∷ [])) (left m) true)).stored (s ++ w)
    go true h =
        let few = ltb-true m (length (w ++ (r ∷ []))) h in
        let n = length-append w (r ∷ []) in
        let is = ap (λ (b : Book). b.stored) (force-cut s (w ++ (r ∷ [])) m few) ∙ ap (λ (l : List Row). s ++ l) (take-append-le m w (r ∷ []) (omega arith)) in
        (drop m w, ap (λ (l : List Row). s ++ l) (sym (take-append-drop m w)) ∙ sym (append_assoc s (take m w) (drop m w)) ∙ ap (λ (l : List Row). l ++ drop m w) (sym is))
    go false h =
        clash _ (ap (λ (b : Book). b.is_open) (force-lands s (w ++ (r ∷ [])) (left m) (ltb-false m (length (w ++ (r ∷ []))) h))) o

-- ── Added with forces between, or stored in one go ────────────────────────────────────────────────────────────────────

-- a force of some rows, then of others where the power held
abbrev force_on : Book → List Row → Book
force_on b u = cond b.is_open (force (book_of b.stored u b.fuse true)) b

split : (w u s : List Row) (f : Fuse)
    → times (length (w ++ u)) store_row (book_of s (w ++ u) f true) ≡ force_on (times (length w) store_row (book_of s w f true)) u
unfolding force
split [] u s f = refl
split (r ∷ w) u s none = split w u (s ++ (r ∷ [])) none
split (r ∷ w) u s (left zero) =
    times-closed (length (w ++ u)) s ∙ sym (ap (λ (b : Book). force_on b u) (times-closed (length w) s))
split (r ∷ w) u s (left (suc m)) = split w u (s ++ (r ∷ [])) (left m)

pub add-then-force : (cs w s : List Row) (f : Fuse) → force (add_all (book_of s w f true) cs) ≡ force (book_of s (w ++ cs) f true)
unfolding add
add-then-force [] w s f = ap (λ (l : List Row). force (book_of s l f true)) (sym (append-nil w))
add-then-force (c ∷ cs) w s f = go (leb tail_limit (length w)) (add-then-force cs)
  where
    -- where the tail is full, after the force that comes first
    full : ((w s : List Row) (f : Fuse) → force (add_all (book_of s w f true) cs) ≡ force (book_of s (w ++ cs) f true)) → (b : Book) → b.waiting ≡ []
        → Shut b
        → force (add_all (append b c) cs) ≡ force_on b (c ∷ cs)
    full ih b e h = its b.is_open refl
      where
        its : (t : Bool) → b.is_open ≡ t → force (add_all (cond t (book_of b.stored (b.waiting ++ (c ∷ [])) b.fuse true) b) cs)
            ≡ cond t (force (book_of b.stored (c ∷ cs) b.fuse true)) b
        its true o = ap (λ (l : List Row). force (add_all (book_of b.stored (l ++ (c ∷ [])) b.fuse true) cs)) e ∙ ih (c ∷ []) b.stored b.fuse
        its false o =
            let p = extends-all b cs h in
            (extends-force (add_all b cs) p.shut).stuck (ap (λ (x : Book). x.is_open) (p.stuck o) ∙ o) ∙ p.stuck o

    go : (t : Bool) → ((w s : List Row) (f : Fuse) → force (add_all (book_of s w f true) cs) ≡ force (book_of s (w ++ cs) f true))
        → force (add_all (append (cond t (force (book_of s w f true)) (book_of s w f true)) c) cs) ≡ force (book_of s (w ++ (c ∷ cs)) f true)
    go true ih =
        full ih (force (book_of s w f true)) (force-empties (book_of s w f true)) (extends-force (book_of s w f true) (λ o. clash true refl o)).shut ∙
        sym (unfold force in (split w (c ∷ cs) s f))
    go false ih = ih (w ++ (c ∷ [])) s f ∙ ap (λ (l : List Row). force (book_of s l f true)) (append_assoc w (c ∷ []) cs)

-- ── An opening ────────────────────────────────────────────────────────────────────────────────────────────────────────

-- an opening's rows may be stored one by one: same writes, same order, same cut
pub reopened-is : (f : Fuse) (rs : List Row) → reopened f rs ≡ force (book_of rs (closing (ledger rs)) f true)
unfolding reopened
reopened-is f rs = add-then-force (closing (ledger rs)) [] rs f

-- 01: an opening whose power holds ends ready
pub reopened-holds : (f : Fuse) (rs : List Row) → PowerHolds f (length (closing (ledger rs))) → (reopened f rs).is_open ≡ true
reopened-holds f rs h = ap (λ (b : Book). b.is_open) (reopened-is f rs ∙ force-lands rs (closing (ledger rs)) f h)

pub reopened-empty : (f : Fuse) (rs : List Row) → (reopened f rs).waiting ≡ []
unfolding reopened
reopened-empty f rs = force-empties (add_all (starting f rs) (closing (ledger rs)))
