-- Openings one after another. An opening that was cut is taken up where it stopped: the rows that the next one names are those that the first one did
-- not store, so that openings cut any number of times end with the same rows, and the same cells, as one that was not cut. An opening of an opened store
-- writes nothing, and none ever lacks room.
use Prim.Native.Nat.{ℕ, zero, suc, ◌≤◌}
use native.Mathlib.Omega.{arith}
use mathlib.Core.Path.{◌≡◌, refl, ap, ap₂, sym, ◌∙◌, subst}
use mathlib.Core.Bool.{Bool, true, false}
use mathlib.Core.List.{List, [], ◌∷◌, ◌++◌, map, append_assoc}
use lib.ListN.{length, take, drop, take-append-drop}
use lib.Seq.{take-length, drop-length}
use lib.IntN.{ℤ, pos}
use lib.Dec.{ltb}
use borrow.Author.Tests.{eq-eqb, ne_eqb, ltb-true, ltb-false}
use Rattle.book.specs.Lists.{keep, foldl, without, StartsWith}
use Rattle.book.specs.Limits.{row_limit}
use Rattle.book.specs.Rows.{Row}
use Rattle.book.specs.Ledger.{Change, Ledger, after, ledger}
use Rattle.book.specs.Rules.{open_changes, open_held, just, allowed, all_allowed, allowed_log}
use Rattle.book.specs.Cells.{applied}
use Rattle.book.specs.Power.{Book, Fuse, none, left, force, PowerHolds}
use Rattle.book.specs.Book.{undo_of, take_back, everyone, closing, reopened, answer, reopen}
use Rattle.book.proofs.Lists.{and_l, keep_all, member-in, starts-refl, starts-append, starts-trans}
use Rattle.book.proofs.Logs.{ledger-append, allowed-start}
use Rattle.book.proofs.Invariant.{Inv, Sinking}
use Rattle.book.proofs.InvariantKept.{inv-after, inv-log, few-rows}
use Rattle.book.proofs.NextUndo.{undo-next}
use Rattle.book.proofs.TakeBack.{abort-open, take_back_lem, closed-allowed}
use Rattle.book.proofs.Force.{less_by, force-lands, force-cut, reopened-is, reopened-holds}
use Rattle.book.proofs.Steps.{book_of}
use Rattle.book.proofs.Openings.{ended-done, reopened-stored}

-- ── The rows that are left to write ───────────────────────────────────────────────────────────────────────────────────

everyone-all : (vs : List ℕ) → keep everyone vs ≡ vs
everyone-all vs = keep_all everyone vs (λ v m. refl)

-- once the first of an opening's rows is written, the others are left
closing-next : (l : Ledger) → Inv l → (r : Row) (rs : List Row) → closing l ≡ r ∷ rs → closing (after l r) ≡ rs
unfolding take_back after
closing-next l i r rs e = undos (open_held everyone l) refl e
  where
    aborts : (vs : List ℕ) → l.active ≡ vs → open_held everyone l ≡ [] → map Row.abort vs ≡ r ∷ rs → closing (after l r) ≡ rs
    aborts [] a o f = let z : ◌≡◌ {A = ℕ} 0 1 = cc in absurd (omega arith)
    aborts (v ∷ vs) a o f =
        let is : r ≡ Row.abort v = cc in
        let rest : map Row.abort vs ≡ rs = cc in
        let empty : open_changes l ≡ [] = sym (keep_all (λ (x : Change). everyone x.holder) (open_changes l) (λ x m. refl)) ∙ o in
        let none : open_held (just v) l ≡ [] = ap (keep (λ (x : Change). just v x.holder)) empty in
        let order : Sinking (v ∷ vs) = subst Sinking a i.order in
        let others : without v (v ∷ vs) ≡ vs =
        rw (eq-eqb v v refl) (keep_all _ vs (λ u m. let k = order.0 u (member-in u vs m) in rw (ne_eqb v u (λ q. omega arith)))) in
        ap (λ (y : Row). closing (after l y)) is ∙
        ap₂ (λ (xs : List Change) (us : List ℕ). map undo_of (keep (λ (x : Change). everyone x.holder) xs) ++ map Row.abort (keep everyone us))
        (abort-open l v none ∙ empty) (ap (without v) a ∙ others) ∙
        ap (map Row.abort) (everyone-all vs) ∙ rest

    undos : (xs : List Change) → open_held everyone l ≡ xs → map undo_of xs ++ map Row.abort (keep everyone l.active) ≡ r ∷ rs → closing (after l r) ≡ rs
    undos [] o f = aborts l.active refl o (ap (map Row.abort) (sym (everyone-all l.active)) ∙ f)
    undos (x ∷ xs) o f =
        let is : r ≡ undo_of x = cc in
        let rest : map undo_of xs ++ map Row.abort (keep everyone l.active) ≡ rs = cc in
        ap (λ (y : Row). closing (after l y)) is ∙
        ap (λ (ys : List Change). map undo_of ys ++ map Row.abort (keep everyone l.active)) (undo-next everyone l x xs i o) ∙ rest

-- so after the first m of them
pub closing-rest : (m : ℕ) (l : Ledger) → Inv l → closing (foldl after l (take m (closing l))) ≡ drop m (closing l)
closing-rest zero l i = refl
closing-rest (suc m) l i = go (closing l) refl (closing-rest m)
  where
    go : (cs : List Row) → closing l ≡ cs → ((k : Ledger) → Inv k → closing (foldl after k (take m (closing k))) ≡ drop m (closing k))
        → closing (foldl after l (take (suc m) cs)) ≡ drop (suc m) cs
    go [] e ih = e
    go (r ∷ cs) e ih =
        let al : allowed l r ≡ true = and_l (allowed l r) _ (subst (λ (rs : List Row). all_allowed l rs ≡ true) e (take_back_lem everyone l i).good) in
        let next = closing-next l i r cs e in
        ap (λ (rs : List Row). closing (foldl after (after l r) (take m rs))) (sym next) ∙ ih (after l r) (inv-after l r al i) ∙ ap (drop m) next

-- ── After a cut ───────────────────────────────────────────────────────────────────────────────────────────────────────

-- all that an opening would have stored, had the power held
abbrev pub whole : List Row → List Row
whole rs = rs ++ closing (ledger rs)

-- what an opening stores is a first part of it
pub reopened-part : (f : Fuse) (rs : List Row) → (m : ℕ) × ((reopened f rs).stored ≡ rs ++ take m (closing (ledger rs)))
reopened-part f rs = go f
  where
    cs : List Row
    cs = closing (ledger rs)

    all : (f : Fuse) → force (book_of rs cs f true) ≡ book_of (rs ++ cs) [] (less_by (length cs) f) true
        → (m : ℕ) × ((reopened f rs).stored ≡ rs ++ take m cs)
    all f e = (length cs, ap (λ (b : Book). b.stored) (reopened-is f rs ∙ e) ∙ ap (λ (l : List Row). rs ++ l) (sym (take-length cs)))

    go : (f : Fuse) → (m : ℕ) × ((reopened f rs).stored ≡ rs ++ take m cs)
    go none = all none (force-lands rs cs none tt)
    go (left n) = cut (ltb n (length cs)) refl
      where
        cut : (t : Bool) → ltb n (length cs) ≡ t → (m : ℕ) × ((reopened (left n) rs).stored ≡ rs ++ take m cs)
        cut true e = (n, ap (λ (b : Book). b.stored) (reopened-is (left n) rs ∙ force-cut rs cs n (ltb-true n (length cs) e)))
        cut false e = all (left n) (force-lands rs cs (left n) (ltb-false n (length cs) e))

module _ (rs : List Row) (al : allowed_log rs ≡ true) where
  -- 01: the next opening names exactly the rows that the one before it did not store
  pub resumes : (m : ℕ) → closing (ledger (rs ++ take m (closing (ledger rs)))) ≡ drop m (closing (ledger rs))
  resumes m = ap closing (ledger-append rs (take m (closing (ledger rs)))) ∙ closing-rest m (ledger rs) (inv-log rs al)

  pub part-allowed : (m : ℕ) → allowed_log (rs ++ take m (closing (ledger rs))) ≡ true
  part-allowed m =
      let cs = closing (ledger rs) in
      allowed-start (rs ++ take m cs) (rs ++ cs) (drop m cs, ap (λ (l : List Row). rs ++ l) (sym (take-append-drop m cs)) ∙ sym (append_assoc rs (take m cs) (drop m cs)))
      (closed-allowed rs al)

  pub whole_part : (m : ℕ) → whole (rs ++ take m (closing (ledger rs))) ≡ whole rs
  whole_part m =
      let cs = closing (ledger rs) in
      ap (λ (l : List Row). (rs ++ take m cs) ++ l) (resumes m) ∙ append_assoc rs (take m cs) (drop m cs) ∙ ap (λ (l : List Row). rs ++ l) (take-append-drop m cs)

-- the rows stored after openings with these fuses, one after another
abbrev pub stored_after : List Row → List Fuse → List Row
stored_after rs [] = rs
stored_after rs (f ∷ fs) = stored_after (reopened f rs).stored fs

-- all of them work at the same rows
pub record SameWhole (rs later : List Row) : Type 0 where
  pub starts : StartsWith rs later
  pub allowed : allowed_log later ≡ true
  pub same : whole later ≡ whole rs

pub after-cuts : (fs : List Fuse) (rs : List Row) → allowed_log rs ≡ true → SameWhole rs (stored_after rs fs)
after-cuts [] rs al = record { starts = starts-refl rs; allowed = al; same = refl }
after-cuts (f ∷ fs) rs al =
    let k = reopened-part f rs in
    let part : SameWhole rs (reopened f rs).stored = rw k.1 (record {
      starts = starts-append rs (take k.0 (closing (ledger rs)));
      allowed = part-allowed rs al k.0;
      same = whole_part rs al k.0;
    }) in
    let rest = after-cuts fs (reopened f rs).stored part.allowed in record {
      starts = starts-trans rs (reopened f rs).stored (stored_after (reopened f rs).stored fs) part.starts rest.starts;
      allowed = rest.allowed;
      same = rest.same ∙ part.same;
    }

module _ (rs : List Row) (al : allowed_log rs ≡ true) (fs : List Fuse) (f : Fuse) (ready : (reopened f (stored_after rs fs)).is_open ≡ true) where
  -- openings that were cut, then one that was not: the rows are those of one opening that was not cut
  pub cuts-rows : (reopened f (stored_after rs fs)).stored ≡ whole rs
  cuts-rows = reopened-stored f (stored_after rs fs) ready ∙ (after-cuts fs rs al).same

  -- and so are the cells
  pub cuts-cells : (cells : ℕ → ℤ) (c : ℕ) → applied cells (reopened f (stored_after rs fs)).stored c ≡ applied cells (whole rs) c
  cuts-cells cells c = ap (λ (l : List Row). applied cells l c) cuts-rows

-- ── An opened store ───────────────────────────────────────────────────────────────────────────────────────────────────

module _ (rs : List Row) (al : allowed_log rs ≡ true) where
  -- nothing is left to write
  pub opened_nothing : closing (ledger (whole rs)) ≡ []
  opened_nothing =
      let cs = closing (ledger rs) in
      ap (λ (l : List Row). closing (ledger (rs ++ l))) (sym (take-length cs)) ∙ resumes rs al (length cs) ∙ drop-length cs

  -- so an opening of an opened store writes 0 rows, and needs no power
  pub opened-again : (f : Fuse) → (reopen f (whole rs)).answer ≡ answer 0 (pos 0)
  unfolding reopen
  opened-again f =
      let k = opened_nothing in
      let holds : PowerHolds f (length (closing (ledger (whole rs)))) = subst (λ (cs : List Row). PowerHolds f (length cs)) (sym k) (no_writes_lem f) in
      ended-done _ (reopened f (whole rs)) (reopened-holds f (whole rs) holds) ∙ ap (λ (cs : List Row). answer 0 (pos (length cs))) k
    where
      no_writes_lem : (f : Fuse) → PowerHolds f 0
      no_writes_lem none = tt
      no_writes_lem (left n) = omega arith

  -- 01: an opening never lacks room
  pub opening-room : length (whole rs) ≤ row_limit
  opening-room = few-rows (whole rs) (closed-allowed rs al)
