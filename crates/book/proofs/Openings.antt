-- What an opening leaves: the stored log grows by the rows that it names, as many as the reserve; no visit is active after them; each cell is the sum
-- of its kept changes; the undo rows are as many as the changes that were open.
use Prim.Native.Nat.{ℕ, ◌+◌}
use native.Mathlib.Omega.{arith}
use mathlib.Core.Path.{◌≡◌, refl, ap, ap₂, sym, ◌∙◌}
use mathlib.Core.Bool.{Bool, true, false, cond}
use mathlib.Core.List.{List, [], ◌++◌, map, append-nil}
use lib.ListN.{length, length-append, length-map}
use lib.IntN.{ℤ, pos}
use borrow.Author.Tests.{ne_eqb}
use Rattle.book.specs.Lists.{keep}
use Rattle.book.specs.Rows.{Row, is_undo}
use Rattle.book.specs.Ledger.{Change, Ledger, ledger}
use Rattle.book.specs.Rules.{open_changes, open_held, is_open_change, reserve, allowed_log}
use Rattle.book.specs.Cells.{applied, kept_sum}
use Rattle.book.specs.Power.{Book, Fuse, PowerHolds}
use Rattle.book.specs.Book.{undo_of, take_back, everyone, closing, Answer, answer, refused, ended, reopened, reopen, opening}
use Rattle.book.specs.Logs.{Sound}
use Rattle.book.proofs.Lists.{in-keep, keep_all, keep-none, keep_append, keep-map}
use Rattle.book.proofs.Invariant.{Inv}
use Rattle.book.proofs.InvariantKept.{inv-log}
use Rattle.book.proofs.TakeBack.{closed-allowed, closed_none}
use Rattle.book.proofs.Sum.{applied-kept}
use Rattle.book.proofs.Steps.{extends-open}
use Rattle.book.proofs.Force.{reopened-empty, reopened-holds}
use Rattle.book.proofs.Sound.{opening-book, stored-allowed}

-- ── The rows that an opening names ────────────────────────────────────────────────────────────────────────────────────

-- as many as the reserve
pub closing-long : (l : Ledger) → length (closing l) ≡ reserve l
unfolding take_back reserve
closing-long l =
    let a = length-append (map undo_of (keep (λ x. everyone x.holder) (open_changes l))) (map Row.abort (keep everyone l.active)) in
    let b = length-map (keep (λ x. everyone x.holder) (open_changes l)) undo_of in
    let c = length-map (keep everyone l.active) Row.abort in
    let d = ap length (keep_all (λ (x : Change). everyone x.holder) (open_changes l) (λ x m. refl)) in
    let f = ap length (keep_all everyone l.active (λ x m. refl)) in omega arith

-- and as many of them are undo rows as there are open changes
pub closing-undos : (l : Ledger) → Inv l → length (keep is_undo (closing l)) ≡ length (open_changes l)
unfolding take_back
closing-undos l i =
    let xs = open_held everyone l in
    let vs = keep everyone l.active in
    let all : keep is_undo (map undo_of xs) ≡ map undo_of xs = keep-map is_undo undo_of xs ∙ ap (map undo_of) (keep_all _ xs (λ x m.
    let k = (i.good x (in-keep (is_open_change l) l.changes x (in-keep (λ (y : Change). everyone y.holder) (open_changes l) x m).0).0).low in
    rw (ne_eqb x.row 0 (λ q. omega arith)))) in
    let none : keep is_undo (map Row.abort vs) ≡ [] = keep-map is_undo Row.abort vs ∙ ap (map Row.abort) (keep-none _ vs (λ v m. refl)) in
    ap length (keep_append is_undo (map undo_of xs) (map Row.abort vs) ∙ ap₂ ◌++◌ all none ∙ append-nil (map undo_of xs)) ∙ length-map xs undo_of ∙
    ap length (keep_all (λ (x : Change). everyone x.holder) (open_changes l) (λ x m. refl))

-- ── By the power ──────────────────────────────────────────────────────────────────────────────────────────────────────

-- the number of an answer tells whether the book is open
pub ended-open : (v : ℤ) (b : Book) → (ended v b).answer.number ≡ 0 → b.is_open ≡ true
ended-open v b = go b.is_open
  where
    go : (t : Bool) → (cond t (record { answer = answer 0 v; book = b }) (refused 5 b)).answer.number ≡ 0 → t ≡ true
    go true e = refl
    go false e = absurd (omega arith)

pub ended-done : (v : ℤ) (b : Book) → b.is_open ≡ true → (ended v b).answer ≡ answer 0 v
ended-done v b o = rw o

-- after an opening that ends open the stored rows are the old ones and those that it names
pub reopened-stored : (f : Fuse) (rs : List Row) → (reopened f rs).is_open ≡ true → (reopened f rs).stored ≡ rs ++ closing (ledger rs)
reopened-stored f rs o =
    sym (append-nil (reopened f rs).stored) ∙ sym (ap (λ (l : List Row). (reopened f rs).stored ++ l) (reopened-empty f rs)) ∙
    (extends-open f rs).rows o ∙ ap (λ (l : List Row). l ++ closing (ledger rs)) (append-nil rs)

-- 01: an opening in which power holds is ready
pub holds-ready : (b : Book) (f : Fuse) → PowerHolds f (length (closing (ledger b.stored))) → (opening b true f).answer.number ≡ 0
unfolding opening reopen
holds-ready b f h = ap (λ (a : Answer). a.number) (ended-done _ (reopened f b.stored) (reopened-holds f b.stored h))

-- ── A ready opening ───────────────────────────────────────────────────────────────────────────────────────────────────

-- a sound book `b` and what a ready opening makes of it: its answer's value and the rows stored after it
pub record Ready (b : Book) (value : ℤ) (stored : List Row) : Type 0 where
  pub rows : stored ≡ b.stored ++ closing (ledger b.stored)
  pub allowed : allowed_log stored ≡ true
  pub inactive : (ledger stored).active ≡ []
  -- 01: it returns the rows it wrote: the stored log grew by as many
  pub written : (n : ℕ) × (value ≡ pos n) × (length stored ≡ length b.stored + n)
  -- one undo row for each change that was open
  pub undos : length (keep is_undo stored) ≡ length (keep is_undo b.stored) + length (open_changes (ledger b.stored))
  -- 00: each cell is its formatted value and the changes whose last holder has a commit row
  pub sums : (cells : ℕ → ℤ) (c : ℕ) → applied cells stored c ≡ kept_sum cells stored c

pub ready : (b : Book) (f : Fuse) → Sound b → (opening b true f).answer.number ≡ 0
    → Ready b (opening b true f).answer.value (opening b true f).book.stored
unfolding opening reopen
ready b f s e =
    let rs = b.stored in
    let al = stored-allowed b s in
    let cs = closing (ledger rs) in
    let o = ended-open _ (reopened f rs) e in
    let is : (opening b true f).book.stored ≡ rs ++ cs = ap (λ (x : Book). x.stored) (opening-book b f) ∙ reopened-stored f rs o in
    let none = closed_none rs al in
    record {
      rows = is;
      allowed = rw is (closed-allowed rs al);
      inactive = rw is none;
      written = (length cs, ap (λ (a : Answer). a.value) (ended-done _ (reopened f rs) o), ap length is ∙ length-append rs cs);
      undos =
          ap (λ (l : List Row). length (keep is_undo l)) is ∙ ap length (keep_append is_undo rs cs) ∙ length-append (keep is_undo rs) (keep is_undo cs) ∙
          ap (λ (n : ℕ). length (keep is_undo rs) + n) (closing-undos (ledger rs) (inv-log rs al));
      sums = λ cells c. rw is (applied-kept cells (rs ++ cs) c (closed-allowed rs al) none);
    }
