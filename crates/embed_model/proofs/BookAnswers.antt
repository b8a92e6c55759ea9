-- The book's answers have room in the number that a function for C gives back.
use Prim.Native.Nat.{ℕ, ◌+◌, ◌≤◌, ◌<◌}
use native.Mathlib.Omega.{arith}
use mathlib.Core.Path.{◌≡◌, refl, sym, subst}
use mathlib.Core.Bool.{Bool, true, false, cond, ◌||◌}
use mathlib.Core.List.{List, [], ◌∷◌, ◌++◌}
use lib.ListN.{length, length-append}
use lib.IntN.{ℤ, pos}
use lib.Dec.{eqb}
use borrow.Author.Tests.{eqb-true}
use Rattle.book.specs.Writes.{opening_writes, call_writes}
use Rattle.book.specs.Lists.{member}
use Rattle.book.specs.Rules.{allowed_log}
use Rattle.book.specs.Ledger.{ledger}
use Rattle.book.specs.Cells.{applied}
use Rattle.book.specs.Calls.{Call, Typed, ending}
use Rattle.book.specs.Power.{Book, Fuse, rows_of}
use Rattle.book.specs.Book.{closing, refusal, adds, through, value, answer, Outcome, refused, ended, reopened, reopen, call, opening}
use Rattle.book.specs.Logs.{Sound}
use Rattle.book.proofs.Lists.{clash, and_i}
use Rattle.book.proofs.Logs.{allowed-append}
use Rattle.book.proofs.InvariantKept.{few-rows}
use Rattle.book.proofs.TakeBack.{closed-allowed}
use Rattle.book.proofs.Adds.{fine-adds}
use Rattle.book.proofs.Numbers.{InBits}
use Rattle.book.proofs.Marks.{abs-applied}
use Rattle.book.proofs.Pages.{Bounded, abs-bits}
use Rattle.book.proofs.Sound.{sound-inv, stored-allowed, Decided, refuses, accepts, decided, sound-opening}
use Rattle.book.proofs.Writes.{few-between, call-few, one-page}
use Rattle.state.specs.CallContracts.{numbers}
use Rattle.embed_model.specs.EveryList.{Below}
use Rattle.embed_model.proofs.Packed.{AnswerOfC, WritesOfC}

-- ── Numbers ───────────────────────────────────────────────────────────────────────────────────────────────────────────

member_below : (m n : ℕ) (ns : List ℕ) → Below m ns → member n ns ≡ true → n < m
unfolding Below
member_below m n [] h e = clash false e refl
member_below m n (x ∷ ns) h e = go (eqb n x) refl e (member_below m n ns h.1)
  where
    go : (t : Bool) → eqb n x ≡ t → (t || member n ns) ≡ true → (member n ns ≡ true → n < m) → n < m
    go true q f rest = let k = eqb-true n x q in let lt = h.0 in omega arith
    go false q f rest = rest f

-- the refusal numbers
numbers-below : (k : Call) → Below 15 (numbers k)
unfolding Below
numbers-below Call.begin = omega arith
numbers-below (Call.change v c a) = omega arith
numbers-below (Call.hand_over g r c) = omega arith
numbers-below (Call.commit v) = omega arith
numbers-below (Call.abort v) = omega arith
numbers-below Call.force = omega arith
numbers-below (Call.flush p) = omega arith
numbers-below (Call.read c) = omega arith
numbers-below (Call.hand_over_all g r) = omega arith

-- ── Values ────────────────────────────────────────────────────────────────────────────────────────────────────────────

-- an accepted call adds no row beyond the last
rows-small : (b : Book) (k : Call) → Sound b → b.is_open ≡ true → Typed k → refusal b k ≡ 0 → length (rows_of b) + length (adds b k) ≤ 4096
rows-small b k s o t e =
    let fine = fine-adds b k (sound-inv b s) (s.whole o) t e in
    let all : allowed_log (rows_of b ++ adds b k) ≡ true = rw (allowed-append _ (rows_of b) (adds b k)) (and_i _ _ s.allowed fine.good) in
    let few = few-rows (rows_of b ++ adds b k) all in let m = length-append (rows_of b) (adds b k) in omega arith

value-bits : (cells : ℕ → ℤ) → Bounded 1000000 cells → (b : Book) → Sound b → (k : Call) → length (rows_of b) + length (adds b k) ≤ 4096
    → InBits 32 (value cells b k)
unfolding value
value-bits cells small b s Call.begin h = let i = (sound-inv b s).count in omega arith
value-bits cells small b s (Call.change v c a) h = omega arith
value-bits cells small b s (Call.hand_over g r c) h = omega arith
value-bits cells small b s (Call.commit v) h = omega arith
value-bits cells small b s (Call.abort v) h = omega arith
value-bits cells small b s Call.force h = omega arith
value-bits cells small b s (Call.flush p) h = omega arith
value-bits cells small b s (Call.hand_over_all g r) h = omega arith
value-bits cells small b s (Call.read c) h =
    abs-bits 135217728 (applied cells (rows_of b) c) (abs-applied cells (rows_of b) c 1000000 s.allowed (few-rows (rows_of b) s.allowed) (small c)) (omega arith)

-- ── Answers ───────────────────────────────────────────────────────────────────────────────────────────────────────────

zero_bits : InBits 32 (pos 0)
zero_bits = omega arith

ended-fits : (v : ℤ) (b : Book) → InBits 32 v → AnswerOfC (ended v b).answer
ended-fits v b h = go b.is_open
  where
    go : (t : Bool) → AnswerOfC (cond t (record { answer = answer 0 v; book = b }) (refused 5 b)).answer
    go true = record { number = omega arith; value = h }
    go false = record { number = omega arith; value = zero_bits }

pub call_fits : (cells : ℕ → ℤ) → Bounded 1000000 cells → (b : Book) (k : Call) → Sound b → Typed k
    → member (call cells b true k).answer.number (numbers k) ≡ true → AnswerOfC (call cells b true k).answer
call_fits cells small b k s t e = go (call cells b true k) (member_below 15 _ (numbers k) (numbers-below k) e) (decided cells b true k)
  where
    go : (o : Outcome) → o.answer.number < 15 → Decided cells b true k o → AnswerOfC o.answer
    go o lt (refuses n q) = record { number = omega arith; value = subst (λ (x : Outcome). InBits 32 x.answer.value) (sym q) zero_bits }
    go o lt (accepts l p r q) = subst (λ (x : Outcome). AnswerOfC x.answer) (sym q)
        (ended-fits (value cells b k) (through b k) (value-bits cells small b s k (rows-small b k s p t r)))

pub opening-fits : (b : Book) (f : Fuse) → Sound b → AnswerOfC (opening b true f).answer
unfolding opening reopen
opening-fits b f s =
    let few = few-rows (b.stored ++ closing (ledger b.stored)) (closed-allowed b.stored (stored-allowed b s)) in
    let m = length-append b.stored (closing (ledger b.stored)) in
    ended-fits (pos (length (closing (ledger b.stored)))) (reopened f b.stored) (omega arith)

-- ── Counts ────────────────────────────────────────────────────────────────────────────────────────────────────────────

pub opening-writes-fit : (b : Book) (f : Fuse) → Sound b → WritesOfC (opening_writes b.stored (opening b true f))
opening-writes-fit b f s = record {
  rows =
      let few = few-between b.stored (opening b true f).book.stored (stored-allowed (opening b true f).book (sound-opening b true f s)) in omega arith;
  pages = omega arith;
}

pub call-writes-fit : (cells : ℕ → ℤ) (b : Book) (k : Call) → Sound b → Typed k → WritesOfC (call_writes b k (call cells b true k))
call-writes-fit cells b k s t = record {
  rows = let few = call-few cells b true k s t in omega arith;
  pages = omega (arith, one-page (ending k) (call cells b true k).answer.number);
}
