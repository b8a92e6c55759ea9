-- One call, one opening and the format, on a store that stands for a book of zeros: answer, store and counts are the book's.
use Prim.Native.Nat.{ℕ, zero, suc, ◌+◌, ◌-◌, ◌*◌, ◌^◌}
use native.Mathlib.Omega.{arith}
use mathlib.Core.Path.{◌≡◌, refl, ap, sym, ◌∙◌, subst}
use mathlib.Core.Bool.{Bool, true, false, cond}
use mathlib.Core.List.{List}
use lib.ListN.{length, get_or, replicate}
use lib.IntN.{ℤ, pos, negsuc}
use lib.Dec.{ltb}
use borrow.Author.Tests.{ltb-true, ltb-false, le-leb}
use Rattle.book.specs.Limits.{log_length, charts_length, scope_limit, cell_limit}
use Rattle.book.specs.Calls.{Call, ending, Typed}
use Rattle.book.specs.Rows.{is_amount}
use Rattle.book.specs.Power.{Book, Fuse, formatted}
use Rattle.book.specs.Book.{opening}
use Rattle.book.specs.Events.{Event, opens, calls, happens}
use Rattle.book.specs.Writes.{Few}
use Rattle.book.specs.SessionWrites.{event_writes}
use Rattle.book.specs.LogBytes.{log_bytes}
use Rattle.book.specs.Numbers.{number, signed}
use Rattle.book.proofs.Sound.{sound-opening, stored-allowed}
use Rattle.book.proofs.Claims.{grows-open}
use Rattle.book.proofs.Pages.{Bounded}
use Rattle.book.proofs.Writes.{one-page}
use Rattle.state.specs.World.{World, world, right_lengths, world_of, Represents}
use Rattle.state.specs.CallContracts.{Answered, by_book, cells_of, formats, CallPost, OpenPost, FormatPost}
use Rattle.state.proofs.Lengths.{represented-lengths}
use Rattle.state.proofs.StoredCharts.{charts-kept}
use Rattle.state.proofs.OpenedStores.{by_opening, opens-book, charts-accepted}
use Rattle.state.proofs.OpenedCounts.{opens-few}
use Rattle.state.proofs.Kept.{kept, represents-world}
use Rattle.state.proofs.FormattedStores.{formatted-store}
use Rattle.state.specs.declared.ram.State.{State}
use Rattle.tables_model.specs.declared.Scope.{Scope}
use Rattle.sessions.proofs.Held.{represents}
use Rattle.sessions.proofs.Demand3.{held-formatted}
use Rattle.run_reader.specs.File.{call_of_code, visit_at, receiver_at, call_at}
use Rattle.book.specs.Cells.{zeros}

small : Bounded 1000000 zeros
small c = omega arith

-- what an event comes to: the book's answer, a store that stands for the book after it, and the book's counts
pub record Answers (b : Book) (e : Event) (x : Answered) : Type 0 where
  pub answer : x.answer ≡ (happens zeros b e).answer
  pub stands : Represents zeros (happens zeros b e).book x.world
  pub writes : x.writes ≡ event_writes zeros b e

-- ── A call ────────────────────────────────────────────────────────────────────────────────────────────────────────────

amount : (x : ℕ) → is_amount (signed 16 x) ≡ true
amount x = go (ltb (2 * x) (2 ^ 16)) refl
  where
    go : (t : Bool) → ltb (2 * x) (2 ^ 16) ≡ t → is_amount (cond t (pos x) (negsuc (2 ^ 16 - suc x))) ≡ true
    go true e = let k = ltb-true (2 * x) (2 ^ 16) e in le-leb x 32767 (omega arith)
    go false e = let k = ltb-false (2 * x) (2 ^ 16) e in rw (le-leb (2 ^ 16 - suc x) 32767 (omega arith))

typed-code : (n v r c : ℕ) (a : ℤ) → is_amount a ≡ true → Typed (call_of_code n v r c a)
typed-code zero v r c a h = tt
typed-code (suc zero) v r c a h = tt
typed-code (suc (suc zero)) v r c a h = rw h tt
typed-code (suc (suc (suc zero))) v r c a h = tt
typed-code (suc (suc (suc (suc zero)))) v r c a h = tt
typed-code (suc (suc (suc (suc (suc zero))))) v r c a h = tt
typed-code (suc (suc (suc (suc (suc (suc zero)))))) v r c a h = tt
typed-code (suc (suc (suc (suc (suc (suc (suc zero))))))) v r c a h = tt
typed-code (suc (suc (suc (suc (suc (suc (suc (suc zero)))))))) v r c a h = tt
typed-code (suc (suc (suc (suc (suc (suc (suc (suc (suc n))))))))) v r c a h = tt

-- a run file's change is a signed 16-bit number
typed_call : (bs : List ℕ) (at : ℕ) → Typed (call_at bs at)
unfolding call_at
typed_call bs at =
    let x = number 2 bs (at + 4) in
    typed-code (get_or bs at 0) (visit_at bs at) (receiver_at bs at) (get_or bs (at + 3) 0) (signed 16 x) (amount x)

pub call-answers : (b : Book) (bs : List ℕ) (at : ℕ) (given : World) (x : Answered) → Represents zeros b given
    → CallPost (call_at bs at) given x → Answers b (calls true (call_at bs at)) x
unfolding by_book
call-answers b bs at given x r post =
    let is = post.is (represented-lengths zeros b given r) zeros b r in
    record {
      answer = ap (λ (y : Answered). y.answer) is;
      stands = kept zeros b (call_at bs at) given x r (typed_call bs at) post;
      writes = ap (λ (y : Answered). y.writes) is;
    }

-- whatever it is handed, it stores no more rows than the log has, and one page at most
pub called-few : (k : Call) (given : World) (x : Answered) → CallPost k given x → Few x.writes
called-few k given x post = (post.few, rw post.pages (one-page (ending k) x.answer.number))

-- ── An opening ────────────────────────────────────────────────────────────────────────────────────────────────────────

stored-log : (b : Book) (w : World) → Represents zeros b w → w.log ≡ log_bytes b.stored
unfolding world_of
stored-log b w r = ap (λ (x : World). x.log) r.is

pub open-answers : (b : Book) (f : Fuse) (given : World) (x : Answered) → Represents zeros b given → OpenPost f given x → Answers b (opens true f) x
unfolding opening
open-answers b f given x r post =
    let al = stored-allowed b r.sound in
    let good = charts-accepted zeros 1000000 small b.stored al (omega arith) given.charts r.charts in
    let is : x ≡ by_opening zeros b.stored given.charts (opening b true f) = post.is ∙
    opens-book zeros 1000000 small b.stored al (omega arith) f given (represented-lengths zeros b given r) (stored-log b given r) r.charts good in
    record {
      answer = ap (λ (y : Answered). y.answer) is;
      stands = subst (Represents zeros (opening b true f).book) (sym (ap (λ (y : Answered). y.world) is))
          (represents-world zeros (opening b true f).book given.charts r.range (sound-opening b true f r.sound)
          (charts-kept zeros b.stored (opening b true f).book.stored given.charts (grows-open b true f) r.charts));
      writes = ap (λ (y : Answered). y.writes) is;
    }

pub opened-few : (f : Fuse) (given : World) (x : Answered) → OpenPost f given x → Few x.writes
opened-few f given x post = rw post.is (opens-few f given)

-- ── The format ────────────────────────────────────────────────────────────────────────────────────────────────────────

abbrev zero_cells : List ℤ
zero_cells = replicate cell_limit (pos 0)

cells-zero : (n c : ℕ) → cells_of (replicate n (pos 0)) c ≡ pos 0
cells-zero zero c = refl
cells-zero (suc n) zero = refl
cells-zero (suc n) (suc c) = cells-zero n c

format-done : (given : World) → right_lengths given ≡ true → (formats zero_cells given).answer.number ≡ 0
unfolding formats
format-done given e = rw e

pub right-lengths : (s : State) (log charts copy : List ℕ) (scopes : List Scope) → length log ≡ log_length → length charts ≡ charts_length
    → length copy ≡ charts_length → length scopes ≡ scope_limit → right_lengths (world s log charts copy scopes) ≡ true
right-lengths s log charts copy scopes l c d e = rw (l, c, d, e)

pub format-stands : (given : World) (x : Answered) → right_lengths given ≡ true → FormatPost zero_cells given x → Represents zeros formatted x.world
format-stands given x e post =
    let done : x.answer.number ≡ 0 = ap (λ (r : Answered). r.answer.number) post.is ∙ format-done given e in
    let f = formatted-store zero_cells given x post done in
    let h = held-formatted zero_cells x.world f in
    subst (λ (cells : ℕ → ℤ). Represents cells formatted x.world) (λ i c. cells-zero cell_limit c i) (represents (cells_of zero_cells) formatted x.world f.small h)
