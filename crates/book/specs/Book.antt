-- The book of document 01 ("Sessions and the book"): what each call and each opening answers, and which rows are stored and which wait, from the
-- calls and their arguments alone.
use Rattle.std.specs.Prelude.{ℕ, zero, suc, ◌+◌, Bool, true, cond, not, List, [], ◌∷◌, ◌++◌, map, length, ℤ, pos, leb, ltb, eqb}
use Rattle.book.specs.Lists.{keep, times}
use Rattle.book.specs.Limits.{visit_limit, active_limit, page_limit}
use Rattle.book.specs.Rows.{Row, is_cell}
use Rattle.book.specs.Ledger.{Change, Ledger, ledger, only, every}
use Rattle.book.specs.Rules.{is_active, open_held, just, room, scope_fits, holds_any}
use Rattle.book.specs.Cells.{applied, last_on}
use Rattle.book.specs.Calls.{Call, Ending, waits, forces, flushes, ending, Return, the_visit, the_row, the_cell, zero_value, returns}
use Rattle.book.specs.Power.{Book, Fuse, rows_of, ledger_of, store_row, force, store_page, add_all}

-- ── Taking back: abort, and the backward part of an opening ──────────────────────────────────────────────────────────

-- the undo row of a change
abbrev pub undo_of : Change → Row
undo_of x = Row.undo x.holder x.cell x.row x.amount

-- 01: the open changes of these visits fall in descending row number, each by an undo row, then an abort row for each of the visits that is active,
-- highest number first. (The ledger's lists have the highest first: `proofs/Invariant`, Falling and Sinking.)
unfoldable pub take_back : (ℕ → Bool) → Ledger → List Row
take_back who l = map undo_of (open_held who l) ++ map Row.abort (keep who l.active)

-- the set of all visits
abbrev pub everyone : ℕ → Bool
everyone v = true

-- 01: the rows of an opening's backward part: it takes back what is open over all visits
abbrev pub closing : Ledger → List Row
closing l = take_back everyone l

-- ── Calls ─────────────────────────────────────────────────────────────────────────────────────────────────────────────

-- a check of the table: its number where the condition holds, or else what the later checks say
abbrev pub ◌else◌ : ℕ × Bool → ℕ → ℕ
◌else◌ check later = cond check.1 check.0 later

infixr 20 ◌else◌
-- 01: "Refusals by place", from begin on, in checking order; 0 where none applies. 02, L2, of a whole visit: "Checks: 9, 12, 13, 8",
-- with 13 where the giver holds nothing at all.
unfoldable pub refusal : Book → Call → ℕ
refusal b Call.begin =
    let l = ledger_of b in
    (6, leb visit_limit l.begun) else (7, leb active_limit (length l.active)) else (8, not (room l 2)) else 0
refusal b (Call.change v c a) =
    let l = ledger_of b in
    (9, not (is_active l v)) else (10, not (is_cell c)) else (11, not (scope_fits l v c)) else (8, not (room l 2)) else 0
refusal b (Call.hand_over g r c) =
    let l = ledger_of b in
    (9, not (is_active l g)) else (9, not (is_active l r)) else (12, eqb g r) else (10, not (is_cell c)) else (13, not (holds_any l g (only c))) else
    (8, not (room l 1)) else 0
refusal b (Call.commit v) = (9, not (is_active (ledger_of b) v)) else 0
refusal b (Call.abort v) = (9, not (is_active (ledger_of b) v)) else 0
refusal b Call.force = 0
refusal b (Call.flush p) = (14, not (ltb p page_limit)) else 0
refusal b (Call.read c) = (10, not (is_cell c)) else 0
refusal b (Call.hand_over_all g r) =
    let l = ledger_of b in
    (9, not (is_active l g)) else (9, not (is_active l r)) else (12, eqb g r) else (13, not (holds_any l g every)) else (8, not (room l 1)) else 0

-- the rows that an accepted call adds
unfoldable pub adds : Book → Call → List Row
adds b Call.begin = Row.begin (suc (ledger_of b).begun) ∷ []
adds b (Call.change v c a) = Row.change v c a ∷ []
adds b (Call.hand_over g r c) = Row.hand_over g r c ∷ []
adds b (Call.commit v) = Row.commit v ∷ []
adds b (Call.abort v) = take_back (just v) (ledger_of b)
adds b Call.force = []
adds b (Call.flush p) = []
adds b (Call.read c) = []
adds b (Call.hand_over_all g r) = Row.hand_over_all g r ∷ []

-- 01: flush forces the tail up to the page's last change or undo row, if that one waits; then the page is one write
abbrev pub finish : Ending → Book → Book
finish waits b = b
finish forces b = force b
finish (flushes p) b = store_page (times (last_on p b.waiting) store_row b)

-- the book after an accepted call
unfoldable pub through : Book → Call → Book
through b k = finish (ending k) (add_all b (adds b k))

-- a row's number is that of the last row that the call adds; `cells` are the cells that the rows start from
abbrev pub value_of : (ℕ → ℤ) → Book → Call → Return → ℤ
value_of cells b k the_visit = pos (suc (ledger_of b).begun)
value_of cells b k the_row = pos (length (rows_of b) + length (adds b k))
value_of cells b k (the_cell c) = applied cells (rows_of b) c
value_of cells b k zero_value = pos 0

-- what an accepted call returns
unfoldable pub value : (ℕ → ℤ) → Book → Call → ℤ
value cells b k = value_of cells b k (returns k)

-- ── Answers ───────────────────────────────────────────────────────────────────────────────────────────────────────────

-- what a call gives back
pub record Answer : Type 0 where
  pub number : ℕ  -- 01: the refusal number, 0 for done and ready
  pub value : ℤ

abbrev pub answer : ℕ → ℤ → Answer
answer n v = record { number = n; value = v }

-- 01: done, and of an opening ready
abbrev pub done : ℤ → Answer
done v = answer 0 v

-- 01: values not named are 0
abbrev pub refused_by : ℕ → Answer
refused_by n = answer n (pos 0)

-- the answer and the book after it
pub record Outcome : Type 0 where
  pub answer : Answer
  pub book : Book

-- 01: refused by a number other than 5, or by 5 because the book is closed; the book is as given
abbrev pub refused : ℕ → Book → Outcome
refused n b = record { answer = refused_by n; book = b }

-- 01: an accepted call answers 5 if the power failed in it
abbrev pub ended : ℤ → Book → Outcome
ended v b = cond b.is_open (record { answer = done v; book = b }) (refused 5 b)

-- a call that no check refuses
unfoldable pub accepted : (ℕ → ℤ) → Book → Call → Outcome
accepted cells b k = ended (value cells b k) (through b k)

-- refused by the number, or accepted where that is 0
abbrev pub decide : (ℕ → ℤ) → Book → Call → ℕ → Outcome
decide cells b k zero = accepted cells b k
decide cells b k (suc n) = refused (suc n) b

-- 01: a call by the book. `lengths` says that the lent buffers have 01's lengths. `cells` are the cells that the rows start from, for read alone.
unfoldable pub call : (ℕ → ℤ) → Book → Bool → Call → Outcome
call cells b lengths k = decide cells b k ((1, not lengths) else (5, not b.is_open) else refusal b k)

-- ── Openings ──────────────────────────────────────────────────────────────────────────────────────────────────────────

-- 01: the book is open, nothing waits, the fuse is the one given
abbrev pub starting : Fuse → List Row → Book
starting f rs = record { stored = rs; waiting = []; fuse = f; is_open = true }

-- 01: the rows that Open names, by the stored rows, are added, then a force
unfoldable pub reopened : Fuse → List Row → Book
reopened f rs = force (add_all (starting f rs) (closing (ledger rs)))

-- 01: it returns the rows it wrote
unfoldable pub reopen : Fuse → List Row → Outcome
reopen f rs = ended (pos (length (closing (ledger rs)))) (reopened f rs)

-- 01: an opening by the book gets only 0, 1 or 5
unfoldable pub opening : Book → Bool → Fuse → Outcome
opening b lengths f = cond lengths (reopen f b.stored) (refused 1 b)
