-- Document 01's run file: which bytes are one, and the sessions that it asks for.
use Rattle.std.specs.Prelude.{ℕ, zero, suc, ◌+◌, ◌*◌, ◌/◌, ◌%◌, Bool, true, ◌&&◌, List, [], ◌∷◌, ◌++◌, length, get_or, take, drop, ℤ, pos, eqb, leb}
use Rattle.book.specs.Lists.{eq_bytes}
use Rattle.book.specs.Numbers.{le, number, bits_of, signed}
use Rattle.book.specs.RowBytes.{pair}
use Rattle.book.specs.Calls.{Call}
use Rattle.book.specs.Power.{Fuse}
use Rattle.state.specs.World.{fuse_of_number}

-- ── Sizes ─────────────────────────────────────────────────────────────────────────────────────────────────────────────

-- 01: at most 4,096 bytes
abbrev pub file_limit : ℕ
file_limit = 4096

-- 01: 1 to 32 sessions
abbrev pub session_limit : ℕ
session_limit = 32

-- 01: entries of 8 bytes
abbrev pub entry_length : ℕ
entry_length = 8

-- 02, L7: "Calls in the run file become 8 bytes"
abbrev pub call_length : ℕ
call_length = 8

-- ── A call ────────────────────────────────────────────────────────────────────────────────────────────────────────────

-- 01: code, visit, receiver, cell or page, change; 02, L7: "the two high bytes last", that of the visit and that of the receiver
abbrev pub call_fields : ℕ → ℕ → ℕ → ℕ → ℤ → List ℕ
call_fields code v r c a = code ∷ v % 256 ∷ r % 256 ∷ c ∷ le 2 (bits_of 16 a) ++ (v / 256 % 256 ∷ r / 256 % 256 ∷ [])

-- 01, and 02, L2 (code 9): the codes; unused bytes are zero
unfoldable pub call_bytes : Call → List ℕ
call_bytes Call.begin = call_fields 1 0 0 0 (pos 0)
call_bytes (Call.change v c a) = call_fields 2 v 0 c a
call_bytes (Call.hand_over g r c) = call_fields 3 g r c (pos 0)
call_bytes (Call.commit v) = call_fields 4 v 0 0 (pos 0)
call_bytes (Call.abort v) = call_fields 5 v 0 0 (pos 0)
call_bytes (Call.flush p) = call_fields 6 0 0 p (pos 0)
call_bytes Call.force = call_fields 7 0 0 0 (pos 0)
call_bytes (Call.read c) = call_fields 8 0 0 c (pos 0)
call_bytes (Call.hand_over_all g r) = call_fields 9 g r 0 (pos 0)

-- the call of a code with these fields; of no such code any call will do, since `is_call_at` compares the bytes
abbrev pub call_of_code : ℕ → ℕ → ℕ → ℕ → ℤ → Call
call_of_code zero v r c a = Call.begin
call_of_code (suc zero) v r c a = Call.begin
call_of_code (suc (suc zero)) v r c a = Call.change v c a
call_of_code (suc (suc (suc zero))) v r c a = Call.hand_over v r c
call_of_code (suc (suc (suc (suc zero)))) v r c a = Call.commit v
call_of_code (suc (suc (suc (suc (suc zero))))) v r c a = Call.abort v
call_of_code (suc (suc (suc (suc (suc (suc zero)))))) v r c a = Call.flush c
call_of_code (suc (suc (suc (suc (suc (suc (suc zero))))))) v r c a = Call.force
call_of_code (suc (suc (suc (suc (suc (suc (suc (suc zero)))))))) v r c a = Call.read c
call_of_code (suc (suc (suc (suc (suc (suc (suc (suc (suc n))))))))) v r c a = Call.hand_over_all v r

-- visit and receiver of the call at `at`
abbrev pub visit_at : List ℕ → ℕ → ℕ
visit_at bs at = pair bs (at + 1) (at + 6)

abbrev pub receiver_at : List ℕ → ℕ → ℕ
receiver_at bs at = pair bs (at + 2) (at + 7)

-- the call that the 8 bytes from `at` on would be
unfoldable pub call_at : List ℕ → ℕ → Call
call_at bs at = call_of_code (get_or bs at 0) (visit_at bs at) (receiver_at bs at) (get_or bs (at + 3) 0) (signed 16 (number 2 bs (at + 4)))

-- these 8 bytes are a call
unfoldable pub is_call_at : List ℕ → ℕ → Bool
is_call_at bs at = eq_bytes (call_bytes (call_at bs at)) (take call_length (drop at bs))

-- n calls from `at` on
abbrev pub calls_from : ℕ → List ℕ → ℕ → List Call
calls_from zero bs at = []
calls_from (suc n) bs at = call_at bs at ∷ calls_from n bs (at + call_length)

abbrev pub are_calls : ℕ → List ℕ → ℕ → Bool
are_calls zero bs at = true
are_calls (suc n) bs at = is_call_at bs at && are_calls n bs (at + call_length)

-- ── An entry ──────────────────────────────────────────────────────────────────────────────────────────────────────────

-- the place of entry i, counted from 0
abbrev pub session_entry_at : ℕ → ℕ
session_entry_at i = 1 + entry_length * i

-- 01: fuse (4 bytes), start of body (2), calls (2)
abbrev pub fuse_at : List ℕ → ℕ → Fuse
fuse_at bs i = fuse_of_number (number 4 bs (session_entry_at i))

abbrev pub start_at : List ℕ → ℕ → ℕ
start_at bs i = number 2 bs (session_entry_at i + 4)

abbrev pub calls_at : List ℕ → ℕ → ℕ
calls_at bs i = number 2 bs (session_entry_at i + 6)

-- the end of the body of entry i that starts at `at`
abbrev pub body_end : List ℕ → ℕ → ℕ → ℕ
body_end bs i at = at + call_length * calls_at bs i

-- ── The file ──────────────────────────────────────────────────────────────────────────────────────────────────────────

-- 01: the bodies, without gaps, in order, to the end: those of n entries from entry i on, the first at `at`
abbrev pub are_bodies : ℕ → ℕ → ℕ → List ℕ → Bool
are_bodies zero i at bs = eqb at (length bs)
are_bodies (suc n) i at bs =
    eqb (start_at bs i) at && leb (body_end bs i at) (length bs) && are_calls (calls_at bs i) bs at && are_bodies n (suc i) (body_end bs i at) bs

-- 01: a byte s, 1 to 32, then s entries, then the bodies
unfoldable pub is_run_file : List ℕ → Bool
is_run_file bs =
    let s : ℕ = get_or bs 0 0 in
    leb (length bs) file_limit && leb 1 s && leb s session_limit && leb (session_entry_at s) (length bs) && are_bodies s 0 (session_entry_at s) bs

-- a session that the file asks for
pub record Asked : Type 0 where
  pub fuse : Fuse
  pub calls : List Call

-- those of n entries from entry i on, the first body at `at`
abbrev pub sessions_from : ℕ → ℕ → ℕ → List ℕ → List Asked
sessions_from zero i at bs = []
sessions_from (suc n) i at bs = record { fuse = fuse_at bs i; calls = calls_from (calls_at bs i) bs at } ∷ sessions_from n (suc i) (body_end bs i at) bs

abbrev pub sessions_in : List ℕ → List Asked
sessions_in bs = let s : ℕ = get_or bs 0 0 in sessions_from s 0 (session_entry_at s) bs
