-- The codes of calls: the first byte of a call is its code, and which bytes are a call. The latter holds by computing.
use Prim.Native.Nat.{ℕ}
use mathlib.Core.Path.{◌≡◌, refl}
use mathlib.Core.Bool.{true, false}
use mathlib.Core.List.{List, [], ◌∷◌, ◌++◌, map}
use lib.ListN.{get_or}
use Rattle.book.specs.Calls.{Call}
use Rattle.state.specs.Numbers.{code_of}
use Rattle.run_reader.specs.File.{call_bytes, call_at, is_call_at}

pub code-first : (k : Call) → get_or (call_bytes k) 0 0 ≡ code_of k
unfolding call_bytes
code-first Call.begin = refl
code-first (Call.change v c a) = refl
code-first (Call.hand_over g r c) = refl
code-first (Call.commit v) = refl
code-first (Call.abort v) = refl
code-first (Call.flush p) = refl
code-first Call.force = refl
code-first (Call.read c) = refl
code-first (Call.hand_over_all g r) = refl

-- 01: codes 1 to 8, and 02, L2: "the run file gets code 9"
pub codes : map (λ (code : ℕ). is_call_at (code ∷ 0 ∷ 0 ∷ 0 ∷ 0 ∷ 0 ∷ 0 ∷ 0 ∷ []) 0) (0 ∷ 1 ∷ 2 ∷ 3 ∷ 4 ∷ 5 ∷ 6 ∷ 7 ∷ 8 ∷ 9 ∷ 10 ∷ 255 ∷ []) ≡
    false ∷ true ∷ true ∷ true ∷ true ∷ true ∷ true ∷ true ∷ true ∷ true ∷ false ∷ false ∷ []
unfolding is_call_at call_at call_bytes
codes = refl

-- code 9 has giver and receiver
pub code-9 : call_at (9 ∷ 1 ∷ 2 ∷ 0 ∷ 0 ∷ 0 ∷ 0 ∷ 0 ∷ []) 0 ≡ Call.hand_over_all 1 2
unfolding call_at
code-9 = refl

-- 02, L7: "the two high bytes last": visit 300 is 44 and 1, receiver 513 is 1 and 2
pub high-bytes : call_bytes (Call.hand_over 300 513 9) ≡ 3 ∷ 44 ∷ 1 ∷ 9 ∷ 0 ∷ 0 ∷ 1 ∷ 2 ∷ []
unfolding call_bytes
high-bytes = refl

pub high-bytes-read : call_at (3 ∷ 44 ∷ 1 ∷ 9 ∷ 0 ∷ 0 ∷ 1 ∷ 2 ∷ []) 0 ≡ Call.hand_over 300 513 9
unfolding call_at
high-bytes-read = refl

-- "unused bytes are zero", the high ones as well: each code with the visit's high byte set, and with the receiver's
pub unused-high-bytes :
    map (λ (code : ℕ). is_call_at (code ∷ 0 ∷ 0 ∷ 0 ∷ 0 ∷ 0 ∷ 1 ∷ 0 ∷ []) 0) (1 ∷ 2 ∷ 3 ∷ 4 ∷ 5 ∷ 6 ∷ 7 ∷ 8 ∷ 9 ∷ []) ≡
    false ∷ true ∷ true ∷ true ∷ true ∷ false ∷ false ∷ false ∷ true ∷ []
unfolding is_call_at call_at call_bytes
unused-high-bytes = refl

pub unused-receivers :
    map (λ (code : ℕ). is_call_at (code ∷ 0 ∷ 0 ∷ 0 ∷ 0 ∷ 0 ∷ 0 ∷ 1 ∷ []) 0) (1 ∷ 2 ∷ 3 ∷ 4 ∷ 5 ∷ 6 ∷ 7 ∷ 8 ∷ 9 ∷ []) ≡
    false ∷ false ∷ true ∷ false ∷ false ∷ false ∷ false ∷ false ∷ true ∷ []
unfolding is_call_at call_at call_bytes
unused-receivers = refl

-- 01: "unused bytes are zero": not so with a cell, or with either byte of a change
pub code-9-unused : map (λ (bytes : List ℕ). is_call_at (9 ∷ 1 ∷ 2 ∷ bytes ++ (0 ∷ 0 ∷ [])) 0)
    ((0 ∷ 0 ∷ 0 ∷ []) ∷ (1 ∷ 0 ∷ 0 ∷ []) ∷ (0 ∷ 1 ∷ 0 ∷ []) ∷ (0 ∷ 0 ∷ 1 ∷ []) ∷ []) ≡
    true ∷ false ∷ false ∷ false ∷ []
unfolding is_call_at call_at call_bytes
code-9-unused = refl
