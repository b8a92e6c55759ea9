-- A row's 16 bytes (document 01, "The store"): the table of bytes, writing and reading.
use Rattle.std.specs.Prelude.{ℕ, zero, suc, ◌+◌, ◌*◌, ◌/◌, ◌%◌, Bool, List, [], ◌∷◌, ◌++◌, get_or, replicate, ℤ, pos}
use Rattle.book.specs.Lists.{eq_bytes}
use Rattle.book.specs.Numbers.{le, number, bits_of, signed}
use Rattle.book.specs.Rows.{Row}

-- 01: kind
abbrev pub kind_of : Row → ℕ
kind_of (Row.begin v) = 1
kind_of (Row.change v c a) = 2
kind_of (Row.hand_over g r c) = 3
kind_of (Row.undo h c u a) = 4
kind_of (Row.commit v) = 5
kind_of (Row.abort v) = 6
kind_of (Row.hand_over_all g r) = 7

-- 01: a constant table says, for each kind and byte, whether it may be other than zero. The line of kind 0 is that of a blank row; that of kind 7 is 02, L2's: "giver
-- and receiver, cell zero". Bytes 10 and 11 are 02, L7's: the high bytes of visit and receiver.
abbrev pub may_be_set : List (List ℕ)
may_be_set =
    (0 ∷ 0 ∷ 0 ∷ 0 ∷ 0 ∷ 0 ∷ 0 ∷ 0 ∷ 0 ∷ 0 ∷ 0 ∷ 0 ∷ 0 ∷ 0 ∷ 0 ∷ 0 ∷ []) ∷
    (1 ∷ 1 ∷ 0 ∷ 0 ∷ 1 ∷ 1 ∷ 0 ∷ 0 ∷ 0 ∷ 0 ∷ 1 ∷ 0 ∷ 0 ∷ 0 ∷ 0 ∷ 0 ∷ []) ∷
    (1 ∷ 1 ∷ 0 ∷ 1 ∷ 1 ∷ 1 ∷ 0 ∷ 0 ∷ 1 ∷ 1 ∷ 1 ∷ 0 ∷ 0 ∷ 0 ∷ 0 ∷ 0 ∷ []) ∷
    (1 ∷ 1 ∷ 1 ∷ 1 ∷ 1 ∷ 1 ∷ 0 ∷ 0 ∷ 0 ∷ 0 ∷ 1 ∷ 1 ∷ 0 ∷ 0 ∷ 0 ∷ 0 ∷ []) ∷
    (1 ∷ 1 ∷ 0 ∷ 1 ∷ 1 ∷ 1 ∷ 1 ∷ 1 ∷ 1 ∷ 1 ∷ 1 ∷ 0 ∷ 0 ∷ 0 ∷ 0 ∷ 0 ∷ []) ∷
    (1 ∷ 1 ∷ 0 ∷ 0 ∷ 1 ∷ 1 ∷ 0 ∷ 0 ∷ 0 ∷ 0 ∷ 1 ∷ 0 ∷ 0 ∷ 0 ∷ 0 ∷ 0 ∷ []) ∷
    (1 ∷ 1 ∷ 0 ∷ 0 ∷ 1 ∷ 1 ∷ 0 ∷ 0 ∷ 0 ∷ 0 ∷ 1 ∷ 0 ∷ 0 ∷ 0 ∷ 0 ∷ 0 ∷ []) ∷
    (1 ∷ 1 ∷ 1 ∷ 0 ∷ 1 ∷ 1 ∷ 0 ∷ 0 ∷ 0 ∷ 0 ∷ 1 ∷ 1 ∷ 0 ∷ 0 ∷ 0 ∷ 0 ∷ []) ∷
    []

-- the table's entry, 0 beyond it
abbrev pub may_be : ℕ → ℕ → ℕ
may_be kind at = get_or (get_or may_be_set kind []) at 0

-- 01: the table of bytes: kind, visit, receiver, cell, the row's own number, row undone, change; 02, L7: the high bytes of visit and receiver
abbrev pub fields : ℕ → ℕ → ℕ → ℕ → ℕ → ℕ → ℤ → List ℕ
fields kind v r c n u a =
    kind ∷ v % 256 ∷ r % 256 ∷ c ∷ le 2 n ++ le 2 u ++ le 2 (bits_of 16 a) ++ (v / 256 % 256 ∷ r / 256 % 256 ∷ replicate 4 0)

-- the bytes of row n
unfoldable pub row_bytes : ℕ → Row → List ℕ
row_bytes n (Row.begin v) = fields 1 v 0 0 n 0 (pos 0)
row_bytes n (Row.change v c a) = fields 2 v 0 c n 0 a
row_bytes n (Row.hand_over g r c) = fields 3 g r c n 0 (pos 0)
row_bytes n (Row.undo h c u a) = fields 4 h 0 c n u a
row_bytes n (Row.commit v) = fields 5 v 0 0 n 0 (pos 0)
row_bytes n (Row.abort v) = fields 6 v 0 0 n 0 (pos 0)
row_bytes n (Row.hand_over_all g r) = fields 7 g r 0 n 0 (pos 0)

-- the row of a kind with these fields; of no such kind any row will do, since `is_row_bytes` compares the bytes
abbrev pub row_of_kind : ℕ → ℕ → ℕ → ℕ → ℕ → ℤ → Row
row_of_kind zero v r c u a = Row.begin 0
row_of_kind (suc zero) v r c u a = Row.begin v
row_of_kind (suc (suc zero)) v r c u a = Row.change v c a
row_of_kind (suc (suc (suc zero))) v r c u a = Row.hand_over v r c
row_of_kind (suc (suc (suc (suc zero)))) v r c u a = Row.undo v c u a
row_of_kind (suc (suc (suc (suc (suc zero))))) v r c u a = Row.commit v
row_of_kind (suc (suc (suc (suc (suc (suc zero)))))) v r c u a = Row.abort v
row_of_kind (suc (suc (suc (suc (suc (suc (suc k))))))) v r c u a = Row.hand_over_all v r

-- the number with its low byte at i and its high byte at j
abbrev pub pair : List ℕ → ℕ → ℕ → ℕ
pair bs i j = get_or bs i 0 + 256 * get_or bs j 0

-- the row that 16 bytes would be
abbrev pub row_of : List ℕ → Row
row_of bs = row_of_kind (number 1 bs 0) (pair bs 1 10) (pair bs 2 11) (number 1 bs 3) (number 2 bs 6) (signed 16 (number 2 bs 8))

-- the bytes are those of a row n: a known kind, zero where the table says so, and its own number
abbrev pub is_row_bytes : ℕ → List ℕ → Bool
is_row_bytes n bs = eq_bytes (row_bytes n (row_of bs)) bs
