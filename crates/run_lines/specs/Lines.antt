-- Document 01's output lines: session, call, refusal number or 0, value; at the end document 02's counts (L1), rows and pages.
use Rattle.std.specs.Prelude.{ℕ, zero, suc, ◌+◌, ◌/◌, ◌%◌, cond, List, [], ◌∷◌, ◌++◌, ℤ, pos, negsuc, ltb}
use Rattle.book.specs.Book.{Answer}
use Rattle.book.specs.Writes.{Writes}

-- the character of a digit
abbrev pub digit : ℕ → ℕ
digit d = 48 + d

-- n in base ten, with up to k digits before the last
abbrev pub digits_of : ℕ → ℕ → List ℕ
digits_of zero n = digit (n % 10) ∷ []
digits_of (suc k) n = cond (ltb n 10) (digit n ∷ []) (digits_of k (n / 10) ++ (digit (n % 10) ∷ []))

-- n in base ten: a number of 32 bits has at most ten digits
unfoldable pub decimal : ℕ → List ℕ
decimal n = digits_of 9 n

unfoldable pub signed_decimal : ℤ → List ℕ
signed_decimal (pos n) = decimal n
signed_decimal (negsuc n) = 45 ∷ decimal (suc n)

abbrev pub space : ℕ
space = 32

abbrev pub newline : ℕ
newline = 10

-- the line of a call (0 is the opening) of a session
unfoldable pub line : ℕ → ℕ → Answer → Writes → List ℕ
line session call a w =
    decimal session ++ (space ∷ decimal call ++ (space ∷ decimal a.number ++ (space ∷ signed_decimal a.value ++
    (space ∷ decimal w.rows ++ (space ∷ decimal w.pages ++ (newline ∷ []))))))

-- the line `15`
abbrev pub fault_line : List ℕ
fault_line = 49 ∷ 53 ∷ newline ∷ []
