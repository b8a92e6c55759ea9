-- The two loops over the table of kinds and bytes.
use Rattle.std.specs.Prelude.{ℕ, zero, suc, List, Bool, true, ◌&&◌, get_or, set, eqb}
use Rattle.book.specs.RowBytes.{may_be}

-- a byte that may not be other than zero is zero
abbrev pub ok_byte : ℕ → ℕ → Bool
ok_byte zero x = eqb x 0
ok_byte (suc m) x = true

-- the m bytes of b from place i on are as the table has them for kind k
unfoldable pub as_table : ℕ → ℕ → ℕ → List ℕ → Bool
as_table zero i k b = true
as_table (suc m) i k b = ok_byte (may_be k i) (get_or b i 0) && as_table m (suc i) k b

-- a byte that may be other than zero, or zero
abbrev pub masked : ℕ → ℕ → ℕ
masked zero x = 0
masked (suc m) x = x

-- b with the m bytes from place i on set to those of f, where the table lets a row of kind k have them
unfoldable pub fill : ℕ → ℕ → ℕ → List ℕ → List ℕ → List ℕ
fill zero i k f b = b
fill (suc m) i k f b = fill m (suc i) k f (set b i (masked (may_be k i) (get_or f i 0)))
