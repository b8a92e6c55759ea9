-- The test of a call's 8 bytes by their fields, as the reader makes it.
use Rattle.std.specs.Prelude.{ℕ, zero, suc, Bool, false, ◌&&◌, ◌==◌, ℤ}
use Rattle.book.specs.Lists.{eq_bytes}
use Rattle.run_reader.specs.File.{call_fields, call_bytes, call_of_code}

-- code, visit, receiver, cell or page, change: those of a call
abbrev pub is_call : ℕ → ℕ → ℕ → ℕ → ℤ → Bool
is_call k v r c a = eq_bytes (call_bytes (call_of_code k v r c a)) (call_fields k v r c a)

-- the code is known, and the fields that it does not use are zero; the change by its 16 bits
abbrev pub unused_zero : ℕ → ℕ → ℕ → ℕ → ℕ → Bool
unused_zero zero v r c x = false
unused_zero (suc zero) v r c x = v == 0 && r == 0 && c == 0 && x == 0
unused_zero (suc (suc zero)) v r c x = r == 0
unused_zero (suc (suc (suc zero))) v r c x = x == 0
unused_zero (suc (suc (suc (suc zero)))) v r c x = r == 0 && c == 0 && x == 0
unused_zero (suc (suc (suc (suc (suc zero))))) v r c x = r == 0 && c == 0 && x == 0
unused_zero (suc (suc (suc (suc (suc (suc zero)))))) v r c x = v == 0 && r == 0 && x == 0
unused_zero (suc (suc (suc (suc (suc (suc (suc zero))))))) v r c x = v == 0 && r == 0 && c == 0 && x == 0
unused_zero (suc (suc (suc (suc (suc (suc (suc (suc zero)))))))) v r c x = v == 0 && r == 0 && x == 0
unused_zero (suc (suc (suc (suc (suc (suc (suc (suc (suc zero))))))))) v r c x = c == 0 && x == 0
unused_zero (suc (suc (suc (suc (suc (suc (suc (suc (suc (suc n)))))))))) v r c x = false
