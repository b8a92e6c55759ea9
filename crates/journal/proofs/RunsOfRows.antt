-- A run of stored writes over the bytes of rows does what the book's steps do. Assumes nothing.
use Prim.Native.Nat.{ℕ, zero, suc, ◌+◌, ◌≤◌}
use native.Mathlib.Omega.{arith}
use native.Mathlib.Nat.{add-zero}
use mathlib.Core.Path.{◌≡◌, refl, ap, sym, ◌∙◌}
use mathlib.Core.Bool.{true, cond}
use mathlib.Core.List.{List, [], ◌∷◌, ◌++◌}
use lib.ListN.{length, drop}
use Rattle.std.specs.Prelude.{Some}
use Rattle.book.specs.Lists.{times}
use Rattle.book.specs.Rows.{Row}
use Rattle.book.specs.RowBytes.{row_bytes}
use Rattle.book.specs.LogBytes.{rows_bytes, log_bytes}
use Rattle.book.specs.Power.{Book, Fuse as Allowance, none, left, store_row}
use Rattle.book.proofs.Lists.{clash}
use Rattle.book.proofs.Steps.{book_of}
use Rattle.book.proofs.Force.{times-closed}
use Rattle.state.specs.World.{fuse_of}
use Rattle.state.specs.declared.ram.Fuse.{Fuse}
use Rattle.state.specs.declared.ram.Fuse.TheVariants.{Unlimited, Left}
use Rattle.journal.specs.Writes.{spend_of}
use Rattle.journal.specs.Force.{Ran, chunks, runs}
use Rattle.journal.proofs.Turns.{ends_well, ends_cut, run-lands}
use Rattle.journal.proofs.RowsInBytes.{snoc-length, log-next, first_chunk}

-- how a run ended that leaves this book
abbrev pub ran_of : Book → Ran
ran_of b = cond b.is_open (ends_well (fuse_of b.fuse) (length b.stored) (log_bytes b.stored)) (ends_cut (length b.stored) (log_bytes b.stored))

-- one row more is stored
next : (f g : Fuse) (m : ℕ) (s w : List Row) (r : Row) (z : List ℕ) (o : Ran) → spend_of f ≡ Some g → length s + 1 ≤ 4096
    → runs g (length (s ++ (r ∷ []))) (log_bytes (s ++ (r ∷ []))) (chunks m (rows_bytes (suc (length (s ++ (r ∷ [])))) w ++ z)) ≡ o
    → runs f (length s) (log_bytes s) (chunks (suc m) (rows_bytes (suc (length s)) (r ∷ w) ++ z)) ≡ o
next f g m s w r z o lands h e =
    let k = snoc-length s r in
    rw (first_chunk m (suc (length s)) r w z)
    (run-lands f g (length s) (log_bytes s) (row_bytes (suc (length s)) r) (chunks m (rows_bytes (suc (suc (length s))) w ++ z)) lands ∙
    rw (log-next s r h, ← k) e)

-- the first m waiting rows of an open book
pub runs-rows : (m : ℕ) (s w : List Row) (f : Allowance) (z : List ℕ) → m ≤ length w → length s + length w ≤ 4096
    → runs (fuse_of f) (length s) (log_bytes s) (chunks m (rows_bytes (suc (length s)) w ++ z)) ≡ ran_of (times m store_row (book_of s w f true))
unfolding chunks runs
runs-rows zero s w f z h room = refl
runs-rows (suc m) s [] f z h room = absurd (omega arith)
runs-rows (suc m) s (r ∷ w) none z h room =
    next Unlimited Unlimited m s w r z _ refl (omega arith)
    (runs-rows m (s ++ (r ∷ [])) w none z (omega arith) (omega (arith, snoc-length s r)))
runs-rows (suc m) s (r ∷ w) (left zero) z h room = rw (times-closed m s)
runs-rows (suc m) s (r ∷ w) (left (suc n)) z h room =
    next (Left (suc n)) (Left n) m s w r z _ refl (omega arith)
    (runs-rows m (s ++ (r ∷ [])) w (left n) z (omega arith) (omega (arith, snoc-length s r)))

-- what goes on waiting where all m writes landed
pub others-wait : (m : ℕ) (s w : List Row) (f : Allowance) → m ≤ length w → (times m store_row (book_of s w f true)).is_open ≡ true
    → ((times m store_row (book_of s w f true)).waiting ≡ drop m w) × (length (times m store_row (book_of s w f true)).stored ≡ length s + m)
others-wait zero s w f h o = (refl, sym (add-zero (length s)))
others-wait (suc m) s [] f h o = absurd (omega arith)
others-wait (suc m) s (r ∷ w) none h o =
    let k = others-wait m (s ++ (r ∷ [])) w none (omega arith) o in (k.0, omega (arith, k.1, snoc-length s r))
others-wait (suc m) s (r ∷ w) (left zero) h o = clash true refl (sym o ∙ ap (λ (b : Book). b.is_open) (times-closed m s))
others-wait (suc m) s (r ∷ w) (left (suc n)) h o =
    let k = others-wait m (s ++ (r ∷ [])) w (left n) (omega arith) o in (k.0, omega (arith, k.1, snoc-length s r))
