-- 02, L1: whatever it is handed, an opening stores no more rows than the log has, and one page at most.
use Prim.Native.Nat.{ℕ}
use native.Mathlib.Omega.{arith}
use mathlib.Core.Path.{◌≡◌, refl, sym, subst}
use mathlib.Core.Bool.{Bool, true, false, cond}
use mathlib.Core.List.{List}
use lib.ListN.{length}
use lib.Dec.{eqb, ltb}
use borrow.Author.Tests.{eqb-true}
use Rattle.book.specs.Limits.{page_limit, log_length}
use Rattle.book.specs.Rows.{Row}
use Rattle.book.specs.Rules.{allowed_log}
use Rattle.book.specs.Power.{Book, Fuse}
use Rattle.book.specs.Book.{reopened, reopen}
use Rattle.book.specs.LogBytes.{Log, good, bad, read_log}
use Rattle.book.specs.Writes.{Few}
use Rattle.book.specs.Opening.{rejected, recovered, bad_page, checked, open_bytes}
use Rattle.book.proofs.Lists.{and_l, and_r}
use Rattle.book.proofs.LogBytes.{log-exact}
use Rattle.book.proofs.Sound.{ended-book, stored-allowed, sound-reopened}
use Rattle.book.proofs.Writes.{few-between}
use Rattle.state.specs.World.{World, right_lengths}
use Rattle.state.specs.CallContracts.{opens}
use Rattle.state.proofs.OpenedStores.{opens-bytes, opens-refused}

-- the log after an opening of allowed rows is allowed
reopened-allowed : (f : Fuse) (rs : List Row) → allowed_log rs ≡ true → allowed_log (reopen f rs).book.stored ≡ true
unfolding reopen
reopened-allowed f rs al =
    subst (λ (b : Book). allowed_log b.stored ≡ true) (sym (ended-book _ (reopened f rs))) (stored-allowed (reopened f rs) (sound-reopened f rs al))

bytes-few : (f : Fuse) (log charts : List ℕ) → length log ≡ log_length → Few (open_bytes f log charts).writes
unfolding open_bytes
bytes-few f log charts long = read (read_log log) refl
  where
    pages : (rs : List Row) → allowed_log rs ≡ true → (t : Bool) (p : ℕ) → Few (cond t (rejected 4 p log) (recovered rs charts (reopen f rs))).writes
    pages rs al true p = (omega arith, omega arith)
    pages rs al false p = (few-between rs (reopen f rs).book.stored (reopened-allowed f rs al), omega arith)

    read : (l : Log) → read_log log ≡ l → Few (checked f log charts l).writes
    read (bad n row) e = (omega arith, omega arith)
    read (good rs) e = let p = bad_page rs charts in pages rs (log-exact log rs long e).0 (ltb p page_limit) p

pub opens-few : (f : Fuse) (w : World) → Few (opens f w).writes
opens-few f w = go (right_lengths w) refl
  where
    go : (t : Bool) → right_lengths w ≡ t → Few (opens f w).writes
    go true e =
        let log : eqb (length w.log) log_length ≡ true = search (and_l, and_r) in
        rw (opens-bytes f w e) (bytes-few f w.log w.charts (eqb-true _ log_length log))
    go false e = rw (opens-refused f w e) (omega arith, omega arith)
