-- A log or charts of a wrong length: the contracts of all functions are met by refusal 1 with nothing changed.
use Prim.Native.Nat.{ℕ}
use native.Mathlib.Omega.{arith}
use mathlib.Core.Bool.{false}
use mathlib.Core.Path.{◌≡◌, refl, ap, sym}
use mathlib.Core.List.{List}
use lib.IntN.{ℤ, pos}
use Rattle.book.specs.Calls.{Call}
use Rattle.book.specs.Book.{Answer, answer}
use Rattle.book.specs.Writes.{no_writes}
use Rattle.state.specs.World.{right_lengths, fuse_of_number}
use Rattle.state.specs.CallContracts.{formats}
use Rattle.state.proofs.OpenedStores.{opens-refused}
use Rattle.state.proofs.Satisfiable.{met-lengths}
use Rattle.embed_model.specs.Arrays.{Arrays, world_in, RamLengths}
use Rattle.embed_model.specs.Packed.{answer_in, writes_in}
use Rattle.embed_model.specs.Called.{FormatsOfC, OpensOfC, CallsOfC}

module _ (x : Arrays) (long : RamLengths x) (r : ℕ) (one : (answer_in r ≡ answer 1 (pos 0)) × (writes_in r ≡ no_writes)) (wrong : right_lengths (world_in x) ≡ false) where
  is_one : (answer_in r).number ≡ 1
  is_one = ap (λ (a : Answer). a.number) one.0

  pub format-refused : (values : List ℤ) → FormatsOfC values x r x
  unfolding formats
  format-refused values = record {
    does = record { is = rw (wrong, one.0, one.1) };
    keeps = λ n. refl;
    clears = λ z. let n = is_one in absurd (omega arith);
    sized = long;
  }

  pub open-refused : (fuse : ℕ) → OpensOfC fuse x r x
  open-refused fuse = record {
    does = record { is = rw (one.0, one.1) (sym (opens-refused (fuse_of_number fuse) (world_in x) wrong)) };
    keeps = λ n. refl;
    clears = λ z n. absurd (n is_one);
    sized = long;
  }

  pub call-refused : (k : Call) → CallsOfC k x r x
  call-refused k = record {
    does = rw (one.0, one.1) (met-lengths k (world_in x) wrong);
    keeps = λ n m. refl;
    shut = λ e. refl;
    cut = λ o e. let n = is_one in absurd (omega arith);
    done = λ z. let n = is_one in absurd (omega arith);
    sized = long;
  }
