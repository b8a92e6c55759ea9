use Prim.Native.Nat.{ℕ}
use mathlib.Core.Path.{◌≡◌, refl, ◌∙◌}
use lib.ListN.{replicate}
use Rattle.wal.proofs.Clearing.{none-counted}
use Rattle.wal.proofs.ram.Ram.clear.Goals as goal

pub returns : goal.returns
returns c =
    let zero : (n m : ℕ) → n ≡ m → replicate {A = ℕ} n 0 ≡ replicate m 0 = λ n m e. rw e in (
      refl,
      refl,
      record {
        control = c.closed.ensures;
        counts = none-counted c.default.result c.default.ensures;
        copy-zero = c.fill.ensures.after (λ y e. e) ∙ zero _ 1024 search;
        tail-zero = c.fill-2.ensures.after (λ y e. e) ∙ zero _ 1024 search;
        visits-zero = c.fill-3.ensures.after (λ y e. e) ∙ zero _ 32 search;
        flat-zero = c.fill-4.ensures.after (λ y e. e) ∙ zero _ 448 search;
      },
    )
