-- The lengths of what is lent, which a core checks first, and what they come to for its promise. Assumes nothing.
use Prim.Native.Nat.{ℕ}
use mathlib.Core.Path.{◌≡◌, sym, ◌∙◌}
use mathlib.Core.Bool.{Bool, true, false, ◌&&◌}
use mathlib.Core.List.{List}
use lib.ListN.{length}
use lib.Dec.{eqb}
use borrow.Author.Tests.{eqb-true}
use Rattle.book.specs.Limits.{scope_limit, log_length, charts_length}
use Rattle.book.proofs.Lists.{and_l, and_r}
use Rattle.tables_model.specs.declared.Scope.{Scope}
use Rattle.std.specs.Prelude.{Err}
use Rattle.state.specs.declared.answers.Refusal.TheVariants.{WrongLength}
use Rattle.state.specs.declared.ram.State.{State}
use Rattle.state.specs.World.{World, world, right_lengths}
use Rattle.state.specs.CallContracts.{Returned, returned}
use Rattle.calls_model.specs.Perform.{LentLengths}
use Rattle.cores.specs.Lent.{ByValue}

-- as the code checks them, of a lent table of n entries
abbrev pub fitting : ℕ → ℕ → ℕ → ℕ → Bool
fitting log charts copy n = eqb log log_length && eqb charts charts_length && eqb copy charts_length && eqb n scope_limit

pub fit : (log charts copy n : ℕ) → fitting log charts copy n ≡ true → LentLengths log charts copy × (n ≡ scope_limit)
fit log charts copy n e =
    let x = eqb log log_length in
    let y = eqb charts charts_length in
    let z = eqb copy charts_length in
    let three = and_l (x && y && z) _ e in
    let two = and_l (x && y) z three in (
      record { log-long = eqb-true log _ (and_l x y two); charts-long = eqb-true charts _ (and_r x y two); copy-long = eqb-true copy _ (and_r (x && y) z three) },
      eqb-true n _ (and_r (x && y && z) _ e),
    )

-- nothing is changed
abbrev pub wrong_length : World → Returned
wrong_length w = returned (record { state = w.state; answer = Err WrongLength; writes = record { rows = 0; pages = 0 } }) w.log w.charts w.copy w.scopes

module _ (P : World → Returned → Type 0) (s : State) (log charts copy : List ℕ) (n : ℕ) (t : List Scope) (long : length t ≡ scope_limit) where
  -- a table of n entries is lent
  lengths-of : (ys : List Scope) → length ys ≡ n → right_lengths (world s log charts copy ys) ≡ fitting (length log) (length charts) (length copy) n
  lengths-of ys l = rw l

  -- a length is wrong
  pub wrong-kept : fitting (length log) (length charts) (length copy) n ≡ false → ((w : World) → right_lengths w ≡ false → P w (wrong_length w))
      → ByValue P (world s log charts copy) n t (λ ys. wrong_length (world s log charts copy ys)) t
  wrong-kept e h = (λ q. h (world s log charts copy t) (lengths-of t (long ∙ sym q) ∙ e), λ ne ys l. h (world s log charts copy ys) (lengths-of ys l ∙ e))

  -- they are right
  pub right_kept : fitting (length log) (length charts) (length copy) n ≡ true → (leaves : List Scope → Returned) (t' : List Scope)
      → (right_lengths (world s log charts copy t) ≡ true → P (world s log charts copy t) (leaves t')) → ByValue P (world s log charts copy) n t leaves t'
  right_kept e leaves t' h =
      let whole = (fit (length log) (length charts) (length copy) n e).1 in (λ q. h (lengths-of t (long ∙ sym q) ∙ e), λ ne. absurd (ne whole))
