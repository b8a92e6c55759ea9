-- What the host lends and gets back (specs/Host): a lent buffer of the right length is the store's own, and so is the store's own buffer after a step that
-- changed nothing.
use Prim.Native.Nat.{ℕ}
use mathlib.Core.Path.{◌≡◌, refl, ap, ◌∙◌}
use mathlib.Core.Bool.{Bool, true, false, cond}
use mathlib.Core.Logic.{inl, inr}
use mathlib.Core.List.{List}
use lib.ListN.{length}
use lib.Dec.{eqb}
use borrow.Author.Tests.{eqb-true}
use Rattle.book.specs.Limits.{log_length, charts_length, scope_limit}
use Rattle.book.proofs.Lists.{and_l, and_r}
use Rattle.state.specs.World.{World, right_lengths}
use Rattle.sessions.specs.Host.{Step, given_to, left_by, back, world_after, Lent, GetsStored, GetsRam}

-- ── One buffer ────────────────────────────────────────────────────────────────────────────────────────────────────────

pub lent-own : {A : Type 0} (n : ℕ) (own given : List A) → Lent n own given → eqb (length given) n ≡ true → given ≡ own
lent-own n own given (inl e) h = e
lent-own n own given (inr d) h = absurd (d (eqb-true (length given) n h))

pub back-own : {A : Type 0} (n : ℕ) (own given leaves : List A) → Lent n own given → leaves ≡ given → back n own given leaves ≡ own
back-own n own given leaves l e = go (eqb (length given) n) refl
  where
    go : (t : Bool) → eqb (length given) n ≡ t → cond t leaves own ≡ own
    go true h = e ∙ lent-own n own given l h
    go false h = refl

-- ── All four, and the state ───────────────────────────────────────────────────────────────────────────────────────────

world_same : (a b : World) → a.state ≡ b.state → a.log ≡ b.log → a.charts ≡ b.charts → a.copy ≡ b.copy → a.scopes ≡ b.scopes → a ≡ b
world_same a b p q r s t = λ i. record { state = p i; log = q i; charts = r i; copy = s i; scopes = t i }

-- the four lengths
pub record Right (w : World) : Type 0 where
  pub log : eqb (length w.log) log_length ≡ true
  pub charts : eqb (length w.charts) charts_length ≡ true
  pub copy : eqb (length w.copy) charts_length ≡ true
  pub scopes : eqb (length w.scopes) scope_limit ≡ true

pub right : (w : World) → right_lengths w ≡ true → Right w
right w e = record { log = search (and_l, and_r); charts = search (and_l, and_r); copy = search (and_l, and_r); scopes = search (and_l, and_r) }

-- what a step was lent is the store's own
pub given-own : (own given : World) → GetsStored own given → GetsRam own given → right_lengths given ≡ true → given ≡ own
given-own own given s r e =
    let k = right given e in
    world_same given own r.state (lent-own log_length _ _ s.log k.log) (lent-own charts_length _ _ s.charts k.charts)
    (lent-own charts_length _ _ r.copy k.copy) (lent-own scope_limit _ _ r.scopes k.scopes)

-- the store's own values after a step whose buffers had their lengths are those that it left
pub after-right : (own : World) (s : Step) → right_lengths (given_to s) ≡ true → world_after own s ≡ left_by s
after-right own s e =
    let r = right (given_to s) e in world_same _ (left_by s) refl (rw r.log) (rw r.charts) (rw r.copy) (rw r.scopes)

-- and they are as before if it changed nothing
pub after_same : (own : World) (s : Step) → GetsStored own (given_to s) → GetsRam own (given_to s) → left_by s ≡ given_to s → world_after own s ≡ own
after_same own s g r e =
    world_same _ own (ap (λ (w : World). w.state) e ∙ r.state) (back-own log_length _ _ _ g.log (ap (λ (w : World). w.log) e))
    (back-own charts_length _ _ _ g.charts (ap (λ (w : World). w.charts) e)) (back-own charts_length _ _ _ r.copy (ap (λ (w : World). w.copy) e))
    (back-own scope_limit _ _ _ r.scopes (ap (λ (w : World). w.scopes) e))
