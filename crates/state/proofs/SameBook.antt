-- The values say which book they stand for: its stored rows by the log, the waiting ones by the tail, its fuse and whether it is open by the state.
use Prim.Native.Nat.{ℕ, suc, ◌-◌, ◌*◌}
use native.Mathlib.Omega.{arith}
use mathlib.Core.Path.{◌≡◌, refl, ap, ap₂, sym, ◌∙◌}
use mathlib.Core.Bool.{Bool, true, false, cond}
use mathlib.Core.List.{List, ◌++◌}
use lib.ListN.{length}
use lib.IntN.{ℤ}
use Rattle.book.specs.Rows.{Row}
use Rattle.book.specs.Ledger.{ledger}
use Rattle.book.specs.Rules.{allowed_log}
use Rattle.book.specs.Power.{Book, Fuse as Allowance, none, left, rows_of}
use Rattle.book.specs.LogBytes.{rows_bytes, log_bytes, good, read_rows, read_log}
use Rattle.book.specs.Logs.{Sound}
use Rattle.book.proofs.Logs.{allowed-rest}
use Rattle.book.proofs.InvariantKept.{few-rows}
use Rattle.book.proofs.Sound.{stored-allowed}
use Rattle.book.proofs.LogBytes.{blank-same, rows_long, rows-good, log-good}
use Rattle.state.specs.declared.ram.State.{State}
use Rattle.state.specs.World.{World, is_open_phase, fuse_of, allowance, closed_state, open_state, state_of, world_of, Represents}

-- ── What is read off ──────────────────────────────────────────────────────────────────────────────────────────────────

pub phase-open : (b : Book) → is_open_phase (state_of b).phase ≡ b.is_open
unfolding state_of
phase-open b = go b.is_open
  where
    go : (t : Bool) → is_open_phase (cond t (open_state b) closed_state).phase ≡ t
    go true = refl
    go false = refl

state-open : (b : Book) → b.is_open ≡ true → state_of b ≡ open_state b
unfolding state_of
state-open b o = ap (λ (t : Bool). cond t (open_state b) closed_state) o

fuse-back : (f : Allowance) → allowance (fuse_of f) ≡ f
fuse-back none = refl
fuse-back (left n) = refl

-- the stored rows are those of the log
stored_same : (xs ys : List Row) → allowed_log xs ≡ true → allowed_log ys ≡ true → log_bytes xs ≡ log_bytes ys → xs ≡ ys
stored_same xs ys p q e = let same = sym (log-good xs p (few-rows xs p)) ∙ ap read_log e ∙ log-good ys q (few-rows ys q) in cc

-- the waiting rows are those of the tail
tail-reads : (b : Book) → Sound b → read_rows 64 (suc (length b.stored)) (ledger b.stored) (open_state b).tail ≡ good b.waiting
tail-reads b s =
    let n = suc (length b.stored) in
    let k = rows_long n b.waiting in let t = s.tail in
    rows-good b.waiting 64 n (ledger b.stored) _ t (allowed-rest b.stored (rows_of b) (b.waiting, refl) s.allowed)
    (ap (λ (z : List ℕ). rows_bytes n b.waiting ++ z) (blank-same (1024 - length (rows_bytes n b.waiting)) (16 * (64 - length b.waiting)) (omega arith)))

book-same : (a b : Book) → a.stored ≡ b.stored → a.waiting ≡ b.waiting → a.fuse ≡ b.fuse → a.is_open ≡ b.is_open → a ≡ b
book-same a b p q r s = λ i. record { stored = p i; waiting = q i; fuse = r i; is_open = s i }

-- ── The book ──────────────────────────────────────────────────────────────────────────────────────────────────────────

pub books-same : (cells cells' : ℕ → ℤ) (b b' : Book) (w : World) → Represents cells b w → Represents cells' b' w → b ≡ b'
unfolding world_of
books-same cells cells' b b' w h h' = go b.is_open refl
  where
    both : world_of cells b w.charts ≡ world_of cells' b' w.charts
    both = sym h.is ∙ h'.is

    state : state_of b ≡ state_of b'
    state = ap (λ (x : World). x.state) both

    stored : b.stored ≡ b'.stored
    stored = stored_same b.stored b'.stored (stored-allowed b h.sound) (stored-allowed b' h'.sound) (ap (λ (x : World). x.log) both)

    opened : b.is_open ≡ b'.is_open
    opened = sym (phase-open b) ∙ ap (λ (x : State). is_open_phase x.phase) state ∙ phase-open b'

    go : (t : Bool) → b.is_open ≡ t → b ≡ b'
    go false o = let p = h.sound.shut o in let q = h'.sound.shut (sym opened ∙ o) in book-same b b' stored (p.0 ∙ sym q.0) (p.1 ∙ sym q.1) opened
    go true o =
        let states : open_state b ≡ open_state b' = sym (state-open b o) ∙ state ∙ state-open b' (sym opened ∙ o) in
        let read : good b.waiting ≡ good b'.waiting = sym (tail-reads b h.sound) ∙
        ap₂ (λ (x : List Row) (y : State). read_rows 64 (suc (length x)) (ledger x) y.tail) stored states ∙ tail-reads b' h'.sound in
        book-same b b' stored (cc) (sym (fuse-back b.fuse) ∙ ap (λ (x : State). allowance x.fuse) states ∙ fuse-back b'.fuse) opened
