-- Answers and fuses are read from the numbers that they were packed into (specs/Packed).
use Prim.Native.Nat.{ℕ, ◌+◌, ◌*◌, ◌/◌, ◌%◌, ◌<◌}
use native.Mathlib.Omega.{arith}
use mathlib.Core.Path.{◌≡◌, refl, ap, ap₂, ◌∙◌}
use lib.IntN.{ℤ}
use borrow.Author.Tests.{ne_eqb}
use Rattle.book.specs.Book.{Answer, answer}
use Rattle.book.specs.Numbers.{bits_of, signed}
use Rattle.book.specs.Power.{Fuse, none, left}
use Rattle.book.specs.Writes.{Writes}
use Rattle.book.proofs.Numbers.{InBits, signed-bits}
use Rattle.state.specs.World.{no_fuse, fuse_of_number}
use Rattle.embed_model.specs.Packed.{answer_in, writes_in}
use Rattle.embed_model.specs.EveryList.{FuseOfC}

-- ── Answers and counts ────────────────────────────────────────────────────────────────────────────────────────────────

-- the number that has them
abbrev pub joined_as : ℕ → ℕ → ℕ → ℕ → ℕ
joined_as n bits rows pages = 72057594037927936 * pages + (1099511627776 * rows + (4294967296 * n + bits))

pub answer_back : (n : ℕ) (z : ℤ) (rows pages : ℕ) → n < 256 → InBits 32 z → rows < 65536 → answer_in (joined_as n (bits_of 32 z) rows pages) ≡ answer n z
unfolding answer_in
answer_back n z rows pages l h m =
    let k = (signed-bits 32 z h).1 in
    let high : joined_as n (bits_of 32 z) rows pages / 4294967296 % 256 ≡ n = omega arith in
    let low : joined_as n (bits_of 32 z) rows pages % 4294967296 ≡ bits_of 32 z = omega arith in
    ap₂ answer high (ap (signed 32) low ∙ (signed-bits 32 z h).0)

pub writes-back : (n bits rows pages : ℕ) → n < 256 → bits < 4294967296 → rows < 65536 → writes_in (joined_as n bits rows pages) ≡ record { rows = rows; pages = pages }
unfolding writes_in
writes-back n bits rows pages l h m =
    let high : joined_as n bits rows pages / 1099511627776 % 65536 ≡ rows = omega arith in
    let top : joined_as n bits rows pages / 72057594037927936 ≡ pages = omega arith in
    ap₂ (λ (r p : ℕ). record { rows = r; pages = p }) high top

-- an answer and counts that have room in 64 bits
pub record AnswerOfC (a : Answer) : Type 0 where
  pub number : a.number < 256
  pub value : InBits 32 a.value

pub record WritesOfC (w : Writes) : Type 0 where
  pub rows : w.rows < 65536
  pub pages : w.pages < 256

pub record PackedInto (a : Answer) (w : Writes) : Type 0 where
  pub number : ℕ
  pub is : answer_in number ≡ a
  pub writes : writes_in number ≡ w
  pub small : number < 18446744073709551616

pub packed : (a : Answer) (w : Writes) → AnswerOfC a → WritesOfC w → PackedInto a w
packed a w h u =
    let k = (signed-bits 32 a.value h.value).1 in
    let n = h.number in
    let r = u.rows in
    let p = u.pages in
    record {
      number = joined_as a.number (bits_of 32 a.value) w.rows w.pages;
      is = answer_back a.number a.value w.rows w.pages n h.value r;
      writes = writes-back a.number (bits_of 32 a.value) w.rows w.pages n (omega arith) r;
      small = omega arith;
    }

-- ── Fuses ─────────────────────────────────────────────────────────────────────────────────────────────────────────────

abbrev pub fuse_number : Fuse → ℕ
fuse_number none = no_fuse
fuse_number (left n) = n

pub fuse-back : (f : Fuse) → FuseOfC f → fuse_of_number (fuse_number f) ≡ f
fuse-back none h = refl
fuse-back (left n) h = rw (ne_eqb n no_fuse (λ e. omega arith))

pub fuse-small : (f : Fuse) → FuseOfC f → fuse_number f < 4294967296
fuse-small none h = omega arith
fuse-small (left n) h = omega arith
