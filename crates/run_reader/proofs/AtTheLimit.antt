-- The limits of document 01's run file: 4,096 bytes and 32 sessions, each with a file within it and one beyond it.
use Prim.Native.Nat.{ℕ, zero, suc, ◌+◌, ◌*◌}
use native.Mathlib.Omega.{arith}
use mathlib.Core.Path.{◌≡◌, refl, ap, ap₂, sym, ◌∙◌}
use mathlib.Core.Bool.{true, false, ◌&&◌}
use mathlib.Core.List.{List, [], ◌∷◌, ◌++◌, map}
use lib.ListN.{length, get_or, drop, replicate}
use lib.Seq.{get_or-drop, drop-drop}
use Rattle.book.specs.Lists.{join}
use Rattle.book.specs.Numbers.{le}
use Rattle.state.specs.World.{no_fuse}
use Rattle.run_reader.specs.File.{call_bytes, call_at, is_call_at, are_calls, are_bodies, is_run_file}

-- ── Sessions ──────────────────────────────────────────────────────────────────────────────────────────────────────────

-- s sessions with no fuse and no calls
abbrev idle : ℕ → List ℕ
idle s = s ∷ join (replicate s (le 4 no_fuse ++ le 2 (1 + 8 * s) ++ le 2 0))

-- 01: "a byte s, 1 to 32"
pub sessions-1-to-32 : map (λ (s : ℕ). is_run_file (idle s)) (0 ∷ 1 ∷ 32 ∷ 33 ∷ []) ≡ false ∷ true ∷ true ∷ false ∷ []
unfolding is_run_file
sessions-1-to-32 = refl

-- ── Bytes ─────────────────────────────────────────────────────────────────────────────────────────────────────────────

-- n calls of code 7, force
abbrev forces : ℕ → List ℕ
forces zero = []
forces (suc n) = 7 ∷ 0 ∷ 0 ∷ 0 ∷ 0 ∷ 0 ∷ 0 ∷ 0 ∷ forces n

-- one session with no fuse and these calls: 9 + 8 n bytes
abbrev forcing : ℕ → List ℕ
forcing n = 1 ∷ le 4 no_fuse ++ le 2 9 ++ le 2 n ++ forces n

force-here : (n : ℕ) (bs : List ℕ) (at : ℕ) → drop at bs ≡ forces (suc n) → is_call_at bs at ≡ true
unfolding is_call_at call_at call_bytes
force-here n bs at e =
    let next : suc (at + 4) ≡ at + 5 = omega arith in
    rw (next, byte 1, byte 2, byte 3, byte 4, byte 5, byte 6, byte 7, first, e)
  where
    byte : (k : ℕ) → get_or bs (at + k) 0 ≡ get_or (forces (suc n)) k 0
    byte k = sym (get_or-drop at bs k 0) ∙ ap (λ (l : List ℕ). get_or l k 0) e

    first : get_or bs at 0 ≡ 7
    first = let same : at ≡ at + 0 = omega arith in ap (λ (i : ℕ). get_or bs i 0) same ∙ byte 0

are-forces : (n : ℕ) (bs : List ℕ) (at : ℕ) → drop at bs ≡ forces n → are_calls n bs at ≡ true
are-forces zero bs at e = refl
are-forces (suc n) bs at e =
    ap₂ ◌&&◌ (force-here n bs at e) (are-forces n bs (at + 8) (sym (drop-drop 8 at bs) ∙ ap (drop 8) e))

-- 01: "at most 4,096 bytes". A file has 1 + 8 n bytes, so 4,089 is the most, and the next longer one has 4,097.
pub lengths : map (λ (n : ℕ). length (forcing n)) (510 ∷ 511 ∷ []) ≡ 4089 ∷ 4097 ∷ []
lengths = refl

pub longest-file : is_run_file (forcing 510) ≡ true
unfolding is_run_file
longest-file = rw (are-forces 510 (forcing 510) 9 refl)

pub file-too-long : is_run_file (forcing 511) ≡ false
unfolding is_run_file
file-too-long = refl

-- and for nothing else
pub bodies-of-511 : are_bodies 1 0 9 (forcing 511) ≡ true
bodies-of-511 = rw (are-forces 511 (forcing 511) 9 refl)
