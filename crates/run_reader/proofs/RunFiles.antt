-- What holds of a run file: its sizes, that each body lies in it, and how many lines its answers can take. Assumes nothing.
use mathlib.Core.Path.{◌≡◌, refl, ap}
use mathlib.Core.Bool.{true}
use mathlib.Core.List.{List, [], ◌∷◌}
use Prim.Native.Nat.{ℕ, zero, suc, ◌+◌, ◌*◌, ◌≤◌, ◌<◌}
use native.Mathlib.Omega.{arith}
use lib.ListN.{length, get_or}
use lib.Dec.{eqb, leb}
use borrow.Author.Tests.{eqb-true, leb-true}
use Rattle.book.proofs.Lists.{and_l, and_r}
use Rattle.run_reader.specs.File.{Asked, session_entry_at, start_at, calls_at, calls_from, are_calls, body_end, are_bodies, is_run_file, sessions_from, sessions_in}

-- ── The file ──────────────────────────────────────────────────────────────────────────────────────────────────────────

-- the tests of `is_run_file` as facts
pub record RunFile (bs : List ℕ) : Type 0 where
  pub short : length bs ≤ 4096
  pub some : 1 ≤ get_or bs 0 0
  pub few : get_or bs 0 0 ≤ 32
  pub entries : session_entry_at (get_or bs 0 0) ≤ length bs
  pub bodies : are_bodies (get_or bs 0 0) 0 (session_entry_at (get_or bs 0 0)) bs ≡ true

pub run-file : (bs : List ℕ) → is_run_file bs ≡ true → RunFile bs
unfolding is_run_file
run-file bs e =
    let s = get_or bs 0 0 in
    let short : leb (length bs) 4096 ≡ true = search (and_l, and_r) in
    let some : leb 1 s ≡ true = search (and_l, and_r) in
    let few : leb s 32 ≡ true = search (and_l, and_r) in
    let entries : leb (session_entry_at s) (length bs) ≡ true = search (and_l, and_r) in
    record {
      short = leb-true (length bs) 4096 short;
      some = leb-true 1 s some;
      few = leb-true s 32 few;
      entries = leb-true (session_entry_at s) (length bs) entries;
      bodies = search (and_l, and_r);
    }

-- so `fuse_at` and `calls_at` may read it
pub entry-within : (bs : List ℕ) → RunFile bs → (i : ℕ) → i < get_or bs 0 0 → session_entry_at i + 8 ≤ length bs
entry-within bs f i h = omega arith

-- ── A body ────────────────────────────────────────────────────────────────────────────────────────────────────────────

-- entry i has its body at `at`, and n entries follow
pub record Body (n i at : ℕ) (bs : List ℕ) : Type 0 where
  pub starts : start_at bs i ≡ at
  pub ends : body_end bs i at ≤ length bs
  pub calls : are_calls (calls_at bs i) bs at ≡ true
  pub others : are_bodies n (suc i) (body_end bs i at) bs ≡ true

pub next-body : (n i at : ℕ) (bs : List ℕ) → are_bodies (suc n) i at bs ≡ true → Body n i at bs
next-body n i at bs e =
    let starts : eqb (start_at bs i) at ≡ true = search (and_l, and_r) in
    let ends : leb (body_end bs i at) (length bs) ≡ true = search (and_l, and_r) in
    record {
      starts = eqb-true (start_at bs i) at starts;
      ends = leb-true (body_end bs i at) (length bs) ends;
      calls = search (and_l, and_r);
      others = search (and_l, and_r);
    }

-- ── Lines ─────────────────────────────────────────────────────────────────────────────────────────────────────────────

-- a line for each opening and each call
abbrev pub line_count : List Asked → ℕ
line_count [] = 0
line_count (s ∷ ss) = suc (length s.calls) + line_count ss

pub calls-long : (n : ℕ) (bs : List ℕ) (at : ℕ) → length (calls_from n bs at) ≡ n
calls-long zero bs at = refl
calls-long (suc n) bs at = ap suc (calls-long n bs (at + 8))

-- from `at` on the file has 8 bytes for each line but the openings'
pub lines-fill : (n i at : ℕ) (bs : List ℕ) → are_bodies n i at bs ≡ true → at + 8 * line_count (sessions_from n i at bs) ≡ length bs + 8 * n
lines-fill zero i at bs e = let l = eqb-true at (length bs) e in omega arith
lines-fill (suc n) i at bs e =
    let b = next-body n i at bs e in
    let l = lines-fill n (suc i) (body_end bs i at) bs b.others in
    rw (calls-long (calls_at bs i) bs at) (omega arith)

-- so the lines of a run file are at most 511
pub lines-in-all : (bs : List ℕ) → is_run_file bs ≡ true → line_count (sessions_in bs) ≤ 511
lines-in-all bs e =
    let f = run-file bs e in
    let s = get_or bs 0 0 in
    let l = lines-fill s 0 (session_entry_at s) bs f.bodies in
    omega arith
