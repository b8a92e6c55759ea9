-- The loop over a run file's sessions: after i of s entries, with the next body at `place`, what is left are the sessions from entry i on. Assumes nothing.
use Prim.Native.Nat.{ℕ, suc, ◌+◌, ◌*◌, ◌-◌, ◌≤◌, ◌<◌}
use native.Mathlib.Omega.{arith}
use mathlib.Core.Path.{◌≡◌, refl, ap, sym, ◌∙◌, subst}
use mathlib.Core.Bool.{true}
use mathlib.Core.List.{List, ◌∷◌, ◌++◌, append-nil}
use lib.ListN.{length, get_or}
use Rattle.book.specs.Power.{Book}
use Rattle.book.specs.Events.{book_after}
use Rattle.state.specs.World.{World, Represents}
use Rattle.run_reader.specs.File.{Asked, call_length, session_entry_at, fuse_at, calls_at, calls_from, are_bodies, is_run_file, sessions_from, sessions_in}
use Rattle.run_lines.specs.Output.{line_length, line_limit, Written}
use Rattle.runfile.specs.Runs.{events_of, lines_from, run_lines}
use Rattle.book.specs.Cells.{zeros}
use Rattle.runfile.specs.Play.{Plays}
use Rattle.run_reader.proofs.RunFiles.{run-file, next-body, line_count, calls-long, lines-in-all}
use Rattle.runfile.proofs.Along.{Along, along-none, along-more}
use Rattle.runfile.proofs.Turns.{calls-counted}

-- the session of entry i whose body is at `place`
abbrev pub asked_at : List ℕ → ℕ → ℕ → Asked
asked_at file i place = record { fuse = fuse_at file i; calls = calls_from (calls_at file i) file place }

-- a line for the opening and for each call
pub session-lines : (file : List ℕ) (i place : ℕ) → length (events_of (asked_at file i place)) ≡ suc (calls_at file i)
session-lines file i place = ap suc (calls-counted (calls_at file i) file place)

pub record InSessions (file : List ℕ) (s : ℕ) (given : World) (before : List ℕ) (at : ℕ) (i place : ℕ) (store : World) (out : List ℕ) (to : ℕ) : Type 0 where
  pub within : i ≤ s
  pub bodies : are_bodies (s - i) i place file ≡ true
  pub room : to + line_length * line_count (sessions_from (s - i) i place file) ≤ at + line_length * line_limit
  pub along : (b : Book) → Represents zeros b given
      → Along (λ x. run_lines (i + 1) x (sessions_from (s - i) i place file)) (λ x. b) (run_lines 1 b (sessions_in file)) b store before at out to

module _ (file : List ℕ) (is : is_run_file file ≡ true) (given : World) (before : List ℕ) (at : ℕ) where
  pub sessions-none : InSessions file (get_or file 0 0) given before at 0 (session_entry_at (get_or file 0 0)) given before at
  sessions-none =
      let s = get_or file 0 0 in
      let all : s - 0 ≡ s = omega arith in
      let k = lines-in-all file is in
      record {
        within = omega arith;
        bodies = rw all (run-file file is).bodies;
        room = rw all (omega arith);
        along = λ b r. rw all (along-none (λ x. run_lines 1 x (sessions_in file)) (λ x. b) b given before at r);
      }

module _ (file : List ℕ) (s : ℕ) (given : World) (before : List ℕ) (at : ℕ) (fits : at + line_length * line_limit ≤ length before) where
  module _ (i place : ℕ) (store : World) (out : List ℕ) (to : ℕ) (more : i < s) (t : InSessions file s given before at i place store out to) where
    left : s - i ≡ suc (s - (i + 1))
    left = omega arith

    next : sessions_from (s - i) i place file ≡ asked_at file i place ∷ sessions_from (s - (i + 1)) (i + 1) (place + call_length * calls_at file i) file
    next =
        let k : suc i ≡ i + 1 = omega arith in
        ap (λ (m : ℕ). sessions_from m i place file) left ∙
        ap (λ (j : ℕ). asked_at file i place ∷ sessions_from (s - (i + 1)) j (place + call_length * calls_at file i) file) k

    -- the body lies in the file
    pub session-ends : place + call_length * calls_at file i ≤ length file
    session-ends = (next-body (s - (i + 1)) i place file (rw left at t.bodies)).ends

    -- its lines fit
    pub session-fits : to + line_length * suc (calls_at file i) ≤ at + line_length * line_limit
    session-fits = let k = rw next at t.room in let l = calls-long (calls_at file i) file place in omega arith

    pub sessions-more : (store' : World) (out' : List ℕ) (to' : ℕ) → Plays (events_of (asked_at file i place)) (i + 1) 0 store store' out to out' to'
        → InSessions file s given before at (i + 1) (place + call_length * calls_at file i) store' out' to'
    sessions-more store' out' to' p =
        let lines = session-lines file i place in
        let wide = p.room in
        let here = session-fits in
        record {
          within = omega arith;
          bodies = let k : suc i ≡ i + 1 = omega arith in rw k at (next-body (s - (i + 1)) i place file (rw left at t.bodies)).others;
          room = let k = rw next at t.room in let l = calls-long (calls_at file i) file place in omega arith;
          along = λ b r. along-more (events_of (asked_at file i place)) (i + 1) 0 (t.along b r) p (omega arith)
              (λ x.
              let k : suc (i + 1) ≡ i + 1 + 1 = omega arith in
              ap (run_lines (i + 1) x) next ∙
              ap (λ (m : ℕ). lines_from (i + 1) 0 x (events_of (asked_at file i place)) ++
              run_lines m (book_after zeros x (events_of (asked_at file i place))) (sessions_from (s - (i + 1)) (i + 1) (place + call_length * calls_at file i) file)) k)
              (λ x. refl);
        }

  pub sessions-all : (i place : ℕ) (store : World) (out : List ℕ) (to : ℕ) → s ≤ i → InSessions file s given before at i place store out to
      → (b : Book) → Represents zeros b given → Written before at (run_lines 1 b (sessions_in file)) to out
  sessions-all i place store out to done t b r =
      let none : s - i ≡ 0 = omega arith in
      let a = t.along b r in
      let all : a.written ≡ run_lines 1 b (sessions_in file) =
      sym (append-nil a.written) ∙ ap (λ (m : ℕ). a.written ++ run_lines (i + 1) a.book (sessions_from m i place file)) (sym none) ∙ a.rest in
      subst (λ (x : List ℕ). Written before at x to out) all a.told.written
