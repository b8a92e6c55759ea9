-- The loop over a session's calls: after i of n calls from `place` on, what is left are those from `place + call_length * i` on. Assumes nothing.
use Prim.Native.Nat.{ℕ, suc, ◌+◌, ◌*◌, ◌-◌, ◌≤◌, ◌<◌}
use native.Mathlib.Omega.{arith}
use mathlib.Core.Path.{◌≡◌, ap, ap₂, ◌∙◌}
use mathlib.Core.Bool.{true}
use mathlib.Core.List.{List, [], ◌∷◌, ◌++◌, map}
use lib.ListN.{length, length-map}
use Rattle.book.specs.Power.{Book}
use Rattle.book.specs.Events.{Event, calls, happens, book_after}
use Rattle.state.specs.World.{World, Represents}
use Rattle.run_reader.specs.File.{call_at, calls_from, call_length}
use Rattle.run_lines.specs.Output.{line_length}
use Rattle.runfile.specs.Runs.{lines_from}
use Rattle.book.specs.Cells.{zeros}
use Rattle.runfile.specs.Play.{Plays}
use Rattle.run_reader.proofs.RunFiles.{calls-long}
use Rattle.runfile.proofs.Along.{Along, along-none, along-more, along-all, lines-first}

abbrev pub call_events : ℕ → List ℕ → ℕ → List Event
call_events n file place = map (calls true) (calls_from n file place)

pub calls-counted : (n : ℕ) (file : List ℕ) (place : ℕ) → length (call_events n file place) ≡ n
calls-counted n file place = length-map (calls_from n file place) (calls true) ∙ calls-long n file place

-- the lines that are left, by the book before them, and the book after them
abbrev lines_left : ℕ → List ℕ → ℕ → ℕ → ℕ → Book → List ℕ
lines_left session file place n i b = lines_from session (i + 1) b (call_events (n - i) file (place + call_length * i))

abbrev book_left : List ℕ → ℕ → ℕ → ℕ → Book → Book
book_left file place n i b = book_after zeros b (call_events (n - i) file (place + call_length * i))

pub record InTurns (file : List ℕ) (place n session : ℕ) (given : World) (before : List ℕ) (at : ℕ) (i : ℕ) (store : World) (out : List ℕ) (to : ℕ) : Type 0 where
  pub within : i ≤ n
  pub room : to ≤ at + line_length * i
  pub along : (b : Book) → Represents zeros b given
      → Along (lines_left session file place n i) (book_left file place n i) (lines_from session 1 b (call_events n file place))
      (book_after zeros b (call_events n file place)) store before at out to

module _ (file : List ℕ) (place n session : ℕ) (given : World) (before : List ℕ) (at : ℕ) where
  pub turns-none : InTurns file place n session given before at 0 given before at
  turns-none =
      let all : n - 0 ≡ n = omega arith in
      let here : place + call_length * 0 ≡ place = omega arith in
      record {
        within = omega arith;
        room = omega arith;
        along = λ b r.
            rw (
              ← (ap₂ (λ (m q : ℕ). lines_from session 1 b (call_events m file q)) all here),
              ← (ap₂ (λ (m q : ℕ). book_after zeros b (call_events m file q)) all here),
            )
            (along-none (lines_left session file place n 0) (book_left file place n 0) b given before at r);
      }

  module _ (i : ℕ) (more : i < n) where
    call_next : call_events (n - i) file (place + call_length * i) ≡ calls true (call_at file (place + call_length * i)) ∷ call_events (n - (i + 1)) file (place + call_length * (i + 1))
    call_next =
        let left : n - i ≡ suc (n - (i + 1)) = omega arith in
        let next : place + call_length * i + call_length ≡ place + call_length * (i + 1) = omega arith in
        ap (λ (m : ℕ). call_events m file (place + call_length * i)) left ∙
        ap (λ (q : ℕ). calls true (call_at file (place + call_length * i)) ∷ call_events (n - (i + 1)) file q) next

    lines_next : (b : Book) → lines_left session file place n i b ≡
        lines_from session (i + 1) b (calls true (call_at file (place + call_length * i)) ∷ []) ++
        lines_left session file place n (i + 1) (happens zeros b (calls true (call_at file (place + call_length * i)))).book
    lines_next b =
        let k : suc (i + 1) ≡ i + 1 + 1 = omega arith in
        let e = calls true (call_at file (place + call_length * i)) in
        let es = call_events (n - (i + 1)) file (place + call_length * (i + 1)) in
        ap (λ (xs : List Event). lines_from session (i + 1) b xs) call_next ∙ lines-first b e es session (i + 1) ∙
        ap (λ (m : ℕ). lines_from session (i + 1) b (e ∷ []) ++ lines_from session m (happens zeros b e).book es) k

    pub turns_more : (store store' : World) (out out' : List ℕ) (to to' : ℕ) → at + line_length * n ≤ length before
        → InTurns file place n session given before at i store out to
        → Plays (calls true (call_at file (place + call_length * i)) ∷ []) session (i + 1) store store' out to out' to'
        → InTurns file place n session given before at (i + 1) store' out' to'
    turns_more store store' out out' to to' fits t p = record {
      within = omega arith;
      room = let k = p.room in let l = t.room in omega arith;
      along = λ b r.
          let k = p.room in
          let l = t.room in
          along-more (calls true (call_at file (place + call_length * i)) ∷ []) session (i + 1) (t.along b r) p (omega arith) lines_next
          (λ x. ap (book_after zeros x) call_next);
    }

  pub turns-all : (i : ℕ) (store : World) (out : List ℕ) (to : ℕ) → n ≤ i → InTurns file place n session given before at i store out to
      → Plays (call_events n file place) session 1 given store before at out to
  turns-all i store out to done t =
      let none : n - i ≡ 0 = omega arith in
      record {
        room =
            let k = t.room in omega (arith, t.within, calls-counted n file place);
        by = λ b r. along-all (t.along b r) (λ x. ap (λ (m : ℕ). lines_from session (i + 1) x (call_events m file (place + call_length * i))) none)
            (λ x. ap (λ (m : ℕ). book_after zeros x (call_events m file (place + call_length * i))) none);
      }
