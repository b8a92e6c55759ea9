-- Events played one after the other: what is told of the first and of the others is told of all. Along a loop, what is written with the lines of what is
-- left are the lines of the whole.
use Prim.Native.Nat.{ℕ, zero, suc, ◌+◌, ◌≤◌}
use native.Mathlib.Omega.{arith}
use mathlib.Core.Path.{◌≡◌, refl, ap, sym, ◌∙◌}
use mathlib.Core.List.{List, [], ◌∷◌, ◌++◌, append-nil, append_assoc}
use lib.ListN.{length, take, drop}
use Rattle.book.specs.Power.{Book}
use Rattle.state.specs.CallContracts.{Answered}
use Rattle.book.specs.Events.{Event, happens, book_after}
use Rattle.book.specs.SessionWrites.{event_writes}
use Rattle.state.specs.World.{World, Represents}
use Rattle.run_lines.specs.Lines.{line}
use Rattle.runfile.specs.Runs.{lines_from}
use Rattle.book.specs.Cells.{zeros}
use Rattle.run_lines.specs.Output.{put_text, line_length, Written}
use Rattle.runfile.specs.Play.{Told, Plays}
use Rattle.runfile.proofs.Steps.{Answers}
use Rattle.run_lines.proofs.Writings.{written_after}

-- one text told after another
told-then : {b b' : Book} {t t' : List ℕ} {w w' : World} {out out₁ out₂ : List ℕ} {at to to' : ℕ} → Told b t w out at out₁ to → Told b' t' w' out₁ to out₂ to'
    → to' ≤ length out → Told b' (t ++ t') w' out at out₂ to'
told-then {t = t} {t' = t'} {out = out} {at = at} p q fits = record {
  stands = q.stands;
  written = written_after out at t t' (omega (arith, p.written.place, q.written.place)) p.written q.written;
}

-- the line of the first answer, and those of the others
pub lines-first : (b : Book) (e : Event) (es : List Event) (session call : ℕ) → lines_from session call b (e ∷ es) ≡
    lines_from session call b (e ∷ []) ++ lines_from session (suc call) (happens zeros b e).book es
lines-first b e es session call =
    ap (λ (l : List ℕ). l ++ lines_from session (suc call) (happens zeros b e).book es) (sym (append-nil (line session call (happens zeros b e).answer (event_writes zeros b e))))

-- one event whose line is written
pub plays-one : (e : Event) (session call : ℕ) (given : World) (before : List ℕ) (at : ℕ) (after : List ℕ) (to : ℕ) (x : Answered)
    → ((b : Book) → Represents zeros b given → Answers b e x) → Written before at (line session call x.answer x.writes) to after → to ≤ at + line_length
    → Plays (e ∷ []) session call given x.world before at after to
plays-one e session call given before at after to x answers written room = record {
  room = room;
  by = λ b r.
      let s = answers b r in
      record { stands = s.stands; written = rw (append-nil, ← s.answer, ← s.writes) written };
}

-- an event and then others
pub plays-first : (e : Event) (es : List Event) (session : ℕ) (call : ℕ) (given between leaves : World) (before : List ℕ) (at : ℕ) (out : List ℕ) (n : ℕ) (after : List ℕ)
    (to : ℕ) → Plays (e ∷ []) session call given between before at out n → Plays es session (suc call) between leaves out n after to → to ≤ length before
    → Plays (e ∷ es) session call given leaves before at after to
plays-first e es session call given between leaves before at out n after to p q fits = record {
  room = let k = p.room in let l = q.room in omega arith;
  by = λ b r.
      let x = p.by b r in
      rw (lines-first b e es session call) (told-then x (q.by (happens zeros b e).book x.stands) fits);
}

-- ── Along a loop ──────────────────────────────────────────────────────────────────────────────────────────────────────

-- With `text` of a book for the lines that are left, and `last` for the book in the end, by which they are: `whole` and `end` of all.
pub record Along (text : Book → List ℕ) (last : Book → Book) (whole : List ℕ) (end : Book) (store : World) (before : List ℕ) (at : ℕ) (after : List ℕ)
    (to : ℕ) : Type 0 where
  pub book : Book
  pub written : List ℕ
  pub told : Told book written store before at after to
  pub rest : written ++ text book ≡ whole
  pub ends : last book ≡ end

take-drop : (n : ℕ) (l : List ℕ) → take n l ++ drop n l ≡ l
take-drop zero l = refl
take-drop (suc n) [] = refl
take-drop (suc n) (x ∷ l) = ap (λ (r : List ℕ). x ∷ r) (take-drop n l)

put-nothing : (out : List ℕ) (at : ℕ) → put_text out at [] ≡ out
put-nothing out at = let e : at + 0 ≡ at = omega arith in rw (append-nil, e) (take-drop at out)

pub along-none : (text : Book → List ℕ) (last : Book → Book) (b : Book) (store : World) (out : List ℕ) (at : ℕ) → Represents zeros b store
    → Along text last (text b) (last b) store out at out at
along-none text last b store out at r = record {
  book = b;
  written = [];
  told = record { stands = r; written = record { place = omega arith; is = sym (put-nothing out at) } };
  rest = refl;
  ends = refl;
}

pub along-more : {text text' : Book → List ℕ} {last last' : Book → Book} {whole : List ℕ} {end : Book} {store store' : World} {before : List ℕ} {at : ℕ}
    {out out' : List ℕ} {to to' : ℕ} (es : List Event) (session call : ℕ) → Along text last whole end store before at out to
    → Plays es session call store store' out to out' to' → to' ≤ length before
    → ((b : Book) → text b ≡ lines_from session call b es ++ text' (book_after zeros b es)) → ((b : Book) → last b ≡ last' (book_after zeros b es))
    → Along text' last' whole end store' before at out' to'
along-more {text' = text'} es session call a p fits texts lasts = record {
  book = book_after zeros a.book es;
  written = a.written ++ lines_from session call a.book es;
  told = told-then a.told (p.by a.book a.told.stands) fits;
  rest = append_assoc a.written (lines_from session call a.book es) (text' (book_after zeros a.book es)) ∙ ap (λ (l : List ℕ). a.written ++ l) (sym (texts a.book)) ∙ a.rest;
  ends = sym (lasts a.book) ∙ a.ends;
}

-- nothing is left
pub along-all : {text : Book → List ℕ} {last : Book → Book} {whole : List ℕ} {end : Book} {store : World} {before : List ℕ} {at : ℕ} {after : List ℕ} {to : ℕ}
    → Along text last whole end store before at after to → ((b : Book) → text b ≡ []) → ((b : Book) → last b ≡ b) → Told end whole store before at after to
along-all a none same =
    rw (← a.ends, same a.book, ← a.rest, none a.book, append-nil) a.told
