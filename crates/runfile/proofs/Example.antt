-- Document 01's whole example, with fuse 3 and with fuse 6, computed by the definitions of specs/: its bytes are a run file, and the lines are 01's, each with
-- the counts of document 02 at its end. Each begin stores its row, and the others wait until the commit forces them: with fuse 3 one of its four rows lands, with
-- fuse 6 all of them. In the first case the opening that follows stores an undo row and two abort rows, in the second it has nothing to do.
-- And a file in which a whole visit is handed over (document 02, L2).
use Prim.Native.Nat.{ℕ, ◌+◌}
use mathlib.Core.Path.{◌≡◌, refl}
use mathlib.Core.Bool.{true}
use mathlib.Core.List.{List, [], ◌∷◌, ◌++◌}
use Rattle.book.specs.Ledger.{after}
use Rattle.book.specs.Rules.{reserve, scopes_in_use}
use Rattle.book.specs.Power.{force, add}
use Rattle.book.specs.Book.{take_back, refusal, adds, through, value, accepted, call, reopened, reopen, opening}
use Rattle.book.specs.Pages.{page_after}
use Rattle.run_reader.specs.File.{call_bytes, call_at, is_call_at, is_run_file}
use Rattle.run_lines.specs.Lines.{decimal, signed_decimal, line}
use Rattle.runfile.specs.Runs.{lines_of}

-- session 1 with a fuse below 256: begin, begin, visit 1 adds -200 to cell 0, hands it to 2, abort 1, commit 2; session 2 with no fuse: read 0
abbrev file : ℕ → List ℕ
file fuse =
    (2 ∷ []) ++ (fuse ∷ 0 ∷ 0 ∷ 0 ∷ 17 ∷ 0 ∷ 6 ∷ 0 ∷ []) ++ (255 ∷ 255 ∷ 255 ∷ 255 ∷ 65 ∷ 0 ∷ 1 ∷ 0 ∷ []) ++ (1 ∷ 0 ∷ 0 ∷ 0 ∷ 0 ∷ 0 ∷ 0 ∷ 0 ∷ []) ++
    (1 ∷ 0 ∷ 0 ∷ 0 ∷ 0 ∷ 0 ∷ 0 ∷ 0 ∷ []) ++ (2 ∷ 1 ∷ 0 ∷ 0 ∷ 56 ∷ 255 ∷ 0 ∷ 0 ∷ []) ++ (3 ∷ 1 ∷ 2 ∷ 0 ∷ 0 ∷ 0 ∷ 0 ∷ 0 ∷ []) ++ (5 ∷ 1 ∷ 0 ∷ 0 ∷ 0 ∷ 0 ∷ 0 ∷ 0 ∷ []) ++
    (4 ∷ 2 ∷ 0 ∷ 0 ∷ 0 ∷ 0 ∷ 0 ∷ 0 ∷ []) ++ (8 ∷ 0 ∷ 0 ∷ 0 ∷ 0 ∷ 0 ∷ 0 ∷ 0 ∷ [])

-- a line of six digits
abbrev digits : ℕ → ℕ → ℕ → ℕ → ℕ → ℕ → List ℕ
digits a b c d e f = (48 + a) ∷ 32 ∷ (48 + b) ∷ 32 ∷ (48 + c) ∷ 32 ∷ (48 + d) ∷ 32 ∷ (48 + e) ∷ 32 ∷ (48 + f) ∷ 10 ∷ []

-- the first six lines, which do not depend on the fuse; those of `whole_visit` are the same
abbrev first : List ℕ
first = digits 1 0 0 0 0 0 ++ digits 1 1 0 1 1 0 ++ digits 1 2 0 2 1 0 ++ digits 1 3 0 3 0 0 ++ digits 1 4 0 4 0 0 ++ digits 1 5 0 5 0 0

-- a session without a fuse: begin, begin, visit 1 adds 5 to cell 0 and 7 to cell 1, hands all over to 2 and aborts, 2 commits; read 0, read 1
abbrev whole_visit : List ℕ
whole_visit =
    (1 ∷ []) ++ (255 ∷ 255 ∷ 255 ∷ 255 ∷ 9 ∷ 0 ∷ 9 ∷ 0 ∷ []) ++ (1 ∷ 0 ∷ 0 ∷ 0 ∷ 0 ∷ 0 ∷ 0 ∷ 0 ∷ []) ++ (1 ∷ 0 ∷ 0 ∷ 0 ∷ 0 ∷ 0 ∷ 0 ∷ 0 ∷ []) ++
    (2 ∷ 1 ∷ 0 ∷ 0 ∷ 5 ∷ 0 ∷ 0 ∷ 0 ∷ []) ++ (2 ∷ 1 ∷ 0 ∷ 1 ∷ 7 ∷ 0 ∷ 0 ∷ 0 ∷ []) ++ (9 ∷ 1 ∷ 2 ∷ 0 ∷ 0 ∷ 0 ∷ 0 ∷ 0 ∷ []) ++ (5 ∷ 1 ∷ 0 ∷ 0 ∷ 0 ∷ 0 ∷ 0 ∷ 0 ∷ []) ++
    (4 ∷ 2 ∷ 0 ∷ 0 ∷ 0 ∷ 0 ∷ 0 ∷ 0 ∷ []) ++ (8 ∷ 0 ∷ 0 ∷ 0 ∷ 0 ∷ 0 ∷ 0 ∷ 0 ∷ []) ++ (8 ∷ 0 ∷ 0 ∷ 1 ∷ 0 ∷ 0 ∷ 0 ∷ 0 ∷ [])

pub record Example : Type 0 where
  pub file-3 : is_run_file (file 3) ≡ true
  pub fuse-3 : lines_of (file 3) ≡ first ++ digits 1 6 5 0 1 0 ++ digits 2 0 0 3 3 0 ++ digits 2 1 0 0 0 0
  pub file-6 : is_run_file (file 6) ≡ true
  -- the last line is `2 1 0 -200 0 0`
  pub fuse-6 : lines_of (file 6) ≡ first ++ digits 1 6 0 6 4 0 ++ digits 2 0 0 0 0 0 ++
      (50 ∷ 32 ∷ 49 ∷ 32 ∷ 48 ∷ 32 ∷ 45 ∷ 50 ∷ 48 ∷ 48 ∷ 32 ∷ 48 ∷ 32 ∷ 48 ∷ 10 ∷ [])
  pub whole-visit-file : is_run_file whole_visit ≡ true
  pub whole-visit : lines_of whole_visit ≡ first ++ digits 1 6 0 6 0 0 ++ digits 1 7 0 7 5 0 ++ digits 1 8 0 5 0 0 ++ digits 1 9 0 7 0 0

pub example : Example
unfolding is_run_file is_call_at call_at call_bytes lines_of line decimal signed_decimal after reserve scopes_in_use force add take_back refusal adds through value
    accepted call reopened reopen opening page_after
example = record { file-3 = refl; fuse-3 = refl; file-6 = refl; fuse-6 = refl; whole-visit-file = refl; whole-visit = refl }
