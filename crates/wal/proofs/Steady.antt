-- What holds of a book throughout a call, between two of its rows too: its rows are allowed, the tail is not too long, and a closed book is empty.
-- A sound book is steady; in the midst of a take-back an active visit bears undo rows, and no book is sound there.
use Prim.Native.Nat.{◌≤◌, ◌<◌}
use native.Mathlib.Omega.{arith}
use mathlib.Core.Path.{◌≡◌, refl, ap, ◌∙◌}
use mathlib.Core.Bool.{Bool, true, false}
use mathlib.Core.List.{List, [], ◌∷◌, ◌++◌, append-nil}
use lib.ListN.{length, length-append}
use Rattle.book.specs.Limits.{row_limit, tail_limit}
use Rattle.book.specs.Rows.{Row}
use Rattle.book.specs.Ledger.{empty, ledger, after}
use Rattle.book.specs.Rules.{allowed, all_allowed, allowed_log}
use Rattle.book.specs.Power.{Book, rows_of, ledger_of, add, add_all}
use Rattle.book.specs.Logs.{Sound}
use Rattle.book.proofs.Lists.{clash, and_i}
use Rattle.book.proofs.Logs.{allowed-append, allowed-start, ledger-append}
use Rattle.book.proofs.InvariantKept.{few-rows}
use Rattle.book.proofs.Steps.{Shut, Extends, extends-add, extends-all}
use Rattle.book.proofs.Sound.{tail-add, tail_all}

pub record Steady (b : Book) : Type 0 where
  pub allowed : allowed_log (rows_of b) ≡ true
  pub tail : length b.waiting ≤ tail_limit
  pub shut : Shut b

pub steady-sound : (b : Book) → Sound b → Steady b
steady-sound b s = record { allowed = s.allowed; tail = s.tail; shut = s.shut }

pub steady-few : (b : Book) → Steady b → length (rows_of b) ≤ row_limit
steady-few b s = few-rows (rows_of b) s.allowed

-- rows that are allowed after those of the book
module _ (b : Book) (s : Steady b) (rs : List Row) (al : all_allowed (ledger_of b) rs ≡ true) where
  pub more-allowed : allowed_log (rows_of b ++ rs) ≡ true
  more-allowed = allowed-append empty (rows_of b) rs ∙ and_i _ _ s.allowed al

  pub steady-extends : (c : Book) → Extends b rs c → length c.waiting ≤ tail_limit → Steady c
  steady-extends c p tail = record { allowed = rows c.is_open refl; tail = tail; shut = p.shut }
    where
      rows : (t : Bool) → c.is_open ≡ t → allowed_log (rows_of c) ≡ true
      rows true o = rw (p.rows o) more-allowed
      rows false o = rw ((p.shut o).0, append-nil c.stored) (allowed-start c.stored (rows_of b ++ rs) p.part more-allowed)

  pub steady-all : Steady (add_all b rs)
  steady-all = steady-extends (add_all b rs) (extends-all b rs s.shut) (tail_all b rs s.tail)

-- ── One row more ──────────────────────────────────────────────────────────────────────────────────────────────────────

-- a book that is open after a step was open before it
pub was-open : (b c : Book) (rs : List Row) → Extends b rs c → c.is_open ≡ true → b.is_open ≡ true
was-open b c rs p o = go b.is_open refl
  where
    go : (t : Bool) → b.is_open ≡ t → b.is_open ≡ true
    go true e = e
    go false e = clash c.is_open o (ap (λ (x : Book). x.is_open) (p.stuck e) ∙ e)

module _ (b : Book) (s : Steady b) (r : Row) where
  pub steady-add : (b.is_open ≡ true → allowed (ledger_of b) r ≡ true) → Steady (add b r)
  steady-add al = go b.is_open refl
    where
      go : (t : Bool) → b.is_open ≡ t → Steady (add b r)
      go true o = steady-extends b s (r ∷ []) (and_i _ _ (al o) refl) (add b r) (extends-add b r s.shut) (tail-add b r s.tail)
      go false o = rw ((extends-add b r s.shut).stuck o) s

  pub row_room : allowed (ledger_of b) r ≡ true → length (rows_of b) < row_limit
  row_room al =
      let k = few-rows (rows_of b ++ (r ∷ [])) (more-allowed b s (r ∷ []) (and_i _ _ al refl)) in
      let n = length-append (rows_of b) (r ∷ []) in omega arith

  -- what the rows come to, where the book is open after it
  pub add-rows : (add b r).is_open ≡ true → rows_of (add b r) ≡ rows_of b ++ (r ∷ [])
  add-rows o = (extends-add b r s.shut).rows o

  pub add-ledger : (add b r).is_open ≡ true → ledger_of (add b r) ≡ after (ledger_of b) r
  add-ledger o = ap ledger (add-rows o) ∙ ledger-append (rows_of b) (r ∷ [])
