-- Open changes fall, highest row first, each by an undo row: abort and the backward part of an opening, by the scope table.
use Rattle.std.specs.Prelude.{ℕ, zero, suc, ◌<◌, cond, List, get_or, set, pos, Option, Some, None}
use Rattle.book.specs.Rows.{Row, begin, change, hand_over, undo, commit, abort, hand_over_all}
use Rattle.book.specs.Scopes.{Scope, unused}
use Rattle.tables_model.specs.declared.Whom.{Whom}
use Rattle.tables_model.specs.Layout.{entries}
use Rattle.tables_model.specs.Table.{highest, lowered}
use Rattle.tables_model.specs.Lookup.{before_last}
use Rattle.journal.specs.declared.Control.{Control}
use Rattle.wal.specs.Writing.{Ram, ram, is_running, written}
use Rattle.wal.specs.Looking.{look_up}

-- what is taken back from: the journal with the copy, and the scope table
pub record Taking : Type 0 where
  pub ram : Ram
  pub scopes : List Scope

abbrev pub taking : Control → List ℕ → List ℕ → List ℕ → List ℕ → Taking
taking c log tail copy scopes = record { ram = ram c log tail copy; scopes = entries scopes }

-- an entry of the table
abbrev pub Reach : Option ℕ → Type 0
Reach (Some i) = i < 64
Reach None = Unit {0}

-- the undo row of row n, which the holder holds: cell and change as first logged. Of a row that is no change (no sound table comes to that) zeros.
abbrev pub undo_row : ℕ → ℕ → Row → Row
undo_row holder n (begin v) = undo holder 0 n (pos 0)
undo_row holder n (change v c a) = undo holder c n a
undo_row holder n (hand_over g r c) = undo holder 0 n (pos 0)
undo_row holder n (undo h c k a) = undo holder 0 n (pos 0)
undo_row holder n (commit v) = undo holder 0 n (pos 0)
undo_row holder n (abort v) = undo holder 0 n (pos 0)
undo_row holder n (hand_over_all g r) = undo holder 0 n (pos 0)

-- the last change of entry i falls
unfoldable pub fallen : ℕ → Taking → Taking
fallen i t =
    let s : Scope = get_or t.scopes i unused in
    let look = look_up t.ram.journal in
    record { ram = written t.ram (undo_row s.holder s.last (look s.last)); scopes = set t.scopes i (lowered (before_last look s) s) }

-- the entry whose last change falls next; none once the journal is closed
unfoldable pub next_to_fall : Whom → ℕ → Taking → Option ℕ
next_to_fall w used t = cond (is_running t.ram.journal) (highest w used t.scopes) None

-- at most m of them; `go` is what follows one
abbrev pub fall_next : Option ℕ → Taking → (Taking → Taking) → Taking
fall_next (Some i) t go = go (fallen i t)
fall_next None t go = t

unfoldable pub fall_all : ℕ → Whom → ℕ → Taking → Taking
fall_all zero w used t = t
fall_all (suc m) w used t = fall_next (next_to_fall w used t) t (fall_all m w used)
