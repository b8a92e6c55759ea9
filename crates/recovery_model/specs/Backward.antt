-- The backward part of an opening: open changes fall over all visits, an abort row ends each active visit, then a force.
use Rattle.std.specs.Prelude.{ℕ, zero, suc, List, get_or, replicate}
use Rattle.book.specs.Rows.{Row}
use Rattle.state.specs.declared.ram.Fuse.{Fuse}
use Rattle.state.specs.declared.ram.Phase.TheVariants.{Open}
use Rattle.state.specs.World.{tail_length}
use Rattle.tables_model.specs.declared.Active.{Active}
use Rattle.tables_model.specs.declared.Whom.TheVariants.{All}
use Rattle.tables_model.specs.Meaning.{vacant}
use Rattle.tables_model.specs.Rows.{Index}
use Rattle.journal.specs.Journal.{forced}
use Rattle.wal.specs.Writing.{Ram, written}
use Rattle.wal.specs.TakeBack.{Taking, fall_all}

-- an abort row for each of the first m listed visits, the last first
unfoldable pub abort_all : ℕ → List Active → Ram → Ram
abort_all zero active m = m
abort_all (suc n) active m = abort_all n active (written m (Row.abort (get_or active n vacant).visit.0))

-- 01: the book is open, nothing waits, the fuse is the one given
abbrev pub starting_by : Fuse → ℕ → List ℕ → List ℕ → Ram
starting_by f rows log copy = record {
  journal = record { control = record { phase = Open; fuse = f; stored = rows; waiting = 0 }; log = log; tail = replicate tail_length 0 };
  copy = copy;
}

-- the journal and the copy after the backward part
unfoldable pub backward : Fuse → ℕ → Index → List ℕ → List ℕ → Ram
backward f rows x log copy =
    let t : Taking = fall_all rows All x.tables.used (record { ram = starting_by f rows log copy; scopes = x.scopes }) in
    let m : Ram = abort_all x.tables.count x.tables.active t.ram in
    record { journal = forced m.journal; copy = m.copy }
