-- The head between its two forms: eight numbers of an array, and what the functions take and give by value.
use Rattle.std.specs.Prelude.{ℕ, ◌%◌, List, [], ◌∷◌, get_or}
use Rattle.tables_model.specs.declared.Counts.{Counts}
use Rattle.state.specs.declared.ram.Phase.{Phase}
use Rattle.state.specs.declared.ram.Phase.TheVariants.{Open, Closed}
use Rattle.state.specs.declared.ram.Fuse.{Fuse}
use Rattle.state.specs.declared.ram.Fuse.TheVariants.{Unlimited, Left}
use Rattle.journal.specs.declared.Control.{Control}
use Rattle.embed_model.specs.Arrays.{is_set, phase_by, fuse_by}

-- where the journal stands
abbrev pub control_by : List ℕ → Control
control_by head = record {
  phase = phase_by (is_set (get_or head 0 0));
  fuse = fuse_by (is_set (get_or head 1 0)) (get_or head 2 0);
  stored = get_or head 3 0;
  waiting = get_or head 4 0;
}

-- the counters of the tables; the begin rows are a number of 16 bits
abbrev pub counts_by : List ℕ → Counts
counts_by head = record { begun = get_or head 5 0 % 65536; count = get_or head 6 0; used = get_or head 7 0 }

-- the numbers that a phase and a fuse are written as
abbrev pub phase_number : Phase → ℕ
phase_number Open = 1
phase_number Closed = 0

abbrev pub kind_number : Fuse → ℕ
kind_number (Left n) = 1
kind_number Unlimited = 0

abbrev pub left_number : Fuse → ℕ
left_number (Left n) = n
left_number Unlimited = 0

-- the head that says them
abbrev pub head_of : Control → Counts → List ℕ
head_of c t =
    phase_number c.phase ∷ kind_number c.fuse ∷ left_number c.fuse ∷ c.stored ∷ c.waiting ∷ t.begun ∷ t.count ∷ t.used ∷ []
