-- How active visits and scopes lie in RAM: two flat arrays of numbers. Any numbers are some visits and some entries.
use Rattle.std.specs.Prelude.{ℕ, ◌+◌, ◌*◌, ◌%◌, not, List, get_or, eqb}
use Rattle.book.specs.Lists.{tabulate}
use Rattle.book.specs.Limits.{active_limit, scope_limit}
use Rattle.book.specs.Scopes.{Scope}
use Rattle.tables_model.specs.declared.Active.{Active}

-- ── Active visits ─────────────────────────────────────────────────────────────────────────────────────────────────────

-- the numbers of a place
abbrev pub place_width : ℕ
place_width = 2

-- the length of the flat visits
abbrev pub visits_length : ℕ
visits_length = active_limit * place_width

-- place i: the visit, and whether an undo row bears it; whatever is not 0 counts as bearing
abbrev pub active_at : List ℕ → ℕ → Active
active_at vs i = record { visit = record { 0 = get_or vs (place_width * i) 0 }; bears = not (eqb (get_or vs (place_width * i + 1) 0) 0) }

-- all 16
unfoldable pub actives : List ℕ → List Active
actives vs = tabulate active_limit 0 (active_at vs)

-- ── Scopes ────────────────────────────────────────────────────────────────────────────────────────────────────────────

-- 64 entries of 7 numbers each, in the order of 01's fields, then `handed` and `count`
abbrev pub entry_width : ℕ
entry_width = 7

-- the length of the flat table
abbrev pub flat_length : ℕ
flat_length = scope_limit * entry_width

-- number k of entry i
abbrev pub field_at : List ℕ → ℕ → ℕ → ℕ
field_at t i k = get_or t (entry_width * i + k) 0

-- entry i; a cell has one byte, and whatever is not 0 counts as handed
abbrev pub entry_at : List ℕ → ℕ → Scope
entry_at t i = record {
  maker = field_at t i 0;
  holder = field_at t i 1;
  cell = field_at t i 2 % 256;
  first = field_at t i 3;
  last = field_at t i 4;
  handed = not (eqb (field_at t i 5) 0);
  count = field_at t i 6;
}

-- all 64
unfoldable pub entries : List ℕ → List Scope
entries t = tabulate scope_limit 0 (entry_at t)
