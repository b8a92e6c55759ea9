-- What an accepted call does to journal, copy, charts and tables.
use Rattle.std.specs.Prelude.{ℕ, suc, ◌+◌, ◌-◌, ◌≡◌, Bool, true, cond, List, length, ℤ, pos, leb}
use Rattle.book.specs.Rows.{Row}
use Rattle.book.specs.Scopes.{Scope}
use Rattle.book.specs.Ledger.{only, every}
use Rattle.book.specs.Calls.{Call, Return, the_visit, the_row, the_cell, zero_value, returns}
use Rattle.book.specs.Pages.{page_at, page_of, cell_of}
use Rattle.tables_model.specs.declared.Counts.{Counts}
use Rattle.tables_model.specs.declared.Tables.{Tables}
use Rattle.tables_model.specs.Layout.{entries}
use Rattle.tables_model.specs.Rows.{Ready, index}
use Rattle.tables_model.specs.declared.CellSet.{CellSet}
use Rattle.tables_model.specs.declared.CellSet.TheVariants.{Only, Every}
use Rattle.tables_model.specs.declared.Whom.TheVariants.{One}
use Rattle.tables_model.specs.Visits.{tables_in, with_begun, with_ended, with_used}
use Rattle.tables_model.specs.Table.{Scopes, scopes_changed, scopes_handed, scopes_ended}
use Rattle.state.specs.World.{is_open_phase}
use Rattle.journal.specs.declared.Control.{Control}
use Rattle.journal.specs.Journal.{Journal, forced, forced_up_to, Paged, paged}
use Rattle.wal.specs.Writing.{Ram, ram, Fits, row_count, written}
use Rattle.wal.specs.TakeBack.{Taking, fall_all}
use Rattle.calls_model.specs.Refusals.{refusal_by}

-- all that an accepted call works on
pub record Core : Type 0 where
  pub ram : Ram
  pub charts : List ℕ
  pub tables : Tables
  pub scopes : List Scope

abbrev pub core : Control → Counts → List ℕ → List ℕ → List ℕ → List ℕ → List ℕ → List ℕ → Core
core c t visits log charts copy tail scopes = record { ram = ram c log tail copy; charts = charts; tables = tables_in t visits; scopes = entries scopes }

abbrev pub with_ram : Core → Ram → Core
with_ram x m = record { ram = m; charts = x.charts; tables = x.tables; scopes = x.scopes }

abbrev pub forced_ram : Ram → Ram
forced_ram m = record { journal = forced m.journal; copy = m.copy }

-- the visit ends: its scopes are let go
abbrev pub visit_ended : Core → ℕ → Core
visit_ended x v =
    let s : Scopes = scopes_ended x.tables.used v x.scopes in
    record { ram = x.ram; charts = x.charts; tables = with_ended x.tables v s.used; scopes = s.entries }

abbrev pub changed : Core → ℕ → ℕ → ℤ → Core
changed x v c a =
    let s : Scopes = scopes_changed x.tables.used (suc (row_count x.ram.journal)) v c x.scopes in
    record { ram = written x.ram (Row.change v c a); charts = x.charts; tables = with_used x.tables s.used; scopes = s.entries }

-- the visit's open changes fall; at most as many as there are rows
abbrev pub fell : Core → ℕ → Core
fell x v =
    let t : Taking = fall_all (row_count x.ram.journal) (One (record { 0 = v })) x.tables.used (record { ram = x.ram; scopes = x.scopes }) in
    record { ram = t.ram; charts = x.charts; tables = x.tables; scopes = t.scopes }

-- 01: the waiting rows up to the page's mark, if that one waits
abbrev pub up_to_mark : Core → ℕ → ℕ
up_to_mark x p = (page_of (page_at x.ram.copy p)).mark - x.ram.journal.control.stored

-- the rows that flush stores; a mark beyond the rows (no sound copy has one) counts as none
abbrev pub flush_count : Core → ℕ → ℕ
flush_count x p = let m = up_to_mark x p in cond (leb m x.ram.journal.control.waiting) m 0

abbrev pub flushed : Core → ℕ → Core
flushed x p =
    let j : Journal = forced_up_to (flush_count x p) x.ram.journal in
    let g : Paged = paged j.control x.charts p (page_at x.ram.copy p) in
    record {
      ram = record { journal = record { control = g.control; log = j.log; tail = j.tail }; copy = x.ram.copy };
      charts = g.charts;
      tables = x.tables;
      scopes = x.scopes;
    }

-- the row of a hand-over: one, whatever the number of cells
abbrev pub handed_row : ℕ → ℕ → CellSet → Row
handed_row g r (Only c) = Row.hand_over g r c.0
handed_row g r Every = Row.hand_over_all g r

-- the row is written, and the giver's scopes of these cells pass to the receiver
abbrev pub cells_handed : Core → Row → ℕ → ℕ → (ℕ → Bool) → Core
cells_handed x row g r cs = record { ram = written x.ram row; charts = x.charts; tables = x.tables; scopes = scopes_handed x.tables.used g r cs x.scopes }

unfoldable pub acted : Core → Call → Core
acted x Call.begin =
    let v : ℕ = suc x.tables.begun in
    record { ram = forced_ram (written x.ram (Row.begin v)); charts = x.charts; tables = with_begun x.tables v; scopes = x.scopes }
acted x (Call.change v c a) = changed x v c a
acted x (Call.hand_over g r c) = cells_handed x (Row.hand_over g r c) g r (only c)
acted x (Call.commit v) = visit_ended (with_ram x (forced_ram (written x.ram (Row.commit v)))) v
acted x (Call.abort v) = let y : Core = fell x v in visit_ended (with_ram y (written y.ram (Row.abort v))) v
acted x Call.force = with_ram x (forced_ram x.ram)
acted x (Call.flush p) = flushed x p
acted x (Call.read c) = x
acted x (Call.hand_over_all g r) = cells_handed x (Row.hand_over_all g r) g r every

-- the value of an accepted call by what it returns: of the visits begun before it, the rows after it, and the copy
abbrev pub value_from : ℕ → ℕ → List ℕ → Return → ℤ
value_from begun rows copy the_visit = pos (suc begun)
value_from begun rows copy the_row = pos rows
value_from begun rows copy (the_cell c) = cell_of copy c
value_from begun rows copy zero_value = pos 0

-- by what the call was given and what it left
unfoldable pub value_by : Core → Core → Call → ℤ
value_by x y k = value_from x.tables.begun (row_count y.ram.journal) x.ram.copy (returns k)

-- ── What the functions ask ────────────────────────────────────────────────────────────────────────────────────────────

-- the store is open, the call is accepted, and lengths and counters are right
pub record Accepts (c : Control) (t : Counts) (log copy tail : ℕ) (visits scopes : List ℕ) (k : Call) : Type 0 where
  pub fits : Fits c log tail copy
  pub ready : Ready t (length visits) (length scopes)
  pub running : is_open_phase c.phase ≡ true
  pub free : refusal_by (index t visits scopes) (c.stored + c.waiting) k ≡ 0
