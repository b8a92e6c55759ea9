-- The journal whole, and what each of its functions makes of it.
use Rattle.std.specs.Prelude.{ℕ, suc, ◌+◌, ◌-◌, ◌*◌, Bool, cond, List, length, replicate, leb, ltb, Option, is_none}
use Rattle.book.specs.Limits.{row_limit, row_length, tail_limit}
use Rattle.book.specs.Rows.{Row}
use Rattle.book.specs.RowBytes.{row_bytes}
use Rattle.state.specs.declared.ram.Fuse.{Fuse}
use Rattle.state.specs.declared.ram.Phase.{Phase}
use Rattle.state.specs.declared.ram.Phase.TheVariants.{Open, Closed}
use Rattle.journal.specs.declared.Control.{Control}
use Rattle.journal.specs.Writes.{spend_of, put_at, put_page, if_lands}
use Rattle.journal.specs.Force.{Ran, chunks, runs, closed_at, control_by, control_after, shifted}

pub record Journal : Type 0 where
  pub control : Control
  pub log : List ℕ
  pub tail : List ℕ

abbrev pub journal : Control → List ℕ → List ℕ → Journal
journal c log tail = record { control = c; log = log; tail = tail }

-- the tail after a run of the first m of its w rows: nothing waits after a cut
abbrev pub tail_after : Bool → ℕ → ℕ → List ℕ → List ℕ
tail_after cut m w tail = cond cut (replicate (length tail) 0) (shifted m w tail)

-- the first m waiting rows are stored
unfoldable pub forced_up_to : ℕ → Journal → Journal
forced_up_to m j =
    let o : Ran = runs j.control.fuse j.control.stored j.log (chunks m j.tail) in
    record { control = control_after j.control (j.control.waiting - m) o.run; log = o.log; tail = tail_after (is_none o.run.fuse) m j.control.waiting j.tail }

-- all of them, and the tail is empty
unfoldable pub forced : Journal → Journal
forced j =
    let o : Ran = runs j.control.fuse j.control.stored j.log (chunks j.control.waiting j.tail) in
    record { control = control_after j.control 0 o.run; log = o.log; tail = replicate (length j.tail) 0 }

-- a full tail is forced
unfoldable pub with_room : Journal → Journal
with_room j = cond (leb tail_limit j.control.waiting) (forced j) j

-- the row joins those that wait
abbrev pub joined : Journal → Row → Journal
joined j r = record {
  control = record { phase = Open; fuse = j.control.fuse; stored = j.control.stored; waiting = suc j.control.waiting };
  log = j.log;
  tail = put_at row_length j.tail (row_length * j.control.waiting) (row_bytes (suc (j.control.stored + j.control.waiting)) r);
}

-- closed: nothing waits
abbrev pub closed_journal : Journal → Journal
closed_journal j = record { control = closed_at j.control.stored; log = j.log; tail = replicate (length j.tail) 0 }

-- a log that is full takes no row: the journal closes (no call of a sound store comes to that)
abbrev pub joined_if : Phase → Journal → Row → Journal
joined_if Closed j r = j
joined_if Open j r = cond (ltb (j.control.stored + j.control.waiting) row_limit) (joined j r) (closed_journal j)

unfoldable pub appended : Journal → Row → Journal
appended j r = let k = with_room j in joined_if k.control.phase k r

-- ── A page ────────────────────────────────────────────────────────────────────────────────────────────────────────────

-- the control and the charts after a page was written
pub record Paged : Type 0 where
  pub control : Control
  pub charts : List ℕ

abbrev pub spent : Control → Option Fuse → Control
spent c left = control_by left c c.stored c.waiting

abbrev pub paged_if : Phase → Control → List ℕ → ℕ → List ℕ → Paged
paged_if Closed c charts p page = record { control = c; charts = charts }
paged_if Open c charts p page =
    let s = spend_of c.fuse in record { control = spent c s; charts = if_lands s (put_page charts p page) charts }

unfoldable pub paged : Control → List ℕ → ℕ → List ℕ → Paged
paged c charts p page = paged_if c.phase c charts p page
