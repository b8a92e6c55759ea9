-- What the parts of an accepted call come to: a row with the tables after it, a force, a take-back, a flush. Assumes nothing.
use Prim.Native.Nat.{ℕ, suc}
use mathlib.Core.Path.{◌≡◌, refl, ap}
use mathlib.Core.Bool.{Bool, true, false, cond}
use mathlib.Core.List.{List}
use lib.IntN.{ℤ}
use Rattle.book.specs.Rows.{Row, effect, nothing}
use Rattle.book.specs.Calls.{Call}
use Rattle.book.specs.Pages.{page_at}
use Rattle.tables_model.specs.declared.Whom.TheVariants.{One}
use Rattle.tables_model.specs.declared.Tables.{Tables}
use Rattle.tables_model.specs.Visits.{with_begun}
use Rattle.tables_model.specs.Rows.{Index, after_change, after_end}
use Rattle.charts.specs.Moves.{charts_moved}
use Rattle.journal.specs.Journal.{Journal, appended, forced, forced_up_to, Paged, paged}
use Rattle.wal.specs.Writing.{Ram, row_count, is_running, written}
use Rattle.wal.specs.TakeBack.{Taking, fall_all}
use Rattle.calls_model.specs.Acts.{Core, flush_count, acted}

-- the parts of what a call works on
abbrev pub index_in : Core → Index
index_in x = record { tables = x.tables; scopes = x.scopes }

abbrev pub assembled : Ram → List ℕ → Index → Core
assembled m charts i = record { ram = m; charts = charts; tables = i.tables; scopes = i.scopes }

-- a row that changes no cell is written where it is appended
not-applied : (m : Ram) (r : Row) → effect r ≡ nothing → (j : Journal) → j ≡ appended m.journal r → record { journal = j; copy = m.copy } ≡ written m r
unfolding written charts_moved
not-applied m r e j is = rw (is, e) (ap (λ (c : List ℕ). record { journal = appended m.journal r; copy = c }) (go (is_running (appended m.journal r))))
  where
    go : (t : Bool) → m.copy ≡ cond t m.copy m.copy
    go true = refl
    go false = refl

module _ (x : Core) where
  abbrev next : ℕ
  next = suc (row_count x.ram.journal)

  pub begins : (m : Ram) (t : Tables) (j : Journal) → let v = suc x.tables.begun in m ≡ written x.ram (Row.begin v) → t ≡ with_begun x.tables v
      → j ≡ forced m.journal → record { ram = record { journal = j; copy = m.copy }; charts = x.charts; tables = t; scopes = x.scopes } ≡ acted x Call.begin
  unfolding acted
  begins m t j p q e = rw (e, p, q)

  pub changes : (v c : ℕ) (a : ℤ) (m : Ram) (i : Index) → m ≡ written x.ram (Row.change v c a) → i ≡ after_change (index_in x) next v c
      → assembled m x.charts i ≡ acted x (Call.change v c a)
  unfolding acted
  changes v c a m i p q = rw (p, q)

  pub commits : (v : ℕ) (m : Ram) (i : Index) (j : Journal) → i ≡ after_end (index_in x) v → m ≡ written x.ram (Row.commit v) → j ≡ forced m.journal
      → assembled (record { journal = j; copy = m.copy }) x.charts i ≡ acted x (Call.commit v)
  unfolding acted
  commits v m i j q p e = rw (e, p, q)

  -- the abort row changes no cell
  pub aborts : (v : ℕ) (t : Taking) (j : Journal) (i : Index)
      → t ≡ fall_all (row_count x.ram.journal) (One (record { 0 = v })) x.tables.used (record { ram = x.ram; scopes = x.scopes })
      → i ≡ after_end (record { tables = x.tables; scopes = t.scopes }) v → j ≡ appended t.ram.journal (Row.abort v)
      → assembled (record { journal = j; copy = t.ram.copy }) x.charts i ≡ acted x (Call.abort v)
  unfolding acted
  aborts v t j i e q p = rw (not-applied t.ram (Row.abort v) refl j p, q, e)

  pub flushes : (p m : ℕ) (j : Journal) (g : Paged) → m ≡ flush_count x p → j ≡ forced_up_to m x.ram.journal
      → g ≡ paged j.control x.charts p (page_at x.ram.copy p)
      → record {
        ram = record { journal = record { control = g.control; log = j.log; tail = j.tail }; copy = x.ram.copy };
        charts = g.charts;
        tables = x.tables;
        scopes = x.scopes;
      }
      ≡ acted x (Call.flush p)
  unfolding acted
  flushes p m j g a b e = rw (e, b, a)

  pub forces : (j : Journal) → j ≡ forced x.ram.journal
      → record { ram = record { journal = j; copy = x.ram.copy }; charts = x.charts; tables = x.tables; scopes = x.scopes } ≡ acted x Call.force
  unfolding acted
  forces j e = rw e

  pub reads : (c : ℕ) → x ≡ acted x (Call.read c)
  unfolding acted
  reads c = refl
