-- What the functions over the active visits compute, as equations on the struct `Tables`.
use Rattle.std.specs.Prelude.{ℕ, suc, ◌≤◌, ◌<◌, ◌≡◌, Bool, false, not, ◌&&◌, ◌||◌, List, ◌++◌, map, length, take, drop, set, eqb}
use Rattle.book.specs.Lists.{keep, any, pad_to}
use Rattle.book.specs.Limits.{active_limit, scope_limit}
use Rattle.tables_model.specs.declared.Active.{Active}
use Rattle.tables_model.specs.declared.Tables.{Tables}
use Rattle.tables_model.specs.declared.Counts.{Counts}
use Rattle.tables_model.specs.Layout.{visits_length, actives}
use Rattle.tables_model.specs.Meaning.{vacant}

-- so many visits and so many scopes are within the arrays: all that the functions ask of counters of any origin
pub record InRange (m n : ℕ) : Type 0 where
  pub count : m ≤ active_limit
  pub used : n ≤ scope_limit

-- the places in use
abbrev pub listed : Tables → List Active
listed t = take t.count t.active

abbrev pub is_of : ℕ → Active → Bool
is_of v a = eqb a.visit.0 v

-- the visit is listed as active
unfoldable pub is_listed : Tables → ℕ → Bool
is_listed t v = any (is_of v) (listed t)

abbrev pub is_bearer : ℕ → Active → Bool
is_bearer v a = is_of v a && a.bears

-- the visit is listed, and an undo row bears it
unfoldable pub is_bearing : Tables → ℕ → Bool
is_bearing t v = any (is_bearer v) (listed t)

-- what a begin row needs: a vacant place, and the next visit's number
pub record Begins (t : Tables) (v : ℕ) : Type 0 where
  pub room : t.count < active_limit
  pub next : v ≡ suc t.begun

-- a begin row: the visit is put behind the last
unfoldable pub with_begun : Tables → ℕ → Tables
with_begun t v = record {
  begun = suc t.begun;
  active = set t.active t.count (record { visit = record { 0 = v }; bears = false });
  count = suc t.count;
  used = t.used;
}

abbrev pub marked : ℕ → Active → Active
marked v a = record { visit = a.visit; bears = is_of v a || a.bears }

-- an undo row bears the visit
unfoldable pub with_undo : Tables → ℕ → Tables
with_undo t v = record { begun = t.begun; active = map (marked v) (listed t) ++ drop t.count t.active; count = t.count; used = t.used }

-- the visits but v, compact again
abbrev pub others : ℕ → Tables → List Active
others v t = keep (λ a. not (is_of v a)) (listed t)

-- a commit or abort row; `used` is what the scope table has left
unfoldable pub with_ended : Tables → ℕ → ℕ → Tables
with_ended t v used = record { begun = t.begun; active = pad_to active_limit vacant (others v t); count = length (others v t); used = used }

abbrev pub with_used : Tables → ℕ → Tables
with_used t used = record { begun = t.begun; active = t.active; count = t.count; used = used }

-- ── The visits in their flat form ─────────────────────────────────────────────────────────────────────────────────────

-- the counters, and the flat visits beside them
abbrev pub tables_in : Counts → List ℕ → Tables
tables_in t vs = record { begun = t.begun; active = actives vs; count = t.count; used = t.used }

-- the visits but v stand in the first n places
pub record Without (t : Tables) (v n : ℕ) (places : List Active) : Type 0 where
  pub kept : take n places ≡ others v t
  pub count : n ≡ length (others v t)
  pub room : n ≤ active_limit

-- the flat visits have their length, and so many places lie within them
pub record Listed (size count : ℕ) : Type 0 where
  pub long : size ≡ visits_length
  pub within : count ≤ active_limit

-- the flat visits have their length, and a begin row has what it needs
pub record MayBegin (t : Counts) (vs : List ℕ) (v : ℕ) : Type 0 where
  pub long : length vs ≡ visits_length
  pub begins : Begins (tables_in t vs) v

-- the flat visits have their length, and place i lies within them
pub record Placed (size i : ℕ) : Type 0 where
  pub long : size ≡ visits_length
  pub below : i < active_limit
