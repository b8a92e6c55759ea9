-- The writer's fields, and their places in a row's 16 bytes.
use Rattle.std.specs.Prelude.{ℕ, ◌/◌, ◌%◌, List, [], ◌∷◌}
use Rattle.book.specs.Numbers.{bits_of}
use Rattle.rows.specs.declared.Row.{Row}
use Rattle.rows.specs.declared.Row.TheVariants.{Begin, Change, HandOver, Undo, Commit, Abort, HandOverAll}
use Rattle.rows.specs.declared.writer.Fields.{Fields}

-- a row's fields, with zeros for those that its kind lacks
abbrev pub fields_of : Row → Fields
fields_of (Begin v) = record { kind = 1; visit = v.0; receiver = 0; cell = 0; undone = 0; change = 0 }
fields_of (Change v c a) = record { kind = 2; visit = v.0; receiver = 0; cell = c.0; undone = 0; change = bits_of 16 a }
fields_of (HandOver g r c) = record { kind = 3; visit = g.0; receiver = r.0; cell = c.0; undone = 0; change = 0 }
fields_of (Undo h c n a) = record { kind = 4; visit = h.0; receiver = 0; cell = c.0; undone = n.0; change = bits_of 16 a }
fields_of (Commit v) = record { kind = 5; visit = v.0; receiver = 0; cell = 0; undone = 0; change = 0 }
fields_of (Abort v) = record { kind = 6; visit = v.0; receiver = 0; cell = 0; undone = 0; change = 0 }
fields_of (HandOverAll g r) = record { kind = 7; visit = g.0; receiver = r.0; cell = 0; undone = 0; change = 0 }

-- all fields at their places, for row n
abbrev pub field_bytes : Fields → ℕ → List ℕ
field_bytes f n =
    f.kind ∷ f.visit % 256 ∷ f.receiver % 256 ∷ f.cell ∷ n % 256 ∷ n / 256 % 256 ∷ f.undone % 256 ∷ f.undone / 256 % 256 ∷
    f.change % 256 ∷ f.change / 256 % 256 ∷ f.visit / 256 % 256 ∷ f.receiver / 256 % 256 ∷ 0 ∷ 0 ∷ 0 ∷ 0 ∷ []
