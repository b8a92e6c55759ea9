-- 02, L3: the contract of the function for C that redoes one page alone. It is no call: it is lent no RAM and stores nothing.
use Rattle.std.specs.Prelude.{ℕ, ◌≡◌, List}
use Rattle.book.specs.Writes.{no_writes}
use Rattle.recovery_model.specs.PageAlone.{redone_alone}
use Rattle.embed_model.specs.Packed.{answer_in, writes_in}

-- `chart_redo_page`, lent a log and the bytes of the page of this number
pub record RedoesOfC (log : List ℕ) (number : ℕ) (given : List ℕ) (r : ℕ) (leaves : List ℕ) : Type 0 where
  pub does : redone_alone log number given ≡ record { answer = answer_in r; page = leaves }
  pub writes : writes_in r ≡ no_writes
