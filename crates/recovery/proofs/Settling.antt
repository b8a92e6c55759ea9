-- What an opening comes to at its end: refused, with RAM zero, or ready. Assumes nothing.
use Rattle.std.proofs.Common.{◌≡◌, ℕ, ◌+◌, ◌-◌, ◌≤◌, List, Ok, replicate, refl, ◌∙◌, inl, inr, arith}
use Rattle.book.specs.Writes.{Few}
use Rattle.state.specs.declared.answers.Done.TheVariants.{Wrote}
use Rattle.state.specs.declared.ram.Phase.TheVariants.{Open}
use Rattle.state.specs.Answers.{Case, number_and_value, rows_and_pages, written, refusal, case_of}
use Rattle.state.specs.World.{cleared}
use Rattle.state.specs.CallContracts.{Answered}
use Rattle.tables_model.specs.Layout.{visits_length, flat_length}
use Rattle.tables.proofs.Flat.{entries-zero}
use Rattle.tables.proofs.Places.{actives-zero}
use Rattle.journal.specs.declared.Control.{Control}
use Rattle.journal.specs.declared.Outcome.{Outcome}
use Rattle.journal.specs.Outcomes.{Zeroed}
use Rattle.wal.specs.Writing.{ram}
use Rattle.wal.proofs.Clearing.{zeroed-outcome}
use Rattle.recovery_model.specs.Answering.{OpenOutcome}
use Rattle.recovery_model.specs.Openings.{settled_opening}

-- an array of a known length that is all zeros
pub zeros : (n m : ℕ) → n ≡ m → replicate {A = ℕ} n 0 ≡ replicate m 0
zeros n m e = rw e

-- RAM is cleared, and log and charts are as they are
pub opening-refused : (x : Answered) (r : Outcome) (log charts copy tail visits scopes : List ℕ) → case_of r.answer ≡ refusal
    → Zeroed r copy tail visits scopes → Few (rows_and_pages r.writes) → record { answer = number_and_value r.answer; world = cleared log charts; writes = rows_and_pages r.writes } ≡ x
    → OpenOutcome x r log charts copy tail visits scopes
opening-refused x r log charts copy tail visits scopes e z few is = record {
  is = zeroed-outcome r log charts copy tail visits scopes z ∙ is;
  case = inr e;
  refused = λ f. z;
  bounded = rw (z.control, z.counts) (record { stored = omega arith; waiting = omega arith; count = omega arith; used = omega arith });
  few = few;
}

no-refusal : ◌≡◌ {A = Case} written refusal → ⊥
no-refusal e = let z : ◌≡◌ {A = ℕ} 0 1 = cc in omega arith

-- what a ready opening gives back
abbrev pub ready : Control → ℕ → ℕ → ℕ → Outcome
ready c begun n rows = record {
  answer = Ok (Wrote n);
  control = c;
  counts = record { begun = begun; count = 0; used = 0 };
  writes = record { rows = rows; pages = 0 };
}

pub opening-ready : (c : Control) (rows begun n landed : ℕ) (log charts copy tail visits scopes : List ℕ) → c.phase ≡ Open
    → c.waiting ≤ 64 → c.stored + c.waiting ≤ 4096 → n ≡ c.stored + c.waiting - rows → landed ≡ c.stored - rows
    → visits ≡ replicate visits_length 0 → scopes ≡ replicate flat_length 0
    → OpenOutcome (settled_opening rows begun (ram c log tail copy) charts) (ready c begun n landed) log charts copy tail visits scopes
unfolding settled_opening
opening-ready c rows begun n landed log charts copy tail visits scopes o w k e l v s = record {
  is = rw (o, e, l, v, s, actives-zero 32 refl, entries-zero 448 refl);
  case = inl refl;
  refused = λ f. absurd (no-refusal f);
  bounded = record { stored = omega arith; waiting = w; count = omega arith; used = omega arith };
  few = (omega arith, omega arith);
}
