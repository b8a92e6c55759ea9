-- Allowed logs and their first parts: a log is allowed when its first part is and the rest is after that.
use mathlib.Core.Path.{◌≡◌, refl, ap, sym, ◌∙◌}
use mathlib.Core.Bool.{Bool, true, ◌&&◌, and_assoc}
use mathlib.Core.List.{List, [], ◌∷◌, ◌++◌}
use Rattle.book.specs.Lists.{foldl, StartsWith}
use Rattle.book.specs.Rows.{Row}
use Rattle.book.specs.Ledger.{Ledger, empty, after, ledger}
use Rattle.book.specs.Rules.{allowed, all_allowed, allowed_log}
use Rattle.book.proofs.Lists.{and_l, and_r, foldl-append}

pub allowed-append : (l : Ledger) (xs ys : List Row) → all_allowed l (xs ++ ys) ≡ (all_allowed l xs && all_allowed (foldl after l xs) ys)
allowed-append l [] ys = refl
allowed-append l (x ∷ xs) ys = ap (λ (t : Bool). allowed l x && t) (allowed-append (after l x) xs ys) ∙ sym (and_assoc (allowed l x) _ _)

-- what the rows come to, one part after the other
pub ledger-append : (xs ys : List Row) → ledger (xs ++ ys) ≡ foldl after (ledger xs) ys
ledger-append xs ys = foldl-append after empty xs ys

module _ (rs later : List Row) (p : StartsWith rs later) (e : allowed_log later ≡ true) where
  parts : (all_allowed empty rs && all_allowed (ledger rs) p.0) ≡ true
  parts = sym (ap allowed_log p.1 ∙ allowed-append empty rs p.0) ∙ e

  -- the first part of an allowed log is allowed
  pub allowed-start : allowed_log rs ≡ true
  allowed-start = and_l (allowed_log rs) _ parts

  -- and so is the rest after it
  pub allowed-rest : all_allowed (ledger rs) p.0 ≡ true
  allowed-rest = and_r (allowed_log rs) _ parts

  pub ledger-later : ledger later ≡ foldl after (ledger rs) p.0
  ledger-later = ap ledger p.1 ∙ ledger-append rs p.0
