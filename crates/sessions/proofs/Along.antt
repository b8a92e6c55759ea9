-- Along the steps of the sessions: after any number of them the store's values stand for the book, and the host and the contracts go on from there.
use Prim.Native.Nat.{ℕ, suc}
use mathlib.Core.Path.{◌≡◌, refl, ap, ap₂, ◌∙◌}
use mathlib.Core.Bool.{Bool, cond, true, false}
use mathlib.Core.List.{List, [], ◌∷◌, ◌++◌, map, map-append}
use lib.IntN.{ℤ}
use lib.ListN.{length}
use Rattle.book.specs.Writes.{Writes}
use Rattle.book.specs.SessionWrites.{writes, flush_done, flushes_done}
use Rattle.sessions.specs.Demand3.{is_flush_done}
use Rattle.book.specs.Lists.{foldl, keep}
use Rattle.book.specs.Power.{Book}
use Rattle.book.specs.Book.{Answer}
use Rattle.book.specs.Events.{Event, happens, answers, book_after}
use Rattle.book.proofs.Sound.{TypedEvents}
use Rattle.book.proofs.Pages.{Bounded}
use Rattle.state.specs.World.{World}
use Rattle.sessions.specs.Host.{Step, opened, called, answer_of, event_of, world_after, world_after_all, calls_follow, Host, Contracts, writes_of}
use Rattle.sessions.proofs.Held.{Held, ByBook, step, step-writes}

-- the calls' arguments fit their types
pub typed : (own : World) (follow : Bool) (xs ys : List Step) → Host own follow (xs ++ ys) → TypedEvents (map event_of xs)
typed own follow [] ys h = tt
typed own follow (opened o ∷ xs) ys h = (tt, typed (world_after own (opened o)) (calls_follow follow (opened o)) xs ys h.1)
typed own follow (called c ∷ xs) ys h = (h.0.1, typed (world_after own (called c)) (calls_follow follow (called c)) xs ys h.1)

-- the book after some events and then others
pub book-then : (cells : ℕ → ℤ) (b : Book) (xs ys : List Event) → book_after cells b (xs ++ ys) ≡ book_after cells (book_after cells b xs) ys
book-then cells b [] ys = refl
book-then cells b (x ∷ xs) ys = book-then cells (happens cells b x).book xs ys

-- and after some steps and then others
pub book-append : (cells : ℕ → ℤ) (b : Book) (xs ys : List Step)
    → book_after cells b (map event_of (xs ++ ys)) ≡ book_after cells (book_after cells b (map event_of xs)) (map event_of ys)
book-append cells b xs ys = ap (book_after cells b) (map-append event_of xs ys) ∙ book-then cells b (map event_of xs) (map event_of ys)

-- what holds before the steps `ss`
pub record At (cells : ℕ → ℤ) (b : Book) (own : World) (follow : Bool) (ss : List Step) : Type 0 where
  pub held : Held cells b own follow
  pub host : Host own follow ss
  pub contracts : Contracts ss

module _ (cells : ℕ → ℤ) (small : Bounded 1000000 cells) where
  -- the next step
  pub first : (b : Book) (own : World) (follow : Bool) (s : Step) (ss : List Step) → At cells b own follow (s ∷ ss)
      → ByBook cells (happens cells b (event_of s)) (answer_of s) (world_after own s) (calls_follow follow s)
  first b own follow s ss a = step cells small b own follow a.held s a.host.0 a.contracts.0

  rest : (b : Book) (own : World) (follow : Bool) (s : Step) (ss : List Step) → At cells b own follow (s ∷ ss)
      → At cells (happens cells b (event_of s)).book (world_after own s) (calls_follow follow s) ss
  rest b own follow s ss a = record { held = (first b own follow s ss a).held; host = a.host.1; contracts = a.contracts.1 }

  -- what holds before the steps holds after the first of them
  pub reach : (xs ys : List Step) (b : Book) (own : World) (follow : Bool) → At cells b own follow (xs ++ ys)
      → At cells (book_after cells b (map event_of xs)) (world_after_all own xs) (foldl calls_follow follow xs) ys
  reach [] ys b own follow a = a
  reach (x ∷ xs) ys b own follow a =
      reach xs ys (happens cells b (event_of x)).book (world_after own x) (calls_follow follow x) (rest b own follow x (xs ++ ys) a)

  -- each answer is the book's
  pub answered : (ss : List Step) (b : Book) (own : World) (follow : Bool) → At cells b own follow ss → map answer_of ss ≡ answers cells b (map event_of ss)
  answered [] b own follow a = refl
  answered (s ∷ ss) b own follow a =
      ap₂ (λ (x : Answer) (xs : List Answer). x ∷ xs) (first b own follow s ss a).answers
      (answered ss (happens cells b (event_of s)).book (world_after own s) (calls_follow follow s) (rest b own follow s ss a))

  -- and so are the counts of stored writes
  pub step_counts : (ss : List Step) (b : Book) (own : World) (follow : Bool) → At cells b own follow ss → map writes_of ss ≡ writes cells b (map event_of ss)
  step_counts [] b own follow a = refl
  step_counts (s ∷ ss) b own follow a =
      ap₂ (λ (x : Writes) (xs : List Writes). x ∷ xs) (step-writes cells small b own follow a.held s a.host.0 a.contracts.0)
      (step_counts ss (happens cells b (event_of s)).book (world_after own s) (calls_follow follow s) (rest b own follow s ss a))

  -- the flushes that are done by the answers are those that are done by the book
  pub flushes-counted : (ss : List Step) (b : Book) (own : World) (follow : Bool) → At cells b own follow ss
      → length (keep is_flush_done ss) ≡ flushes_done cells b (map event_of ss)
  flushes-counted [] b own follow a = refl
  flushes-counted (s ∷ ss) b own follow a =
      let more = flushes-counted ss (happens cells b (event_of s)).book (world_after own s) (calls_follow follow s) (rest b own follow s ss a) in
      length-cond (is_flush_done s) s (keep is_flush_done ss) ∙
      ap₂ (λ (x : Answer) (n : ℕ). cond (flush_done (event_of s) x.number) (suc n) n) (first b own follow s ss a).answers more
    where
      length-cond : (t : Bool) (x : Step) (xs : List Step) → length (cond t (x ∷ xs) xs) ≡ cond t (suc (length xs)) (length xs)
      length-cond true x xs = refl
      length-cond false x xs = refl

  -- the first of the steps, where more follow
  pub at_first : (xs ys : List Step) (b : Book) (own : World) (follow : Bool) → At cells b own follow (xs ++ ys) → At cells b own follow xs
  at_first [] ys b own follow a = record { held = a.held; host = tt; contracts = tt }
  at_first (x ∷ xs) ys b own follow a =
      let more = at_first xs ys (happens cells b (event_of x)).book (world_after own x) (calls_follow follow x) (rest b own follow x (xs ++ ys) a) in
      record { held = a.held; host = (a.host.0, more.host); contracts = (a.contracts.0, more.contracts) }
