-- What was handed over and survives, in 01's example: visit 1 takes 200 g from cell 0, hands the cell to visit 2 and aborts, and visit 2 commits. And where visit 1
-- hands over all it holds and aborts after that commit. Sessions with these events occur after every format that is done.
use Prim.Native.Nat.{ℕ}
use native.Mathlib.Omega.{arith}
use mathlib.Core.Path.{◌≡◌, refl, ap, sym, ◌∙◌, subst}
use mathlib.Core.Bool.{true, false}
use mathlib.Core.Logic.{inl, inr}
use mathlib.Core.List.{List, [], ◌∷◌, ◌++◌, map, head-eq_of_cons-eq, tail-eq_of_cons-eq}
use lib.ListN.{get_or, take, drop}
use lib.IntN.{ℤ, negsuc, ◌+ℤ◌}
use Rattle.book.specs.Lists.{any}
use Rattle.book.specs.Rows.{Row}
use Rattle.book.specs.Ledger.{Change, given}
use Rattle.book.specs.Cells.{kept_sum}
use Rattle.book.specs.Calls.{Call}
use Rattle.book.specs.Power.{none, left, rows_of, formatted}
use Rattle.book.specs.Book.{Answer}
use Rattle.book.specs.Events.{Event, opens, calls, answers, book_after}
use Rattle.book.specs.Pages.{cell_of}
use Rattle.book.specs.Logs.{Logged, InSum}
use Rattle.book.proofs.Lists.{here}
use Rattle.book.proofs.WorkedExamples.{computes}
use Rattle.book.proofs.Example.{example}
use Rattle.state.specs.World.{World}
use Rattle.state.specs.CallContracts.{answered_by, cells_of}
use Rattle.sessions.specs.Host.{Opening, Called, Step, opened, called, steps, answer_of, event_of, world_after_all, Host}
use Rattle.sessions.specs.Demand3.{book_of, log_of, Holds}
use Rattle.sessions.specs.Made.{FormatCall, Made, session_of, Demand3OfCalls}
use Rattle.sessions.specs.Survives.{gave, HandedOver, Survives, HandedOverSurvivesOfCalls}
use Rattle.sessions.specs.EveryList.{SessionsOfCalls, EveryListOfCalls}
use Rattle.sessions.proofs.Made.{demand-3-of-calls}
use Rattle.sessions.proofs.Places.{no-events, no-opening}
use Rattle.sessions.proofs.Survives.{handed-over-survives-of-calls}
use Rattle.sessions.proofs.EveryListMade.{every-list-of-calls}
use Rattle.sessions.proofs.UsesOfDemand3.{nth, asked_in, made, handed, kept_rows, kept, event, number, log-end, kept-cells}

-- ── Visit 1 hands the cell over and aborts, visit 2 commits ───────────────────────────────────────────────────────────

held-by-1 : (cells : ℕ → ℤ) → Logged (rows_of (book_after cells formatted (take 4 (example (left 6))))) made
unfolding computes
held-by-1 cells = here

kept-in-the-end : (cells : ℕ → ℤ) → (book_after cells formatted (example (left 6))).stored ≡ kept_rows
unfolding computes
kept-in-the-end cells = refl

-- an abort is no hand-over
abort-gives-nothing : (s : Called) (v : ℕ) → s.call ≡ Call.abort v → any (gave 2 0) (called s ∷ []) ≡ false
abort-gives-nothing s v e = rw e

module _ (cells : ℕ → ℤ) (own : World) (o : Opening) (one two ch ho ab co : Called) (o' : Opening) (rd : Called) where
  module _ (are : map event_of (kept cells own o one two ch ho ab co o' rd) ≡ example (left 6)) (h : Holds cells own (kept cells own o one two ch ho ab co o' rd)) where
    abbrev ss : List Step
    ss = kept cells own o one two ch ho ab co o' rd

    at : (n : ℕ) → nth (map event_of ss) n ≡ nth (example (left 6)) n
    at n = event cells own o one two ch ho ab co o' rd are h n

    abbrev handed_then_aborted : HandedOver 1 2 0 ss
    handed_then_aborted = record {
      before = take 4 ss;
      hand_over = ho;
      between = called ab ∷ [];
      commit = co;
      later = drop 7 ss;
      are = refl;
      hands = inl (ap asked_in (at 4));
      handed = number cells own o one two ch ho ab co o' rd are h 4;
      one_session = (refl, tt);
      holds = abort-gives-nothing ab 1 (ap asked_in (at 5));
      commits = ap asked_in (at 6);
      committed = number cells own o one two ch ho ab co o' rd are h 6;
    }

    -- the change is in the sum in the end, after another opening
    pub survives-the-abort : Survives cells ss → InSum kept_rows handed
    survives-the-abort s = subst (λ (l : List Row). InSum l handed) (log-end cells own o one two ch ho ab co o' rd are h)
        (s 1 2 0 handed_then_aborted made
        (subst (λ (es : List Event). Logged (rows_of (book_after cells formatted (take 4 es))) made) (sym are) (held-by-1 cells)) refl refl (drop 7 ss) [] refl)

-- ── Visit 1 hands over all it holds, visit 2 commits, visit 1 aborts ──────────────────────────────────────────────────

abbrev pub whole_events : List Event
whole_events =
    opens true none ∷ calls true Call.begin ∷ calls true Call.begin ∷ calls true (Call.change 1 0 (negsuc 199)) ∷ calls true (Call.hand_over_all 1 2) ∷
    calls true (Call.commit 2) ∷ calls true (Call.abort 1) ∷ opens true none ∷ []

abbrev pub whole_rows : List Row
whole_rows = Row.begin 1 ∷ Row.begin 2 ∷ Row.change 1 0 (negsuc 199) ∷ Row.hand_over_all 1 2 ∷ Row.commit 2 ∷ Row.abort 1 ∷ []

module _ (cells : ℕ → ℤ) where
  whole_numbers : map (λ (a : Answer). a.number) (answers cells formatted whole_events) ≡ 0 ∷ 0 ∷ 0 ∷ 0 ∷ 0 ∷ 0 ∷ 0 ∷ 0 ∷ []
  unfolding computes
  whole_numbers = refl

  whole-stored : (book_after cells formatted whole_events).stored ≡ whole_rows
  unfolding computes
  whole-stored = refl

  whole_sum : kept_sum cells whole_rows 0 ≡ cells 0 +ℤ negsuc 199
  unfolding computes kept_sum
  whole_sum = refl

  whole-held : Logged (rows_of (book_after cells formatted (take 4 whole_events))) made
  unfolding computes
  whole-held = here

module _ (cells : ℕ → ℤ) (own : World) (o : Opening) (one two ch ho co ab : Called) (o' : Opening) where
  abbrev pub whole : List Step
  whole = opened o ∷ called one ∷ called two ∷ called ch ∷ called ho ∷ called co ∷ called ab ∷ opened o' ∷ []

  module _ (are : map event_of whole ≡ whole_events) (h : Holds cells own whole) where
    its : (n : ℕ) → nth (map event_of whole) n ≡ nth whole_events n
    its n = ap (λ (es : List Event). nth es n) are

    done_at : (n : ℕ) → get_or (map (λ (a : Answer). a.number) (map answer_of whole)) n 1 ≡ get_or (0 ∷ 0 ∷ 0 ∷ 0 ∷ 0 ∷ 0 ∷ 0 ∷ 0 ∷ []) n 1
    done_at n = ap (λ (l : List ℕ). get_or l n 1)
        (ap (map (λ (a : Answer). a.number)) (h.answers ∙ ap (answers cells formatted) are) ∙ whole_numbers cells)

    log-whole : log_of cells whole ≡ whole_rows
    log-whole = ap (λ (es : List Event). (book_after cells formatted es).stored) are ∙ whole-stored cells

    pub whole-cell : cell_of (world_after_all own whole).copy 0 ≡ cells 0 +ℤ negsuc 199
    whole-cell = h.sums (take 7 whole) [] o' refl (done_at 7) 0 (omega arith) ∙ ap (λ (l : List Row). kept_sum cells l 0) log-whole ∙ whole_sum cells

    abbrev whole_then_aborted : HandedOver 1 2 0 whole
    whole_then_aborted = record {
      before = take 4 whole;
      hand_over = ho;
      between = [];
      commit = co;
      later = drop 6 whole;
      are = refl;
      hands = inr (ap asked_in (its 4));
      handed = done_at 4;
      one_session = tt;
      holds = refl;
      commits = ap asked_in (its 5);
      committed = done_at 5;
    }

    -- the change is in the sum in the end, after the abort and another opening
    pub survives-a-later-abort : Survives cells whole → InSum whole_rows handed
    survives-a-later-abort s =
        subst (λ (l : List Row). InSum l handed) log-whole
        (s 1 2 0 whole_then_aborted made
        (subst (λ (es : List Event). Logged (rows_of (book_after cells formatted (take 4 es))) made) (sym are) (whole-held cells)) refl refl (drop 6 whole) [] refl)

-- ── Both occur ────────────────────────────────────────────────────────────────────────────────────────────────────────

-- steps by their events: an opening or a call, then the rest
abbrev Shape : List Event → List Step → Type 0
Shape [] ss = ss ≡ []
Shape (opens lengths f ∷ es) ss = (o : Opening) × (rest : List Step) × (ss ≡ opened o ∷ rest) × Shape es rest
Shape (calls lengths k ∷ es) ss = (c : Called) × (rest : List Step) × (ss ≡ called c ∷ rest) × Shape es rest

shape : (es : List Event) (ss : List Step) → map event_of ss ≡ es → Shape es ss
shape [] [] e = refl
shape [] (s ∷ ss) e = no-events (sym e)
shape (x ∷ es) [] e = no-events e
shape (opens lengths f ∷ es) (opened o ∷ ss) e = (o, ss, refl, shape es ss (tail-eq_of_cons-eq e))
shape (opens lengths f ∷ es) (called c ∷ ss) e = no-opening (sym (head-eq_of_cons-eq e))
shape (calls lengths k ∷ es) (opened o ∷ ss) e = no-opening (head-eq_of_cons-eq e)
shape (calls lengths k ∷ es) (called c ∷ ss) e = (c, ss, refl, shape es ss (tail-eq_of_cons-eq e))

abbrev built : (es : List Event) (ss : List Step) → Shape es ss → List Step
built [] ss s = []
built (opens lengths f ∷ es) ss s = opened s.0 ∷ built es s.1 s.3
built (calls lengths k ∷ es) ss s = called s.0 ∷ built es s.1 s.3

is-built : (es : List Event) (ss : List Step) (s : Shape es ss) → ss ≡ built es ss s
is-built [] ss s = s
is-built (opens lengths f ∷ es) ss s = s.2 ∙ ap (λ (l : List Step). opened s.0 ∷ l) (is-built es s.1 s.3)
is-built (calls lengths k ∷ es) ss s = s.2 ∙ ap (λ (l : List Step). called s.0 ∷ l) (is-built es s.1 s.3)

-- sessions made with the public functions in which this happens, what is in their sum in the end, and cell 0 after the second opening
pub record Happens (format : FormatCall) (es : List Event) (rs : List Row) : Type 0 where
  pub sessions : SessionsOfCalls (answered_by format.return).world es
  pub over : HandedOver 1 2 0 (steps (map session_of sessions.sessions))
  pub log : log_of (cells_of format.cells) (steps (map session_of sessions.sessions)) ≡ rs
  pub sum : InSum rs handed
  pub cell : cell_of (world_after_all (answered_by format.return).world (take 8 (steps (map session_of sessions.sessions)))).copy 0 ≡
      cells_of format.cells 0 +ℤ negsuc 199

module _ (format : FormatCall) (done : (answered_by format.return).answer.number ≡ 0) where
  abbrev formatted_cells : ℕ → ℤ
  formatted_cells = cells_of format.cells

  abbrev own_world : World
  own_world = (answered_by format.return).world

  all_hold : (s : List Made) → Host own_world true (steps (map session_of s)) → Holds formatted_cells own_world (steps (map session_of s))
  unfolding Demand3OfCalls
  all_hold s host = demand-3-of-calls format done s host

  they-survive : (s : List Made) → Host own_world true (steps (map session_of s)) → Survives formatted_cells (steps (map session_of s))
  unfolding HandedOverSurvivesOfCalls
  they-survive s host = handed-over-survives-of-calls format done s host

  pub example-happens : Happens format (example (left 6)) kept_rows
  unfolding EveryListOfCalls
  example-happens =
      let l = every-list-of-calls format done true (left 6) (drop 1 (example (left 6))) (tt, (tt, (tt, (tt, (tt, (tt, (tt, (tt, tt)))))))) in
      let ss = steps (map session_of l.sessions) in
      let s = shape (example (left 6)) ss l.events in
      let q = is-built (example (left 6)) ss s in
      let two-on = s.3.3.3 in
      let end = two-on.3.3.3.3 in
      let h = subst (Holds formatted_cells own_world) q (all_hold l.sessions l.host) in
      let e = subst (λ (x : List Step). map event_of x ≡ example (left 6)) q l.events in
      record {
        sessions = l;
        over = subst (HandedOver 1 2 0) (sym q) (handed_then_aborted formatted_cells own_world s.0 s.3.0 s.3.3.0 two-on.0 two-on.3.0 two-on.3.3.0 two-on.3.3.3.0 end.0 end.3.0 e h);
        log = ap (λ (es : List Event). (book_after formatted_cells formatted es).stored) l.events ∙ kept-in-the-end formatted_cells;
        sum = survives-the-abort formatted_cells own_world s.0 s.3.0 s.3.3.0 two-on.0 two-on.3.0 two-on.3.3.0 two-on.3.3.3.0 end.0 end.3.0 e h
            (subst (Survives formatted_cells) q (they-survive l.sessions l.host));
        cell = subst (λ (x : List Step). cell_of (world_after_all own_world (take 8 x)).copy 0 ≡ formatted_cells 0 +ℤ negsuc 199) (sym q)
            (kept-cells formatted_cells own_world s.0 s.3.0 s.3.3.0 two-on.0 two-on.3.0 two-on.3.3.0 two-on.3.3.3.0 end.0 end.3.0 e h).0;
      }

  pub whole-visit-happens : Happens format whole_events whole_rows
  unfolding EveryListOfCalls
  whole-visit-happens =
      let l = every-list-of-calls format done true none (drop 1 whole_events) (tt, (tt, (tt, (tt, (tt, (tt, (tt, tt))))))) in
      let ss = steps (map session_of l.sessions) in
      let s = shape whole_events ss l.events in
      let q = is-built whole_events ss s in
      let two-on = s.3.3.3 in
      let h = subst (Holds formatted_cells own_world) q (all_hold l.sessions l.host) in
      let e = subst (λ (x : List Step). map event_of x ≡ whole_events) q l.events in
      record {
        sessions = l;
        over = subst (HandedOver 1 2 0) (sym q) (whole_then_aborted formatted_cells own_world s.0 s.3.0 s.3.3.0 two-on.0 two-on.3.0 two-on.3.3.0 two-on.3.3.3.0 two-on.3.3.3.3.0 e h);
        log = ap (λ (es : List Event). (book_after formatted_cells formatted es).stored) l.events ∙ whole-stored formatted_cells;
        sum = survives-a-later-abort formatted_cells own_world s.0 s.3.0 s.3.3.0 two-on.0 two-on.3.0 two-on.3.3.0 two-on.3.3.3.0 two-on.3.3.3.3.0 e h
            (subst (Survives formatted_cells) q (they-survive l.sessions l.host));
        cell = subst (λ (x : List Step). cell_of (world_after_all own_world (take 8 x)).copy 0 ≡ formatted_cells 0 +ℤ negsuc 199) (sym q)
            (whole-cell formatted_cells own_world s.0 s.3.0 s.3.3.0 two-on.0 two-on.3.0 two-on.3.3.0 two-on.3.3.3.0 two-on.3.3.3.3.0 e h);
      }

-- ── What the giver had received itself ────────────────────────────────────────────────────────────────────────────────

-- a change that visit 1 made, that visit 2 has received, and that it hands on to visit 3: it is the holder that counts, and not the maker
pub received-survives : (cells : ℕ → ℤ) (ss : List Step) → Survives cells ss → (h : HandedOver 2 3 0 ss)
    → (x : Change) → Logged (rows_of (book_of cells h.before)) x → x.maker ≡ 1 → x.holder ≡ 2 → x.cell ≡ 0
    → InSum (log_of cells (h.before ++ (called h.hand_over ∷ (h.between ++ (called h.commit ∷ []))))) (given 3 x)
received-survives cells ss said h x l by-1 held cell = said 2 3 0 h x l held cell [] h.later refl
