-- Demand 3 (document 00) of every list of sessions, from the contracts of format, open and the other calls.
use Prim.Native.Nat.{ℕ, ◌<◌}
use mathlib.Core.Path.{◌≡◌, ap, ap₂, sym, ◌∙◌, subst}
use mathlib.Core.Bool.{Bool, true, false}
use mathlib.Core.Logic.{◌↔◌, ◌≢◌}
use mathlib.Core.List.{List, [], ◌∷◌, ◌++◌, map, append_assoc}
use lib.ListN.{length}
use lib.IntN.{ℤ}
use Rattle.book.proofs.SessionWrites.{session-counts, stretch-counts}
use Rattle.book.specs.Writes.{Writes}
use Rattle.book.specs.SessionWrites.{writes, summed, NoStart, flushes_done, SessionCounts, StretchCounts}
use Rattle.book.specs.Lists.{StartsWith, any, foldl, keep}
use Rattle.book.specs.Limits.{cell_limit}
use Rattle.book.specs.Pages.{cell_of, page_bytes, page_after}
use Rattle.book.specs.Rows.{Row}
use Rattle.book.specs.Ledger.{Change, ledger}
use Rattle.book.specs.Cells.{is_kept, kept_sum}
use Rattle.book.specs.Calls.{Call}
use Rattle.book.specs.Power.{Book, PowerHolds, rows_of, formatted}
use Rattle.book.specs.Book.{Answer, Outcome, answer, closing, call, opening}
use Rattle.book.specs.Events.{happens, book_after, opens}
use Rattle.book.specs.Logs.{Logged, undoes, Sound}
use Rattle.book.proofs.Lists.{foldl-append}
use Rattle.book.proofs.Fate.{once}
use Rattle.book.proofs.Sound.{TypedEvents, stored-allowed, sound-formatted}
use Rattle.book.proofs.Claims.{grows-events}
use Rattle.book.proofs.Visits.{never-six}
use Rattle.book.proofs.Openings.{holds-ready}
use Rattle.book.proofs.Pages.{Bounded}
use Rattle.state.specs.World.{World, right_lengths}
use Rattle.state.specs.CallContracts.{cells_of, with_page}
use Rattle.state.proofs.FormattedStores.{Formatted, new-charts, new_charts, formatted-store}
use Rattle.sessions.specs.Host.{Opening, Called, Step, opened, called, steps, answer_of, event_of, world_after, world_after_all, calls_follow, writes_of}
use Rattle.sessions.specs.Demand3.{book_of, log_of, Lasts, Begun, Rises, Wrote, Holds, Demand3, is_flush_done}
use Rattle.sessions.proofs.Held.{Held, held-world, ByBook}
use Rattle.sessions.proofs.Along.{typed, book-append, At, first, reach, answered, step_counts, flushes-counted, at_first}
use Rattle.sessions.proofs.StoredPages.{no-page-stored, page-stored}
use Rattle.sessions.proofs.Commits.{commit-stays}
use Rattle.sessions.proofs.Begins.{begin-stays, begin-rises}
use Rattle.sessions.proofs.ReadyOpenings.{ready-lengths, copy-sum, read-sum, undone-or-kept, wrote}

module _ (cells : ℕ → ℤ) (small : Bounded 1000000 cells) (own : World) (ss : List Step) (start : At cells formatted own true ss) where
  -- what holds after the steps `xs`, if `ys` are the rest
  there : (xs ys : List Step) → ss ≡ xs ++ ys → At cells (book_of cells xs) (world_after_all own xs) (foldl calls_follow true xs) ys
  there xs ys e = reach cells small xs ys formatted own true (subst (At cells formatted own true) e start)

  book-after : (xs : List Step) (s : Step) → book_of cells (xs ++ (s ∷ [])) ≡ (happens cells (book_of cells xs) (event_of s)).book
  book-after xs s = book-append cells formatted xs (s ∷ [])

  -- ── The log ─────────────────────────────────────────────────────────────────────────────────────────────────────────

  log-grows : (xs ys zs : List Step) → ss ≡ xs ++ (ys ++ zs) → StartsWith (log_of cells xs) (log_of cells (xs ++ ys))
  log-grows xs ys zs e =
      let a = there xs (ys ++ zs) e in
      subst (λ (b : Book). StartsWith (log_of cells xs) b.stored) (sym (book-append cells formatted xs ys))
      (grows-events cells (book_of cells xs) (map event_of ys) a.held.sound (typed _ _ ys zs a.host))

  -- ── A ready opening ─────────────────────────────────────────────────────────────────────────────────────────────────

  module _ (xs ys : List Step) (o : Opening) (e : ss ≡ xs ++ (opened o ∷ ys)) where
    by-book : ByBook cells (opening (book_of cells xs) (right_lengths o.given) o.fuse) o.result.answer (world_after (world_after_all own xs) (opened o))
        (calls_follow (foldl calls_follow true xs) (opened o))
    by-book = first cells small (book_of cells xs) (world_after_all own xs) _ (opened o) ys (there xs (opened o ∷ ys) e)

    ends-ready : right_lengths o.given ≡ true → PowerHolds o.fuse (length (closing (ledger (log_of cells xs)))) → o.result.answer.number ≡ 0
    ends-ready len h =
        ap (λ (a : Answer). a.number) by-book.answers ∙ ap (λ (t : Bool). (opening (book_of cells xs) t o.fuse).answer.number) len ∙
        holds-ready (book_of cells xs) o.fuse h

    module _ (zero' : o.result.answer.number ≡ 0) where
      lengths : right_lengths o.given ≡ true
      lengths = ready-lengths (book_of cells xs) _ o.fuse (ap (λ (a : Answer). a.number) (sym by-book.answers) ∙ zero')

      at-lengths : ByBook cells (opening (book_of cells xs) true o.fuse) o.result.answer (world_after (world_after_all own xs) (opened o))
          (calls_follow (foldl calls_follow true xs) (opened o))
      at-lengths = subst (λ (t : Bool). ByBook cells (opening (book_of cells xs) t o.fuse) o.result.answer (world_after (world_after_all own xs) (opened o))
          (calls_follow (foldl calls_follow true xs) (opened o))) lengths by-book

      done : (opening (book_of cells xs) true o.fuse).answer.number ≡ 0
      done = ap (λ (a : Answer). a.number) (sym at-lengths.answers) ∙ zero'

      sound : Sound (book_of cells xs)
      sound = (there xs (opened o ∷ ys) e).held.sound

      is : book_of cells (xs ++ (opened o ∷ [])) ≡ (opening (book_of cells xs) true o.fuse).book
      is = book-after xs (opened o) ∙ ap (λ (t : Bool). (opening (book_of cells xs) t o.fuse).book) lengths

      copy-sums : (c : ℕ) → c < cell_limit → cell_of (world_after_all own (xs ++ (opened o ∷ []))).copy c ≡ kept_sum cells (log_of cells (xs ++ (opened o ∷ []))) c
      copy-sums c h =
          let follows : calls_follow (foldl calls_follow true xs) (opened o) ≡ true = rw zero' in
          ap (λ (w : World). cell_of w.copy c) (foldl-append world_after own xs (opened o ∷ [])) ∙
          copy-sum (book_of cells xs) o.fuse sound done cells small (world_after (world_after_all own xs) (opened o)) (at-lengths.held.is follows) c h ∙
          ap (λ (x : Book). kept_sum cells x.stored c) (sym is)

      read-sums : (c : ℕ) → c < cell_limit → (call cells (book_of cells (xs ++ (opened o ∷ []))) true (Call.read c)).answer ≡
          answer 0 (kept_sum cells (log_of cells (xs ++ (opened o ∷ []))) c)
      read-sums c h = subst (λ (x : Book). (call cells x true (Call.read c)).answer ≡ answer 0 (kept_sum cells x.stored c)) (sym is)
          (read-sum (book_of cells xs) o.fuse sound done cells c h)

      its-undone : (x : Change) → Logged (log_of cells (xs ++ (opened o ∷ []))) x →
          (any (undoes x.row) (log_of cells (xs ++ (opened o ∷ []))) ≡ true) ↔ (is_kept (ledger (log_of cells (xs ++ (opened o ∷ [])))) x ≡ false)
      its-undone x = subst (λ (l : Book). Logged l.stored x → (any (undoes x.row) l.stored ≡ true) ↔ (is_kept (ledger l.stored) x ≡ false)) (sym is)
          (undone-or-kept (book_of cells xs) o.fuse sound done x)

      its-rows : Wrote (log_of cells xs) (log_of cells (xs ++ (opened o ∷ []))) o.result.answer
      its-rows = subst (λ (x : Book). Wrote (log_of cells xs) x.stored o.result.answer) (sym is)
          (subst (Wrote (log_of cells xs) (opening (book_of cells xs) true o.fuse).book.stored) (sym at-lengths.answers)
          (wrote (book_of cells xs) o.fuse sound done))

  -- a read that follows at once
  reads : (xs ys : List Step) (o : Opening) (r : Called) (c : ℕ) → ss ≡ xs ++ (opened o ∷ called r ∷ ys) → o.result.answer.number ≡ 0
      → right_lengths r.given ≡ true → r.call ≡ Call.read c → c < cell_limit → r.result.answer ≡ answer 0 (kept_sum cells (log_of cells (xs ++ (opened o ∷ []))) c)
  reads xs ys o r c e zero' len k h =
      let zs = xs ++ (opened o ∷ []) in
      let a = there zs (called r ∷ ys) (e ∙ sym (append_assoc xs (opened o ∷ []) (called r ∷ ys))) in
      (first cells small (book_of cells zs) (world_after_all own zs) _ (called r) ys a).answers ∙
      ap₂ (λ (t : Bool) (x : Call). (call cells (book_of cells zs) t x).answer) len k ∙ read-sums xs (called r ∷ ys) o e zero' c h

  -- ── A call that is done, and what comes later ───────────────────────────────────────────────────────────────────────

  module _ (xs ys zs : List Step) (c : Called) (k : Call) (e : ss ≡ xs ++ (called c ∷ (ys ++ zs))) (made : c.call ≡ k) where
    -- the call by the book
    abbrev called-by : Outcome
    called-by = call cells (book_of cells xs) (right_lengths c.given) k

    call-sound : Sound (book_of cells xs)
    call-sound = (there xs (called c ∷ (ys ++ zs)) e).held.sound

    call-answers : c.result.answer ≡ called-by.answer
    call-answers =
        (first cells small (book_of cells xs) (world_after_all own xs) _ (called c) (ys ++ zs) (there xs (called c ∷ (ys ++ zs)) e)).answers ∙
        ap (λ (x : Call). (call cells (book_of cells xs) (right_lengths c.given) x).answer) made

    call-done : c.result.answer.number ≡ 0 → called-by.answer.number ≡ 0
    call-done zero' = ap (λ (x : Answer). x.number) (sym call-answers) ∙ zero'

    -- the book after the later steps
    call-later : book_of cells (xs ++ (called c ∷ ys)) ≡ book_after cells called-by.book (map event_of ys)
    call-later =
        book-append cells formatted xs (called c ∷ ys) ∙
        ap (λ (x : Call). book_after cells (call cells (book_of cells xs) (right_lengths c.given) x).book (map event_of ys)) made

    later-typed : TypedEvents (map event_of ys)
    later-typed = typed _ _ ys zs (there xs (called c ∷ (ys ++ zs)) e).host.1

    -- what holds of the book's answer and the book's log later holds of the answer and the log
    of-call : (P : Answer → List Row → Type 0) → P called-by.answer (book_after cells called-by.book (map event_of ys)).stored
        → P c.result.answer (log_of cells (xs ++ (called c ∷ ys)))
    of-call P p = subst (λ (x : Book). P c.result.answer x.stored) (sym call-later)
        (subst (λ (x : Answer). P x (book_after cells called-by.book (map event_of ys)).stored) (sym call-answers) p)

  lasts : (xs ys zs : List Step) (c : Called) (v : ℕ) → ss ≡ xs ++ (called c ∷ (ys ++ zs)) → c.call ≡ Call.commit v → c.result.answer.number ≡ 0
      → Lasts (book_of cells xs) v c.result.answer (log_of cells (xs ++ (called c ∷ ys)))
  lasts xs ys zs c v e k zero' = of-call xs ys zs c (Call.commit v) e k (Lasts (book_of cells xs) v)
      (commit-stays cells (book_of cells xs) (right_lengths c.given) v (call-sound xs ys zs c (Call.commit v) e k) (call-done xs ys zs c (Call.commit v) e k zero')
      (map event_of ys) (later-typed xs ys zs c (Call.commit v) e k))

  begins : (xs ys zs : List Step) (c : Called) → ss ≡ xs ++ (called c ∷ (ys ++ zs)) → c.call ≡ Call.begin → c.result.answer.number ≡ 0
      → Begun (book_of cells xs) c.result.answer (log_of cells (xs ++ (called c ∷ ys)))
  begins xs ys zs c e k zero' = of-call xs ys zs c Call.begin e k (Begun (book_of cells xs))
      (begin-stays cells (book_of cells xs) (right_lengths c.given) (call-sound xs ys zs c Call.begin e k) (call-done xs ys zs c Call.begin e k zero')
      (map event_of ys) (later-typed xs ys zs c Call.begin e k))

  rises : (xs ys zs : List Step) (c d : Called) → ss ≡ xs ++ (called c ∷ (ys ++ (called d ∷ zs))) → c.call ≡ Call.begin → d.call ≡ Call.begin
      → c.result.answer.number ≡ 0 → d.result.answer.number ≡ 0 → Rises c.result.answer d.result.answer
  rises xs ys zs c d e k k' zero' zero'' =
      let vs = xs ++ (called c ∷ ys) in
      let e' : ss ≡ vs ++ (called d ∷ ([] ++ zs)) = e ∙ sym (append_assoc xs (called c ∷ ys) (called d ∷ zs)) in
      let len = right_lengths d.given in
      let later = call-later xs ys (called d ∷ zs) c Call.begin e k in
      let answers = call-answers vs [] zs d Call.begin e' k' ∙ ap (λ (x : Book). (call cells x len Call.begin).answer) later in
      subst (λ (x : Answer). Rises c.result.answer x) (sym answers)
      (of-call xs ys (called d ∷ zs) c Call.begin e k (λ a l. Rises a (call cells (book_after cells (called-by xs ys (called d ∷ zs) c Call.begin e k).book (map event_of ys)) len Call.begin).answer)
      (begin-rises cells (book_of cells xs) (right_lengths c.given) (call-sound xs ys (called d ∷ zs) c Call.begin e k) (call-done xs ys (called d ∷ zs) c Call.begin e k zero')
      (map event_of ys) (later-typed xs ys (called d ∷ zs) c Call.begin e k) len (ap (λ (x : Answer). x.number) (sym answers) ∙ zero'')))

  -- ── Refusal 6 ───────────────────────────────────────────────────────────────────────────────────────────────────────

  never-answered : (xs ys : List Step) (s : Step) → ss ≡ xs ++ (s ∷ ys) → (answer_of s).number ≢ 6
  never-answered xs ys s e six =
      let a = there xs (s ∷ ys) e in
      let answers = (first cells small (book_of cells xs) (world_after_all own xs) _ s ys a).answers in
      never-six cells (book_of cells xs) (event_of s) a.held.sound (ap (λ (x : Answer). x.number) (sym answers) ∙ six)

  -- ── The counts of a session ─────────────────────────────────────────────────────────────────────────────────────────

  -- what holds of the counts, the flushes and the book by the book holds of those of the steps
  by-events : (xs ys zs : List Step) → ss ≡ xs ++ (ys ++ zs) → (P : Writes → ℕ → Book → Type 0)
      → P (summed (writes cells (book_of cells xs) (map event_of ys))) (flushes_done cells (book_of cells xs) (map event_of ys)) (book_after cells (book_of cells xs) (map event_of ys))
      → P (summed (map writes_of ys)) (length (keep is_flush_done ys)) (book_of cells (xs ++ ys))
  by-events xs ys zs e P p =
      let b = book_of cells xs in
      let w = world_after_all own xs in
      let follow = foldl calls_follow true xs in
      let a = at_first cells small ys zs b w follow (there xs (ys ++ zs) e) in
      let sum = ap summed (step_counts cells small ys b w follow a) in
      let flushes = flushes-counted cells small ys b w follow a in
      subst (λ (x : Book). P (summed (map writes_of ys)) (length (keep is_flush_done ys)) x) (sym (book-append cells formatted xs ys))
      (subst (λ (n : ℕ). P (summed (map writes_of ys)) n (book_after cells b (map event_of ys))) (sym flushes)
      (subst (λ (v : Writes). P v (flushes_done cells b (map event_of ys)) (book_after cells b (map event_of ys))) (sym sum) p))

  adds-up : (xs ys zs : List Step) (o : Opening) → ss ≡ xs ++ (opened o ∷ (ys ++ zs)) → right_lengths o.given ≡ true → NoStart (map event_of ys)
      → SessionCounts o.fuse (log_of cells xs) (summed (map writes_of (opened o ∷ ys))) (length (keep is_flush_done (opened o ∷ ys)))
      (book_of cells (xs ++ (opened o ∷ ys)))
  adds-up xs ys zs o e len none =
      let b = book_of cells xs in
      let a = there xs (opened o ∷ (ys ++ zs)) e in
      let t = typed _ _ ys zs a.host.1 in
      by-events xs (opened o ∷ ys) zs e (SessionCounts o.fuse (log_of cells xs))
      (subst (λ (x : Bool). let es = opens x o.fuse ∷ map event_of ys in
      SessionCounts o.fuse (log_of cells xs) (summed (writes cells b es)) (flushes_done cells b es) (book_after cells b es)) (sym len)
      (session-counts cells b o.fuse (map event_of ys) a.held.sound t none))

  stretch-adds-up : (xs ys zs : List Step) → ss ≡ xs ++ (ys ++ zs) → NoStart (map event_of ys)
      → StretchCounts (book_of cells xs) (summed (map writes_of ys)) (length (keep is_flush_done ys)) (book_of cells (xs ++ ys))
  stretch-adds-up xs ys zs e none =
      let a = there xs (ys ++ zs) e in
      by-events xs ys zs e (StretchCounts (book_of cells xs))
      (stretch-counts cells (book_of cells xs) (map event_of ys) a.held.sound (typed _ _ ys zs a.host) none)

  -- ── The stored charts ───────────────────────────────────────────────────────────────────────────────────────────────

  unflushed : (xs ys : List Step) (s : Step) → ss ≡ xs ++ (s ∷ ys) → (writes_of s).pages ≡ 0
      → (world_after_all own (xs ++ (s ∷ []))).charts ≡ (world_after_all own xs).charts
  unflushed xs ys s e none =
      let a = there xs (s ∷ ys) e in
      ap (λ (w : World). w.charts) (foldl-append world_after own xs (s ∷ [])) ∙
      no-page-stored cells small (book_of cells xs) (world_after_all own xs) _ a.held s a.host.0 a.contracts.0 none

  flushed : (xs ys : List Step) (c : Called) (p : ℕ) → ss ≡ xs ++ (called c ∷ ys) → c.call ≡ Call.flush p → c.result.writes.pages ≢ 0
      → (world_after_all own (xs ++ (called c ∷ []))).charts ≡ with_page p (page_bytes (page_after cells (rows_of (book_of cells xs)) p)) (world_after_all own xs).charts
  flushed xs ys c p e k some =
      let a = there xs (called c ∷ ys) e in
      ap (λ (w : World). w.charts) (foldl-append world_after own xs (called c ∷ [])) ∙
      page-stored cells small (book_of cells xs) (world_after_all own xs) _ a.held c p a.host.0 a.contracts.0 k some

  -- ── All of it ───────────────────────────────────────────────────────────────────────────────────────────────────────

  holds : Holds cells own ss
  holds = record {
    answers = answered cells small ss formatted own true start;
    log = λ xs ys e. (there xs ys e).held.log;
    stands = log-grows;
    sums = copy-sums;
    reads = reads;
    commits = lasts;
    begins = begins;
    numbers-rise = rises;
    never-six = never-answered;
    undone = its-undone;
    once = λ xs ys e. once (log_of cells xs) (stored-allowed (book_of cells xs) (there xs ys e).held.sound);
    ready = ends-ready;
    wrote = its-rows;
    counts = step_counts cells small ss formatted own true start;
    charts = unflushed;
    flushed = flushed;
    session = adds-up;
    stretch = stretch-adds-up;
  }

-- ── Demand 3 ──────────────────────────────────────────────────────────────────────────────────────────────────────────

-- what an accepted format left
pub held-formatted : (values : List ℤ) (own : World) → Formatted values own → Held (cells_of values) formatted own true
held-formatted values own f =
    let cells = cells_of values in
    subst (λ (w : World). Held cells formatted w true) (sym f.is) (held-world cells formatted (new_charts cells) true sound-formatted (new-charts cells))

pub demand-3 : Demand3
unfolding Demand3
demand-3 values given x post done ss host contracts =
    let f = formatted-store values given x post done in
    holds (cells_of values) f.small x.world (steps ss) (record { held = held-formatted values x.world f; host = host; contracts = contracts })
