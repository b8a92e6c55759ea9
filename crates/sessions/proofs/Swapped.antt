-- 02, L5 of 01's sessions: by demand 3 answers, counts and cells are the book's, and by the book they are the same in either order.
use Prim.Native.Nat.{ℕ, ◌<◌}
use native.Mathlib.Omega.{arith}
use mathlib.Core.Bool.{Bool, true}
use mathlib.Core.Path.{◌≡◌, ap, ap₂, sym, ◌∙◌, subst}
use mathlib.Core.Logic.{◌≢◌}
use mathlib.Core.List.{List, [], ◌∷◌, ◌++◌, map, map-append, append_assoc, head-eq_of_cons-eq, tail-eq_of_cons-eq}
use lib.ListN.{length, length-append, length-map}
use lib.IntN.{ℤ}
use Rattle.book.specs.Limits.{cell_limit}
use Rattle.book.specs.Pages.{cell_of}
use Rattle.book.specs.Cells.{kept_sum}
use Rattle.book.specs.Power.{Book, Fuse, formatted}
use Rattle.book.specs.Book.{Answer, Outcome, opening}
use Rattle.book.specs.Events.{Event, happens, answers, book_after}
use Rattle.book.specs.SessionWrites.{writes}
use Rattle.book.specs.LogBytes.{log_bytes}
use Rattle.book.specs.Logs.{Sound}
use Rattle.book.specs.Swapped.{Single, event_for, DoneOrCut, BothAccepted, one_then_other, EitherOrder}
use Rattle.book.proofs.Sound.{TypedEvents, sound-formatted, sound-events}
use Rattle.book.proofs.Swapped.{beside, stored-between, either_order}
use Rattle.state.specs.World.{World, right_lengths}
use Rattle.state.specs.CallContracts.{cells_of}
use Rattle.sessions.specs.Host.{Opening, Step, opened, called, steps, answer_of, writes_of, event_of, world_after_all}
use Rattle.sessions.specs.Demand3.{Holds, Demand3}
use Rattle.sessions.specs.Swapped.{TwoHandOvers, Accepted, SameResults, Swapped}
use Rattle.sessions.proofs.Along.{book-then, book-append}
use Rattle.sessions.proofs.ChartsAlong.{charts_along, along_then, same-charts, charts-along}
use Rattle.sessions.proofs.Demand3.{demand-3}
use Rattle.sessions.proofs.Places.{parts, Place, in_before, is_first, is_second, in_later, place, FirstParts, same, between, behind, first-parts, answers-then, writes_then, answer_at_lem, answers-of-two, answers_at, events-of-two, two-hand-overs, typed-parts, steps-typed}
use Rattle.sessions.proofs.ReadyOpenings.{ready-lengths}

-- ── A ready opening of one list ───────────────────────────────────────────────────────────────────────────────────────

module _ (cells : ℕ → ℤ) (own : World) (ss : List Step) (holds : Holds cells own ss) (xs ys : List Step) (o : Opening) (e : ss ≡ xs ++ (opened o ∷ ys))
    (zero' : o.result.answer.number ≡ 0) where
  abbrev book_there : Book
  book_there = book_after cells formatted (map event_of xs)

  by-book : o.result.answer ≡ (opening book_there (right_lengths o.given) o.fuse).answer
  by-book = answer_at_lem cells xs ys (opened o) formatted (rw e at holds.answers)

  lengths-there : right_lengths o.given ≡ true
  lengths-there = ready-lengths book_there _ o.fuse (ap (λ (a : Answer). a.number) (sym by-book) ∙ zero')

  ready-there : (opening book_there true o.fuse).answer.number ≡ 0
  ready-there =
      ap (λ (t : Bool). (opening book_there t o.fuse).answer.number) (sym lengths-there) ∙ ap (λ (a : Answer). a.number) (sym by-book) ∙ zero'

  cell-there : (c : ℕ) → c < cell_limit
      → cell_of (world_after_all own (xs ++ (opened o ∷ []))).copy c ≡ kept_sum cells (opening book_there true o.fuse).book.stored c
  cell-there c h =
      holds.sums xs ys o e zero' c h ∙
      ap (λ (b : Book). kept_sum cells b.stored c) (book-append cells formatted xs (opened o ∷ []) ∙
      ap (λ (t : Bool). (opening book_there t o.fuse).book) lengths-there)

-- ── Two hand-overs by the book ────────────────────────────────────────────────────────────────────────────────────────

module _ (cells : ℕ → ℤ) (before : List Event) (h k : Single) (later : List Event) (ss : List Step) (w : TwoHandOvers before h k later ss)
    (by-book : map answer_of ss ≡ answers cells formatted (map event_of ss)) where
  -- the book before the two, and what each of them is answered by it
  abbrev book_before : Book
  book_before = book_after cells formatted before

  numbers-of-two : (w.c.result.answer.number ≡ (happens cells book_before (event_for h)).answer.number) ×
      (w.d.result.answer.number ≡ (happens cells (happens cells book_before (event_for h)).book (event_for k)).answer.number)
  numbers-of-two =
      let r = answers-of-two cells w.xs w.ys (called w.c) (called w.d) formatted (rw w.are at by-book) in
      let one = ap₂ (happens cells) (ap (book_after cells formatted) w.events_before) w.one in
      let two = ap₂ (happens cells) (ap (λ (o : Outcome). o.book) one) w.other in
      (ap (λ (x : Answer). x.number) (r.0 ∙ ap (λ (o : Outcome). o.answer) one), ap (λ (x : Answer). x.number) (r.1 ∙ ap (λ (o : Outcome). o.answer) two))

  -- accepted in the sessions is accepted by the book
  book-accepts : h.cell ≢ k.cell → w.c.result.answer.number ≡ 0 → DoneOrCut w.d.result.answer.number → BothAccepted cells book_before h k
  book-accepts ne p q = record { apart = ne; first = sym numbers-of-two.0 ∙ p; second = subst DoneOrCut numbers-of-two.1 q }

  -- and the other way round
  pub accepted-by-book : BothAccepted cells book_before h k → Accepted before h k later ss
  accepted-by-book p =
      record { two = w; apart = p.apart; first = numbers-of-two.0 ∙ p.first; second = subst DoneOrCut (sym numbers-of-two.1) p.second }

-- ── Two lists ─────────────────────────────────────────────────────────────────────────────────────────────────────────

module _ (cells : ℕ → ℤ) (own : World) (before : List Event) (h k : Single) (later : List Event) (ss ss' : List Step) (holds : Holds cells own ss)
    (holds' : Holds cells own ss') (t : TypedEvents (map event_of ss)) (a : Accepted before h k later ss)
    (other : map event_of ss' ≡ before ++ one_then_other k h later) where
  -- the book before the two
  abbrev b : Book
  b = book_after cells formatted before

  events : map event_of ss ≡ before ++ one_then_other h k later
  events = events-of-two before h k later ss a.two

  typed-before : TypedEvents before × TypedEvents later
  typed-before = let r = typed-parts before (one_then_other h k later) (subst TypedEvents events t) in (r.0, r.1.1.1)

  by-the-book : map answer_of ss ≡ answers cells formatted (before ++ one_then_other h k later)
  by-the-book = holds.answers ∙ ap (answers cells formatted) events

  both : BothAccepted cells b h k
  both = book-accepts cells before h k later ss a.two holds.answers a.apart a.first a.second

  sound : Sound b
  sound = sound-events cells formatted before sound-formatted typed-before.0

  either : (es : List Event) → TypedEvents es → EitherOrder cells b h k es
  either es typed-es = either_order cells b h k es sound typed-es both

  same-answers : map answer_of ss' ≡ map answer_of ss
  same-answers =
      holds'.answers ∙ ap (answers cells formatted) other ∙
      answers-then cells before (one_then_other k h later) (one_then_other h k later) formatted (either later typed-before.1).answers ∙ sym by-the-book

  same-counts : map writes_of ss' ≡ map writes_of ss
  same-counts =
      holds'.counts ∙ ap (writes cells formatted) other ∙
      writes_then cells before (one_then_other k h later) (one_then_other h k later) formatted (either later typed-before.1).counts ∙
      sym (holds.counts ∙ ap (writes cells formatted) events)

  swapped-accepted : Accepted before k h later ss'
  swapped-accepted =
      accepted-by-book cells before k h later ss' (two-hand-overs before k h later ss' other) holds'.answers (either later typed-before.1).accepted

  module _ (xs ys xs' ys' : List Step) (o o' : Opening) (e : ss ≡ xs ++ (opened o ∷ ys)) (e' : ss' ≡ xs' ++ (opened o' ∷ ys')) (n : length xs' ≡ length xs)
      (zero' : o.result.answer.number ≡ 0) where
    -- the other opening is ready too
    zero'' : o'.result.answer.number ≡ 0
    zero'' =
        ap (λ (x : Answer). x.number) (answers_at xs ys xs' ys' (opened o) (opened o') n (sym (ap (map answer_of) e') ∙ same-answers ∙ ap (map answer_of) e)) ∙
        zero'

    -- what comes before the opening of the other list, and the opening
    there' : (ws vs : List Event) (x : Event) → length ws ≡ length xs → before ++ one_then_other k h later ≡ ws ++ (x ∷ vs)
        → (map event_of xs' ≡ ws) × (event_of (opened o') ≡ x)
    there' ws vs x m q =
        let l : length (map event_of xs') ≡ length ws = length-map xs' event_of ∙ n ∙ sym m in
        let is = sym (map-append event_of xs' (opened o' ∷ ys')) ∙ sym (ap (map event_of) e') ∙ other ∙ q in
        let r = parts (map event_of xs') (event_of (opened o') ∷ map event_of ys') ws (x ∷ vs) l is in
        (r.0, head-eq_of_cons-eq r.1)

    -- the sum after an opening of the book
    abbrev sum_after : List Event → Fuse → ℕ → ℤ
    sum_after es f c = kept_sum cells (opening (book_after cells formatted es) true f).book.stored c

    same_sum : (c : ℕ) → Place before (event_for h) (event_for k) later (map event_of xs) (event_of (opened o))
        → sum_after (map event_of xs') o'.fuse c ≡ sum_after (map event_of xs) o.fuse c
    same_sum c (in_before zs q) =
        let more = one_then_other k h later in
        let r = there' (map event_of xs) (zs ++ more) (event_of (opened o)) (length-map xs event_of)
        (ap (λ (es : List Event). es ++ more) q ∙ append_assoc (map event_of xs) (event_of (opened o) ∷ zs) more) in
        let f : o'.fuse ≡ o.fuse = cc r.1 in
        ap₂ (λ (es : List Event) (g : Fuse). sum_after es g c) r.0 f
    same_sum c (is_first q) = let z : ◌≡◌ {A = ℕ} 0 1 = cc q in absurd (omega arith)
    same_sum c (is_second q) = let z : ◌≡◌ {A = ℕ} 0 1 = cc q in absurd (omega arith)
    same_sum c (in_later zs ws q r) =
        let len : length (before ++ one_then_other k h zs) ≡ length xs =
        length-append before (one_then_other k h zs) ∙ sym (length-append before (one_then_other h k zs)) ∙ ap length (sym q) ∙ length-map xs event_of in
        let split : before ++ one_then_other k h later ≡ (before ++ one_then_other k h zs) ++ (event_of (opened o) ∷ ws) =
        ap (λ (es : List Event). before ++ one_then_other k h es) r ∙ sym (append_assoc before (one_then_other k h zs) (event_of (opened o) ∷ ws)) in
        let p = there' (before ++ one_then_other k h zs) ws (event_of (opened o)) len split in
        let f : o'.fuse ≡ o.fuse = cc p.1 in
        let is : book_after cells formatted (map event_of xs) ≡ book_after cells b (one_then_other h k zs) =
        ap (book_after cells formatted) q ∙ book-then cells formatted before (one_then_other h k zs) in
        let ready = ap (λ (x : Book). (opening x true o.fuse).answer.number) (sym is) ∙ ready-there cells own ss holds xs ys o e zero' in
        let typed-zs = (typed-parts zs (event_of (opened o) ∷ ws) (subst TypedEvents r typed-before.1)).0 in
        ap₂ (λ (es : List Event) (g : Fuse). sum_after es g c) p.0 f ∙
        ap (λ (x : Book). kept_sum cells (opening x true o.fuse).book.stored c) (book-then cells formatted before (one_then_other k h zs)) ∙
        (either zs typed-zs).sums o.fuse ready c ∙ ap (λ (x : Book). kept_sum cells (opening x true o.fuse).book.stored c) (sym is)

  same-cells : (xs ys xs' ys' : List Step) (o o' : Opening) → ss ≡ xs ++ (opened o ∷ ys) → ss' ≡ xs' ++ (opened o' ∷ ys') → length xs' ≡ length xs
      → o.result.answer.number ≡ 0 → (c : ℕ) → c < cell_limit
      → cell_of (world_after_all own (xs' ++ (opened o' ∷ []))).copy c ≡ cell_of (world_after_all own (xs ++ (opened o ∷ []))).copy c
  same-cells xs ys xs' ys' o o' e e' n zero' c lt =
      let where' = place before (event_for h) (event_for k) later (map event_of xs) (event_of (opened o)) (map event_of ys)
      (sym events ∙ ap (map event_of) e ∙ map-append event_of xs (opened o ∷ ys)) in
      cell-there cells own ss' holds' xs' ys' o' e' (zero'' xs ys xs' ys' o o' e e' n zero') c lt ∙ same_sum xs ys xs' ys' o o' e e' n zero' c where' ∙
      sym (cell-there cells own ss holds xs ys o e zero' c lt)

  -- the stored charts, and the log where the power fails in the second, after as many steps of both lists
  module _ (xs ys xs' ys' : List Step) (e : ss ≡ xs ++ ys) (e' : ss' ≡ xs' ++ ys') (n : length xs' ≡ length xs) where
    so_far : FirstParts before (event_for h) (event_for k) later (map event_of xs) (map event_of xs')
    so_far = first-parts before (event_for h) (event_for k) later (map event_of xs) (map event_of ys) (map event_of xs') (map event_of ys')
        (length-map xs' event_of ∙ n ∙ sym (length-map xs event_of))
        (sym events ∙ ap (map event_of) e ∙ map-append event_of xs ys) (sym other ∙ ap (map event_of) e' ∙ map-append event_of xs' ys')

    charts-so-far : (world_after_all own xs').charts ≡ (world_after_all own xs).charts
    charts-so-far = charts-along cells own ss' holds' xs' ys' e' ∙ go so_far ∙ sym (charts-along cells own ss holds xs ys e)
      where
        -- before the two of them
        old : List ℕ
        old = charts_along cells formatted before own.charts

        then : (es : List Event) → charts_along cells formatted (before ++ es) own.charts ≡ charts_along cells b es old
        then es = along_then cells formatted before es own.charts

        go : FirstParts before (event_for h) (event_for k) later (map event_of xs) (map event_of xs')
            → charts_along cells formatted (map event_of xs') own.charts ≡ charts_along cells formatted (map event_of xs) own.charts
        go (same p) = ap (λ (es : List Event). charts_along cells formatted es own.charts) p
        go (between p q) = rw (p, q) (then (event_for k ∷ []) ∙ sym (then (event_for h ∷ [])))
        go (behind zs ws l p q) =
            let typed-zs = (typed-parts zs ws (subst TypedEvents l typed-before.1)).0 in
            let two = beside cells b h k sound both in
            rw (p, q) (then (one_then_other k h zs) ∙
            same-charts cells zs _ _ old two.sound two.sound' two.alongside typed-zs ∙ sym (then (one_then_other h k zs)))

    log-so-far : swapped-accepted.two.d.result.answer.number ≡ 5 → (world_after_all own xs').log ≡ (world_after_all own xs).log
    log-so-far five = holds'.log xs' ys' e' ∙ ap log_bytes (go so_far) ∙ sym (holds.log xs ys e)
      where
        cut : (happens cells (happens cells b (event_for h)).book (event_for k)).answer.number ≡ 5
        cut =
            ap (λ (x : Answer). x.number) (sym (head-eq_of_cons-eq (tail-eq_of_cons-eq (either later typed-before.1).answers))) ∙
            sym (numbers-of-two cells before k h later ss' swapped-accepted.two holds'.answers).1 ∙ five

        then : (es : List Event) → book_after cells formatted (before ++ es) ≡ book_after cells b es
        then es = book-then cells formatted before es

        go : FirstParts before (event_for h) (event_for k) later (map event_of xs) (map event_of xs')
            → (book_after cells formatted (map event_of xs')).stored ≡ (book_after cells formatted (map event_of xs)).stored
        go (same p) = ap (λ (es : List Event). (book_after cells formatted es).stored) p
        go (between p q) = rw (p, q, then (event_for k ∷ []), then (event_for h ∷ [])) (stored-between cells b h k sound both)
        go (behind zs ws l p q) =
            let typed-zs = (typed-parts zs ws (subst TypedEvents l typed-before.1)).0 in
            rw (p, q, then (one_then_other k h zs), then (one_then_other h k zs)) (ap (λ (x : Book). x.stored) ((either zs typed-zs).cut cut))

  same-results : SameResults own before h k later ss ss'
  same-results = record {
    accepted = swapped-accepted;
    answers = same-answers;
    counts = same-counts;
    cells = same-cells;
    charts = charts-so-far;
    logs = λ five xs ys xs' ys' e e' n. log-so-far xs ys xs' ys' e e' n five;
  }

-- 02, L5
pub hand-overs-swapped : Swapped
unfolding Swapped Demand3
hand-overs-swapped values given format post done ss ss' host contracts host' contracts' before h k later a other =
    same-results (cells_of values) format.world before h k later (steps ss) (steps ss') (demand-3 values given format post done ss host contracts)
    (demand-3 values given format post done ss' host' contracts') (steps-typed format.world (steps ss) host) a other
