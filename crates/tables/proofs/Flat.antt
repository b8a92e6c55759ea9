-- The flat scope table and its entries: how many there are, what stands at each, and what seven stores to one of them do. Assumes nothing.
use Rattle.std.proofs.Common.{◌≡◌, ℕ, zero, suc, ◌+◌, ◌-◌, ◌*◌, ◌%◌, ◌<◌, ◌≤◌, Bool, true, false, not, eqb, leb, ◌≢◌, List, [], ◌∷◌, ◌++◌, length, get_or, take, drop, set, replicate, sym, refl, ap, ◌∙◌, append_assoc, append-nil, le_refl, le_of_suc-le-suc, not-suc-le-zero, add-zero, add-suc, suc-add, zero-add, arith, length-append, length-take-le, get_or-set_other, get_or-take, get_or-append-add, drop_of_length-le, length-drop, mul-le-mul_left, mul-suc, ext_get_or, leb-false, leb-true}
use lib.ListN.{length-replicate, get_or-append}
use lib.Seq.{sets, sets-eq}
use Rattle.book.specs.Lists.{pad_to, tabulate}
use Rattle.book.specs.Scopes.{unused}
use Rattle.tables_model.specs.Entries.{flag}
use Rattle.tables_model.specs.Layout.{entry_at, entries}

-- ── A list by its places ──────────────────────────────────────────────────────────────────────────────────────────────

module _ {A : Type 0} where
  pub tabulate-length : (n from : ℕ) (f : ℕ → A) → length (tabulate n from f) ≡ n
  tabulate-length zero from f = refl
  tabulate-length (suc n) from f = ap suc (tabulate-length n (suc from) f)

  pub tabulate-at : (n from i : ℕ) (f : ℕ → A) (d : A) → i < n → get_or (tabulate n from f) i d ≡ f (from + i)
  tabulate-at zero from i f d h = absurd (not-suc-le-zero h)
  tabulate-at (suc n) from zero f d h = ap f (sym (add-zero from))
  tabulate-at (suc n) from (suc i) f d h =
      tabulate-at n (suc from) i f d (le_of_suc-le-suc h) ∙ ap f (suc-add from i ∙ sym (add-suc from i))

  tabulate-same : (n from : ℕ) (f g : ℕ → A) → ((j : ℕ) → from ≤ j → f j ≡ g j) → tabulate n from f ≡ tabulate n from g
  tabulate-same zero from f g h = refl
  tabulate-same (suc n) from f g h = rw (h from (le_refl from), tabulate-same n (suc from) f g (λ j k. h j (omega arith)))

  -- another function that differs at one place only
  pub tabulate-set : (n from i : ℕ) (f g : ℕ → A) → i < n → ((j : ℕ) → j ≢ from + i → f j ≡ g j)
      → tabulate n from f ≡ set (tabulate n from g) i (f (from + i))
  tabulate-set zero from i f g h k = absurd (not-suc-le-zero h)
  tabulate-set (suc n) from zero f g h k =
      rw (add-zero, tabulate-same n (suc from) f g (λ j w. k j (λ e. omega arith)))
  tabulate-set (suc n) from (suc i) f g h k =
      let e : from + suc i ≡ suc from + i = omega arith in
      rw (k from (λ q. omega arith), e, tabulate-set n (suc from) i f g (le_of_suc-le-suc h) (λ j w. k j (λ q. w (omega arith))))

-- ── The entries ───────────────────────────────────────────────────────────────────────────────────────────────────────

pub entries-length : (t : List ℕ) → length (entries t) ≡ 64
unfolding entries
entries-length t = tabulate-length 64 0 (entry_at t)

pub entries_at : (t : List ℕ) (i : ℕ) → i < 64 → get_or (entries t) i unused ≡ entry_at t i
unfolding entries
entries_at t i h = tabulate-at 64 0 i (entry_at t) unused h ∙ rw zero-add

-- what a function that reads entries goes by
pub ruleset entries_read = (entries_at, entries-length)

pub entries-zero : (n : ℕ) → n ≡ 448 → entries (replicate n 0) ≡ replicate 64 unused
unfolding entries
entries-zero n e = rw e

-- ── A table cut short ─────────────────────────────────────────────────────────────────────────────────────────────────

-- places of a list that is cut at place k and filled up
module _ {A : Type 0} (d : A) where
  cut-before : (xs : List A) (k n i : ℕ) → i < k → k ≤ length xs → get_or (take k xs ++ replicate n d) i d ≡ get_or xs i d
  cut-before xs k n i h w =
      let z = length-take-le k xs w in get_or-append (take k xs) (replicate n d) d i (omega arith) ∙ get_or-take k xs i d h

  filler : (xs : List A) (n i : ℕ) → length xs ≤ i → get_or (xs ++ replicate n d) i d ≡ d
  filler [] zero i h = refl
  filler [] (suc n) zero h = refl
  filler [] (suc n) (suc i) h = filler [] n i (omega arith)
  filler (x ∷ xs) n zero h = absurd (not-suc-le-zero h)
  filler (x ∷ xs) n (suc i) h = filler xs n i (le_of_suc-le-suc h)

-- A flat table of m places of w numbers each: a place is read from its own numbers alone, and is blank where they are 0.
module _ {A : Type 0} (at : List ℕ → ℕ → A) (blank : A) (w m : ℕ)
    (near : (t u : List ℕ) (i : ℕ) → ((j : ℕ) → j < w → get_or t (w * i + j) 0 ≡ get_or u (w * i + j) 0) → at t i ≡ at u i)
    (blank-at : (t : List ℕ) (i : ℕ) → ((j : ℕ) → get_or t (w * i + j) 0 ≡ 0) → at t i ≡ blank)
    (t : List ℕ) (k n : ℕ) (few : k ≤ m) (z : length t ≡ w * m) where
  abbrev cut : List ℕ
  cut = take (w * k) t ++ replicate n 0

  abbrev places : List A
  places = tabulate m 0 (at t)

  within : w * k ≤ length t
  within = rw z (mul-le-mul_left w few)

  place-before : (i : ℕ) → i < k → at cut i ≡ at t i
  place-before i h =
      let next : w * suc i ≤ w * k = mul-le-mul_left w h in
      let e : w * suc i ≡ w * i + w = mul-suc w i in
      near cut t i (λ j q. cut-before 0 t (w * k) n (w * i + j) (omega arith) within)

  place-from : (i : ℕ) → k ≤ i → at cut i ≡ blank
  place-from i h =
      let long = length-take-le (w * k) t within in
      let past : w * k ≤ w * i = mul-le-mul_left w h in
      blank-at cut i (λ j. filler 0 (take (w * k) t) n (w * i + j) (omega arith))

  cut-at : (i : ℕ) (b : Bool) → leb k i ≡ b → i < m → at cut i ≡ get_or (pad_to m blank (take k places)) i blank
  cut-at i true e h =
      let all = tabulate-length m 0 (at t) in
      let short = length-take-le k places (omega arith) in
      let l = leb-true k i e in
      place-from i l ∙ sym (filler blank (take k places) (m - length (take k places)) i (omega arith))
  cut-at i false e h =
      let all = tabulate-length m 0 (at t) in
      let l = leb-false k i e in
      place-before i l
      ∙ sym (cut-before blank places k (m - length (take k places)) i l (omega arith) ∙ tabulate-at m 0 i (at t) blank h ∙ ap (at t) (zero-add i))

  -- where all numbers from place k on are 0, the places from k on are blank
  pub places-cut : tabulate m 0 (at cut) ≡ pad_to m blank (take k places)
  places-cut =
      let all = tabulate-length m 0 (at t) in
      let long = tabulate-length m 0 (at cut) in
      let short = length-take-le k places (omega arith) in
      let padded : length (pad_to m blank (take k places)) ≡ m = simp (length-append, length-replicate) (omega arith) in
      ext_get_or blank (tabulate m 0 (at cut)) _ (long ∙ sym padded)
      (λ i h. let b : i < m = rw long at h in tabulate-at m 0 i (at cut) blank b ∙ ap (at cut) (zero-add i) ∙ cut-at i (leb k i) refl b)

pub entries-cut : (t : List ℕ) (k n : ℕ) → k ≤ 64 → length t ≡ 448 → entries (take (7 * k) t ++ replicate n 0) ≡ pad_to 64 unused (take k (entries t))
unfolding entries
entries-cut =
    places-cut entry_at unused 7 64
    (λ t u i h. rw (h 0 (omega arith), h 1 (omega arith), h 2 (omega arith), h 3 (omega arith), h 4 (omega arith), h 5 (omega arith), h 6 (omega arith)))
    (λ t i h. rw (h 0, h 1, h 2, h 3, h 4, h 5, h 6))

-- a list whose numbers from number a on were set to 0, as a store to its part gives it
pub cleared : (t x : List ℕ) (a : ℕ) → let part = take (length t - a) (drop a t) in x ≡ replicate (length part) 0
    → take a t ++ (x ++ drop (length t - a) (drop a t)) ≡ take a t ++ replicate (length part) 0
cleared t x a e =
    let none : drop (length t - a) (drop a t) ≡ [] = drop_of_length-le (drop a t) {i = length t - a} (simp length-drop (omega arith)) in
    rw (e, none, append-nil)

-- what a function that clears the rest of the table goes by
pub ruleset entries_cleared = (cleared, entries-cut)

-- ── Seven stores ──────────────────────────────────────────────────────────────────────────────────────────────────────

abbrev seven : ℕ → ℕ → ℕ → ℕ → ℕ → ℕ → ℕ → List ℕ
seven m h c f l d n = m ∷ h ∷ c ∷ f ∷ l ∷ d ∷ n ∷ []

-- seven numbers set from number a on
abbrev pub stores : List ℕ → ℕ → ℕ → ℕ → ℕ → ℕ → ℕ → ℕ → ℕ → List ℕ
stores t a m h c f l d n = set (set (set (set (set (set (set t a m) (a + 1) h) (a + 2) c) (a + 3) f) (a + 4) l) (a + 5) d) (a + 6) n

stores-are : (t : List ℕ) (a m h c f l d n : ℕ) → stores t a m h c f l d n ≡ sets t a (seven m h c f l d n)
stores-are t a m h c f l d n =
    let e1 : a + 1 ≡ suc a = omega arith in
    let e2 : a + 2 ≡ suc (suc a) = omega arith in
    let e3 : a + 3 ≡ suc (suc (suc a)) = omega arith in
    let e4 : a + 4 ≡ suc (suc (suc (suc a))) = omega arith in
    let e5 : a + 5 ≡ suc (suc (suc (suc (suc a)))) = omega arith in
    let e6 : a + 6 ≡ suc (suc (suc (suc (suc (suc a))))) = omega arith in
    rw (e1, e2, e3, e4, e5, e6)

-- number k of those that were set
sets-here : (t vs : List ℕ) (a k : ℕ) → a + length vs ≤ length t → k < length vs → get_or (sets t a vs) (a + k) 0 ≡ get_or vs k 0
sets-here t vs a k h w =
    let z : length (take a t) ≡ a = length-take-le a t (omega arith) in
    let rest = drop (a + length vs) t in
    rw (sets-eq vs t a h, append_assoc)
    (ap (λ (b : ℕ). get_or (take a t ++ (vs ++ rest)) (b + k) 0) (sym z)
    ∙ get_or-append-add (take a t) (vs ++ rest) k 0
    ∙ get_or-append vs rest 0 k w)

pub handed-back : (b : Bool) → not (eqb (flag b) 0) ≡ b
handed-back true = refl
handed-back false = refl

-- the entry that was set
stores-here : (t : List ℕ) (i m h c f l n : ℕ) (b : Bool) → 7 * i + 7 ≤ length t → c < 256
    → entry_at (stores t (7 * i) m h c f l (flag b) n) i
    ≡ record { maker = m; holder = h; cell = c; first = f; last = l; handed = b; count = n }
stores-here t i m h c f l n b w z =
    let one : c % 256 ≡ c = omega arith in
    let vs = seven m h c f l (flag b) n in
    let at : (k : ℕ) → k < 7 → get_or (sets t (7 * i) vs) (7 * i + k) 0 ≡ get_or vs k 0 = λ k q. sets-here t vs (7 * i) k w q in
    rw (stores-are, at 0 (omega arith), at 1 (omega arith), at 2 (omega arith), at 3 (omega arith), at 4 (omega arith), at 5 (omega arith), at 6 (omega arith), handed-back b, one)

-- the numbers of another entry
set-away : (t : List ℕ) (j b x : ℕ) → ((k : ℕ) → k < 7 → 7 * j + k ≢ b) → entry_at (set t b x) j ≡ entry_at t j
set-away t j b x h =
    let at : (k : ℕ) → k < 7 → get_or (set t b x) (7 * j + k) 0 ≡ get_or t (7 * j + k) 0 = λ k w. get_or-set_other t b (7 * j + k) x 0 (h k w) in
    rw (at 0 (omega arith), at 1 (omega arith), at 2 (omega arith), at 3 (omega arith), at 4 (omega arith), at 5 (omega arith), at 6 (omega arith))

sets-away : (vs t : List ℕ) (j b : ℕ) → ((k m : ℕ) → k < 7 → m < length vs → 7 * j + k ≢ b + m) → entry_at (sets t b vs) j ≡ entry_at t j
sets-away [] t j b h = refl
sets-away (v ∷ vs) t j b h =
    sets-away vs (set t b v) j (suc b) (λ k m p q e. h k (suc m) p (omega arith) (omega arith))
    ∙ set-away t j b v (λ k p e. h k 0 p (omega arith) (omega arith))

-- the table after the seven stores
pub stores-set : (t : List ℕ) (i m h c f l n : ℕ) (b : Bool) → i < 64 → length t ≡ 448 → c < 256
    → entries (stores t (7 * i) m h c f l (flag b) n)
    ≡ set (entries t) i (record { maker = m; holder = h; cell = c; first = f; last = l; handed = b; count = n })
unfolding entries
stores-set t i m h c f l n b w z y =
    let s = stores t (7 * i) m h c f l (flag b) n in
    let k : 0 + i ≡ i = omega arith in
    let other : (j : ℕ) → j ≢ 0 + i → entry_at s j ≡ entry_at t j = λ j e.
    rw stores-are (sets-away (seven m h c f l (flag b) n) t j (7 * i) (λ x u p q v. e (omega arith))) in
    tabulate-set 64 0 i (entry_at s) (entry_at t) w other ∙ rw (k, stores-here t i m h c f l n b (omega arith) y)
