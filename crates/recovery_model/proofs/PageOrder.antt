-- The order of the pages does not matter: redone where they stand in any order, and any of them more than once, they give the same charts (`any_order`).
use Prim.Native.Nat.{ℕ, zero, suc, ◌+◌, ◌*◌, ◌≤◌, ◌<◌}
use native.Mathlib.Omega.{arith}
use native.Mathlib.Nat.{zero-add}
use mathlib.Core.Path.{◌≡◌, refl, ap, sym, ◌∙◌}
use mathlib.Core.Bool.{Bool, true, false, cond, not, ◌&&◌, ◌||◌}
use mathlib.Core.List.{List, [], ◌∷◌, ◌++◌, append-nil}
use lib.ListN.{length, take, drop, replicate, length-append, length-drop, length-replicate, drop_of_length-le}
use lib.Seq.{length-take-le, take-append-le, take_all}
use lib.IntN.{pos}
use lib.Dec.{eqb, ltb}
use borrow.Author.Tests.{eq-eqb, ne_eqb, eqb-false, ltb-true, ltb-false}
use Rattle.book.specs.Lists.{foldl, member, tabulate, join}
use Rattle.book.specs.Book.{done, refused_by}
use Rattle.book.specs.Numbers.{AreBytes}
use Rattle.book.specs.Pages.{page_bytes, chart_bytes, page_at, is_page, redone}
use Rattle.book.proofs.Lists.{clash, or_l, or_r}
use Rattle.book.proofs.Blocks.{blocks, blocks-long, tabulate-same, first-all, block_at, block-set}
use Rattle.book.proofs.Numbers.{part_bytes}
use Rattle.state.specs.CallContracts.{with_page}
use Rattle.recovery_model.specs.PageAlone.{rows_in, redone_bytes, RedoneAlone, redone_alone, PageAlone, with_redone, AllPages, AnyOrder, CopyAlone}
use Rattle.recovery_model.proofs.RedoneBytes.{redone-long, redone-twice}
use Rattle.recovery_model.proofs.PageAlone.{few-in-log, page-alone}

-- ── Pages changed by a function that a second time changes nothing more ───────────────────────────────────────────────

module _ (redo : ℕ → List ℕ → List ℕ) (old : ℕ → List ℕ) (long : (p : ℕ) → length (old p) ≡ 32)
    (same-long : (p : ℕ) (bs : List ℕ) → length bs ≡ 32 → length (redo p bs) ≡ 32)
    (twice : (p : ℕ) → p < 32 → redo p (redo p (old p)) ≡ redo p (old p)) (none : (p : ℕ) → redo p [] ≡ []) where
  -- the pages of which some are done
  abbrev partly : (ℕ → Bool) → ℕ → List ℕ
  partly done p = cond (done p) (redo p (old p)) (old p)

  abbrev joined : (ℕ → Bool) → List ℕ
  joined done = join (tabulate 32 0 (partly done))

  -- page p of the charts is done where it stands
  abbrev step : List ℕ → ℕ → List ℕ
  step cs p = with_page p (redo p (page_at cs p)) cs

  partly-long : (done : ℕ → Bool) (p : ℕ) → length (partly done p) ≡ 32
  partly-long done p = go (done p)
    where
      go : (t : Bool) → length (cond t (redo p (old p)) (old p)) ≡ 32
      go true = same-long p (old p) (long p)
      go false = long p

  -- done before or not, it becomes the same
  page-becomes : (p : ℕ) → p < 32 → (t : Bool) → redo p (cond t (redo p (old p)) (old p)) ≡ redo p (old p)
  page-becomes p h true = twice p h
  page-becomes p h false = refl

  one-done : (done : ℕ → Bool) (p : ℕ) → p < 32 → step (joined done) p ≡ joined (λ q. eqb q p || done q)
  one-done done p h =
      let all = joined done in
      ap (λ (bs : List ℕ). with_page p (redo p bs) all)
      (block_at 32 (partly done) (partly-long done) 32 0 p h ∙ ap (partly done) (zero-add p)) ∙
      ap (λ (bs : List ℕ). with_page p bs all) (page-becomes p h (done p) ∙ sym there) ∙
      block-set 32 (partly done) (partly-long done) (partly (λ q. eqb q p || done q)) 32 0 p h
      (λ q e. ap (λ (t : Bool). cond (t || done q) (redo q (old q)) (old q)) (sym (ap (eqb q) (sym (zero-add p)) ∙ e)))
    where
      there : partly (λ q. eqb q p || done q) (0 + p) ≡ redo p (old p)
      there = rw (zero-add p, eq-eqb p p refl)

  -- there is no page above 31
  none-there : (done : ℕ → Bool) (p : ℕ) → 32 ≤ p → step (joined done) p ≡ joined done
  none-there done p h =
      let cs = joined done in
      let n : length cs ≡ 1024 = blocks-long 32 (partly done) (partly-long done) 32 0 in
      let empty : drop (32 * p) cs ≡ [] = drop_of_length-le cs {i = 32 * p} (omega arith) in
      let behind : drop (32 * p + 32) cs ≡ [] = drop_of_length-le cs {i = 32 * p + 32} (omega arith) in
      rw (empty, none p, behind, take_all (32 * p) cs (omega arith)) (append-nil (cs ++ []) ∙ append-nil cs)

  all_done : (ps : List ℕ) (done : ℕ → Bool) → ((p : ℕ) → p < 32 → (member p ps || done p) ≡ true)
      → foldl step (joined done) ps ≡ join (tabulate 32 0 (λ p. redo p (old p)))
  all_done [] done each =
      ap join (tabulate-same 32 0 _ _ (λ p a b. ap (λ (t : Bool). cond t (redo p (old p)) (old p)) (each p (omega arith))))
  all_done (p ∷ ps) done each = go (ltb p 32) refl (all_done ps)
    where
      bools : (a b c : Bool) → (a || b || c) ≡ true → (b || (a || c)) ≡ true
      bools true b c e = or_r b true refl
      bools false b c e = e

      go : (t : Bool) → ltb p 32 ≡ t
          → ((d : ℕ → Bool) → ((q : ℕ) → q < 32 → (member q ps || d q) ≡ true) → foldl step (joined d) ps ≡ join (tabulate 32 0 (λ q. redo q (old q))))
          → foldl step (joined done) (p ∷ ps) ≡ join (tabulate 32 0 (λ q. redo q (old q)))
      go true e rest =
          ap (λ (cs : List ℕ). foldl step cs ps) (one-done done p (ltb-true p 32 e)) ∙
          rest (λ q. eqb q p || done q) (λ q h. bools (eqb q p) (member q ps) (done q) (each q h))
      go false e rest =
          let l = ltb-false p 32 e in
          ap (λ (cs : List ℕ). foldl step cs ps) (none-there done p l) ∙ rest done (λ q h. rw (ne_eqb q p (λ i. omega arith)) at (each q h))

-- ── Pages redone alone ────────────────────────────────────────────────────────────────────────────────────────────────

module _ (log : List ℕ) where
  -- page p redone alone
  abbrev alone : ℕ → List ℕ → List ℕ
  alone p bs = (redone_alone log p bs).page

  -- by whether the lengths and the number are right
  abbrev alone_by : Bool → Bool → ℕ → List ℕ → List ℕ
  alone_by fit some p bs = cond (not fit) bs (cond (not some) bs (redone_bytes (rows_in log) p bs))

  alone-is : (p : ℕ) (bs : List ℕ) → length bs ≡ 32 → alone p bs ≡ alone_by (eqb (length log) 65536) (ltb p 32) p bs
  unfolding redone_alone
  alone-is p bs long = go (eqb (length log) 65536) (eqb (length bs) 32) (ltb p 32) (eq-eqb (length bs) 32 long)
    where
      go : (s b t : Bool) → b ≡ true → (cond {A = RedoneAlone} (not (s && b)) (record { answer = refused_by 1; page = bs })
          (cond (not t) (record { answer = refused_by 14; page = bs }) (record { answer = done (pos 0); page = redone_bytes (rows_in log) p bs }))).page
          ≡ alone_by s t p bs
      go true true true e = refl
      go true true false e = refl
      go true false t e = clash false e refl
      go false b t e = refl

  alone-long : (p : ℕ) (bs : List ℕ) → length bs ≡ 32 → length (alone p bs) ≡ 32
  alone-long p bs long = ap length (alone-is p bs long) ∙ go (eqb (length log) 65536) (ltb p 32)
    where
      go : (s t : Bool) → length (alone_by s t p bs) ≡ 32
      go true true = redone-long (rows_in log) p bs
      go true false = long
      go false t = long

  alone_twice : (p : ℕ) (bs : List ℕ) → length bs ≡ 32 → AreBytes bs → alone p (alone p bs) ≡ alone p bs
  alone_twice p bs long bytes =
      let once = alone-is p bs long in
      alone-is p (alone p bs) (alone-long p bs long) ∙ ap (alone_by (eqb (length log) 65536) (ltb p 32) p) once ∙ go (eqb (length log) 65536) (ltb p 32) ∙ sym once
    where
      go : (s t : Bool) → alone_by s t p (alone_by s t p bs) ≡ alone_by s t p bs
      go true true = redone-twice (rows_in log) p bs bytes (few-in-log log)
      go true false = refl
      go false t = refl

  -- no bytes are refused by 1
  alone-none : (p : ℕ) → alone p [] ≡ []
  unfolding redone_alone
  alone-none p = go (eqb (length log) 65536)
    where
      go : (t : Bool) → (cond {A = RedoneAlone} (not (t && false)) (record { answer = refused_by 1; page = [] })
          (cond (not (ltb p 32)) (record { answer = refused_by 14; page = [] }) (record { answer = done (pos 0); page = redone_bytes (rows_in log) p [] }))).page ≡ []
      go true = refl
      go false = refl

-- the bytes of page p; of no such page any 32 will do
abbrev page_or : List ℕ → ℕ → List ℕ
page_or charts p = take 32 (drop (32 * p) charts ++ replicate 32 0)

pub any_order : AnyOrder
unfolding AnyOrder
any_order log charts long bytes ps all =
    ap (λ (cs : List ℕ). foldl (with_redone log) cs ps) (sym (blocks 32 32 0 charts long) ∙ ap join (tabulate-same 32 0 _ _ (λ p a b. sym (page-is p (omega arith))))) ∙
    all_done (alone log) (page_or charts) or_long (alone-long log) (λ p h. twice p h) (alone-none log) ps (λ p. false) (λ p h. or_l _ _ (all p h)) ∙
    ap join (tabulate-same 32 0 _ _ (λ p a b. ap (alone log p) (page-is p (omega arith))))
  where
    page-is : (p : ℕ) → p < 32 → page_or charts p ≡ page_at charts p
    page-is p h = let d = length-drop (32 * p) charts in take-append-le 32 (drop (32 * p) charts) (replicate 32 0) (omega arith)

    or_long : (p : ℕ) → length (page_or charts p) ≡ 32
    or_long p =
        let a = length-append (drop (32 * p) charts) (replicate 32 0) in
        let b = length-replicate {A = ℕ} 32 0 in
        length-take-le 32 (drop (32 * p) charts ++ replicate 32 0) (omega arith)

    twice : (p : ℕ) → p < 32 → alone log p (alone log p (page_or charts p)) ≡ alone log p (page_or charts p)
    twice p h = rw (page-is p h) (alone_twice log p (page_at charts p) (rw (page-is p h) at (or_long p)) (part_bytes charts bytes (32 * p) 32))

-- ── Of a store that an opening takes ──────────────────────────────────────────────────────────────────────────────────

pub copy-alone : CopyAlone
unfolding CopyAlone AnyOrder PageAlone chart_bytes
copy-alone log charts log-long long bytes rs e pass ps all =
    any_order log charts long bytes ps all ∙ ap join (tabulate-same 32 0 _ _ (λ p a b. page-is p (omega arith)))
  where
    page-is : (p : ℕ) → p < 32 → (redone_alone log p (page_at charts p)).page ≡ page_bytes (redone rs p (page_at charts p))
    page-is p h =
        let d = length-drop (32 * p) charts in
        let size : length (page_at charts p) ≡ 32 = length-take-le 32 (drop (32 * p) charts) (omega arith) in
        ap (λ (r : RedoneAlone). r.page)
        (page-alone log rs log-long e p (page_at charts p) h size (first-all 32 0 (λ i. is_page rs i (page_at charts i)) pass p (omega arith) (omega arith)))

-- ── The pages in their order are all pages ────────────────────────────────────────────────────────────────────────────

pub all-pages : AllPages (tabulate 32 0 (λ p. p))
all-pages p h = go 32 0 (omega arith) (omega arith)
  where
    go : (n from : ℕ) → from ≤ p → p < from + n → member p (tabulate n from (λ q. q)) ≡ true
    go zero from a b = absurd (omega arith)
    go (suc n) from a b = its (eqb p from) refl (go n (suc from))
      where
        its : (t : Bool) → eqb p from ≡ t → (suc from ≤ p → p < suc from + n → member p (tabulate n (suc from) (λ q. q)) ≡ true)
            → (t || member p (tabulate n (suc from) (λ q. q))) ≡ true
        its true e rest = refl
        its false e rest = let d = eqb-false p from e in rest (omega arith) (omega arith)
