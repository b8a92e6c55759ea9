-- The listed visits are the active ones, and stay so row by row.
use Prim.Native.Nat.{ℕ, suc, ◌-◌, ◌<◌}
use mathlib.Core.Path.{◌≡◌, refl, ap, ap₂, sym, ◌∙◌}
use mathlib.Core.Bool.{Bool, true, false, not, ◌&&◌, ◌||◌}
use mathlib.Core.List.{List, [], ◌∷◌, ◌++◌, map, reverse}
use lib.ListN.{length, take, replicate, length-map, length-reverse}
use lib.IntN.{ℤ}
use lib.Dec.{eqb}
use borrow.Author.Tests.{eqb-true}
use Rattle.book.specs.Lists.{keep, any, member, without, pad_to}
use Rattle.book.specs.Limits.{active_limit}
use Rattle.book.specs.Rows.{begin, undo}
use Rattle.book.specs.Ledger.{Ledger, after}
use Rattle.book.specs.Rules.{is_active, bears_undo}
use Rattle.book.specs.Scopes.{scopes_of}
use Rattle.book.proofs.Lists.{keep_same, keep-map, map-map, eqb-sym}
use Rattle.tables_model.specs.declared.Active.{Active}
use Rattle.tables_model.specs.declared.Tables.{Tables}
use Rattle.tables_model.specs.Visits.{listed, is_of, is_listed, is_bearing, marked, others, with_begun, with_undo, with_ended}
use Rattle.tables_model.specs.Meaning.{vacant, active_of, tables_of}
use Rattle.tables_model.proofs.Reversed.{any-reverse, keep-reverse, map-reverse}
use Rattle.tables_model.proofs.Padded.{take-pad, drop-pad, push-pad, map-pad}
use Rattle.tables_model.proofs.Looking.{any_same, any-map}

-- ── What the list says ────────────────────────────────────────────────────────────────────────────────────────────────

-- the entries of the active visits, newest first
abbrev pub visits_of : Ledger → List Active
visits_of l = map (active_of l) l.active

visits-length : (l : Ledger) → length (visits_of l) ≡ length l.active
visits-length l = length-map l.active (active_of l)

pub listed-is : (l : Ledger) → listed (tables_of l) ≡ reverse (visits_of l)
unfolding tables_of
listed-is l = ap (λ (n : ℕ). take n (pad_to active_limit vacant (reverse (visits_of l)))) (sym (visits-length l)) ∙ take-pad active_limit vacant (visits_of l)

pub is-listed : (l : Ledger) (v : ℕ) → is_listed (tables_of l) v ≡ is_active l v
unfolding is_listed
is-listed l v =
    ap (any (is_of v)) (listed-is l) ∙ any-reverse (is_of v) (visits_of l) ∙ any-map (is_of v) (active_of l) l.active ∙
    any_same _ _ l.active (λ u. eqb-sym u v)

pub is-bearing : (l : Ledger) (v : ℕ) → is_bearing (tables_of l) v ≡ (is_active l v && bears_undo l v)
unfolding is_bearing
is-bearing l v =
    ap (any (λ a. is_of v a && a.bears)) (listed-is l) ∙ any-reverse _ (visits_of l) ∙ any-map _ (active_of l) l.active ∙ go l.active
  where
    go : (us : List ℕ) → any (λ u. eqb u v && bears_undo l u) us ≡ (member v us && bears_undo l v)
    go [] = refl
    go (u ∷ us) = its (eqb v u) refl (go us)
      where
        its : (t : Bool) → eqb v u ≡ t → any (λ w. eqb w v && bears_undo l w) us ≡ (member v us && bears_undo l v)
            → ((eqb u v && bears_undo l u) || any (λ w. eqb w v && bears_undo l w) us) ≡ ((t || member v us) && bears_undo l v)
        its true e ih = rw (ih, eqb-sym u v, e, ← eqb-true v u e) (bools (bears_undo l v) (member v us))
          where
            bools : (b m : Bool) → (b || (m && b)) ≡ b
            bools true m = refl
            bools false true = refl
            bools false false = refl
        its false e ih = rw (eqb-sym u v, e) ih

-- ── Row by row ────────────────────────────────────────────────────────────────────────────────────────────────────────

-- the tables with these visits, the rest by the ledger
abbrev pub tables_with : Ledger → List Active → ℕ → Tables
tables_with l vs used = record { begun = l.begun; active = pad_to active_limit vacant (reverse vs); count = length vs; used = used }

pub tables-with : (l : Ledger) → tables_of l ≡ tables_with l (visits_of l) (length (scopes_of l))
unfolding tables_of
tables-with l = ap (λ (n : ℕ). record {
  begun = l.begun;
  active = pad_to active_limit vacant (reverse (visits_of l));
  count = n;
  used = length (scopes_of l);
}) (sym (visits-length l))

module _ (l : Ledger) (v : ℕ) where
  pub begun-visits : bears_undo l v ≡ false → length l.active < active_limit
      → with_begun (tables_of l) v ≡ tables_with (after l (begin v)) (visits_of (after l (begin v))) (length (scopes_of l))
  unfolding after with_begun
  begun-visits clean lt =
      let entry : active_of l v ≡ record { visit = record { 0 = v }; bears = false } =
      ap (λ (b : Bool). record { visit = record { 0 = v }; bears = b }) clean in
      ap (λ (t : Tables). with_begun t v) (tables-with l) ∙
      ap (λ (vs : List Active). record { begun = suc l.begun; active = vs; count = suc (length (visits_of l)); used = length (scopes_of l) })
      (push-pad active_limit vacant (record { visit = record { 0 = v }; bears = false }) (visits_of l) (rw (visits-length l) lt) ∙
      ap (λ (a : Active). pad_to active_limit vacant (reverse (a ∷ visits_of l))) (sym entry))

  pub undone-visits : (c n : ℕ) (a : ℤ) → with_undo (tables_of l) v
      ≡ tables_with (after l (undo v c n a)) (visits_of (after l (undo v c n a))) (length (scopes_of l))
  unfolding after with_undo
  undone-visits c n a =
      ap (λ (t : Tables). with_undo t v) (tables-with l) ∙
      ap₂ (λ (vs : List Active) (k : ℕ). record { begun = l.begun; active = vs; count = k; used = length (scopes_of l) })
      (ap₂ (λ (vs ws : List Active). map (marked v) vs ++ ws) (take-pad active_limit vacant (visits_of l)) (drop-pad active_limit vacant (visits_of l)) ∙
      ap (λ (vs : List Active). vs ++ replicate (active_limit - length (reverse (visits_of l))) vacant)
      (map-reverse (marked v) (visits_of l) ∙ ap reverse (map-map (marked v) (active_of l) l.active)) ∙
      map-pad active_limit vacant (reverse (visits_of l)) (reverse (visits_of (after l (undo v c n a))))
      (length-reverse (visits_of l) ∙ same ∙ sym (length-reverse (visits_of (after l (undo v c n a))))))
      same
    where
      same : length (visits_of l) ≡ length (visits_of (after l (undo v c n a)))
      same = visits-length l ∙ sym (visits-length (after l (undo v c n a)))

  -- the others after a commit or an abort
  others-are : others v (tables_of l) ≡ reverse (map (active_of l) (without v l.active))
  others-are =
      ap (keep (λ a. not (is_of v a))) (listed-is l) ∙ keep-reverse _ (visits_of l) ∙
      ap reverse (keep-map _ (active_of l) l.active ∙ ap (map (active_of l)) (keep_same _ _ l.active (λ u m. ap not (eqb-sym u v))))

  pub ended-visits : (used : ℕ) → with_ended (tables_of l) v used ≡ tables_with l (map (active_of l) (without v l.active)) used
  unfolding with_ended tables_of
  ended-visits used =
      ap (λ (vs : List Active). record { begun = l.begun; active = pad_to active_limit vacant vs; count = length vs; used = used }) others-are ∙
      ap (λ (k : ℕ). record { begun = l.begun; active = pad_to active_limit vacant (reverse (map (active_of l) (without v l.active))); count = k; used = used })
      (length-reverse (map (active_of l) (without v l.active)))
