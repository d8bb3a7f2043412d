-- Document 02, 2026-10: there and back gives the old store exactly, and back and there the new one; a moved store is sound; its trees, its reads,
-- its proofs and what it holds are the source's. Assumes nothing.
use Prim.Native.Nat.{ℕ, zero, suc, ◌+◌, ◌-◌, ◌<◌, ◌≤◌}
use native.Mathlib.Omega.{arith}
use mathlib.Core.Path.{◌≡◌, refl, ap, ap₂, sym, ◌∙◌, subst}
use mathlib.Core.Logic.{◌↔◌}
use mathlib.Core.List.{List, [], ◌∷◌}
use lib.ListN.{length, get_or}
use Rattle.terms.specs.declared.Form.TheVariants.{Plain as plain, Counted as counted}
use Rattle.terms.specs.Bits.{Bytes}
use Rattle.terms.specs.Records.{Body, leaf_body, inner_body, Tally, no_tally, Record, Slot, free, used, spoiled, Store}
use Rattle.terms.specs.Form.{place_limit}
use Rattle.meaning.specs.Tree.{grants_in, unversioned}
use Rattle.meaning.specs.Store.{tree_at_version, counts_of}
use Rattle.meaning.specs.Sound.{At, Kept, Sound}
use Rattle.meaning.specs.Reading.{read_key, read_root}
use Rattle.meaning.specs.Proving.{proof}
use Rattle.meaning.specs.History.{Entry, entry, Holds, entries_from, held}
use Rattle.local.proofs.LocalIsGlobal.{local_is_global}
use Rattle.local.proofs.Standing.{record_counts}
use Rattle.moved.specs.Moving.{counting, recounted, counts_in, over, back}
use Rattle.moved.specs.Plain.{uncounted, Plain}
use Rattle.moved.proofs.Recounted.{tree_anew, each_anew, version_tree}
use Rattle.moved.proofs.Reading.{key_read_anew, proof_anew, root_read_anew}
use Rattle.moved.proofs.Sound.{local_over, local_back}

-- a record counted as it was
same_record_lem : (r : Record) (c : Tally) → c ≡ r.counts → counting c r ≡ r
unfolding counting
same_record_lem r c e = λ j. record { place = r.place; version = r.version; retired = r.retired; body = r.body; counts = e j }

counted_twice : (c d : Tally) (r : Record) → counting d (counting c r) ≡ counting d r
unfolding counting
counted_twice c d r = refl

twice : (f g : Record → Tally) (s : List Slot) →
    ((i : ℕ) (r : Record) → i < length s → get_or s i free ≡ used r → g (counting (f r) r) ≡ r.counts) →
    recounted g (recounted f s) ≡ s
twice f g [] h = refl
twice f g (free ∷ s) h = ap (λ t. free ∷ t) (twice f g s (λ i r l e. h (suc i) r (omega arith) e))
twice f g (used r ∷ s) h =
    ap₂ (λ x t. used x ∷ t)
    (counted_twice (f r) _ r ∙ same_record_lem r _ (h 0 r (omega arith) refl))
    (twice f g s (λ i q l e. h (suc i) q (omega arith) e))
twice f g (spoiled x ∷ s) h = ap (λ t. spoiled x ∷ t) (twice f g s (λ i r l e. h (suc i) r (omega arith) e))

-- There and back gives the old store: for every store of the plain form, sound or not.
pub there_and_back : (st : Store) → Plain st → back (over st) ≡ st
unfolding over back At
there_and_back st w =
    let same = twice (counts_in st.slots) uncounted st.slots (λ i r l e. sym (w.bare i r (l, e))) in
    λ j. record { form = sym w.form j; oldest = st.oldest; latest = st.latest; slots = same j }

most_bits_lem : (b : Body) → place_limit b ≤ 256
most_bits_lem (leaf_body k x) = omega arith
most_bits_lem (inner_body l r) = omega arith

module _ (leaf_hash inner_hash : Bytes → Bytes → Bytes) (st : Store) (ok : Sound leaf_hash inner_hash st) where
  -- A moved store is sound.
  pub over_is_sound : Sound leaf_hash inner_hash (over st)
  over_is_sound = (local_is_global leaf_hash inner_hash (over st)).0 (local_over leaf_hash inner_hash st ((local_is_global leaf_hash inner_hash st).1 ok))

  pub back_is_sound : Sound leaf_hash inner_hash (back st)
  back_is_sound = (local_is_global leaf_hash inner_hash (back st)).0 (local_back leaf_hash inner_hash st ((local_is_global leaf_hash inner_hash st).1 ok))

-- Soundness of the counted form is document 01's, of the store without its counts, and 02's sentence, record by record: each count is the number of
-- leaves below that child, 0 for none.
abbrev pub CountsRight : Store → Type 0
CountsRight st = (i : ℕ) (r : Record) → At st i r → r.counts ≡ counts_in st.slots r

module _ (leaf_hash inner_hash : Bytes → Bytes → Bytes) (st : Store) (form : st.form ≡ counted) where
  counts_right : Sound leaf_hash inner_hash st → CountsRight st
  unfolding counts_in
  counts_right ok i r a =
      record_counts leaf_hash inner_hash st ((local_is_global leaf_hash inner_hash st).1 ok) (256 - length r.place) i r a
      (omega (arith, (ok.formed i r a).short, most_bits_lem r.body)) form

  right_again : CountsRight st → over (back st) ≡ st
  right_again right = go
    where
      same_counts : (r : Record) → counts_in (recounted uncounted st.slots) (counting no_tally r) ≡ counts_in st.slots r
      same_counts r = unfold counts_in counting in ap counts_of (tree_anew uncounted (256 - length r.place) st.slots r.version r.place)

      go : over (back st) ≡ st
      go = unfold over back At in
          (let same = twice uncounted (counts_in (recounted uncounted st.slots)) st.slots
          (λ i r l e. same_counts r ∙ sym (right i r (l, e))) in
          λ j. record { form = sym form j; oldest = st.oldest; latest = st.latest; slots = same j })

  -- Back and there gives the new store: for every sound store of the counted form.
  pub back_and_there : Sound leaf_hash inner_hash st → over (back st) ≡ st
  back_and_there ok = right_again (counts_right ok)

  pub counted_sound_exactly : Sound leaf_hash inner_hash st ↔ (Sound leaf_hash inner_hash (back st) × CountsRight st)
  counted_sound_exactly = (
    λ ok. (back_is_sound leaf_hash inner_hash st ok, counts_right ok),
    λ w. subst (Sound leaf_hash inner_hash) (right_again w.1) (over_is_sound leaf_hash inner_hash (back st) w.0),
  )

-- Back in the plain form there are no counts.
pub back_is_plain : (st : Store) → Plain (back st)
unfolding back counting
back_is_plain st = record { form = refl; bare = each_anew uncounted st plain (λ i r. r.counts ≡ no_tally) (λ i r a. refl) }

-- Trees, reads and proofs are those of the source, whether it is sound or not.
module _ (st : Store) (v : ℕ) where
  pub over_tree : tree_at_version (over st) v ≡ tree_at_version st v
  unfolding over
  over_tree = version_tree (counts_in st.slots) st counted v

  pub back_tree : tree_at_version (back st) v ≡ tree_at_version st v
  unfolding back
  back_tree = version_tree uncounted st plain v

  pub over_proof : (k : Bytes) → proof (over st) v k ≡ proof st v k
  unfolding over
  over_proof k = proof_anew (counts_in st.slots) st counted v k

  pub back_proof : (k : Bytes) → proof (back st) v k ≡ proof st v k
  unfolding back
  back_proof k = proof_anew uncounted st plain v k

  pub over_key_read : (k : Bytes) → read_key (over st) v k ≡ read_key st v k
  unfolding over
  over_key_read k = key_read_anew (counts_in st.slots) st counted v k

  pub back_key_read : (k : Bytes) → read_key (back st) v k ≡ read_key st v k
  unfolding back
  back_key_read k = key_read_anew uncounted st plain v k

  module _ (leaf_hash inner_hash : Bytes → Bytes → Bytes) where
    pub over_root_read : read_root leaf_hash inner_hash (over st) v ≡ read_root leaf_hash inner_hash st v
    unfolding over
    over_root_read = root_read_anew (counts_in st.slots) st counted leaf_hash inner_hash v

    pub back_root_read : read_root leaf_hash inner_hash (back st) v ≡ read_root leaf_hash inner_hash st v
    unfolding back
    back_root_read = root_read_anew uncounted st plain leaf_hash inner_hash v

-- What a store holds goes with it: it takes over the source's history, and without one it starts with what its kept versions hold.
module _ (st st' : Store) (trees : (v : ℕ) → tree_at_version st' v ≡ tree_at_version st v) (low : st.oldest ≡ st'.oldest) (high : st.latest ≡ st'.latest) where
  from_same : (o n : ℕ) → entries_from (tree_at_version st') o n ≡ entries_from (tree_at_version st) o n
  from_same o zero = ap (λ t. entry o (grants_in t) ∷ []) (trees o)
  from_same o (suc n) = ap₂ (λ t es. entry (o + suc n) (grants_in t) ∷ es) (trees (o + suc n)) (from_same o n)

  held_same : held st' ≡ held st
  unfolding held
  held_same = ap₂ (λ o l. entries_from (tree_at_version st') o (l - o)) (sym low) (sym high) ∙ from_same st.oldest (st.latest - st.oldest)

  kept_same : (v : ℕ) → Kept st' v → Kept st v
  kept_same v k = (omega (arith, k.0), omega (arith, k.1))

  same_kept : (v : ℕ) → Kept st v → Kept st' v
  same_kept v k = (omega (arith, k.0), omega (arith, k.1))

  holds_same : (leaf_hash inner_hash : Bytes → Bytes → Bytes) (es : List Entry) → Sound leaf_hash inner_hash st' → Holds leaf_hash inner_hash st es →
      Holds leaf_hash inner_hash st' es
  holds_same leaf_hash inner_hash es ok h = record {
    sound = ok;
    gives = λ v k.
        let (gs, e, f, g) = h.gives v (kept_same v k) in
        (gs, e, ap unversioned (trees v) ∙ f, ap grants_in (trees v) ∙ g);
    only = λ v f. h.only v (λ k. f (same_kept v k));
  }

module _ (leaf_hash inner_hash : Bytes → Bytes → Bytes) (st : Store) where
  pub over_holds : (es : List Entry) → Holds leaf_hash inner_hash st es → Holds leaf_hash inner_hash (over st) es
  unfolding over
  over_holds es h = holds_same st (over st) (over_tree st) refl refl leaf_hash inner_hash es (over_is_sound leaf_hash inner_hash st h.sound) h

  pub back_holds : (es : List Entry) → Holds leaf_hash inner_hash st es → Holds leaf_hash inner_hash (back st) es
  unfolding back
  back_holds es h = holds_same st (back st) (back_tree st) refl refl leaf_hash inner_hash es (back_is_sound leaf_hash inner_hash st h.sound) h

pub over_held : (st : Store) → held (over st) ≡ held st
unfolding over
over_held st = held_same st (over st) (over_tree st) refl refl

pub back_held : (st : Store) → held (back st) ≡ held st
unfolding back
back_held st = held_same st (back st) (back_tree st) refl refl
