-- Records counted anew stand where they stood and are found as before; trees are the same. Assumes nothing.
use Prim.Native.Nat.{ℕ, zero, suc, ◌<◌}
use mathlib.Core.Path.{◌≡◌, refl, ap, ap₂, sym, ◌∙◌, subst, fun_ext}
use mathlib.Core.Bool.{Bool, true, false, cond}
use mathlib.Core.List.{List, [], ◌∷◌}
use mathlib.Core.Option.{Option, none, some}
use lib.ListN.{length, get_or, length-map}
use lib.Dec.{eqb}
use Rattle.terms.specs.declared.Form.{Form}
use Rattle.terms.specs.declared.Form.TheVariants.{Counted as counted}
use Rattle.terms.specs.Bits.{Bytes, Side, Place, longer}
use Rattle.terms.specs.Records.{Tally, Record, Slot, free, used, spoiled, Store}
use Rattle.meaning.specs.Tree.{VTree, vnone}
use Rattle.meaning.specs.Store.{is_node, is_root, retired_by, lowest, find, root_of, tree_found, tree_from, tree_at_version, on_record}
use Rattle.meaning.specs.Sight.{lowest_spoilt}
use Rattle.meaning.specs.Sound.{At}
use Rattle.meaning.proofs.Finding.{free_used, spoiled_used, used_eq}
use Rattle.moved.specs.Moving.{counting, recounted}

module _ (g : Record → Tally) where
  -- a record counted anew
  abbrev pub anew : Record → Record
  anew r = counting (g r) r

  abbrev pub found : Option Record → Option Record
  found none = none
  found (some r) = some (anew r)

  -- a test that doesn't see counts finds what it found
  lowest_anew : (test : Record → Bool) → ((r : Record) → test (anew r) ≡ test r) → (s : List Slot) →
      lowest test (recounted g s) ≡ found (lowest test s)
  lowest_anew test same [] = refl
  lowest_anew test same (free ∷ s) = lowest_anew test same s
  lowest_anew test same (used r ∷ s) =
      ap₂ (λ b o. cond b (some (anew r)) o) (same r) (lowest_anew test same s) ∙ go (test r)
    where
      go : (b : Bool) → cond b (some (anew r)) (found (lowest test s)) ≡ found (cond b (some r) (lowest test s))
      go true = refl
      go false = refl
  lowest_anew test same (spoiled x ∷ s) = lowest_anew test same s

  pub find_anew : (v : ℕ) (p : Place) (s : List Slot) → find v p (recounted g s) ≡ found (find v p s)
  unfolding is_node counting
  find_anew v p s = lowest_anew (is_node v p) (λ r. refl) s

  pub root_anew : (v : ℕ) (s : List Slot) → lowest (is_root v) (recounted g s) ≡ found (lowest (is_root v) s)
  unfolding is_root retired_by counting
  root_anew v s = lowest_anew (is_root v) (λ r. refl) s

  pub spoilt_anew : (test : Bytes → Bool) (i : ℕ) (s : List Slot) → lowest_spoilt test i (recounted g s) ≡ lowest_spoilt test i s
  spoilt_anew test i [] = refl
  spoilt_anew test i (free ∷ s) = spoilt_anew test (suc i) s
  spoilt_anew test i (used r ∷ s) = spoilt_anew test (suc i) s
  spoilt_anew test i (spoiled x ∷ s) = ap (cond (test x) (some i)) (spoilt_anew test (suc i) s)

  -- trees don't see counts
  found_tree : (o : Option Record) (below below' : Side → ℕ → VTree) → ((b : Side) (w : ℕ) → below b w ≡ below' b w) →
      tree_found (found o) below ≡ tree_found o below'
  unfolding counting
  found_tree none below below' e = refl
  found_tree (some r) below below' e = ap (tree_found (some r)) (fun_ext (λ b. fun_ext (e b)))

  pub tree_anew : (n : ℕ) (s : List Slot) (v : ℕ) (p : Place) → tree_from n (recounted g s) v p ≡ tree_from n s v p
  tree_anew zero s v p =
      ap (cond (eqb v 0) vnone) (ap (λ o. tree_found o (λ b w. vnone)) (find_anew v p s) ∙ found_tree (find v p s) _ _ (λ b w. refl))
  tree_anew (suc n) s v p =
      ap (cond (eqb v 0) vnone)
      (ap (λ o. tree_found o (λ b w. tree_from n (recounted g s) w (longer b p))) (find_anew v p s)
      ∙ found_tree (find v p s) _ _ (λ b w. tree_anew n s w (longer b p)))

  -- a slot holds what it held
  pub slots_anew : (s : List Slot) (i : ℕ) → get_or (recounted g s) i free ≡ on_record (λ r. used (anew r)) (get_or s i free)
  slots_anew [] i = refl
  slots_anew (x ∷ s) zero = refl
  slots_anew (x ∷ s) (suc i) = slots_anew s i

  from_record : (x : Slot) (r : Record) → on_record (λ r. used (anew r)) x ≡ used r → (q : Record) × (x ≡ used q) × (anew q ≡ r)
  from_record free r e = free_used r e
  from_record (used q) r e = (q, refl, used_eq (anew q) r e)
  from_record (spoiled x) r e = spoiled_used x r e

  from_spoiled : (x : Slot) (y : Bytes) → on_record (λ r. used (anew r)) x ≡ spoiled y → x ≡ spoiled y
  from_spoiled free y e = e
  from_spoiled (used q) y e = spoiled_used y (anew q) (sym e)
  from_spoiled (spoiled x) y e = e

  pub length_anew : (s : List Slot) → length (recounted g s) ≡ length s
  length_anew s = length-map s (on_record (λ r. used (anew r)))

  pub spoiled_was : (s : List Slot) (i : ℕ) (y : Bytes) → get_or (recounted g s) i free ≡ spoiled y → get_or s i free ≡ spoiled y
  spoiled_was s i y e = from_spoiled (get_or s i free) y (sym (slots_anew s i) ∙ e)

  module _ (st : Store) (form : Form) where
    -- the store with its records counted anew, in a form
    abbrev pub moved : Store
    moved = record { form = form; oldest = st.oldest; latest = st.latest; slots = recounted g st.slots }

    pub at_anew : (i : ℕ) (r : Record) → At st i r → At moved i (anew r)
    unfolding At
    at_anew i r a = (rw (length_anew st.slots) a.0, slots_anew st.slots i ∙ ap (on_record (λ r. used (anew r))) a.1)

    pub at_was : (i : ℕ) (r : Record) → At moved i r → (q : Record) × At st i q × (anew q ≡ r)
    unfolding At
    at_was i r a =
        let (q, e, f) = from_record (get_or st.slots i free) r (sym (slots_anew st.slots i) ∙ a.1) in
        (q, (subst (λ n. i < n) (length_anew st.slots) a.0, e), f)

    -- what holds of each record counted anew
    pub each_anew : (P : ℕ → Record → Type 0) → ((i : ℕ) (r : Record) → At st i r → P i (anew r)) → (i : ℕ) (r : Record) → At moved i r → P i r
    each_anew P f i r a = let (q, c, e) = at_was i r a in subst (P i) e (f i q c)

    pub roots_anew : (v : ℕ) → root_of moved v ≡ found (root_of st v)
    unfolding root_of
    roots_anew v = root_anew v st.slots

    pub version_tree : (v : ℕ) → tree_at_version moved v ≡ tree_at_version st v
    unfolding tree_at_version
    version_tree v =
        ap (λ o. tree_found o (λ b w. tree_from 255 (recounted g st.slots) w (b ∷ []))) (roots_anew v)
        ∙ found_tree (root_of st v) _ _ (λ b w. tree_anew 255 st.slots w (b ∷ []))
