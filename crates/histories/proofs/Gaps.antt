-- Where each batch is given latest + 1, no version lies between two publishings: each kept version's tree has its own version at the top,
-- so its root is found as in document 01, as the record of that version at the empty place. Assumes nothing.
use Prim.Native.Nat.{ℕ, suc, ◌≤◌}
use native.Mathlib.Omega.{arith}
use mathlib.Core.Path.{◌≡◌, refl, ap₂, sym, ◌∙◌, subst}
use mathlib.Core.Logic.{◌⊎◌, inl, inr}
use mathlib.Core.Bool.{Bool, true, false}
use mathlib.Core.List.{List, [], ◌∷◌}
use mathlib.Core.Option.{Option, none, some}
use lib.ListN.{length}
use lib.Dec.{leb}
use borrow.Author.Tests.{leb-true, leb-false}
use Rattle.terms.specs.Bits.{Bytes, All}
use Rattle.terms.specs.Records.{Ask, Record, Store}
use Rattle.meaning.specs.Tree.{VTree, vnone, top_version}
use Rattle.meaning.specs.Store.{find, root_of, tree_at_version}
use Rattle.meaning.specs.Sound.{Kept, Hashes32, Sound}
use Rattle.meaning.specs.Calls.{Applied, refuse}
use Rattle.meaning.specs.History.{Call, formatting, applying, pruning, taking, looking, Entry}
use Rattle.meaning.specs.Course.{CallForm, after, run}
use Rattle.meaning.proofs.Finding.{is_node_eq, none_not}
use Rattle.meaning.proofs.Roots.{root_some}
use Rattle.histories.specs.Claims.{NoGap, AfterApply, AfterPrune}
use Rattle.histories.specs.Gaps.{NoGaps}
use Rattle.histories.proofs.Slots.{none_find, unique_find, root_has, root_not}
use Rattle.histories.proofs.Whole.{not_retired, Whole, sound_whole}
use Rattle.histories.proofs.Pruning.{formatted_tree}
use Rattle.histories.proofs.Growing.{next_top}
use Rattle.histories.proofs.Calls.{prune_cases, cut_after, apply_cases, settled_after}
use Rattle.histories.proofs.Histories.{Keeps, keeps_call}

-- a tree is none, or has this version at its top
abbrev TopIs : ℕ → VTree → Type 0
TopIs v t = (t ≡ vnone) ⊎ (top_version t ≡ v)

-- each kept version's tree has its own version at the top
abbrev pub OwnTops : Store → Type 0
OwnTops st = (v : ℕ) → Kept st v → TopIs v (tree_at_version st v)

module _ (leaf_hash inner_hash : Bytes → Bytes → Bytes) where
  own_pruned : (n : ℕ) (st st' : Store) {freed : ℕ} → OwnTops st → Kept st n → AfterPrune leaf_hash inner_hash n st freed st' → OwnTops st'
  own_pruned n st st' own k a v h =
      subst (TopIs v) (sym (a.trees v h)) (own v (omega (arith, a.oldest, h.0, k.0), omega (arith, a.latest, h.1)))

  own_applied : (number : ℕ) (batch : List Ask) (st st' : Store) {answer : Applied} → OwnTops st → number ≤ suc st.latest →
      AfterApply leaf_hash inner_hash number batch st answer st' → OwnTops st'
  own_applied number batch st st' own gap a v h = go (leb v st.latest) refl
    where
      go : (b : Bool) → leb v st.latest ≡ b → TopIs v (tree_at_version st' v)
      go true e =
          let kept : Kept st v = (omega (arith, a.oldest, h.0), leb-true v st.latest e) in
          subst (TopIs v) (sym (a.older v kept)) (own v kept)
      go false e =
          let is-new : st'.latest ≡ v = omega (arith, a.latest, a.above, h.1, leb-false v st.latest e) in
          subst (λ x. TopIs x (tree_at_version st' x)) is-new
          (subst (TopIs st'.latest) (sym a.tree) (next_top st'.latest (tree_at_version st st.latest) batch))

  module _ (lh : Hashes32 leaf_hash) (ih : Hashes32 inner_hash) where
    own_call : (c : Call) (st : Store) → CallForm c → NoGap c st → Sound leaf_hash inner_hash st → OwnTops st →
        OwnTops (after leaf_hash inner_hash c st)
    unfolding refuse
    own_call formatting st f gap s own = λ v k. inl (formatted_tree (length st.slots) v)
    own_call (applying number none) st f gap s own = own
    own_call (applying number (some batch)) st f gap s own =
        apply_cases leaf_hash inner_hash (λ o. OwnTops o.store) number batch st (λ e. own) (λ o e. own) (λ o m e. own)
        (λ o m room. own_applied number batch st _ own gap (settled_after leaf_hash inner_hash lh ih number batch st s f.0 f.1 m room))
    own_call (pruning n) st f gap s own =
        prune_cases (λ o. OwnTops o.store) n st (λ h. own) (λ h. own_pruned n st _ own h (cut_after leaf_hash inner_hash n st s h))
    own_call (taking es) st f gap s own = absurd gap
    own_call looking st f gap s own = own

    pub own_calls : (calls : List Call) (st : Store) (es : List Entry) → All CallForm calls → NoGaps leaf_hash inner_hash calls st →
        Keeps leaf_hash inner_hash st es → OwnTops st → OwnTops (run leaf_hash inner_hash calls st)
    own_calls [] st es f gap k own = own
    own_calls (c ∷ calls) st es f gap k own =
        own_calls calls (after leaf_hash inner_hash c st) _ f.1 gap.1 (keeps_call leaf_hash inner_hash lh ih c st es f.0 k)
        (own_call c st f.0 gap.0 k.sound own)

  -- then a version's root is its own record at the empty place
  pub own_roots : (st : Store) → Sound leaf_hash inner_hash st → OwnTops st → (v : ℕ) → Kept st v → root_of st v ≡ find v [] st.slots
  own_roots st s own v k = go _ refl
    where
      w : Whole leaf_hash inner_hash st
      w = sound_whole leaf_hash inner_hash st s

      own_version : (r : Record) → root_of st v ≡ some r → TopIs v (tree_at_version st v) → r.version ≡ v
      own_version r e (inl z) = none_not (tree_at_version st v) (root_some st v r e).0 z
      own_version r e (inr z) = sym (root_some st v r e).1 ∙ z

      go : (o : Option Record) → root_of st v ≡ o → root_of st v ≡ find v [] st.slots
      go none e = e ∙ sym (none_find v [] st.slots (λ r h n.
          let (x, p) = is_node_eq v [] r n in
          let alive = not_retired v r (λ o. elim (w.lifetimes r h) [ inl z ↦ absurd (omega arith) | inr z ↦ omega (arith, z.0) ]) in
          root_not st v e r h p (omega arith, alive)))
      go (some r) e =
          let (h, p, l) = root_has st v r e in
          e ∙ sym (ap₂ (λ x q. find x q st.slots) (sym (own_version r e (own v k))) (sym p) ∙ unique_find st.slots r w.unique h)
