-- The version of a number above latest of a sound store: the steps are taken twice on the same bytes, first to count, then to write. Assumes nothing.
use Prim.Native.Nat.{ℕ, ◌<◌, ◌≤◌}
use native.Mathlib.Omega.{arith}
use mathlib.Core.Path.{◌≡◌, ap, sym, ◌∙◌, subst, subst₂}
use mathlib.Core.Bool.{Bool, true, false}
use mathlib.Core.List.{[]}
use lib.ListN.{length}
use Rattle.terms.specs.Bits.{Bytes, Byte, All}
use Rattle.meaning.specs.Tree.{VTree}
use Rattle.meaning.specs.Store.{free_slots, root_of}
use Rattle.meaning.specs.Calls.{Answer, refused, accepted, Applied}
use Rattle.hash.specs.Hash.{hash_bytes}
use Rattle.nodehash.specs.Node.{leaf_hash, inner_hash}
use Rattle.place.specs.declared.Place as place
use Rattle.place.specs.Place as places
use Rattle.layout.specs.Stores.{store_of, with_latest}
use Rattle.slots.specs.declared.Child as child
use Rattle.slots.specs.Answer.{child_says}
use Rattle.batch.specs.Batch.{asks}
use Rattle.steps.specs.Step as step
use Rattle.apply_place.specs.Placing.{put_slots}
use Rattle.apply_outcome.specs.declared.Outcome as declared
use Rattle.apply_outcome.specs.Outcomes.{node_child, Did}
use Rattle.apply_read.specs.Standing.{tree_here}
use Rattle.apply_root.specs.Root.{HereRoot}
use Rattle.apply_answer.specs.Answers.{room_refusal}
use Rattle.apply_answer.proofs.Refusing.{short_of_room}
use Rattle.apply_ready.specs.Ready.{Ready, root_version, FreeCount}
use Rattle.apply_publish.specs.Apply.{ApplyDoes}
use Rattle.apply_ready.proofs.Ready.{stored, tree_is, here_root}
use Rattle.apply_publish.proofs.Outcomes.{outcome, refused_7, made}

-- the steps on bytes, for a version
abbrev steps : ℕ → Bytes → place.Place → ℕ → Bytes → step.Outcome
steps n s p v batch = step.step_root leaf_hash inner_hash n (tree_here s p v) (asks batch)

module _ {new : ℕ} {s batch : Bytes} (w : Ready s batch) (bytes : All Byte s) (batchBytes : All Byte batch) {latest : ℕ} (is : latest ≡ (store_of s).latest)
    (higher : latest < new) {p : place.Place} (t : places.Stands [] 0 p) {v : ℕ} (root : v ≡ root_version (root_of (store_of s) latest)) where
  above : (store_of s).latest < new
  above = omega (arith, is)

  root_of_lem : v ≡ root_version (root_of (store_of s) (store_of s).latest)
  root_of_lem = root ∙ ap (λ n. root_version (root_of (store_of s) n)) is

  pub first_time : (writes : Bool) → HereRoot new writes s p v batch
  first_time writes = here_root w bytes t root_of_lem writes above

  -- what the steps give is the outcome of the definition
  steps_are : {writes : Bool} {s₁ : Bytes} {r : declared.Outcome} → Did new writes 0 s s₁ (steps new s p v batch) r → Did new writes 0 s s₁ (outcome new w) r
  steps_are {writes} {s₁} {r} d =
      subst (λ (u : VTree). Did new writes 0 s s₁ (step.step_root leaf_hash inner_hash new u (asks batch)) r) (tree_is w bytes t root_of_lem) d

  module _ {s₁ : Bytes} {r₁ : declared.Outcome} (counted : Did new false 0 s s₁ (steps new s p v batch) r₁) where
    -- counting has written nothing
    pub unwritten : s₁ ≡ s
    unfolding put_slots
    unwritten = counted.bytes.bytes ∙ sym (stored w bytes).bytes

    pub second_time : HereRoot new true s₁ p v batch
    second_time = subst (λ u. HereRoot new true u p v batch) (sym unwritten) (first_time true)

    module _ {free : ℕ} (f : FreeCount s₁ free) where
      free_is : free ≡ free_slots (store_of s).slots
      free_is = f.count ∙ ap (λ u. free_slots (store_of u).slots) unwritten

      pub no_room : {m : ℕ} → m ≡ room_refusal free r₁.reach → (m ≡ 0 → ⊥) → ApplyDoes new batch s (refused m) s₁
      no_room e n =
          let g = short_of_room free r₁.reach e n in
          subst₂ (λ k u. ApplyDoes new batch s (refused k) u) (sym g.0) (sym unwritten)
          (refused_7 new w bytes batchBytes above (omega (arith, g.1, free_is, (steps_are counted).reach.counts)))

      module _ (enough : r₁.reach ≤ free) where
        fits : length (outcome new w).fresh ≤ free_slots (store_of s).slots
        fits = omega (arith, free_is, (steps_are counted).reach.counts, f.small)

        pub published : {s₂ u : Bytes} {r₂ : declared.Outcome} (c : child.Child) → Did new true 0 s₁ s₂ (steps new s₁ p v batch) r₂ →
            u ≡ with_latest new s₂ → child_says c ≡ node_child r₂.node → {a : Answer Applied} →
            a ≡ accepted (record { version = new; root = hash_bytes c.hash; count = r₁.reach }) → ApplyDoes new batch s a u
        published {s₂} {u} {r₂} c d e g i =
            let wrote = steps_are (subst (λ z. Did new true 0 z s₂ (steps new z p v batch) r₂) unwritten d) in
            subst (λ b. ApplyDoes new batch s b u) (sym i)
            (made new w bytes batchBytes above fits c wrote e g (let k = fits in let z = f.small in omega (arith, (steps_are counted).reach.counts, free_is)))
