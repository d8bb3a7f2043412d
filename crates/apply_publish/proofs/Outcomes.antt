-- The outcome of each way through apply: the steps over lent memory leave the store and give the answer of the definition. Assumes nothing.
use Prim.Native.Nat.{ℕ, ◌<◌, ◌≤◌}
use native.Mathlib.Omega.{arith}
use mathlib.Core.Path.{◌≡◌, refl, ap, sym, ◌∙◌, subst}
use mathlib.Core.Bool.{true}
use lib.ListN.{length}
use borrow.Author.Tests.{lt-ltb, le-ltb}
use Rattle.terms.specs.Bits.{Bytes, Byte, All}
use Rattle.terms.specs.Records.{Child, Store}
use Rattle.meaning.specs.Tree.{unversioned, hash}
use Rattle.meaning.specs.Store.{child_of, free_slots, tree_at_version}
use Rattle.meaning.specs.Calls.{refused, accepted, refuse, Applied, Result, apply}
use Rattle.hash.specs.Hash.{hash_bytes}
use Rattle.nodehash.specs.Node.{leaf_hash, inner_hash}
use Rattle.layout.specs.Stores.{store_of, store_bytes, with_latest, put_bounds}
use Rattle.layout.proofs.Stores.{latest_put_bytes}
use Rattle.slots.specs.declared.Child as child
use Rattle.slots.specs.Answer.{child_says}
use Rattle.batch.specs.Batch.{asks, batch_of}
use Rattle.batch.proofs.Records.{asks_whole}
use Rattle.steps.specs.Step as step
use Rattle.steps.specs.Writing as steps
use Rattle.steps.specs.Apply.{stepped, apply_steps}
use Rattle.steps.proofs.Root.{apply_by_steps}
use Rattle.apply_place.specs.Placing.{put_slots}
use Rattle.apply_outcome.specs.declared.Outcome as declared
use Rattle.apply_outcome.specs.Outcomes.{node_child, Did}
use Rattle.apply_outcome.proofs.Saying.{says_child}
use Rattle.promises.specs.Calls.{refuses, accepts}
use Rattle.apply_answer.specs.Answers.{number_refusal}
use Rattle.apply_answer.proofs.Refusing.{not_above_lem}
use Rattle.apply_ready.specs.Ready.{Ready}
use Rattle.apply_publish.specs.Apply.{ApplyDoes}
use Rattle.apply_ready.proofs.Ready.{shaped, older}

module _ (new : ℕ) {s batch : Bytes} (w : Ready s batch) where
  abbrev pub st : Store
  st = store_of s

  pub refused_18 : {latest m : ℕ} → latest ≡ st.latest → m ≡ number_refusal new latest → (m ≡ 0 → ⊥) → ApplyDoes new batch s (refused m) s
  unfolding batch_of refuse
  refused_18 {latest} i e n =
      let f = not_above_lem new latest e n in
      subst (λ k. ApplyDoes new batch s (refused k) s) (sym f.0)
      (refuses {m = 18} w.sound (rw (w.form, w.run.order, le-ltb st.latest new (omega (arith, i, f.1)))))

  -- the steps at the root
  abbrev pub outcome : step.Outcome
  outcome = step.step_root leaf_hash inner_hash new (tree_at_version st st.latest) (asks batch)

  module _ (bytes : All Byte s) (batchBytes : All Byte batch) (above : st.latest < new) where
    by_steps : apply leaf_hash inner_hash new (batch_of batch) st ≡ apply_steps leaf_hash inner_hash new (asks batch) st
    unfolding batch_of
    by_steps =
        rw (w.form, w.run.order, lt-ltb st.latest new above)
        (sym (apply_by_steps leaf_hash inner_hash new (asks batch) st (shaped w bytes) (older w bytes above) (asks_whole batch batchBytes) w.run.order))

    pub refused_7 : free_slots st.slots < length outcome.fresh → ApplyDoes new batch s (refused 7) s
    unfolding apply_steps refuse
    refused_7 l =
        refuses {m = 7} w.sound (ap (λ (o : Result Applied). o.answer) by_steps ∙ rw (lt-ltb (free_slots st.slots) (length outcome.fresh) l))

    module _ (room : length outcome.fresh ≤ free_slots st.slots) where
      made_answer : (apply leaf_hash inner_hash new (batch_of batch) st).answer
          ≡ accepted (record { version = new; root = hash leaf_hash inner_hash (unversioned outcome.node); count = length outcome.fresh })
      unfolding apply_steps
      made_answer =
          ap (λ (o : Result Applied). o.answer) by_steps ∙ rw (le-ltb (free_slots st.slots) (length outcome.fresh) room)

      made_store : (apply leaf_hash inner_hash new (batch_of batch) st).store ≡ stepped leaf_hash inner_hash new (asks batch) st
      unfolding apply_steps
      made_store =
          ap (λ (o : Result Applied). o.store) by_steps ∙ rw (le-ltb (free_slots st.slots) (length outcome.fresh) room)

      -- the slots are written, and then latest
      pub made : {t u : Bytes} {r : declared.Outcome} (c : child.Child) {n : ℕ} → Did new true 0 s t outcome r → u ≡ with_latest new t →
          child_says c ≡ node_child r.node → n ≡ length outcome.fresh →
          ApplyDoes new batch s (accepted (record { version = new; root = hash_bytes c.hash; count = n })) u
      unfolding stepped put_bounds put_slots child_says child_of
      made {t} {u} {r} c {n} d e f k =
          let root : hash_bytes c.hash ≡ hash leaf_hash inner_hash (unversioned outcome.node) =
          ap (λ (x : Child). x.hash) (f ∙ says_child true r.node outcome.node refl d.node) in
          let after : store_bytes (apply leaf_hash inner_hash new (batch_of batch) st).store ≡ u =
          ap store_bytes made_store ∙ latest_put_bytes (put_slots (steps.written new outcome st.slots) st) new
          ∙ ap (with_latest new) (sym d.bytes.bytes) ∙ sym e in
          rw (root, k) (subst (ApplyDoes new batch s _) after (accepts w.sound made_answer))
