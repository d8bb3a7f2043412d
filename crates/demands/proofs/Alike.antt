-- Versions with the same tree, of two sound stores or of one, read alike: a read, a proof, a palette and a comparison go by the tree. Assumes
-- nothing.
use Prim.Native.Nat.{ℕ, ◌*◌}
use mathlib.Core.Path.{◌≡◌, refl, ap, ap₂, sym, ◌∙◌, subst, fun_ext}
use mathlib.Core.Bool.{cond, ◌&&◌}
use mathlib.Core.List.{List}
use mathlib.Core.Option.{none}
use lib.ListN.{length}
use lib.Dec.{eqb, ltb}
use Rattle.terms.specs.declared.Form.TheVariants.{Counted as counted}
use Rattle.terms.specs.Bits.{Bytes}
use Rattle.terms.specs.Records.{Proof, Store}
use Rattle.meaning.specs.Tree.{VTree, grants_in}
use Rattle.meaning.specs.Store.{tree_at_version}
use Rattle.meaning.specs.Sound.{Kept}
use Rattle.meaning.specs.Calls.{Answer, refused, accepted, Result, is_kept}
use Rattle.meaning.specs.Answers.{number_of, room_after}
use Rattle.meaning.proofs.Told.{one_exported}
use Rattle.meaning.specs.Proving.{proof, fitted, prove}
use Rattle.shown.proofs.Theorems.{kept_test, same_tree_same_proofs}
use Rattle.changed.specs.Changes.{Item, changed, items, item_size, list_bytes}
use Rattle.changed.specs.Visits.{visits}
use Rattle.changed.specs.Compare.{compare}
use Rattle.nodehash.specs.Node.{leaf_hash, inner_hash}
use Rattle.layout.specs.Stores.{store_of}
use Rattle.promises.specs.Calls.{SoundBytes, Does, not_checked, refuses, accepts}
use Rattle.promises.proofs.Calls.{sound_passes}
use Rattle.palette_rules.specs.Palette.{whole_keys, keys_in, in_turn, fitted_together, palette}
use Rattle.move_rules.proofs.Theorems.{compared_by, by_trees}
use Rattle.proofrecords.specs.ProofBytes.{proof_bytes}
use Rattle.contracts.specs.Proves.{prove_answer}
use Rattle.contracts.specs.Palettes.{palette_answer, proofs_bytes}
use Rattle.contracts.specs.Changes as listed
use Rattle.demands.specs.Claims.{tree_of_version, grants_of_version, ReadsFor, ReadsAs, ComparesAs}
use Rattle.demands.proofs.Reading.{sound_reads_for}

-- a sound store is asked itself
asked : {A : Type 0} {call : Store → Result A} {s t : Bytes} {a : Answer A} → SoundBytes s → Does call s a t → a ≡ (call (store_of s)).answer
asked w (not_checked c n) = sound_passes w c n
asked w (refuses x e) = sym e
asked w (accepts x e) = sym e

module _ {t s : Bytes} (a : SoundBytes t) (b : SoundBytes s) {v w : ℕ} (kept : Kept (store_of t) v) (kept' : Kept (store_of s) w) (e : tree_of_version t v ≡ tree_of_version s w) where
  same_proof : (k : Bytes) → proof (store_of t) v k ≡ proof (store_of s) w k
  same_proof = same_tree_same_proofs leaf_hash inner_hash (store_of t) (store_of s) a.sound b.sound v w kept kept' e

  same_proved : (k : Bytes) (room : ℕ) → prove_answer t none v k room ≡ prove_answer s none w k room
  unfolding prove_answer prove proof
  same_proved k room = rw (a.headed, b.headed) (ap (λ p. cond (eqb (length k) 32) (fitted room p) (refused 12)) (same_proof k))

  same_palette : (list : Bytes) (room : ℕ) → palette_answer t none v list room ≡ palette_answer s none w list room
  unfolding palette_answer palette proof
  same_palette list room =
      rw (a.headed, b.headed, kept_test (store_of t) v kept, kept_test (store_of s) w kept')
      (ap (λ (single : Bytes → Answer Proof). cond (whole_keys list) (fitted_together room (in_turn single (keys_in list))) (refused 12)) (fun_ext same_proof))

  -- Versions with the same tree read alike.
  pub same_tree_reads_as : ReadsAs t v s w
  same_tree_reads_as = record {
    grants = grants_of_version s w;
    reads = (subst (ReadsFor t v) (ap grants_in e) (sound_reads_for a v kept), sound_reads_for b w kept');
    proof = λ k. record {
      same = λ {room} x y.
          let is = same_proved k (length room) in
          let (m, d) = one_exported is x.exported y.exported in
          (m, x.proof ∙ ap (λ p. room_after proof_bytes p room) is ∙ sym y.proof, d);
    };
    palette = λ list. record {
      same = λ {room} x y.
          let is = same_palette list (length room) in
          let (m, d) = one_exported is x.exported y.exported in
          (m, x.proofs ∙ ap (λ p. room_after proofs_bytes p room) is ∙ sym y.proofs, d);
    };
  }

-- a comparison of kept versions goes by their trees
abbrev comparison : ℕ → ℕ → VTree → VTree → Answer (List Item)
comparison limit room x y =
    cond (ltb limit (visits x y)) (refused 13)
    (cond (ltb room (item_size * length (items (changed (grants_in x) (grants_in y))))) (refused 9) (accepted (items (changed (grants_in x) (grants_in y)))))

compared_kept : (st : Store) (v w limit room : ℕ) → Kept st v → Kept st w →
    (compare v w limit room st).answer ≡ comparison limit room (tree_at_version st v) (tree_at_version st w)
unfolding is_kept
compared_kept st v w limit room k l =
    by_trees v w limit room st
    ∙ ap₂ (λ x y. cond (x && y) (comparison limit room (tree_at_version st v) (tree_at_version st w)) (refused 8)) (kept_test st v k) (kept_test st w l)

-- Versions with the same trees compare alike.
pub same_trees_compare_as : {t s : Bytes} → SoundBytes t → SoundBytes s → {v v' w w' : ℕ} →
    Kept (store_of t) v → Kept (store_of t) v' → Kept (store_of s) w → Kept (store_of s) w' →
    tree_of_version t v ≡ tree_of_version s w → tree_of_version t v' ≡ tree_of_version s w' → ComparesAs t v v' s w w'
same_trees_compare_as {t} {s} a b {v} {v'} {w} {w'} kv kv' kw kw' e e' = record {
  same = λ limit. record {
    same = λ {room} x y.
        let is : x.answer ≡ y.answer =
        asked a x.does ∙ compared_kept (store_of t) v v' limit (length room) kv kv' ∙ ap₂ (comparison limit (length room)) e e'
        ∙ sym (asked b y.does ∙ compared_kept (store_of s) w w' limit (length room) kw kw')
        in
        let (m, d) = one_exported is x.exported y.exported in
        (m, x.list ∙ ap (λ p. room_after list_bytes p room) is ∙ sym y.list, d);
  };
}
