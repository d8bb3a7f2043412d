-- Document 01, 'Reading and proving' and 'Checking': in a sound store the reads of a kept version answer what its tree says, and the proof
-- that is given is accepted against the version's root and says the same. Put together from the other files. Assumes nothing.
use Prim.Native.Nat.{ℕ, ◌<◌, ◌≤◌}
use native.Mathlib.Omega.{arith}
use mathlib.Core.Path.{◌≡◌, refl, ap, sym, ◌∙◌, subst}
use mathlib.Core.Bool.{Bool, true, false, cond, ◌&&◌}
use mathlib.Core.Logic.{◌↔◌}
use mathlib.Core.List.{List, [], ◌∷◌, nil≢cons}
use lib.ListN.{length}
use borrow.Author.Tests.{le-leb, lt-ltb, le-ltb}
use mathlib.Core.Option as option
use Rattle.terms.specs.Bits.{Bytes, Whole32, Place, left, right, All, same_bytes}
use Rattle.terms.specs.Records.{Grant, Record, Presence, Absence, Proof, presence, absence, Store, zeros}
use Rattle.terms.proofs.Tests.{same_bytes_lem, and_left, and_right}
use Rattle.terms.proofs.Lists.{all_map}
use Rattle.meaning.specs.Tree.{none, smaller, greater, hash, unversioned, grants_in}
use Rattle.meaning.specs.Store.{find, root_of, tree_at_version}
use Rattle.meaning.specs.Sight.{spoilt, root_sight, node_sight, scan}
use Rattle.meaning.specs.Sound.{Sound, Kept}
use Rattle.meaning.specs.Calls.{refused, accepted, is_kept}
use Rattle.meaning.specs.Reading.{seen, walk, read_end, read_key, read_root, present, absent, answer_of}
use Rattle.meaning.specs.Proving.{neighbour, absence_at, prove_end, prove_seen, HoldsGrant, proof, presence_length, proof_length, prove}
use Rattle.meaning.specs.Checking.{leads_to, absence_holds, checked}
use Rattle.meaning.proofs.Empty.{gap_refused, proof_by_searches}
use Rattle.meaning.proofs.Sights.{root_sighted, no_root_sighted, node_sighted, no_node_sighted}
use Rattle.shown.proofs.Views.{granted_occupied, no_grant_no_node, viewed}
use Rattle.shown.proofs.Walks.{present_absent, start, walk_answers}
use Rattle.shown.proofs.Trees.{tree_shown}
use Rattle.shown.proofs.Standing.{version_seen, version_hash, version_seated}
use Rattle.shown.proofs.Lengths.{paths_of, steps_at_most, presence_at_most, proof_at_most}
use Rattle.shown.proofs.Verdicts.{accepted_same, passed, Agrees, end_agrees, end_absence}
use Rattle.shown.proofs.Neighbours.{first_of, last_of, grant_if, Names, absence_names, finds_nearest}

pub kept_test : (st : Store) (v : ℕ) → Kept st v → is_kept st v ≡ true
unfolding is_kept
kept_test st v kept = rw (le-leb st.oldest v kept.0, le-leb v st.latest kept.1)

-- On any store: a proof that is given is of the key asked for, and it says what the key read answers.
pub proof_agrees_with_read : (st : Store) (v : ℕ) (k : Bytes) (p : Proof) → proof st v k ≡ accepted p → Agrees k (read_key st v k) p
unfolding read_key prove_seen
proof_agrees_with_read st v k p e = go (is_kept st v) (sym (proof_by_searches st v k) ∙ e)
  where
    go : (b : Bool) → cond b (prove_end k (walk k 0 [] (seen (scan st) v))) (refused 8) ≡ accepted p →
        Agrees k (cond b (read_end k (walk k 0 [] (seen (scan st) v))) (refused 8)) p
    go true e = end_agrees k (walk k 0 [] (seen (scan st) v)) p e
    go false e = let z : ◌≡◌ {A = ℕ} 0 1 = cc in absurd (omega arith)

-- On any store: every path has at most 256 steps, a presence proof at most 8,520 bytes, any proof at most 17,080.
pub paths_have_256_steps : (st : Store) (v : ℕ) (k : Bytes) (p : Proof) → proof st v k ≡ accepted p →
    All (λ q. length q.steps ≤ 256) (paths_of p)
paths_have_256_steps st v k p e = steps_at_most st v k p e

pub presences_have_8520_bytes : (st : Store) (v : ℕ) (k : Bytes) (p : Proof) → proof st v k ≡ accepted p →
    All (λ q. presence_length q ≤ 8520) (paths_of p)
presences_have_8520_bytes st v k p e =
    all_map (λ q. length q.steps ≤ 256) (λ q. presence_length q ≤ 8520) (paths_of p) presence_at_most (steps_at_most st v k p e)

pub proofs_have_17080_bytes : (st : Store) (v : ℕ) (k : Bytes) (p : Proof) → proof st v k ≡ accepted p → proof_length p ≤ 17080
proofs_have_17080_bytes st v k p e = proof_at_most p (presences_have_8520_bytes st v k p e)

-- On any store: with room for it the proof is given, else 9.
pub given_with_room : (st : Store) (v : ℕ) (k : Bytes) (p : Proof) (room : ℕ) → proof st v k ≡ accepted p → proof_length p ≤ room →
    prove st v k room ≡ accepted p
unfolding prove
given_with_room st v k p room e h = rw (e, le-ltb room (proof_length p) h)

pub nine_without_room : (st : Store) (v : ℕ) (k : Bytes) (p : Proof) (room : ℕ) → proof st v k ≡ accepted p → room < proof_length p →
    prove st v k room ≡ refused 9
unfolding prove
nine_without_room st v k p room e h = rw (e, lt-ltb room (proof_length p) h)

module _ (leaf_hash inner_hash : Bytes → Bytes → Bytes) where
  -- From the checker's answer back to the proof. Present: it is a presence proof of the key with that value, and its steps lead to the root.
  pub checked_present : (root k x : Bytes) (p : Proof) → checked leaf_hash inner_hash root k p ≡ accepted (present x) →
      (q : Presence) × (p ≡ presence q) × (q.key ≡ k) × (q.value ≡ x) × (leads_to leaf_hash inner_hash root q ≡ true)
  checked_present root k x (presence q) e =
      let leads = leads_to leaf_hash inner_hash root q in
      let w = passed (same_bytes k q.key && leads) (present q.value) (present x) e in
      (q, refl, sym (same_bytes_lem k q.key (and_left _ leads w.0)), cc, and_right (same_bytes k q.key) _ w.0)
  checked_present root k x (absence a) e =
      let holds = absence_holds leaf_hash inner_hash root k a.leftward a.rightward in
      let w = passed (same_bytes k a.key && holds) absent (present x) e in
      present_absent x (sym w.1)

  -- Absent: it is an absence proof of the key, and its neighbours hold.
  pub checked_absent : (root k : Bytes) (p : Proof) → checked leaf_hash inner_hash root k p ≡ accepted absent →
      (a : Absence) × (p ≡ absence a) × (a.key ≡ k) × (absence_holds leaf_hash inner_hash root k a.leftward a.rightward ≡ true)
  checked_absent root k (presence q) e =
      let w = passed (same_bytes k q.key && leads_to leaf_hash inner_hash root q) (present q.value) absent e in
      present_absent q.value w.1
  checked_absent root k (absence a) e =
      let holds = absence_holds leaf_hash inner_hash root k a.leftward a.rightward in
      let w = passed (same_bytes k a.key && holds) absent absent e in
      (a, refl, sym (same_bytes_lem k a.key (and_left _ holds w.0)), and_right (same_bytes k a.key) _ w.0)

  -- In a sound store no lookup finds a spoilt slot (2026-07): a root or a node is matched, or there is none.
  pub sound_sees_no_spoilt : (st : Store) → Sound leaf_hash inner_hash st → (v i : ℕ) →
      ((scan st).root v ≡ spoilt i → ⊥) × ((p : Place) → (scan st).node v p ≡ spoilt i → ⊥)
  sound_sees_no_spoilt st ok v i = (λ e. root (root_of st v) refl e, λ p e. node p (find v p st.slots) refl e)
    where
      root : (o : option.Option Record) → root_of st v ≡ o → root_sight st v ≡ spoilt i → ⊥
      root option.none f e = let g = sym (no_root_sighted st v ok.whole f) ∙ e in let z : ◌≡◌ {A = ℕ} 0 1 = cc in omega arith
      root (option.some r) f e = let g = sym (root_sighted st v r f) ∙ e in let z : ◌≡◌ {A = ℕ} 0 1 = cc in omega arith

      node : (p : Place) (o : option.Option Record) → find v p st.slots ≡ o → node_sight st v p ≡ spoilt i → ⊥
      node p option.none f e = let g = sym (no_node_sighted st v ok.whole p f) ∙ e in let z : ◌≡◌ {A = ℕ} 0 1 = cc in omega arith
      node p (option.some r) f e = let g = sym (node_sighted st v p r f) ∙ e in let z : ◌≡◌ {A = ℕ} 0 1 = cc in omega arith

  -- In a sound store, for a kept version:
  module _ (st : Store) (ok : Sound leaf_hash inner_hash st) (v : ℕ) (kept : Kept st v) where
    -- The root read answers the hash of the version's tree.
    pub root_read_is_hash : read_root leaf_hash inner_hash st v ≡ accepted (hash leaf_hash inner_hash (unversioned (tree_at_version st v)))
    unfolding read_root
    root_read_is_hash = rw (kept_test st v kept, version_hash leaf_hash inner_hash st ok v kept)

    -- The proof of a key goes by the version's tree.
    pub proof_is_of_tree : (k : Bytes) → proof st v k ≡ prove_seen k (viewed leaf_hash inner_hash (unversioned (tree_at_version st v)))
    proof_is_of_tree k = proof_by_searches st v k ∙ rw (kept_test st v kept, version_seen leaf_hash inner_hash st ok v kept)

    module _ (k : Bytes) (whole : Whole32 k) where
      -- The key read answers what the version's grants say of the key.
      pub key_read_is_answer : read_key st v k ≡ accepted (answer_of k (grants_in (tree_at_version st v)))
      unfolding read_key
      key_read_is_answer =
          rw (kept_test st v kept, version_seen leaf_hash inner_hash st ok v kept)
          (walk_answers leaf_hash inner_hash k 0 [] (unversioned (tree_at_version st v)) [] (start k whole)
          (version_seated leaf_hash inner_hash st ok v kept))

      abbrev gs : List Grant
      gs = grants_in (tree_at_version st v)

      -- Where the version holds a grant there is a proof, and the checker's answer to it against the version's root is what the version's
      -- grants say of the key.
      pub shown : HoldsGrant st v → (root : Bytes) → read_root leaf_hash inner_hash st v ≡ accepted root →
          (p : Proof) × (proof st v k ≡ accepted p) × (checked leaf_hash inner_hash root k p ≡ accepted (answer_of k gs))
      shown some root e =
          let same : hash leaf_hash inner_hash (unversioned (tree_at_version st v)) ≡ root = accepted_same _ _ (sym root_read_is_hash ∙ e) in
          let p = tree_shown leaf_hash inner_hash k (unversioned (tree_at_version st v)) whole
          (version_seated leaf_hash inner_hash st ok v kept) (granted_occupied (unversioned (tree_at_version st v)) some) in (
            p.0,
            proof_is_of_tree k ∙ p.1,
            subst (λ h. checked leaf_hash inner_hash h k p.0 ≡ accepted (answer_of k gs)) same p.2,
          )

      -- Where it holds none, the root read answers zeros, the key read absent, and there is no proof: 14.
      no_grant_lem : gs ≡ [] → unversioned (tree_at_version st v) ≡ none
      no_grant_lem e = no_grant_no_node [] (unversioned (tree_at_version st v)) (version_seated leaf_hash inner_hash st ok v kept) e

      pub empty_root_is_zeros : gs ≡ [] → read_root leaf_hash inner_hash st v ≡ accepted zeros
      empty_root_is_zeros e = root_read_is_hash ∙ ap (λ t. accepted (hash leaf_hash inner_hash t)) (no_grant_lem e)

      pub empty_key_is_absent : gs ≡ [] → read_key st v k ≡ accepted absent
      empty_key_is_absent e = key_read_is_answer ∙ ap (λ hs. accepted (answer_of k hs)) e

      pub empty_is_fourteen : gs ≡ [] → proof st v k ≡ refused 14
      empty_is_fourteen e = proof_is_of_tree k ∙ gap_refused k _ (ap (viewed leaf_hash inner_hash) (no_grant_lem e))

      -- And 14 is given exactly there.
      pub fourteen_exactly_without_grant : (proof st v k ≡ refused 14) ↔ (gs ≡ [])
      fourteen_exactly_without_grant = (λ e. go gs refl e, empty_is_fourteen)
        where
          go : (hs : List Grant) → gs ≡ hs → proof st v k ≡ refused 14 → gs ≡ []
          go [] f e = f
          go (g ∷ hs) f e =
              let p = shown (λ n. nil≢cons (sym n ∙ f)) _ root_read_is_hash in
              let z : ◌≡◌ {A = ℕ} 0 1 = let both : refused 14 ≡ accepted p.0 = sym e ∙ p.1 in cc in absurd (omega arith)

      -- So a key with a value in the version is proved present with that value,
      pub granted_is_proved_present : (root x : Bytes) → read_root leaf_hash inner_hash st v ≡ accepted root →
          answer_of k (grants_in (tree_at_version st v)) ≡ present x →
          (q : Presence) × (proof st v k ≡ accepted (presence q)) × (q.key ≡ k) × (q.value ≡ x) ×
          (leads_to leaf_hash inner_hash root q ≡ true)
      granted_is_proved_present root x e a =
          let p = shown (λ n. present_absent x (sym a ∙ ap (answer_of k) n)) root e in
          let w = checked_present root k x p.0 (p.2 ∙ ap accepted a) in
          (w.0, p.1 ∙ ap accepted w.1, w.2, w.3, w.4)

      -- any other key is proved absent, where the version holds a grant,
      pub other_is_proved_absent : HoldsGrant st v → (root : Bytes) → read_root leaf_hash inner_hash st v ≡ accepted root →
          answer_of k (grants_in (tree_at_version st v)) ≡ absent →
          (a : Absence) × (proof st v k ≡ accepted (absence a)) × (a.key ≡ k) ×
          (absence_holds leaf_hash inner_hash root k a.leftward a.rightward ≡ true)
      other_is_proved_absent some root e a =
          let p = shown some root e in
          let w = checked_absent root k p.0 (p.2 ∙ ap accepted a) in
          (w.0, p.1 ∙ ap accepted w.1, w.2, w.3)

      -- and a presence proof is given only of a key that is in the version, with its value.
      pub proved_present_is_granted : (q : Presence) → proof st v k ≡ accepted (presence q) →
          (q.key ≡ k) × (answer_of k (grants_in (tree_at_version st v)) ≡ present q.value)
      proved_present_is_granted q e =
          let w = proof_agrees_with_read st v k (presence q) e in
          (w.0, accepted_same _ _ (sym key_read_is_answer ∙ w.1))

      -- The search on the left names the last of the smaller grants, that on the right the first of the greater; or nobody where there is
      -- none.
      pub left_neighbour_is_last_smaller :
          Names (neighbour left k (walk k 0 [] (seen (scan st) v))) (last_of (smaller k (grants_in (tree_at_version st v))))
      unfolding smaller
      left_neighbour_is_last_smaller =
          rw (version_seen leaf_hash inner_hash st ok v kept)
          (finds_nearest leaf_hash inner_hash left k 0 [] (unversioned (tree_at_version st v)) (start k whole)
          (version_seated leaf_hash inner_hash st ok v kept))

      pub right_neighbour_is_first_greater :
          Names (neighbour right k (walk k 0 [] (seen (scan st) v))) (first_of (greater k (grants_in (tree_at_version st v))))
      unfolding greater
      right_neighbour_is_first_greater =
          rw (version_seen leaf_hash inner_hash st ok v kept)
          (finds_nearest leaf_hash inner_hash right k 0 [] (unversioned (tree_at_version st v)) (start k whole)
          (version_seated leaf_hash inner_hash st ok v kept))

      -- So a proof of absence has those two.
      pub absence_has_nearest : (a : Absence) → proof st v k ≡ accepted (absence a) →
          (grant_if a.leftward ≡ last_of (smaller k (grants_in (tree_at_version st v))))
          × (grant_if a.rightward ≡ first_of (greater k (grants_in (tree_at_version st v))))
      unfolding prove_seen absence_at
      absence_has_nearest a e =
          absence_names k _ _ _ _ a left_neighbour_is_last_smaller right_neighbour_is_first_greater
          (end_absence k (walk k 0 [] (seen (scan st) v)) a (rw (kept_test st v kept) at (sym (proof_by_searches st v k) ∙ e)))

  -- Versions of two sound stores with the same tree have the same proofs.
  pub same_tree_same_proofs : (st st' : Store) → Sound leaf_hash inner_hash st → Sound leaf_hash inner_hash st' → (v w : ℕ) → Kept st v → Kept st' w →
      tree_at_version st v ≡ tree_at_version st' w → (k : Bytes) → proof st v k ≡ proof st' w k
  same_tree_same_proofs st st' ok ok' v w kept kept' e k =
      proof_is_of_tree st ok v kept k
      ∙ ap (λ t. prove_seen k (viewed leaf_hash inner_hash (unversioned t))) e
      ∙ sym (proof_is_of_tree st' ok' w kept' k)
