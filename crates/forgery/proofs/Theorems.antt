-- Document 02, request 2026-12: in a sound store, for a kept version. An accepted proof that says something false gives a finding, named from
-- the messages of the version's nodes and those hashed while checking; a true one gives nothing. Assumes nothing.
use Prim.Native.Nat.{ℕ}
use mathlib.Core.Path.{◌≡◌, refl, ap, sym, ◌∙◌, subst}
use mathlib.Core.Bool.{Bool, true, false, cond, ◌&&◌, false≢true}
use mathlib.Core.Logic.{◌↔◌}
use mathlib.Core.List.{List, [], ◌∷◌, ◌++◌}
use lib.ListN.{length}
use Rattle.terms.specs.Bits.{Bytes, All, same_bytes}
use Rattle.terms.specs.Records.{Grant, Proof, Store}
use Rattle.terms.proofs.Tests.{and_left, and_right, same_bytes_lem, bytes_same}
use Rattle.meaning.specs.Tree.{Tree, hash, unversioned, grants_in}
use Rattle.meaning.specs.Store.{tree_at_version}
use Rattle.meaning.specs.Sound.{Kept, Sound}
use Rattle.meaning.specs.Calls.{accepted}
use Rattle.meaning.specs.Reading.{Verdict, present, absent, answer_of}
use Rattle.meaning.specs.Checking.{checked}
use Rattle.meaning.proofs.Runs.{Ascending}
use Rattle.meaning.proofs.Shaped.{shaped_form, shaped_ascending}
use Rattle.histories.proofs.Whole.{Whole, sound_whole}
use Rattle.histories.proofs.Trees.{kept_shaped}
use Rattle.checker.specs.Holding.{Holds, shown, only_left, only_right, both}
use Rattle.checker.proofs.Theorems.{accepted_exactly_if_holds}
use Rattle.proofrecords.specs.ProofBytes.{ProofForm}
use Rattle.forgery.specs.Messages.{node_messages, leaf_hash, inner_hash, tree_messages, checked_messages}
use Rattle.forgery.specs.Finding.{says, True, same_verdict, all_true, Finding, nothing, Among, NamedFrom, searched, finding}
use Rattle.forgery.proofs.Sizes.{all_65}
use Rattle.forgery.proofs.Lists.{Within, among_left, among_right}
use Rattle.forgery.proofs.Search.{nothing_is_clean, searched_is_named}
use Rattle.forgery.proofs.Truth.{clean_is_true}
use Rattle.forgery.proofs.Nodes.{tree_in_nodes, nodes_in_tree}

-- the test of truth
verdict_same : (v : Verdict) → same_verdict v v ≡ true
verdict_same (present x) = bytes_same x
verdict_same absent = refl

same_verdict_lem : (v w : Verdict) → same_verdict v w ≡ true → v ≡ w
same_verdict_lem (present x) (present y) h = ap present (same_bytes_lem x y h)
same_verdict_lem (present x) absent h = absurd (false≢true h)
same_verdict_lem absent (present y) h = absurd (false≢true h)
same_verdict_lem absent absent h = refl

abbrev So : List Grant → Bytes × Verdict → Type 0
So gs s = answer_of s.0 gs ≡ s.1

test_said : (gs : List Grant) (ss : List (Bytes × Verdict)) → All (So gs) ss → all_true gs ss ≡ true
test_said gs [] h = refl
test_said gs (s ∷ ss) h = rw (h.0, verdict_same s.1, test_said gs ss h.1)

said_test : (gs : List Grant) (ss : List (Bytes × Verdict)) → all_true gs ss ≡ true → All (So gs) ss
said_test gs [] h = tt
said_test gs (s ∷ ss) h = (
  same_verdict_lem _ _ (and_left (same_verdict (answer_of s.0 gs) s.1) (all_true gs ss) h),
  said_test gs ss (and_right (same_verdict (answer_of s.0 gs) s.1) (all_true gs ss) h),
)

-- What is found is nothing if the proof is true, and what the search names if it isn't; and nothing else is so.
module _ (H : Bytes → Bytes) (st : Store) (v : ℕ) (p : Proof) where
  abbrev So-found : Finding → Type 0
  So-found f =
      (True (grants_in (tree_at_version st v)) p → f ≡ nothing)
      × ((True (grants_in (tree_at_version st v)) p → ⊥) → f ≡ searched H (node_messages v st.slots) (checked_messages H p))

  pub found_so : So-found (finding H st v p)
  unfolding finding
  found_so = (λ h. rw (test_said (grants_in (tree_at_version st v)) (says p) h), go (all_true (grants_in (tree_at_version st v)) (says p)) refl)
    where
      go : (b : Bool) → all_true (grants_in (tree_at_version st v)) (says p) ≡ b → (True (grants_in (tree_at_version st v)) p → ⊥) →
          cond b nothing (searched H (node_messages v st.slots) (checked_messages H p)) ≡ searched H (node_messages v st.slots) (checked_messages H p)
      go true e lie = absurd (lie (said_test (grants_in (tree_at_version st v)) (says p) e))
      go false e lie = refl

  pub only_found : {f : Finding} → So-found f → f ≡ finding H st v p
  only_found {f} so = go (all_true (grants_in (tree_at_version st v)) (says p)) refl
    where
      go : (b : Bool) → all_true (grants_in (tree_at_version st v)) (says p) ≡ b → f ≡ finding H st v p
      go true e = let t = said_test (grants_in (tree_at_version st v)) (says p) e in so.0 t ∙ sym (found_so.0 t)
      go false e =
          let lie : True (grants_in (tree_at_version st v)) p → ⊥ = λ t. false≢true (sym e ∙ test_said (grants_in (tree_at_version st v)) (says p) t) in
          so.1 lie ∙ sym (found_so.1 lie)

module _ (H : Bytes → Bytes) (hash32 : (m : Bytes) → length (H m) ≡ 32) (st : Store) (ok : Sound (leaf_hash H) (inner_hash H) st) (v : ℕ)
    (kept : Kept st v) where
  abbrev tree : Tree
  tree = unversioned (tree_at_version st v)

  abbrev gs : List Grant
  gs = grants_in (tree_at_version st v)

  whole : Whole (leaf_hash H) (inner_hash H) st
  whole = sound_whole (leaf_hash H) (inner_hash H) st ok

  -- The messages of the version's nodes and those hashed while checking.
  abbrev messages : Proof → List Bytes
  messages p = tree_messages H tree ++ checked_messages H p

  -- Each has 65 bytes.
  pub messages_have_65_bytes : (p : Proof) → ProofForm p → (m : Bytes) → Among m (messages p) → length m ≡ 65
  messages_have_65_bytes p f m h =
      all_65 H hash32 tree p (shaped_form [] tree (kept_shaped (leaf_hash H) (inner_hash H) st whole v kept)) f m h

  -- A true proof gives nothing.
  pub true_is_nothing : (p : Proof) → True gs p → finding H st v p ≡ nothing
  unfolding finding
  true_is_nothing p h = rw (test_said gs (says p) h)

  search_nothing_is_true : (k : Bytes) (p : Proof) (a : Verdict) → ProofForm p →
      checked (leaf_hash H) (inner_hash H) (hash (leaf_hash H) (inner_hash H) tree) k p ≡ accepted a →
      searched H (node_messages v st.slots) (checked_messages H p) ≡ nothing → True gs p
  search_nothing_is_true k p a f e n =
      let shaped = kept_shaped (leaf_hash H) (inner_hash H) st whole v kept in
      clean_is_true H hash32 (node_messages v st.slots) (checked_messages H p) (nothing_is_clean H _ _ n) tree
      (tree_in_nodes H st whole v kept) (shaped_form [] tree shaped) (shaped_ascending [] tree shaped) k p a f (λ m h. h)
      ((accepted_exactly_if_holds (leaf_hash H) (inner_hash H) (hash (leaf_hash H) (inner_hash H) tree) k p a).0 e)

  -- An accepted proof that gives nothing is true.
  pub nothing_is_true : (k : Bytes) (p : Proof) (a : Verdict) → ProofForm p →
      checked (leaf_hash H) (inner_hash H) (hash (leaf_hash H) (inner_hash H) tree) k p ≡ accepted a → finding H st v p ≡ nothing → True gs p
  unfolding finding
  nothing_is_true k p a f e = go (all_true gs (says p)) refl
    where
      go : (b : Bool) → all_true gs (says p) ≡ b → cond b nothing (searched H (node_messages v st.slots) (checked_messages H p)) ≡ nothing →
          True gs p
      go true t n = said_test gs (says p) t
      go false t n = search_nothing_is_true k p a f e n

  -- What is found is a finding, whatever the proof.
  pub finding_holds : (p : Proof) → (finding H st v p ≡ nothing → ⊥) → NamedFrom H (messages p) (finding H st v p)
  unfolding finding
  finding_holds p = go (all_true gs (says p))
    where
      go : (b : Bool) → (cond b nothing (searched H (node_messages v st.slots) (checked_messages H p)) ≡ nothing → ⊥) →
          NamedFrom H (messages p) (cond b nothing (searched H (node_messages v st.slots) (checked_messages H p)))
      go true found = found refl
      go false found =
          searched_is_named H (messages p) (node_messages v st.slots) (checked_messages H p)
          (λ m h. among_left (tree_messages H tree) (checked_messages H p) m (nodes_in_tree H st whole v kept m h))
          (among_right (tree_messages H tree) (checked_messages H p)) found

  -- An accepted proof that says something false gives a finding.
  pub false_is_found : (k : Bytes) (p : Proof) (a : Verdict) → ProofForm p →
      checked (leaf_hash H) (inner_hash H) (hash (leaf_hash H) (inner_hash H) tree) k p ≡ accepted a → (True gs p → ⊥) →
      NamedFrom H (messages p) (finding H st v p)
  false_is_found k p a f e lie = finding_holds p (λ n. lie (nothing_is_true k p a f e n))

  -- What the checker answers is among what the proof says.
  answer_said : (k : Bytes) (p : Proof) (a : Verdict) → Holds (leaf_hash H) (inner_hash H) (hash (leaf_hash H) (inner_hash H) tree) k p a →
      True gs p → answer_of k gs ≡ a
  answer_said k _ _ (shown {p} e h) t = ap (λ j. answer_of j gs) (sym e) ∙ t.0
  answer_said k _ _ (only_left {j} {l} e h o) t = ap (λ i. answer_of i gs) (sym e) ∙ t.0
  answer_said k _ _ (only_right {j} {r} e h o) t = ap (λ i. answer_of i gs) (sym e) ∙ t.0
  answer_said k _ _ (both {j} {l} {r} e h g o) t = ap (λ i. answer_of i gs) (sym e) ∙ t.0

  -- So a false answer gives one.
  pub false_answer_is_found : (k : Bytes) (p : Proof) (a : Verdict) → ProofForm p →
      checked (leaf_hash H) (inner_hash H) (hash (leaf_hash H) (inner_hash H) tree) k p ≡ accepted a → (answer_of k gs ≡ a → ⊥) →
      NamedFrom H (messages p) (finding H st v p)
  false_answer_is_found k p a f e lie =
      false_is_found k p a f e
      (λ t. lie (answer_said k p a ((accepted_exactly_if_holds (leaf_hash H) (inner_hash H) (hash (leaf_hash H) (inner_hash H) tree) k p a).0 e) t))
