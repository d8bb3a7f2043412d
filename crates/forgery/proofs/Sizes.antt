-- Every message has 65 bytes: a byte and two times 32. Assumes nothing.
use Prim.Native.Nat.{ℕ, ◌+◌}
use native.Mathlib.Omega.{arith}
use mathlib.Core.Path.{◌≡◌, refl, sym, subst}
use mathlib.Core.Logic.{◌⊎◌, inl, inr}
use mathlib.Core.Bool.{true, false, cond}
use mathlib.Core.List.{List, [], ◌∷◌, ◌++◌}
use mathlib.Core.Option.{Option, none, some}
use lib.ListN.{length, length-append}
use Rattle.terms.specs.Bits.{Bytes, Side, All}
use Rattle.terms.specs.Records.{Step, Presence, Proof, presence, absence}
use Rattle.terms.specs.Form.{GrantForm}
use Rattle.meaning.specs.Tree.{Tree, leaf, inner, grants, hash}
use Rattle.meaning.specs.Tree as T
use Rattle.proofrecords.specs.ProofBytes.{StepForm, PresenceForm, NeighbourForm, ProofForm}
use Rattle.forgery.specs.Messages.{leaf_message, inner_message, leaf_hash, inner_hash, tree_messages, parent_message, upwards, path_messages, neighbour_messages, checked_messages}
use Rattle.forgery.specs.Finding.{Among}
use Rattle.forgery.proofs.Lists.{among_either, all_front, all_back}
use Rattle.forgery.proofs.Paths.{hash_32}

-- each message of a list has 65 bytes
abbrev pub Of65 : List Bytes → Type 0
Of65 ms = (m : Bytes) → Among m ms → length m ≡ 65

halves : (b : ℕ) (x y : Bytes) → length x ≡ 32 → length y ≡ 32 → length (b ∷ (x ++ y)) ≡ 65
halves b x y h k = simp length-append (omega arith)

joined : (xs ys : List Bytes) → Of65 xs → Of65 ys → Of65 (xs ++ ys)
joined xs ys a b m h = elim (among_either xs ys m h) [ inl k ↦ a m k | inr k ↦ b m k ]

module _ (H : Bytes → Bytes) (hash32 : (m : Bytes) → length (H m) ≡ 32) where
  pub tree_65 : (t : Tree) → All GrantForm (grants t) → Of65 (tree_messages H t)
  tree_65 T.none a m h = absurd h
  tree_65 (leaf g) a m (inl e) = subst (λ n. length n ≡ 65) e (halves 1 g.key g.value a.0.0.0 a.0.1.0)
  tree_65 (leaf g) a m (inr h) = absurd h
  tree_65 (inner l r) a m (inl e) = subst (λ n. length n ≡ 65) e (halves 0 (hash (leaf_hash H) (inner_hash H) l) (hash (leaf_hash H) (inner_hash H) r) (hash_32 H hash32 l) (hash_32 H hash32 r))
  tree_65 (inner l r) a m (inr h) =
      joined (tree_messages H l) (tree_messages H r) (tree_65 l (all_front GrantForm (grants l) (grants r) a))
      (tree_65 r (all_back GrantForm (grants l) (grants r) a)) m h

  parent_65 : (b : Side) (h x : Bytes) → length h ≡ 32 → length x ≡ 32 → length (cond b (inner_message x h) (inner_message h x)) ≡ 65
  parent_65 true h x a b = halves 0 x h b a
  parent_65 false h x a b = halves 0 h x a b

  upwards_65 : (m : Bytes) (steps : List Step) → length m ≡ 65 → All StepForm steps → Of65 (upwards H m steps)
  upwards_65 m [] e a n (inl q) = subst (λ x. length x ≡ 65) q e
  upwards_65 m [] e a n (inr h) = absurd h
  upwards_65 m (s ∷ steps) e a n (inl q) = subst (λ x. length x ≡ 65) q e
  upwards_65 m (s ∷ steps) e a n (inr h) =
      upwards_65 (parent_message H (H m) s) steps (parent_65 s.side (H m) s.sibling (hash32 m) a.0.0) a.1 n h

  path_65 : (p : Presence) → PresenceForm p → Of65 (path_messages H p)
  unfolding path_messages
  path_65 p f = upwards_65 _ p.steps (halves 1 p.key p.value f.key32.0 f.value32.0) f.steps32

  neighbour_65 : (o : Option Presence) → NeighbourForm o → Of65 (neighbour_messages H o)
  neighbour_65 none f m h = absurd h
  neighbour_65 (some p) f m h = path_65 p f m h

  pub checked_65 : (p : Proof) → ProofForm p → Of65 (checked_messages H p)
  checked_65 (presence p) f = path_65 p f
  checked_65 (absence a) f =
      joined (neighbour_messages H a.leftward) (neighbour_messages H a.rightward) (neighbour_65 a.leftward f.1)
      (neighbour_65 a.rightward f.2)

  pub all_65 : (t : Tree) (p : Proof) → All GrantForm (grants t) → ProofForm p → Of65 (tree_messages H t ++ checked_messages H p)
  all_65 t p a f = joined (tree_messages H t) (checked_messages H p) (tree_65 t a) (checked_65 p f)
