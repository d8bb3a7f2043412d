-- The records of a shaped tree are in form, where its versions and the number of its leaves have four bytes and its hashes 32. Assumes
-- nothing.
use Prim.Native.Nat.{ℕ, zero, suc, ◌≤◌, ◌<◌}
use native.Mathlib.Omega.{arith}
use mathlib.Core.Path.{◌≡◌, refl, ap, sym, subst₂}
use mathlib.Core.List.{[], ◌++◌}
use lib.ListN.{length, replicate}
use Rattle.terms.specs.Bits.{Bytes, Byte, Whole32, All, Place, longer, left, right, bits, begins}
use Rattle.terms.specs.Records.{Record, zeros}
use Rattle.terms.specs.Form.{top32, place_limit, ChildForm, BodyForm, CountsForm, RecordForm}
use Rattle.terms.proofs.Places.{length_bits, prefix_length}
use Rattle.terms.proofs.Members.{In}
use Rattle.meaning.specs.Tree.{Tree, none, leaf, inner, hash, VTree, vnone, vleaf, vinner, unversioned, grants_in, top_version, leaves}
use Rattle.meaning.specs.Store.{child_of, counts_of}
use Rattle.meaning.specs.Sound.{NodeOf, Hashes32}
use Rattle.meaning.proofs.Finding.{Within, there, go_kid, Some, some_leaf, some_inner, within_node, within_trans}
use Rattle.meaning.proofs.Leaves.{within_leaves}
use Rattle.meaning.proofs.Shaped.{Shaped}
use Rattle.histories.proofs.Nodes.{body_of, records_at, Origin, origin, origin_node}
use Rattle.histories.proofs.Trees.{within_shaped}

zeros32 : Whole32 zeros
unfolding zeros
zeros32 = (refl, all_zero_lem 32)
  where
    all_zero_lem : (n : ℕ) → All Byte (replicate n 0)
    all_zero_lem zero = tt
    all_zero_lem (suc n) = (omega arith, all_zero_lem n)

pub two_missing : (l r : VTree) → l ≡ vnone → r ≡ vnone → 1 < length (grants_in l ++ grants_in r) → ⊥
two_missing l r e f h = let k : 1 < 0 = subst₂ (λ x y. 1 < length (grants_in x ++ grants_in y)) e f h in omega arith

module _ (leaf_hash inner_hash : Bytes → Bytes → Bytes) (lh : Hashes32 leaf_hash) (ih : Hashes32 inner_hash) where
  pub hash32 : (t : Tree) → Whole32 (hash leaf_hash inner_hash t)
  hash32 none = zeros32
  hash32 (leaf g) = lh g.key g.value
  hash32 (inner l r) = ih (hash leaf_hash inner_hash l) (hash leaf_hash inner_hash r)

  module _ (t : VTree) (s : Shaped [] (unversioned t)) (numbers : (w : ℕ) (q : Place) → NodeOf w q t [] → (1 ≤ w) × (w ≤ top32))
      (few : leaves t ≤ top32) where
    -- a node has a version; no node has version 0
    top_number : (u : VTree) (q : Place) → Within u q t [] → (top_version u ≤ top32) × (top_version u ≡ 0 → u ≡ vnone)
    top_number vnone q w = (omega arith, λ e. refl)
    top_number (vleaf v g) q w = let n = numbers v q (within_node some_leaf w) in (n.1, λ e. absurd (omega arith))
    top_number (vinner v l r) q w = let n = numbers v q (within_node some_inner w) in (n.1, λ e. absurd (omega arith))

    child_form : (u : VTree) (q : Place) → Within u q t [] → ChildForm (child_of leaf_hash inner_hash u)
    unfolding child_of
    child_form u q w =
        let n = top_number u q w in
        record { number = n.0; hash32 = hash32 (unversioned u); missing = λ e. ap (λ x. hash leaf_hash inner_hash (unversioned x)) (n.1 e) }

    body_form : (u : VTree) (q : Place) → Some u → Within u q t [] →
        (length q ≤ place_limit (body_of leaf_hash inner_hash u)) × BodyForm (body_of leaf_hash inner_hash u)
    unfolding begins child_of
    body_form vnone q o w = elim o [ ]
    body_form (vleaf v g) q o w =
        let k = within_shaped w s in (omega (arith, prefix_length q (bits g.key) k.0, length_bits g.key, k.1.0.0), k.1)
    body_form (vinner v l r) q o w =
        let k = within_shaped w s in
        let a : Within l (longer left q) t [] = within_trans (go_kid left there) w in
        let b : Within r (longer right q) t [] = within_trans (go_kid right there) w in
        let present : top_version l ≡ 0 → top_version r ≡ 0 → ⊥ =
        λ e f. two_missing l r ((top_number l _ a).1 e) ((top_number r _ b).1 f) k.1 in
        (k.0, (child_form l (longer left q) a, child_form r (longer right q) b, present))

    -- a count has four bytes where the tree's leaves do
    counts_form : (u : VTree) (q : Place) → Some u → Within u q t [] → CountsForm (body_of leaf_hash inner_hash u) (counts_of u)
    counts_form vnone q o w = elim o [ ]
    counts_form (vleaf v g) q o w = refl
    counts_form (vinner v l r) q o w = let k = within_leaves w in (omega arith, omega arith)

    pub record_form : (x : Record) → In x (records_at leaf_hash inner_hash [] t) → RecordForm x
    record_form x h =
        let o : Origin leaf_hash inner_hash x t [] = origin leaf_hash inner_hash x [] t h in
        let b =
        subst₂ (λ p c. (length p ≤ place_limit c) × BodyForm c) (sym o.is.place) (sym o.is.body)
        (body_form o.tree o.place o.is.some o.within) in
        record {
          short = b.0;
          versioned = numbers x.version x.place (origin_node leaf_hash inner_hash x [] t o);
          number = omega (arith, o.is.retired);
          body = b.1;
          counts = subst₂ CountsForm (sym o.is.body) (sym o.is.counts) (counts_form o.tree o.place o.is.some o.within);
        }
