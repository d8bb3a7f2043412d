-- ICS 23: ExistenceProof.Verify and NonExistenceProof.Verify for any ProofSpec. Of hash operations it knows SHA-256
-- alone, of length operations NO_PREFIX: another is refused wherever the ProofSpec asks for these. Where the published
-- programs would read beyond the end of a path (IsLeftNeighbor on a path used up), this refuses. Assumes nothing.
use Rattle.std.specs.Prelude.{ℕ, zero, suc, ◌+◌, ◌*◌, ◌-◌, ◌%◌, Bool, true, false, cond, not, ◌&&◌, ◌||◌, List, [], ◌∷◌, ◌++◌, map, reverse, length, take, drop, eqb, leb, ltb}
use Rattle.std.proofs.Math.Option.{Option, none, some, bind, get_or}
use Rattle.terms.specs.Bits.{Bytes, before, same_bytes}
use Rattle.terms.specs.Fields.{all_of}
use Rattle.messages.specs.Message.{LeafOp, InnerOp, Existence}

-- ProofSpec, with its InnerSpec's fields among its own.
pub record ProofSpec : Type 0 where
  pub leaf_spec : LeafOp
  pub child_order : List ℕ
  pub child_size : ℕ
  pub min_prefix_length : ℕ
  pub max_prefix_length : ℕ
  pub empty_child : Bytes
  pub inner_hash : ℕ
  pub max_depth : ℕ
  pub min_depth : ℕ
  pub prehash_key_before_comparison : Bool

unfoldable pub starts_with : Bytes → Bytes → Bool
starts_with p x = same_bytes (take (length p) x) p

abbrev pub passes : {A : Type 0} → (A → Bool) → Option A → Bool
passes test none = false
passes test (some x) = test x

unfoldable pub same_op : InnerOp → InnerOp → Bool
same_op x y = same_bytes x.prefix y.prefix && same_bytes x.suffix y.suffix

-- The place of a branch in the order of children.
abbrev pub position : List ℕ → ℕ → ℕ
position [] b = 0
position (c ∷ order) b = cond (eqb c b) 0 (suc (position order b))

module _ (spec : ProofSpec) where
  -- How many bytes a child has, and which branch is the last.
  abbrev pub size : ℕ
  size = spec.child_size

  abbrev pub last : ℕ
  last = length spec.child_order - 1

  -- CheckAgainstSpec: of the leaf, of each inner op, and of a proof; a depth of 0 in the ProofSpec sets no bound.
  unfoldable pub leaf_right : LeafOp → Bool
  leaf_right op = let s = spec.leaf_spec in
      all_of (eqb op.hash s.hash ∷ eqb op.prehash_key s.prehash_key ∷ eqb op.prehash_value s.prehash_value
      ∷ eqb op.length_op s.length_op ∷ starts_with s.prefix op.prefix ∷ [])

  unfoldable pub inner_right : InnerOp → Bool
  inner_right op = let long = length op.prefix in
      all_of (eqb op.hash spec.inner_hash ∷ not (starts_with spec.leaf_spec.prefix op.prefix)
      ∷ leb spec.min_prefix_length long ∷ leb long (spec.max_prefix_length + last * size)
      ∷ leb 1 size ∷ eqb (length op.suffix % size) 0 ∷ [])

  unfoldable pub fits : Existence → Bool
  fits e =
      all_of (leaf_right e.leaf ∷ leb spec.min_depth (length e.path)
      ∷ (eqb spec.max_depth 0 || leb (length e.path) spec.max_depth) ∷ map inner_right e.path)

  -- getPadding, hasPadding: how long prefix and suffix are for a branch.
  unfoldable pub has_padding : InnerOp → ℕ → Bool
  has_padding op branch = let i = position spec.child_order branch in
      all_of (leb (i * size + spec.min_prefix_length) (length op.prefix)
      ∷ leb (length op.prefix) (i * size + spec.max_prefix_length)
      ∷ eqb (length op.suffix) ((last - i) * size) ∷ [])

  -- orderFromPadding: the first branch whose padding an op has.
  abbrev pub first_branch : InnerOp → ℕ → ℕ → Option ℕ
  first_branch op zero b = none
  first_branch op (suc n) b = cond (has_padding op b) (some b) (first_branch op n (suc b))

  unfoldable pub branch_of : InnerOp → Option ℕ
  branch_of op = first_branch op (length spec.child_order) 0

  -- The first n branches are empty, each found in x after the bytes before it.
  abbrev pub empty_below : ℕ → Bytes → ℕ → Bool
  empty_below start x zero = true
  empty_below start x (suc n) = empty_below start x n &&
      same_bytes (take size (drop (start + position spec.child_order n * size) x)) spec.empty_child

  -- leftBranchesAreEmpty, rightBranchesAreEmpty: x ends with n branches, at least one, and they are empty.
  unfoldable pub ends_empty : Bytes → ℕ → Bool
  ends_empty x n = all_of (leb 1 n ∷ leb (n * size) (length x) ∷ empty_below (length x - n * size) x n ∷ [])

  unfoldable pub right_empty : InnerOp → ℕ → Bool
  right_empty op b = eqb (length op.suffix) ((last - b) * size) && ends_empty op.suffix (last - b)

  -- IsLeftMost, IsRightMost: each op has the padding of the first (last) branch, or those before (after) it are empty.
  abbrev pub is_left_most : List InnerOp → Bool
  is_left_most path = all_of (map (λ op. has_padding op 0 || passes (ends_empty op.prefix) (branch_of op)) path)

  abbrev pub is_right_most : List InnerOp → Bool
  is_right_most path = all_of (map (λ op. has_padding op last || passes (right_empty op) (branch_of op)) path)

  -- IsLeftNeighbor, from the tops, the last ops: equal ops, then branches side by side, then rightmost and leftmost.
  abbrev pub neighbours_from_top : List InnerOp → List InnerOp → Bool
  neighbours_from_top [] ys = false
  neighbours_from_top (x ∷ xs) [] = false
  neighbours_from_top (x ∷ xs) (y ∷ ys) =
      let next = passes (λ i. passes (λ j. eqb j (i + 1)) (branch_of y)) (branch_of x) in
      cond (same_op x y) (neighbours_from_top xs ys) (all_of (next ∷ is_right_most xs ∷ is_left_most ys ∷ []))

  module _ (sha : Bytes → Bytes) where
    -- HashOp: SHA256 is 1. Before a leaf is hashed, NO_HASH, 0, hands its key or value on.
    unfoldable pub hashed : ℕ → Bytes → Option Bytes
    hashed code x = cond (eqb code 1) (some (sha x)) none

    unfoldable pub prehashed : ℕ → Bytes → Option Bytes
    prehashed code x = cond (eqb code 0) (some x) (hashed code x)

    -- LeafOp: prefix, then key and value, neither empty and each without a length.
    unfoldable pub leaf_applied : LeafOp → Bytes → Bytes → Option Bytes
    leaf_applied op k v =
        cond (all_of (leb 1 (length k) ∷ leb 1 (length v) ∷ eqb op.length_op 0 ∷ []))
        (bind (prehashed op.prehash_key k) λ a. bind (prehashed op.prehash_value v) λ b.
        hashed op.hash (op.prefix ++ (a ++ b))) none

    -- InnerOp: prefix, the child's hash, not empty, suffix.
    unfoldable pub inner_applied : InnerOp → Bytes → Option Bytes
    inner_applied op h = cond (leb 1 (length h)) (hashed op.hash (op.prefix ++ (h ++ op.suffix))) none

    -- Calculate: no hash on the way is longer than a child, where children have 32 bytes or more.
    abbrev pub path_applied : Bytes → List InnerOp → Option Bytes
    path_applied h [] = some h
    path_applied h (op ∷ path) =
        bind (inner_applied op h) λ g. cond (leb (length g) size || ltb size 32) (path_applied g path) none

    unfoldable pub calculated : Existence → Option Bytes
    calculated e = bind (leaf_applied e.leaf e.key e.value) λ h. path_applied h e.path

    -- ExistenceProof.Verify of a key with a value.
    unfoldable pub existence_holds : Bytes → Existence → Bytes → Bytes → Bool
    existence_holds root e k v = let led = passes (λ r. same_bytes r root) (calculated e) in
        all_of (fits e ∷ same_bytes k e.key ∷ same_bytes v e.value ∷ led ∷ [])

    -- Keys are compared after hashing where the ProofSpec says so.
    unfoldable pub for_comparison : Bytes → Bytes
    for_comparison k =
        cond spec.prehash_key_before_comparison (get_or (prehashed spec.leaf_spec.prehash_key k) []) k

    unfoldable pub key_before : Bytes → Bytes → Bool
    key_before x y = before (for_comparison x) (for_comparison y)

    -- NonExistenceProof.Verify of a key, by the neighbours given. The proof's own key is not looked at.
    unfoldable pub neighbour_verified : Bytes → Existence → Bool
    neighbour_verified root e = existence_holds root e e.key e.value

    abbrev pub non_existence_holds : Bytes → Option Existence → Option Existence → Bytes → Bool
    non_existence_holds root none none k = false
    non_existence_holds root (some l) none k =
        all_of (neighbour_verified root l ∷ key_before l.key k ∷ is_right_most l.path ∷ [])
    non_existence_holds root none (some r) k =
        all_of (neighbour_verified root r ∷ key_before k r.key ∷ is_left_most r.path ∷ [])
    non_existence_holds root (some l) (some r) k =
        all_of (neighbour_verified root l ∷ neighbour_verified root r ∷ key_before k r.key ∷ key_before l.key k
        ∷ neighbours_from_top (reverse l.path) (reverse r.path) ∷ [])
