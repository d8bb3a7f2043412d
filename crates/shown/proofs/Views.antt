-- What a read sees of a tree, and trees seated at a place: each leaf where its key leads, and a child below each inner node. It goes by the
-- side of a child. Assumes nothing.
use Prim.Native.Nat.{◌<◌}
use native.Mathlib.Omega.{arith}
use mathlib.Core.Path.{◌≡◌, refl, ap, ap₂, sym, ◌∙◌, fun_ext}
use mathlib.Core.Bool.{Bool, true, false, ◌||◌, not, true≢false}
use mathlib.Core.List.{List, [], ◌∷◌, ◌++◌, nil≢cons}
use lib.ListN.{length}
use Rattle.terms.specs.Bits.{Bytes, Whole32, Side, left, right, Place, longer, All, begins}
use Rattle.terms.specs.Records.{Grant, zeros}
use Rattle.terms.proofs.Tests.{and_left}
use Rattle.terms.proofs.Lists.{all_append, all_map}
use Rattle.terms.proofs.Places.{begins_longer}
use Rattle.meaning.specs.Tree.{Tree, none, leaf, inner, grants, hash}
use Rattle.meaning.specs.Reading.{Seen, gap, leaf_seen, fork, Pass}
use Rattle.meaning.specs.Proving.{step, is_gap}
use Rattle.meaning.specs.Checking.{parent_hash}

-- Of two, the one on a side.
abbrev pub on_side {ℓ} : {A : Type ℓ} → A → A → Side → A
on_side l r false = l
on_side l r true = r

-- What holds on the left and on the right holds on each side.
pub each_side : (P : Side → Type 0) → P left → P right → (b : Side) → P b
each_side P l r false = l
each_side P l r true = r

-- A side is the same as another, or the other.
pub data Compared (b : Side) : Side → Type 0 where
  same : Compared b b
  other : Compared b (not b)

pub compared : (b c : Side) → Compared b c
compared false false = same
compared false true = other
compared true false = other
compared true true = same

pub not_not : (b : Side) → not (not b) ≡ b
not_not false = refl
not_not true = refl

-- There is a node.
abbrev pub occupied : Tree → Bool
occupied none = false
occupied (leaf g) = true
occupied (inner l r) = true

-- A tree with a grant has a node,
pub granted_occupied : (t : Tree) → (grants t ≡ [] → ⊥) → occupied t ≡ true
granted_occupied none h = absurd (h refl)
granted_occupied (leaf g) h = refl
granted_occupied (inner l r) h = refl

-- A key's seat is at a place if it begins with it.
abbrev pub Seat : Place → Bytes → Type 0
Seat p k = (begins p k ≡ true) × Whole32 k

pub seat_above : (b : Side) (p : Place) (k : Bytes) → length p < 256 → Seat (longer b p) k → Seat p k
seat_above b p k h s =
    let n : length k ≡ 32 = s.1.0 in
    (and_left (begins p k) _ (sym (begins_longer b p k (omega arith)) ∙ s.0), s.1)

-- A tree seated at a place: leaves where their keys lead, and inner nodes with a child, above the last bit of a key.
abbrev pub Seated : Place → Tree → Type 0
Seated p none = Unit {0}
Seated p (leaf g) = Seat p g.key
Seated p (inner l r) = (length p < 256) × (occupied l || occupied r ≡ true) × Seated (longer left p) l × Seated (longer right p) r

pub child_seated : (p : Place) (l r : Tree) → Seated p (inner l r) → (b : Side) → Seated (longer b p) (on_side l r b)
child_seated p l r s false = s.2
child_seated p l r s true = s.3

pub other_child : (p : Place) (l r : Tree) → Seated p (inner l r) → (b : Side) → occupied (on_side l r b) ≡ false →
    occupied (on_side l r (not b)) ≡ true
other_child p l r s false e = rw e at s.1
other_child p l r s true e = first (occupied l) (occupied r) e s.1
  where
    first : (a b : Bool) → b ≡ false → a || b ≡ true → a ≡ true
    first true b e h = refl
    first false b e h = absurd (true≢false (sym h ∙ e))

-- So each grant of a seated tree has its seat there.
pub grants_seated : (p : Place) (t : Tree) → Seated p t → All (λ g. Seat p g.key) (grants t)
grants_seated p none s = tt
grants_seated p (leaf g) s = (s, tt)
grants_seated p (inner l r) s =
    all_append (λ g. Seat p g.key) (grants l) (grants r) (up left (grants l) (grants_seated (longer left p) l s.2))
    (up right (grants r) (grants_seated (longer right p) r s.3))
  where
    up : (b : Side) (gs : List Grant) → All (λ g. Seat (longer b p) g.key) gs → All (λ g. Seat p g.key) gs
    up b gs h = all_map (λ g. Seat (longer b p) g.key) (λ g. Seat p g.key) gs (λ g e. seat_above b p g.key s.0 e) h

neither_list : (xs ys : List Grant) → xs ++ ys ≡ [] → (xs ≡ []) × (ys ≡ [])
neither_list [] ys e = (refl, e)
neither_list (x ∷ xs) ys e = absurd (nil≢cons (sym e))

-- and a seated tree with a node has a grant.
pub no_grant_no_node : (p : Place) (t : Tree) → Seated p t → grants t ≡ [] → t ≡ none
no_grant_no_node p none s e = refl
no_grant_no_node p (leaf g) s e = absurd (nil≢cons (sym e))
no_grant_no_node p (inner l r) s e =
    let none_Each = neither_list (grants l) (grants r) e in
    absurd (true≢false (sym s.1 ∙ ap₂ (λ x y. occupied x || occupied y) (no_grant_no_node (longer left p) l s.2 none_Each.0) (no_grant_no_node (longer right p) r s.3 none_Each.1)))

module _ (leaf_hash inner_hash : Bytes → Bytes → Bytes) where
  -- What a read sees of a tree.
  abbrev pub viewed : Tree → Seen
  viewed none = gap
  viewed (leaf g) = leaf_seen g.key g.value
  viewed (inner l r) = fork (λ b. hash leaf_hash inner_hash (on_side l r b)) (on_side (viewed l) (viewed r))

  -- the children of an inner node are seen as trees
  pub viewed_inner : (l r : Tree) → viewed (inner l r) ≡ fork (λ b. hash leaf_hash inner_hash (on_side l r b)) (λ b. viewed (on_side l r b))
  viewed_inner l r =
      ap (fork (λ b. hash leaf_hash inner_hash (on_side l r b)))
      (fun_ext (each_side (λ b. on_side (viewed l) (viewed r) b ≡ viewed (on_side l r b)) refl refl))

  -- an inner node passed by a walk that turns to side b
  abbrev pub passing : Side → Tree → Tree → Pass
  passing b l r = record { turn = b; hashes = λ c. hash leaf_hash inner_hash (on_side l r c); kids = λ c. viewed (on_side l r c) }

  pub gap_or_node : (t : Tree) → is_gap (viewed t) ≡ not (occupied t)
  gap_or_node none = refl
  gap_or_node (leaf g) = refl
  gap_or_node (inner l r) = refl

  pub missing_is_zeros : (t : Tree) → occupied t ≡ false → hash leaf_hash inner_hash t ≡ zeros
  missing_is_zeros none e = refl
  missing_is_zeros (leaf g) e = absurd (true≢false e)
  missing_is_zeros (inner l r) e = absurd (true≢false e)

  -- the hash of an inner node from the child on a side, and from the other
  pub inner_from : (b : Side) (l r : Tree) →
      parent_hash leaf_hash inner_hash (hash leaf_hash inner_hash (on_side l r b)) (step b (hash leaf_hash inner_hash (on_side l r (not b))))
      ≡ hash leaf_hash inner_hash (inner l r)
  inner_from false l r = refl
  inner_from true l r = refl

  pub inner_from_other : (b : Side) (l r : Tree) →
      parent_hash leaf_hash inner_hash (hash leaf_hash inner_hash (on_side l r (not b))) (step (not b) (hash leaf_hash inner_hash (on_side l r b)))
      ≡ hash leaf_hash inner_hash (inner l r)
  inner_from_other false l r = refl
  inner_from_other true l r = refl
