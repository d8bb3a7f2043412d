-- Versions: equal grants are told by the test, a tree with versions is the tree, and a tree whose grants stay keeps its versions.
-- Assumes nothing.
use Prim.Native.Nat.{ℕ}
use mathlib.Core.Path.{◌≡◌, refl, ap₂, sym}
use mathlib.Core.Bool.{Bool, true, false, ◌&&◌, false≢true}
use mathlib.Core.List.{List, [], ◌∷◌, ◌++◌}
use Rattle.terms.specs.Bits.{left, right, same_bytes}
use Rattle.terms.specs.Records.{Grant}
use Rattle.terms.proofs.Tests.{and_left, and_right, same_bytes_lem, bytes_same}
use Rattle.meaning.specs.Tree.{Tree, none, leaf, inner, grants, VTree, vnone, vleaf, vinner, unversioned, kid, same_grants, node_version, versioned}

pub same_grants_refl : (gs : List Grant) → same_grants gs gs ≡ true
same_grants_refl [] = refl
same_grants_refl (g ∷ gs) = rw (bytes_same g.key, bytes_same g.value, same_grants_refl gs)

pub same_grants_eq : (gs hs : List Grant) → same_grants gs hs ≡ true → gs ≡ hs
same_grants_eq [] [] h = refl
same_grants_eq [] (x ∷ hs) h = absurd (false≢true h)
same_grants_eq (g ∷ gs) [] h = absurd (false≢true h)
same_grants_eq (g ∷ gs) (x ∷ hs) h =
    let a = same_bytes g.key x.key in let b = same_bytes g.value x.value in let c = same_grants gs hs in
    let k : g.key ≡ x.key = same_bytes_lem g.key x.key (and_left a b (and_left (a && b) c h)) in
    let w : g.value ≡ x.value = same_bytes_lem g.value x.value (and_right a b (and_left (a && b) c h)) in
    ap₂ ◌∷◌ (λ j. record { key = k j; value = w j }) (same_grants_eq gs hs (and_right (a && b) c h))

-- two tests that pass together are equal
pub same_test : (a b : Bool) → (a ≡ true → b ≡ true) → (b ≡ true → a ≡ true) → a ≡ b
same_test true b f g = sym (f refl)
same_test false true f g = g refl
same_test false false f g = refl

pub versioned_tree : (new : ℕ) (old : VTree) (t : Tree) → unversioned (versioned new old t) ≡ t
versioned_tree new old none = refl
versioned_tree new old (leaf g) = refl
versioned_tree new old (inner l r) = ap₂ inner (versioned_tree new (kid left old) l) (versioned_tree new (kid right old) r)

-- a tree whose grants stay keeps its versions
pub versioned_same : (new : ℕ) (t : VTree) → versioned new t (unversioned t) ≡ t
unfolding node_version
versioned_same new vnone = refl
versioned_same new (vleaf v g) = rw (same_grants_refl (g ∷ []))
versioned_same new (vinner v l r) = rw (same_grants_refl (grants (unversioned l) ++ grants (unversioned r)), versioned_same new l, versioned_same new r)
