-- The tests by which records are marked say what they test: a record's node is among those of a list, and the records of a tree are its nodes.
-- Assumes nothing.
use Prim.Native.Nat.{ℕ}
use mathlib.Core.Path.{◌≡◌, refl, sym, subst₂}
use mathlib.Core.Logic.{◌⊎◌, inl, inr, ◌↔◌}
use mathlib.Core.Bool.{Bool, true, false, ◌||◌, false≢true}
use mathlib.Core.List.{List, [], ◌∷◌}
use Rattle.terms.specs.Bits.{Bytes, Place}
use Rattle.terms.specs.Records.{Record}
use Rattle.meaning.specs.Tree.{VTree}
use Rattle.meaning.specs.Store.{is_node, has_node, records_of}
use Rattle.meaning.specs.Sound.{NodeOf}
use Rattle.meaning.proofs.Finding.{is_node_eq, is_node_refl}
use Rattle.histories.proofs.Nodes.{has_node_node, node_has_node}
use Rattle.steps.specs.Step.{Node}
use Rattle.steps.specs.Given.{Among}
use Rattle.steps.specs.Writing.{is_among}

is_same_lem : (r : Record) (v : ℕ) (q : Place) → r.version ≡ v → r.place ≡ q → is_node v q r ≡ true
is_same_lem r v q e f = subst₂ (λ w u. is_node w u r ≡ true) e f (is_node_refl r)

or_either : (a b : Bool) → a || b ≡ true → (a ≡ true) ⊎ (b ≡ true)
or_either true b h = inl refl
or_either false b h = inr h

or_right : (a : Bool) {b : Bool} → b ≡ true → a || b ≡ true
or_right true h = refl
or_right false h = h

pub among_test : (r : Record) (xs : List Node) → is_among r xs ≡ true ↔ Among r.version r.place xs
among_test r xs = (there xs, back xs)
  where
    there : (xs : List Node) → is_among r xs ≡ true → Among r.version r.place xs
    there [] h = absurd (false≢true h)
    there (x ∷ xs) h = elim (or_either (is_node x.version x.place r) (is_among r xs) h) [
      | inl k ↦ let m = is_node_eq x.version x.place r k in inl (sym m.0, sym m.1)
      | inr k ↦ inr (there xs k)
    ]

    back : (xs : List Node) → Among r.version r.place xs → is_among r xs ≡ true
    back [] h = absurd h
    back (x ∷ xs) (inl e) = rw (is_same_lem r x.version x.place (sym e.0) (sym e.1))
    back (x ∷ xs) (inr h) = or_right (is_node x.version x.place r) (back xs h)

-- the records of a tree are its nodes
module _ (leaf_hash inner_hash : Bytes → Bytes → Bytes) where
  pub tree_test : (r : Record) (t : VTree) → has_node r (records_of leaf_hash inner_hash t) ≡ true ↔ NodeOf r.version r.place t []
  tree_test r t = (has_node_node leaf_hash inner_hash r t, node_has_node leaf_hash inner_hash r t)
