-- The root of a kept version of a sound store: what is seen there tells whether the version holds a grant, and the root read is the hash of its
-- tree. Assumes nothing.
use Prim.Native.Nat.{ℕ}
use native.Mathlib.Omega.{arith}
use mathlib.Core.Path.{◌≡◌, refl, ap, ap₂, sym, ◌∙◌, subst}
use mathlib.Core.Bool.{true, false}
use mathlib.Core.List.{[], ◌∷◌}
use Rattle.terms.specs.Bits.{Bytes, Place}
use Rattle.meaning.specs.Tree.{Tree, none, leaf, inner, grants, hash, unversioned}
use Rattle.meaning.specs.Store.{tree_at_version}
use Rattle.meaning.specs.Calls.{Answer, refused, accepted}
use Rattle.meaning.specs.Reading.{Seen, gap, seen, root_read}
use Rattle.meaning.specs.Proving.{is_gap}
use Rattle.shown.proofs.Views.{Seated, viewed, no_grant_no_node}
use Rattle.shown.proofs.Standing.{version_seen, version_hash, version_seated}
use Rattle.indexed.specs.Index.{root_by, by_table}
use Rattle.indexed.proofs.Scanned.{root_without_table, without_table}
use Rattle.hash.specs.declared.Hash as declared-hash
use Rattle.hash.specs.Hash.{hash_bytes}
use Rattle.nodehash.specs.Node as node
use Rattle.layout.specs.Stores.{store_of}
use Rattle.read_step.specs.Walk.{Sees, leaf_at, fork_at}
use Rattle.read_step.specs.declared.Seen as declared
use Rattle.read_step.specs.declared.Seen.TheVariants.{Gap, Stopped, Leaf, Inner}
use Rattle.read_step.specs.declared.Trouble as declared-trouble
use Rattle.read_root.specs.Parts.{root_says}
use Rattle.std.specs.Prelude.{Result, Ok, Err}
use Rattle.refusal_numbers.specs.declared.ReadRefusal.{ReadRefusal}
use Rattle.finding_rules.specs.Reading.{no_grant}
use Rattle.finding_rules.proofs.Hashes.{leaf_is, inner_is}
use Rattle.finding_rules.proofs.Told.{some_granted}
use Rattle.forged_truth.specs.Truth.{SoundVersion, grants_at}
use Rattle.finding.specs.Says.{root_at}

not_none : {l r : Tree} → inner l r ≡ none → ⊥
not_none e = let z : ◌≡◌ {A = ℕ} 0 1 = cc in omega arith

-- a tree has a grant where a node is seen
gap_none : (p : Place) (t : Tree) → Seated p t → is_gap (viewed node.leaf_hash node.inner_hash t) ≡ no_grant (grants t)
gap_none p none s = refl
gap_none p (leaf g) s = refl
gap_none p (inner l r) s = sym (some_granted (grants (inner l r)) (λ e. not_none (no_grant_no_node p (inner l r) s e)))

not_both : {A : Type 0} {n : ℕ} {x : Bytes} → ◌≡◌ {A = Answer Bytes} (refused n) (accepted x) → A
not_both e = let z : ◌≡◌ {A = ℕ} 0 1 = cc in absurd (omega arith)

same_root : {x y : Bytes} → ◌≡◌ {A = Answer Bytes} (accepted x) (accepted y) → x ≡ y
same_root e = cc

module _ {s : Bytes} {v : ℕ} (w : SoundVersion s v) where
  abbrev tree : Tree
  tree = unversioned (tree_at_version (store_of s) v)

  by_root : is_gap (seen (by_table [] (store_of s)) v) ≡ no_grant (grants_at s v)
  by_root =
      ap (λ look. is_gap (seen look v)) (without_table (store_of s))
      ∙ ap is_gap (version_seen node.leaf_hash node.inner_hash (store_of s) w.sound.sound v w.kept)
      ∙ gap_none [] tree (version_seated node.leaf_hash node.inner_hash (store_of s) w.sound.sound v w.kept)

  -- what is seen at the root, case by case
  module _ (r : declared.Seen) (sees : Sees s [] [] (seen (by_table [] (store_of s)) v) r) where
    pub gap_holds_none : r ≡ Gap → true ≡ no_grant (grants_at s v)
    gap_holds_none e = sym (ap is_gap (subst (Sees s [] [] (seen (by_table [] (store_of s)) v)) e sees)) ∙ by_root

    pub stopped_holds : {t : declared-trouble.Trouble} → r ≡ Stopped t → false ≡ no_grant (grants_at s v)
    stopped_holds e = sym (ap is_gap (subst (Sees s [] [] (seen (by_table [] (store_of s)) v)) e sees)) ∙ by_root

    pub leaf_holds : {i : ℕ} → r ≡ Leaf i → false ≡ no_grant (grants_at s v)
    unfolding leaf_at
    leaf_holds e = sym (ap is_gap (subst (Sees s [] [] (seen (by_table [] (store_of s)) v)) e sees).1) ∙ by_root

    pub inner_holds : {i : ℕ} → r ≡ Inner i → false ≡ no_grant (grants_at s v)
    unfolding fork_at
    inner_holds e = sym (ap is_gap (subst (Sees s [] [] (seen (by_table [] (store_of s)) v)) e sees).2) ∙ by_root

  -- the root read
  hash_of_tree : hash node.leaf_hash node.inner_hash tree ≡ root_at s v
  hash_of_tree = ap₂ (λ f g. hash f g tree) leaf_is inner_is

  sighted : root_read node.leaf_hash node.inner_hash (root_by [] (store_of s) v) ≡ accepted (hash node.leaf_hash node.inner_hash tree)
  sighted =
      ap (root_read node.leaf_hash node.inner_hash) (root_without_table (store_of s) v)
      ∙ version_hash node.leaf_hash node.inner_hash (store_of s) w.sound.sound v w.kept

  module _ (r : Result declared-hash.Hash ReadRefusal) (says : root_says r ≡ root_read node.leaf_hash node.inner_hash (root_by [] (store_of s) v)) where
    pub root_not_refused : {A : Type 0} {n : ReadRefusal} → r ≡ Err n → A
    unfolding root_says
    root_not_refused e = not_both (sym (ap root_says e) ∙ says ∙ sighted)

    pub root_is : {h : declared-hash.Hash} → r ≡ Ok h → hash_bytes h ≡ root_at s v
    unfolding root_says
    root_is e = same_root (sym (ap root_says e) ∙ says ∙ sighted) ∙ hash_of_tree
