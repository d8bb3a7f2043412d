-- A child is missing, or tied to the slot that was guessed. Assumes nothing.
use Prim.Native.Nat.{ℕ, ◌≤◌}
use native.Mathlib.Omega.{arith}
use mathlib.Core.Path.{◌≡◌, refl, ap, sym, ◌∙◌}
use mathlib.Core.Bool.{Bool, true, false, cond, not, ◌&&◌, true≢false, false≢true}
use mathlib.Core.List.{List}
use lib.Dec.{eqb, leb}
use borrow.Author.Tests.{eqb-true, le-leb}
use Rattle.terms.specs.declared.Form.{Form}
use Rattle.terms.specs.Bits.{Bytes, Side, left, right, Place, longer, same_bytes}
use Rattle.terms.specs.Fields.{all_of}
use Rattle.terms.specs.Records.{Child, Body, leaf_body, inner_body, Record, Store}
use Rattle.terms.proofs.Tests.{is_false, bytes_same}
use Rattle.terms.proofs.Places.{longer_inj}
use Rattle.meaning.specs.Store.{child_on}
use Rattle.meaning.specs.Reading.{body_hash}
use Rattle.meaning.specs.Sound.{At}
use Rattle.meaning.specs.Local.{ends_before, child_version}
use Rattle.local.specs.Test.{names, lone_leaf, first_kept, link_on, link_test}
use Rattle.local.proofs.Naming.{names_eq, eq_names}
use Rattle.nodehash.specs.Node.{leaf_hash, inner_hash}
use Rattle.place.specs.Place.{place_of}
use Rattle.layout.specs.Stores.{store_in}
use Rattle.check_kin.specs.Kin.{is_leaf_body}
use Rattle.hash.specs.Hash.{hash_bytes}
use Rattle.check_seen.specs.Sums.{Added}
use Rattle.check_seen.proofs.Sums.{added_side, none_added}
use Rattle.check_counts.specs.Counts.{FitsAt}
use Rattle.check_counts.proofs.Weights.{form_is}
use Rattle.check_pass.specs.Passes.{Passed}
use Rattle.check_hash.specs.Known.{HashIs}
use Rattle.check_child.specs.declared.Parent as declared
use Rattle.check_child.specs.declared.Link as declared-link
use Rattle.check_child.specs.Child.{IsLink, Node, Outlives, SideTied}

lone_is : (d : Child) (o : Body) → lone_leaf d o ≡ cond (is_leaf_body o) (eqb d.version 0) false
lone_is d (leaf_body k x) = refl
lone_is d (inner_body l r) = refl

not_itself : (b : Side) → not b ≡ b → ⊥
not_itself true e = false≢true e
not_itself false e = true≢false e

-- q names r on one side, and all that it says of it is right
module _ (st : Store) (r q : Record) (l m : Child) (k : q.body ≡ inner_body l m) where
  once : (b : Side) → names b q r ≡ true → names (not b) q r ≡ false
  once b n = is_false _ (λ o. not_itself b (longer_inj q.place q.place (not b) b (sym (names_eq (not b) q r o).1 ∙ (names_eq b q r n).1)).1)

  links : (b : Side) → names b q r ≡ true → same_bytes (body_hash leaf_hash inner_hash r.body) (child_on b l m).hash ≡ true →
      leb r.version (first_kept st q) ≡ true → leb (ends_before st q) (ends_before st r) ≡ true → lone_leaf (child_on (not b) l m) r.body ≡ false →
      link_test leaf_hash inner_hash st r q ≡ true
  unfolding link_test all_of
  links false n h v e o =
      ap (λ z. link_on leaf_hash inner_hash left st r q z && link_on leaf_hash inner_hash right st r q z) k ∙ rw (n, once false n, h, v, e, o)
  links true n h v e o =
      ap (λ z. link_on leaf_hash inner_hash left st r q z && link_on leaf_hash inner_hash right st r q z) k ∙ rw (once true n, n, h, v, e, o)

module _ (fm : Form) (s : Bytes) (p : declared.Parent) (d : declared-link.Link) where
  version_named : (q : Record) → IsLink d q → child_version d.right q.body ≡ d.version
  version_named q w = ap (child_version d.right) w.body ∙ w.version

  pub side_missing : (xs : List ℕ) → d.version ≡ 0 → (t : Bool) → t ≡ eqb d.count 0 → Passed t (SideTied fm s p d xs xs)
  side_missing xs z true e = λ q i w. (
    (λ some. absurd (omega (arith, version_named q w, z)), λ o f. w.count ∙ eqb-true d.count 0 (sym e)),
    none_added (store_in fm s) d.right q xs,
  )
  side_missing xs z false e = tt

  pub side_found : (c : ℕ) (xs ys : List ℕ) {v : ℕ} → v ≡ d.version → v ≤ p.first → {at : Place} → at ≡ longer d.right (place_of p.up) → Node fm s c v at →
      Outlives fm s c p.ends d.other → HashIs fm s c (hash_bytes d.hash) → (d.version ≡ 0 → ⊥) → FitsAt fm s c d.count → Added xs ys c p.life → SideTied fm s p d xs ys
  unfolding At
  side_found c xs ys e early {at} pe node out hash some fits add q i w =
      let b = d.right in
      let r = node.it in
      let (long, lone) = out r node.here in
      let name : names b q r ≡ true = eq_names b q r (node.version ∙ e ∙ sym (version_named q w)) (node.place ∙ pe ∙ ap (longer b) (sym i.place)) in
      let same : same_bytes (body_hash leaf_hash inner_hash r.body) (child_on b w.l w.m).hash ≡ true =
      ap (λ z. same_bytes z (child_on b w.l w.m).hash) (hash r node.here ∙ sym w.hash) ∙ bytes_same (child_on b w.l w.m).hash in
      let link = links (store_in fm s) r q w.l w.m w.body b name same
      (le-leb r.version (first_kept (store_in fm s) q) (omega (arith, node.version, early, i.first)))
      (le-leb (ends_before (store_in fm s) q) (ends_before (store_in fm s) r) (omega (arith, long, i.ends)))
      (lone_is (child_on (not b) w.l w.m) r.body ∙ ap (λ z. cond (is_leaf_body r.body) (eqb z 0) false) w.other ∙ lone) in
      ((λ o. (c, r, node.here, name, link, λ f. w.count ∙ fits (sym (form_is fm s) ∙ f) r node.here.1), λ z. absurd (some (sym (version_named q w) ∙ z))), added_side (store_in fm s) b q xs ys c p.life r node.here name (omega (arith, i.life)) add)
