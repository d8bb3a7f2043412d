-- What is lent for a proof and what a message tells of it are its parts: case by case as in `Raws`, `Lending` and `Spots`. Assumes nothing.
use Prim.Native.Nat.{ℕ, ◌+◌, ◌≤◌}
use native.Mathlib.Omega.{arith}
use mathlib.Core.Path.{◌≡◌, refl, ap, ap₂, sym, ◌∙◌, subst}
use mathlib.Core.Bool.{Bool, true, false, false≢true}
use mathlib.Core.List.{List, [], ◌∷◌, ◌++◌, map}
use mathlib.Core.Option.{Option, none, some}
use lib.ListN.{length, get_or, take, replicate}
use lib.Dec.{eqb}
use borrow.Author.Tests.{eqb-true}
use Rattle.terms.specs.Bits.{Bytes, Byte, All, Whole32}
use Rattle.terms.specs.Fields.{le, flat, all_of}
use Rattle.terms.specs.Records.{Presence, Absence, Proof, presence, absence}
use Rattle.terms.proofs.Fields.{all_of_tests}
use Rattle.terms.proofs.Lists.{all_append}
use Rattle.proofrecords.specs.ProofBytes.{flags_of, NeighbourForm, ProofForm}
use Rattle.messages.specs.Message.{neighbour_field, nonexistence, own_presence, own_proof}
use Rattle.messages.specs.Raws.{own_neighbour, RawPresence, RawNeighbour, RawProof}
use Rattle.messages.specs.Parts.{Part, Raw, leaf_parts, asked_in, leaves_in, two_leaves}
use Rattle.messages.specs.Lending.{Leaf, Lent, raw_presence, raw_neighbour, right_leaf, raw_proof, unlent, hashes_to, leaf_fits, leaves_fit, lent_fits, LentBytes, no_leaf, leaf_of, leaves_of, lent_in}
use Rattle.messages.proofs.Wires.{no_bytes}
use Rattle.messages.proofs.Lending.{hashes_said, hashes_back, leaf_back, lent_back, own_flags}

abbrev RawPart : Part → Type 0
RawPart p = Raw p.most p.bytes

-- each part of a raw proof is raw
leaf_parts_lem : (start n : ℕ) (o : Option Presence) → RawNeighbour o → All RawPart (leaf_parts start n o)
leaf_parts_lem start n none h = tt
leaf_parts_lem start n (some p) h = (h.key_raw, (h.value_raw, tt))

pub raw_parts : (q : Proof) → RawProof q → All (λ p. Raw p.most p.bytes) (asked_in q ∷ leaves_in q)
raw_parts (presence p) h = (h.key_raw, leaf_parts_lem 0 1 (some p) h)
raw_parts (absence a) h = (h.0, all_append RawPart (leaf_parts _ 2 a.leftward) _ (leaf_parts_lem _ 2 a.leftward h.1) (leaf_parts_lem _ 3 a.rightward h.2))

-- and a proof of which each part is raw and our own record is in form is raw
all_split : {A : Type 0} (P : A → Type 0) (xs ys : List A) → All P (xs ++ ys) → All P xs × All P ys
all_split P [] ys h = (tt, h)
all_split P (x ∷ xs) ys h = let k = all_split P xs ys h.1 in ((h.0, k.0), k.1)

module _ (sha : Bytes → Bytes) where
  neighbour_raw : (start n : ℕ) (o : Option Presence) → All RawPart (leaf_parts start n o) → NeighbourForm (own_neighbour sha o) → RawNeighbour o
  neighbour_raw start n none h f = tt
  neighbour_raw start n (some p) h f = record { key_raw = h.0; value_raw = h.1.0; short = f.short; steps32 = f.steps32 }

  pub parts_raw : (q : Proof) → All (λ p. Raw p.most p.bytes) (asked_in q ∷ leaves_in q) → ProofForm (own_proof sha q) → RawProof q
  parts_raw (presence p) h f = neighbour_raw 0 1 (some p) h.1 f
  parts_raw (absence a) h f =
      let k = all_split RawPart (leaf_parts _ 2 a.leftward) (leaf_parts _ 3 a.rightward) h.1 in
      (h.0, neighbour_raw _ 2 a.leftward k.0 f.1, neighbour_raw _ 3 a.rightward k.1 f.2, rw (own_flags sha a.leftward a.rightward) at f.3)

  -- the leaves lent, as a list of four
  abbrev lent_leaves : Lent → List Bytes
  lent_leaves lent = lent.first.key ∷ lent.first.value ∷ lent.second.key ∷ lent.second.value ∷ []

  unlent_is : (leaf : Leaf) → unlent leaf ≡ true → ([] ≡ leaf.key) × ([] ≡ leaf.value)
  unfolding unlent
  unlent_is leaf e =
      let t = all_of_tests _ e in
      (sym (no_bytes leaf.key (eqb-true _ _ t.0)), sym (no_bytes leaf.value (eqb-true _ _ t.1.0)))

  one_lent : (lent : Lent) → unlent lent.second ≡ true → lent.first.key ∷ lent.first.value ∷ [] ∷ [] ∷ [] ≡ lent_leaves lent
  one_lent lent e = let u = unlent_is lent.second e in ap₂ (λ k x. lent.first.key ∷ lent.first.value ∷ k ∷ x ∷ []) u.0 u.1

  -- what is lent for a record and fits are the leaves of the message
  pub leaves_lent : (lent : Lent) (p : Proof) → lent_fits sha lent p ≡ true → lent_leaves lent ≡ map (λ p. p.bytes) (two_leaves (raw_proof lent p))
  leaves_lent lent (presence p) e = sym (one_lent lent (all_of_tests _ (all_of_tests _ e).1.0).1.0)
  leaves_lent lent (absence a) e = go a.leftward a.rightward (all_of_tests _ e).1.0
    where
      go : (l r : Option Presence) → leaves_fit sha lent l r ≡ true →
          lent_leaves lent ≡ map (λ p. p.bytes) (two_leaves (absence (record { key = lent.asked; leftward = raw_neighbour lent.first l; rightward = raw_neighbour (right_leaf lent l) r })))
      go none none f = absurd (false≢true f)
      go (some l) none f = sym (one_lent lent (all_of_tests _ f).1.0)
      go none (some r) f = sym (one_lent lent (all_of_tests _ f).1.0)
      go (some l) (some r) f = refl

  -- leaves that are those of a message fit our own record of it, with a key asked for that has the same hash, and make the message again
  same_lent : (lent : Lent) (asked : Bytes) (first second : Leaf) → lent.asked ≡ asked →
      lent_leaves lent ≡ first.key ∷ first.value ∷ second.key ∷ second.value ∷ [] → lent ≡ record { asked = asked; first = first; second = second }
  same_lent lent asked first second a e =
      let at : ℕ → List Bytes → Bytes = λ i xs. get_or xs i [] in
      let f : lent.first ≡ first = ap₂ (λ k x. record { key = k; value = x }) (ap (at 0) e) (ap (at 1) e) in
      let s : lent.second ≡ second = ap₂ (λ k x. record { key = k; value = x }) (ap (at 2) e) (ap (at 3) e) in
      ap (λ u. record { asked = u; first = lent.first; second = lent.second }) a
      ∙ ap₂ (λ x y. record { asked = asked; first = x; second = y }) f s

  leaves_of_lent : (asked : Bytes) (l r : Option Presence) (lent : Lent) → lent.asked ≡ asked →
      lent_leaves lent ≡ map (λ p. p.bytes) (two_leaves (absence (record { key = asked; leftward = l; rightward = r }))) → lent ≡ leaves_of asked l r
  leaves_of_lent asked none none lent a e = same_lent lent asked no_leaf no_leaf a e
  leaves_of_lent asked (some l) none lent a e = same_lent lent asked (leaf_of l) no_leaf a e
  leaves_of_lent asked none (some r) lent a e = same_lent lent asked (leaf_of r) no_leaf a e
  leaves_of_lent asked (some l) (some r) lent a e = same_lent lent asked (leaf_of l) (leaf_of r) a e

  pub lent_of_presence : (p : Presence) (lent : Lent) → RawPresence p → Raw 256 lent.asked → sha lent.asked ≡ sha p.key →
      lent_leaves lent ≡ map (λ p. p.bytes) (two_leaves (presence p)) →
      (lent_fits sha lent (own_proof sha (presence p)) ≡ true) × (raw_proof lent (own_proof sha (presence p)) ≡ presence p)
  unfolding unlent all_of
  lent_of_presence p lent h k s e =
      let same = same_lent lent lent.asked (leaf_of p) no_leaf refl e in
      subst (λ v. (lent_fits sha v (own_proof sha (presence p)) ≡ true) × (raw_proof v (own_proof sha (presence p)) ≡ presence p)) (sym same)
      (rw (leaf_back sha p h, subst (λ y. hashes_to sha 256 lent.asked y ≡ true) s (hashes_back sha 256 lent.asked k)), refl)

  pub lent_of_absence : (a : Absence) (lent : Lent) → RawProof (absence a) → lent.asked ≡ a.key →
      lent_leaves lent ≡ map (λ p. p.bytes) (two_leaves (absence a)) →
      (lent_fits sha lent (own_proof sha (absence a)) ≡ true) × (raw_proof lent (own_proof sha (absence a)) ≡ absence a)
  lent_of_absence a lent h k e =
      let same = leaves_of_lent a.key a.leftward a.rightward lent k e in
      subst (λ v. (lent_fits sha v (own_proof sha (absence a)) ≡ true) × (raw_proof v (own_proof sha (absence a)) ≡ absence a)) (sym same) (lent_back sha (absence a) h)
