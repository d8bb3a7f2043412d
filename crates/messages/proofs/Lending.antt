-- What is lent and fits is raw, and makes the message of which the record is our own; what a message holds fits our own record of it. Assumes nothing.
use Prim.Native.Nat.{ℕ, ◌≤◌}
use native.Mathlib.Omega.{arith}
use mathlib.Core.Path.{◌≡◌, refl, ap, ap₂}
use mathlib.Core.Bool.{true, false, false≢true}
use mathlib.Core.Option.{Option, none, some}
use Rattle.terms.specs.Bits.{Bytes, Byte, All, Whole32}
use Rattle.terms.specs.Fields.{all_of}
use Rattle.terms.specs.Records.{Presence, Proof, presence, absence}
use Rattle.terms.proofs.Tests.{same_bytes_lem, bytes_same}
use Rattle.terms.proofs.Fields.{all_of_tests}
use Rattle.proofrecords.specs.ProofBytes.{flags_of, PresenceForm, NeighbourForm, ProofForm}
use Rattle.messages.specs.Message.{own_presence, own_proof}
use Rattle.messages.specs.Raws.{own_neighbour, RawPresence, RawNeighbour, RawProof}
use Rattle.messages.specs.Parts.{Raw}
use Rattle.messages.specs.Lending.{Leaf, Lent, right_leaf, raw_presence, raw_neighbour, raw_proof, unlent, hashes_to, leaf_fits, leaves_fit, lent_fits, LentBytes, leaf_of, leaves_of, lent_in}
use Rattle.messages.proofs.Back.{length_right_lem, right_length}

module _ (sha : Bytes → Bytes) where
  pub hashes_said : (most : ℕ) (x h : Bytes) → All Byte x → hashes_to sha most x h ≡ true → Raw most x × (sha x ≡ h)
  unfolding hashes_to
  hashes_said most x h b e = let t = all_of_tests _ e in (right_length most x b t.0, same_bytes_lem (sha x) h t.1.0)

  pub hashes_back : (most : ℕ) (x : Bytes) → Raw most x → hashes_to sha most x (sha x) ≡ true
  unfolding hashes_to all_of
  hashes_back most x h = rw (length_right_lem most x h, bytes_same (sha x))

  -- a leaf lent for a neighbour that is shown
  leaf_said : (leaf : Leaf) (p : Presence) → PresenceForm p → All Byte leaf.key → All Byte leaf.value → leaf_fits sha leaf p ≡ true →
      RawPresence (raw_presence leaf p) × (own_presence sha (raw_presence leaf p) ≡ p)
  unfolding leaf_fits
  leaf_said leaf p h bk bx e =
      let k = hashes_said 256 leaf.key p.key bk (all_of_tests _ e).0 in
      let x = hashes_said 4096 leaf.value p.value bx (all_of_tests _ e).1.0 in (
        record { key_raw = k.0; value_raw = x.0; short = h.short; steps32 = h.steps32 },
        ap₂ (λ u v. record { key = u; value = v; steps = p.steps }) k.1 x.1,
      )

  pub leaf_back : (p : Presence) → RawPresence p → leaf_fits sha (leaf_of p) (own_presence sha p) ≡ true
  unfolding leaf_fits all_of
  leaf_back p h = rw (hashes_back 256 p.key h.key_raw, hashes_back 4096 p.value h.value_raw)

  record Leaves (lent : Lent) (l r : Option Presence) : Type 0 where
    left_raw : RawNeighbour (raw_neighbour lent.first l)
    right_raw : RawNeighbour (raw_neighbour (right_leaf lent l) r)
    somebody : 1 ≤ flags_of (raw_neighbour lent.first l) (raw_neighbour (right_leaf lent l) r)
    left_own : own_neighbour sha (raw_neighbour lent.first l) ≡ l
    right_own : own_neighbour sha (raw_neighbour (right_leaf lent l) r) ≡ r

  leaves_said : (lent : Lent) (l r : Option Presence) → LentBytes lent → NeighbourForm l → NeighbourForm r → leaves_fit sha lent l r ≡ true →
      Leaves lent l r
  leaves_said lent none none b hl hr e = absurd (false≢true e)
  leaves_said lent (some l) none b hl hr e =
      let s = leaf_said lent.first l hl b.first_key b.first_value (all_of_tests _ e).0 in
      record { left_raw = s.0; right_raw = tt; somebody = omega arith; left_own = ap some s.1; right_own = refl }
  leaves_said lent none (some r) b hl hr e =
      let s = leaf_said lent.first r hr b.first_key b.first_value (all_of_tests _ e).0 in
      record { left_raw = tt; right_raw = s.0; somebody = omega arith; left_own = refl; right_own = ap some s.1 }
  leaves_said lent (some l) (some r) b hl hr e =
      let s = leaf_said lent.first l hl b.first_key b.first_value (all_of_tests _ e).0 in
      let t = leaf_said lent.second r hr b.second_key b.second_value (all_of_tests _ e).1.0 in
      record { left_raw = s.0; right_raw = t.0; somebody = omega arith; left_own = ap some s.1; right_own = ap some t.1 }

  -- what is lent and fits is raw, and our own record of it is the record it was lent with
  pub lent_said : (lent : Lent) (p : Proof) → ProofForm p → LentBytes lent → lent_fits sha lent p ≡ true →
      RawProof (raw_proof lent p) × (own_proof sha (raw_proof lent p) ≡ p)
  lent_said lent (presence p) h b e =
      let s = leaf_said lent.first p h b.first_key b.first_value (all_of_tests _ (all_of_tests _ e).1.0).0 in (s.0, ap presence s.1)
  lent_said lent (absence a) h b e =
      let k = hashes_said 256 lent.asked a.key b.asked_bytes (all_of_tests _ e).0 in
      let s = leaves_said lent a.leftward a.rightward b h.1 h.2 (all_of_tests _ e).1.0 in (
        (k.0, s.left_raw, s.right_raw, s.somebody),
        rw (k.1, s.left_own, s.right_own),
      )

  -- what a message holds fits our own record of it, and makes the message again
  leaves_back : (asked : Bytes) (l r : Option Presence) → RawNeighbour l → RawNeighbour r → 1 ≤ flags_of l r →
      leaves_fit sha (leaves_of asked l r) (own_neighbour sha l) (own_neighbour sha r) ≡ true
  unfolding unlent all_of
  leaves_back asked none none hl hr o = absurd (omega arith)
  leaves_back asked (some l) none hl hr o = rw (leaf_back l hl)
  leaves_back asked none (some r) hl hr o = rw (leaf_back r hr)
  leaves_back asked (some l) (some r) hl hr o = rw (leaf_back l hl, leaf_back r hr)

  asked_is : (asked : Bytes) (l r : Option Presence) → (leaves_of asked l r).asked ≡ asked
  asked_is asked none none = refl
  asked_is asked (some l) none = refl
  asked_is asked none (some r) = refl
  asked_is asked (some l) (some r) = refl

  leaves_raw : (asked : Bytes) (l r : Option Presence) →
      (raw_neighbour (leaves_of asked l r).first (own_neighbour sha l) ≡ l)
      × (raw_neighbour (right_leaf (leaves_of asked l r) (own_neighbour sha l)) (own_neighbour sha r) ≡ r)
  leaves_raw asked none none = (refl, refl)
  leaves_raw asked (some l) none = (refl, refl)
  leaves_raw asked none (some r) = (refl, refl)
  leaves_raw asked (some l) (some r) = (refl, refl)

  pub lent_back : (q : Proof) → RawProof q → (lent_fits sha (lent_in q) (own_proof sha q) ≡ true) × (raw_proof (lent_in q) (own_proof sha q) ≡ q)
  unfolding unlent all_of
  lent_back (presence p) h = (rw (hashes_back 256 p.key h.key_raw, leaf_back p h), refl)
  lent_back (absence a) h =
      let k = asked_is a.key a.leftward a.rightward in
      let r = leaves_raw a.key a.leftward a.rightward in (
        rw (k, hashes_back 256 a.key h.0, leaves_back a.key a.leftward a.rightward h.1 h.2 h.3),
        rw (k, r.0, r.1),
      )

  -- our own record is in form
  own_presence_form : ((x : Bytes) → Whole32 (sha x)) → (p : Presence) → RawPresence p → PresenceForm (own_presence sha p)
  own_presence_form w p h = record { key32 = w p.key; value32 = w p.value; short = h.short; steps32 = h.steps32 }

  own_neighbour_form : ((x : Bytes) → Whole32 (sha x)) → (o : Option Presence) → RawNeighbour o → NeighbourForm (own_neighbour sha o)
  own_neighbour_form w none h = tt
  own_neighbour_form w (some p) h = own_presence_form w p h

  pub own_flags : (l r : Option Presence) → flags_of (own_neighbour sha l) (own_neighbour sha r) ≡ flags_of l r
  own_flags none none = refl
  own_flags (some l) none = refl
  own_flags none (some r) = refl
  own_flags (some l) (some r) = refl

  pub own_form : ((x : Bytes) → Whole32 (sha x)) → (q : Proof) → RawProof q → ProofForm (own_proof sha q)
  own_form w (presence p) h = own_presence_form w p h
  own_form w (absence a) h =
      (w a.key, own_neighbour_form w a.leftward h.1, own_neighbour_form w a.rightward h.2, rw (own_flags a.leftward a.rightward) h.3)
