-- What a partner's verifier says of a message of ours, and what our check says of our own record of it: the same, both ways. From the agreement
-- of paths and roots, and from the checker's own words. Assumes that SHA-256 gives 32 bytes.
use native.Mathlib.Omega.{arith}
use Prim.Native.Nat.{ℕ}
use mathlib.Core.Path.{◌≡◌, refl, ap, sym, ◌∙◌}
use mathlib.Core.Logic.{◌↔◌}
use mathlib.Core.Bool.{Bool, true, false, cond, ◌&&◌, false≢true}
use mathlib.Core.Option.{Option, none, some, map, some-injective}
use lib.ListN.{length}
use Rattle.terms.specs.Bits.{Bytes, Byte, All, same_bytes}
use Rattle.terms.specs.Fields.{all_of}
use Rattle.terms.specs.Records.{Presence, Absence, Proof, presence, absence}
use Rattle.terms.proofs.Tests.{and_left, and_right, same_bytes_lem, bytes_same}
use Rattle.meaning.specs.Calls.{Answer, refused, accepted}
use Rattle.meaning.specs.Reading.{Verdict, present, absent}
use Rattle.meaning.specs.Checking.{leads_to, absence_holds, checked}
use Rattle.checker.specs.Holding.{Leads, Holds, shown, only_left, only_right, both}
use Rattle.checker.proofs.Theorems.{accepted_exactly_if_holds}
use Rattle.messages.specs.Message.{existence_of, own_presence, own_proof}
use Rattle.messages.specs.Parts.{asked_in}
use Rattle.messages.specs.Raws.{RawPresence, RawProof, own_neighbour}
use Rattle.messages.specs.Reading.{message_in}
use Rattle.messages.proofs.Back.{message_exactly}
use Rattle.partner.specs.Verifying.{fits, passes, calculated, existence_holds, neighbour_verified, non_existence_holds}
use Rattle.partner.specs.Ours.{our_spec, partner_accepts, verdict_of, leaf_hash_by, inner_hash_by}
use Rattle.partner.proofs.Agreement.{climb32, calculated_as_ours, verified_as_ours, absence_as_ours}

picked : (t : Bool) (v : Verdict) → (t ≡ true) ↔ (cond t (accepted v) (refused 11) ≡ accepted v)
picked true v = (λ e. refl, λ e. refl)
picked false v = (λ e. absurd (false≢true e), λ e. let z : ◌≡◌ {A = ℕ} 0 1 = cc in absurd (omega arith))

module _ (sha : Bytes → Bytes) (sha32 : (x : Bytes) → length (sha x) ≡ 32) where
  abbrev ours : Bytes → Bytes → Proof → Answer Verdict
  ours root k q = checked (leaf_hash_by sha) (inner_hash_by sha) root k (own_proof sha q)

  -- Our check for the key that a message holds, by the partner's answer.
  pub checked_by_partner : (root : Bytes) (q : Proof) → RawProof q →
      ours root (sha (asked_in q).bytes) q ≡ cond (partner_accepts sha root q) (accepted (verdict_of sha q)) (refused 11)
  unfolding neighbour_verified
  checked_by_partner root (presence p) h = rw (bytes_same (sha p.key), sym (verified_as_ours sha sha32 root p h))
  checked_by_partner root (absence a) h =
      rw (bytes_same (sha a.key), absence_as_ours sha sha32 root a.key a.leftward a.rightward h.1 h.2)

  -- A partner accepts a message of ours exactly if our check accepts our own record of it, with that answer.
  pub partner_accepts_as_ours : (root : Bytes) (q : Proof) → RawProof q →
      (partner_accepts sha root q ≡ true) ↔ (ours root (sha (asked_in q).bytes) q ≡ accepted (verdict_of sha q))
  partner_accepts_as_ours root q h =
      let e = checked_by_partner root q h in
      let p = picked (partner_accepts sha root q) (verdict_of sha q) in
      (λ t. e ∙ p.0 t, λ t. p.1 (sym e ∙ t))

  -- A partner accepts a message of ours exactly if our own record of it holds, in the words of document 01.
  pub partner_accepts_what_holds : (root : Bytes) (q : Proof) → RawProof q →
      (partner_accepts sha root q ≡ true)
      ↔ Holds (leaf_hash_by sha) (inner_hash_by sha) root (sha (asked_in q).bytes) (own_proof sha q) (verdict_of sha q)
  partner_accepts_what_holds root q h =
      let p = partner_accepts_as_ours root q h in
      let o = accepted_exactly_if_holds (leaf_hash_by sha) (inner_hash_by sha) root (sha (asked_in q).bytes) (own_proof sha q) (verdict_of sha q) in
      (λ t. o.0 (p.0 t), λ t. p.1 (o.1 t))

  -- A root under which a message is accepted has 32 bytes.
  pub accepted_root_32 : (root : Bytes) (q : Proof) → RawProof q → partner_accepts sha root q ≡ true → length root ≡ 32
  accepted_root_32 root q h t = go ((partner_accepts_what_holds root q h).0 t)
    where
      led : (k : Bytes) (p : Presence) → Leads (leaf_hash_by sha) (inner_hash_by sha) root k p → length root ≡ 32
      led k p e = ap length (sym e) ∙ climb32 sha sha32 p.steps (leaf_hash_by sha p.key p.value) (sha32 _)

      go : {k : Bytes} {p : Proof} {v : Verdict} → Holds (leaf_hash_by sha) (inner_hash_by sha) root k p v → length root ≡ 32
      go {k} (shown {p} e h) = led k p h
      go {k} (only_left {j} {l} e h o) = led k l h.0
      go {k} (only_right {j} {r} e h o) = led k r h.0
      go {k} (both {j} {l} {r} e h g o) = led k l h.0

  -- An existence proof of a message leads a partner to a root exactly if our own record of it does.
  pub led_as_ours : (root : Bytes) (p : Presence) → RawPresence p →
      (calculated our_spec sha (existence_of p) ≡ some root) ↔ Leads (leaf_hash_by sha) (inner_hash_by sha) root (sha p.key) (own_presence sha p)
  led_as_ours root p h =
      let e = calculated_as_ours sha sha32 p h in
      (λ t. some-injective _ root (sym e ∙ t), λ l. e ∙ ap some l)

  -- The same of bytes that our reader takes.
  pub partner_accepts_message : (root m : Bytes) (q : Proof) → All Byte m → message_in m ≡ some q →
      (partner_accepts sha root q ≡ true) ↔ (ours root (sha (asked_in q).bytes) q ≡ accepted (verdict_of sha q))
  partner_accepts_message root m q h e = partner_accepts_as_ours root q ((message_exactly m q h).0 e).0

  -- Asked for another key or value, a partner refuses a message that shows a grant.
  pub partner_shows_its_own : (root k v : Bytes) (p : Presence) → existence_holds our_spec sha root (existence_of p) k v ≡ true →
      (k ≡ p.key) × (v ≡ p.value)
  unfolding existence_holds all_of
  partner_shows_its_own root k v p h =
      let f = fits our_spec (existence_of p) in
      let s = same_bytes k p.key in
      let t = same_bytes v p.value in
      let r = passes (λ y. same_bytes y root) (calculated our_spec sha (existence_of p)) && true in
      let g = and_right f (s && (t && r)) h in
      (same_bytes_lem k p.key (and_left s (t && r) g), same_bytes_lem v p.value (and_left t r (and_right s (t && r) g)))

  -- Of an absence a partner looks at the neighbours alone, not at the key in the message: for any key it accepts exactly if the neighbours show
  -- that key's absence. Here it stops: ours refuses a key whose hash isn't that of the message's key.
  pub partner_by_neighbours : (root k : Bytes) (a : Absence) → RawProof (absence a) →
      ours root (sha k) (absence a)
      ≡ cond (same_bytes (sha k) (sha a.key) && non_existence_holds our_spec sha root (map existence_of a.leftward) (map existence_of a.rightward) k) (accepted absent)
      (refused 11)
  partner_by_neighbours root k a h = rw (absence_as_ours sha sha32 root k a.leftward a.rightward h.1 h.2)
